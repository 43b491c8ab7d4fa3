use Rattle.std.proofs.Common.{◌≡◌, ◌+◌, drop, length}
use Rattle.ml_scope.specs.Items.{with_types}
use Rattle.ml_scope.proofs.declarations.declare_types.Given as goal

abbrev pub invariant-loop-one : goal.invariant-loop-one
invariant-loop-one l = record {
  scope : with_types l.text l.number (drop l.one-index l.list) l.scope ≡ with_types l.text l.first l.list l.initial.scope;
  number : l.number + length (drop l.one-index l.list) ≡ l.first + length l.list;
}

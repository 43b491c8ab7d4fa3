use Rattle.std.proofs.Common.{◌≡◌, drop}
use Rattle.ml_scope.specs.Items.{with_fields}
use Rattle.ml_scope.proofs.declarations.declare_fields.Given as goal

abbrev pub invariant-loop-one : goal.invariant-loop-one
invariant-loop-one l = with_fields l.text l.number (drop l.one-index l.list) l.scope ≡ with_fields l.text l.first l.list l.initial.scope

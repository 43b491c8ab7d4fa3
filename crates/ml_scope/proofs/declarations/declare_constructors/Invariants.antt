use Rattle.std.proofs.Common.{◌≡◌, drop}
use Rattle.ml_scope.specs.Items.{with_constructors}
use Rattle.ml_scope.proofs.declarations.declare_constructors.Given as goal

abbrev pub invariant-loop-one : goal.invariant-loop-one
invariant-loop-one l = with_constructors l.text l.number (drop l.one-index l.list) l.scope ≡ with_constructors l.text l.first l.list l.initial.scope

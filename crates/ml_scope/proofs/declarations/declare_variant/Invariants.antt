use Rattle.std.proofs.Common.{◌≡◌, drop}
use Rattle.ml_scope.specs.Items.{constructors_from}
use Rattle.ml_scope.proofs.declarations.declare_variant.Given as goal

abbrev pub invariant-loop-one : goal.invariant-loop-one
invariant-loop-one l = constructors_from l.text l.number l.place (drop l.one-index l.list) l.scope ≡ constructors_from l.text l.number 0 l.list l.initial.scope

use Rattle.std.proofs.Common.{◌≡◌, drop}
use Rattle.ml_scope.specs.Uses.{of_one}
use Rattle.ml_scope.proofs.uses.of_one.Given as goal

abbrev pub invariant-loop-one : goal.invariant-loop-one
invariant-loop-one l = of_one l.declaration (drop l.one-index l.list) ≡ of_one l.declaration l.list

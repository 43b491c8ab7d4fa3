use Rattle.std.proofs.Common.{◌≡◌, ◌++◌, map, drop}
use Rattle.ml_scope.specs.Items.{variable}
use Rattle.ml_scope.proofs.declarations.variables.Given as goal

abbrev pub invariant-loop-one : goal.invariant-loop-one
invariant-loop-one l = l.names ++ map variable (drop l.one-index l.list) ≡ map variable l.list

use Rattle.std.proofs.Common.{◌-◌, ◌^◌, ◌≤◌, sum, map, drop}
use Rattle.ml_functions.specs.Parts.{patterns_of_param}
use Rattle.ml_functions.proofs.Counts.{CountsOn}
use Rattle.ml_functions.proofs.weights.of_params.Given as goal

abbrev pub invariant-loop-one : goal.invariant-loop-one
invariant-loop-one l = (l.total ≤ 2 ^ 64 - 1) × CountsOn l.total (sum (map patterns_of_param (drop l.one-index l.list))) (sum (map patterns_of_param l.list))

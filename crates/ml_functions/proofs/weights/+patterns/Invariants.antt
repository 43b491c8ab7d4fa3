use Rattle.std.proofs.Common.{◌-◌, ◌^◌, ◌≤◌, sum, map, drop}
use Rattle.ml_meaning.specs.Weights.{patterns_of}
use Rattle.ml_functions.specs.Parts.{patterns_of_field}
use Rattle.ml_functions.proofs.Counts.{CountsOn}
use Rattle.ml_functions.proofs.weights.+patterns.Given as goal

abbrev pub invariant-of_patterns-loop-one : goal.invariant-of_patterns-loop-one
invariant-of_patterns-loop-one l = (l.total ≤ 2 ^ 64 - 1) × CountsOn l.total (sum (map patterns_of (drop l.one-index l.list))) (sum (map patterns_of l.list))

abbrev pub invariant-of_field_patterns-loop-one : goal.invariant-of_field_patterns-loop-one
invariant-of_field_patterns-loop-one l = (l.total ≤ 2 ^ 64 - 1) × CountsOn l.total (sum (map patterns_of_field (drop l.one-index l.list))) (sum (map patterns_of_field l.list))

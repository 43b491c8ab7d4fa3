use Rattle.std.proofs.Common.{◌-◌, ◌^◌, ◌≤◌, sum, map, drop}
use Rattle.ml_meaning.specs.Weights.{expressions_of, expressions_of_arm, expressions_of_bind}
use Rattle.ml_functions.specs.Parts.{expressions_of_field}
use Rattle.ml_functions.proofs.Counts.{CountsOn}
use Rattle.ml_functions.proofs.weights.+parts.Given as goal

abbrev pub invariant-of_exprs-loop-one : goal.invariant-of_exprs-loop-one
invariant-of_exprs-loop-one l = (l.total ≤ 2 ^ 64 - 1) × CountsOn l.total (sum (map expressions_of (drop l.one-index l.list))) (sum (map expressions_of l.list))

abbrev pub invariant-of_fields-loop-one : goal.invariant-of_fields-loop-one
invariant-of_fields-loop-one l = (l.total ≤ 2 ^ 64 - 1) × CountsOn l.total (sum (map expressions_of_field (drop l.one-index l.list))) (sum (map expressions_of_field l.list))

abbrev pub invariant-of_arms-loop-one : goal.invariant-of_arms-loop-one
invariant-of_arms-loop-one l = (l.total ≤ 2 ^ 64 - 1) × CountsOn l.total (sum (map expressions_of_arm (drop l.one-index l.list))) (sum (map expressions_of_arm l.list))

abbrev pub invariant-of_binds-loop-one : goal.invariant-of_binds-loop-one
invariant-of_binds-loop-one l = (l.total ≤ 2 ^ 64 - 1) × CountsOn l.total (sum (map expressions_of_bind (drop l.one-index l.list))) (sum (map expressions_of_bind l.list))

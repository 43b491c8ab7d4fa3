use Rattle.std.proofs.Common.{◌≡◌, max, map, drop}
use Rattle.ml_tree.specs.Depth.{greatest, expr_depth, field_depth, arm_depth, bind_depth}
use Rattle.ml_tree.proofs.depths.+expressions_depth.Given as goal

abbrev pub invariant-of_expressions-loop-one : goal.invariant-of_expressions-loop-one
invariant-of_expressions-loop-one l = max l.most (greatest (map expr_depth (drop l.one-index l.list))) ≡ greatest (map expr_depth l.list)

abbrev pub invariant-of_fields-loop-one : goal.invariant-of_fields-loop-one
invariant-of_fields-loop-one l = max l.most (greatest (map field_depth (drop l.one-index l.list))) ≡ greatest (map field_depth l.list)

abbrev pub invariant-of_arms-loop-one : goal.invariant-of_arms-loop-one
invariant-of_arms-loop-one l = max l.most (greatest (map arm_depth (drop l.one-index l.list))) ≡ greatest (map arm_depth l.list)

abbrev pub invariant-of_binds-loop-one : goal.invariant-of_binds-loop-one
invariant-of_binds-loop-one l = max l.most (greatest (map bind_depth (drop l.one-index l.list))) ≡ greatest (map bind_depth l.list)

use Rattle.std.proofs.Common.{◌≡◌, max, map, drop}
use Rattle.ml_tree.specs.Depth.{greatest, pattern_depth, field_pattern_depth}
use Rattle.ml_tree.proofs.depths.+patterns_depth.Given as goal

abbrev pub invariant-of_patterns-loop-one : goal.invariant-of_patterns-loop-one
invariant-of_patterns-loop-one l = max l.most (greatest (map pattern_depth (drop l.one-index l.list))) ≡ greatest (map pattern_depth l.list)

abbrev pub invariant-of_field_patterns-loop-one : goal.invariant-of_field_patterns-loop-one
invariant-of_field_patterns-loop-one l = max l.most (greatest (map field_pattern_depth (drop l.one-index l.list))) ≡ greatest (map field_pattern_depth l.list)

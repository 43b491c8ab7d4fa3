use Rattle.std.proofs.Common.{◌≡◌, ◌+◌, sum, map, drop}
use Rattle.ml_tree.specs.Nodes.{pattern_nodes, field_pattern_nodes}
use Rattle.ml_tree.proofs.count.+patterns.Given as goal

abbrev pub invariant-of_patterns-loop-one : goal.invariant-of_patterns-loop-one
invariant-of_patterns-loop-one l = l.total + sum (map pattern_nodes (drop l.one-index l.list)) ≡ sum (map pattern_nodes l.list)

abbrev pub invariant-of_field_patterns-loop-one : goal.invariant-of_field_patterns-loop-one
invariant-of_field_patterns-loop-one l = l.total + sum (map field_pattern_nodes (drop l.one-index l.list)) ≡ sum (map field_pattern_nodes l.list)

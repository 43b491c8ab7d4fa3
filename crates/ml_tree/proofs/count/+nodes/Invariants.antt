use Rattle.std.proofs.Common.{◌≡◌, ◌+◌, sum, map, drop}
use Rattle.ml_tree.specs.Nodes.{expr_nodes, field_nodes, arm_nodes, bind_nodes}
use Rattle.ml_tree.proofs.count.+nodes.Given as goal

abbrev pub invariant-of_expressions-loop-one : goal.invariant-of_expressions-loop-one
invariant-of_expressions-loop-one l = l.total + sum (map expr_nodes (drop l.one-index l.list)) ≡ sum (map expr_nodes l.list)

abbrev pub invariant-of_fields-loop-one : goal.invariant-of_fields-loop-one
invariant-of_fields-loop-one l = l.total + sum (map field_nodes (drop l.one-index l.list)) ≡ sum (map field_nodes l.list)

abbrev pub invariant-of_arms-loop-one : goal.invariant-of_arms-loop-one
invariant-of_arms-loop-one l = l.total + sum (map arm_nodes (drop l.one-index l.list)) ≡ sum (map arm_nodes l.list)

abbrev pub invariant-of_binds-loop-one : goal.invariant-of_binds-loop-one
invariant-of_binds-loop-one l = l.total + sum (map bind_nodes (drop l.one-index l.list)) ≡ sum (map bind_nodes l.list)

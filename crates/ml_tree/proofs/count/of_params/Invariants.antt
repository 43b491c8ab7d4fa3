use Rattle.std.proofs.Common.{◌≡◌, ◌+◌, sum, map, drop}
use Rattle.ml_tree.specs.Nodes.{param_nodes}
use Rattle.ml_tree.proofs.count.of_params.Given as goal

abbrev pub invariant-loop-one : goal.invariant-loop-one
invariant-loop-one l = l.total + sum (map param_nodes (drop l.one-index l.list)) ≡ sum (map param_nodes l.list)

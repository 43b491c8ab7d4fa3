use Rattle.std.proofs.Common.{◌≡◌, max, map, drop}
use Rattle.ml_tree.specs.Depth.{greatest, param_depth}
use Rattle.ml_tree.proofs.depths.of_params.Given as goal

abbrev pub invariant-loop-one : goal.invariant-loop-one
invariant-loop-one l = max l.most (greatest (map param_depth (drop l.one-index l.list))) ≡ greatest (map param_depth l.list)

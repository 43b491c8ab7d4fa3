use Rattle.std.proofs.Common.{◌<◌, ◌≤◌, take}
use Rattle.ml_types.specs.Types.{parts_of}
use Rattle.hm_unify.proofs.Sizes.{Counts}
use Rattle.hm_unify.proofs.tables.+size_within.Given as goal

abbrev pub decreases-size_within : goal.decreases-size_within
decreases-size_within l = l.most

abbrev pub invariant-loop-at : goal.invariant-loop-at
invariant-loop-at l = record {
  counts : Counts l.nodes l.bound (take l.at (parts_of l.top)) l.count l.most;
  below : l.at < l.count;
  most : l.count ≤ l.most;
}

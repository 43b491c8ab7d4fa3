use Rattle.std.proofs.Common.{◌-◌, ◌<◌, ◌≤◌, length, take}
use Rattle.hm_unify.specs.Solutions.{HasFinite, NoFinite}
use Rattle.hm_unify.proofs.judge.first_fault.Given as goal

abbrev pub invariant-loop-high : goal.invariant-loop-high
invariant-loop-high l = record {
  before : HasFinite l.nodes l.bound (take l.low l.pairs);
  fault : NoFinite l.nodes l.bound (take l.high l.pairs);
  below : l.low < l.high;
  within : l.high ≤ length l.pairs;
}

abbrev pub decreases-loop-high : goal.decreases-loop-high
decreases-loop-high l = l.high - l.low

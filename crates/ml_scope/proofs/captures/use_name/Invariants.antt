use Rattle.std.proofs.Common.{◌≡◌, ◌≤◌, length, take, reverse}
use Rattle.ml_scope.specs.CaptureWalk.{outward}
use Rattle.ml_scope.proofs.captures.use_name.Given as goal

abbrev pub invariant-loop-at : goal.invariant-loop-at
invariant-loop-at l = record {
  within : l.at ≤ length l.around;
  used : outward (reverse (take l.at l.around)) l.binder l.captures.keys ≡ outward (reverse l.around) l.binder l.initial.captures.keys;
}

abbrev pub decreases-loop-at : goal.decreases-loop-at
decreases-loop-at l = l.at

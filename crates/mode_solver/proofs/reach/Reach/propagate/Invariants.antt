use Rattle.std.proofs.Common.{◌≡◌, ◌≤◌, ◌-◌, length}
use Rattle.mode_solver.specs.Reaching.{IsReach, IsDone}
use Rattle.mode_solver.proofs.reach.Reach.propagate.Given as goal

abbrev pub invariant-loop-done : goal.invariant-loop-done
invariant-loop-done l = record {
  reach : IsReach l.seen l.self.place.items l.self.reached.items;
  start : l.done ≤ length l.self.reached.items;
  done : IsDone l.seen l.forbidden l.self.place.items l.self.reached.items l.done;
  count : length l.self.place.items ≡ length l.initial.self.place.items;
}

abbrev pub decreases-loop-done : goal.decreases-loop-done
decreases-loop-done l = length l.self.place.items - l.done

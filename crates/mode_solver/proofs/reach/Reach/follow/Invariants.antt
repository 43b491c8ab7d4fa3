use Rattle.mode_solver.specs.Reaching.{IsReach, Grows, IsWalk, rank}
use Rattle.mode_solver.proofs.reach.Reach.follow.Given as goal

abbrev pub invariant-loop-edge : goal.invariant-loop-edge
invariant-loop-edge l = record {
  reach : IsReach l.seen l.self.place.items l.self.reached.items;
  grows : Grows l.initial.self.place.items l.initial.self.reached.items l.self.place.items l.self.reached.items;
  walk : IsWalk l.seen l.self.place.items l.fn.bit l.edge;
}

abbrev pub decreases-loop-edge : goal.decreases-loop-edge
decreases-loop-edge l = rank l.edge

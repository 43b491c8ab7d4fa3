use Rattle.mode_solver.specs.Reaching.{Trail, rank}
use Rattle.mode_solver.proofs.reach.Reach.path.Given as goal

abbrev pub invariant-loop-at : goal.invariant-loop-at
invariant-loop-at l = Trail l.seen l.self.reached.items l.at l.path.items

abbrev pub decreases-loop-at : goal.decreases-loop-at
decreases-loop-at l = rank l.at

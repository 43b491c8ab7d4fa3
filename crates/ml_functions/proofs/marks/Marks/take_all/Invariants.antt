use Rattle.ml_functions.proofs.Taking.{TakesFrom}
use Rattle.ml_functions.proofs.marks.Marks.take_all.Given as goal

abbrev pub invariant-loop-left : goal.invariant-loop-left
invariant-loop-left l = TakesFrom l.initial.self l.self l.names l.left

abbrev pub decreases-loop-left : goal.decreases-loop-left
decreases-loop-left l = l.left

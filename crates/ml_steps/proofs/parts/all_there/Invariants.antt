use Rattle.ml_steps.proofs.Arranging.{ThereFrom}
use Rattle.ml_steps.proofs.parts.all_there.Given as goal

abbrev pub invariant-loop-left : goal.invariant-loop-left
invariant-loop-left l = ThereFrom l.slots l.left l.words

abbrev pub decreases-loop-left : goal.decreases-loop-left
decreases-loop-left l = l.left

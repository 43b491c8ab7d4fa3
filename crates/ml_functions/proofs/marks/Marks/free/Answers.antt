use Rattle.ml_functions.proofs.Taking.{free_step}
use Rattle.ml_functions.proofs.marks.Marks.free.Goals as goal

pub loop-name-preserved : goal.loop-name-preserved
loop-name-preserved c = free_step _ _ _ _ _ _ _ c.loop-name-test.true c.in_ok-add.ensures.fresh c.in_ok-add.ensures.added c.loop-name.invariant

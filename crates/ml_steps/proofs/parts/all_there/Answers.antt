use Rattle.ml_steps.proofs.Arranging.{there_more, there_end}
use Rattle.ml_steps.proofs.parts.all_there.Goals as goal

pub loop-left-preserved : goal.loop-left-preserved
loop-left-preserved c = there_more c.args.slots.now c.loop-left.left _ c.in-Some.word c.loop-left.words _ c.loop-left-test.true c.in-Some.is c.in_ok-words-in-Some.ensures c.loop-left.invariant

pub returns : goal.returns
returns c = there_end c.args.slots.now c.loop-left.left c.loop-left.words c.loop-left-test.false c.loop-left.invariant

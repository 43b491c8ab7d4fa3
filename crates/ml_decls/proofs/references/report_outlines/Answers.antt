use Rattle.ml_mentions.proofs.Appends.{all_step, all_end}
use Rattle.ml_decls.specs.Verdicts.{outline_verdicts}
use Rattle.ml_decls.proofs.references.report_outlines.Goals as goal

pub loop-one-preserved : goal.loop-one-preserved
loop-one-preserved c = all_step (outline_verdicts c.args.s.now.types c.args.counts.now) c.args.outlines.now c.loop-one.one-index _ _ _ _ c.loop-one-test.true c.one-item.is (rw c.as_slice.ensures at c.in_ok-report_mentions.ensures) c.loop-one.invariant

pub returns : goal.returns
returns c = all_end (outline_verdicts c.args.s.now.types c.args.counts.now) c.args.outlines.now c.loop-one.one-index _ _ c.loop-one-test.false c.loop-one.invariant

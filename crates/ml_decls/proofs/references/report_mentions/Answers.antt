use Rattle.ml_mentions.proofs.Appends.{all_step, all_end}
use Rattle.ml_decls.specs.Verdicts.{verdict}
use Rattle.ml_decls.proofs.Members.{same_at}
use Rattle.ml_decls.proofs.references.report_mentions.Goals as goal

pub loop-one-preserved : goal.loop-one-preserved
loop-one-preserved c = all_step (verdict c.args.s.now.types c.args.counts.now c.args.listed) c.args.mentions.now c.loop-one.one-index _ _ _ _ c.loop-one-test.true (same_at c.args.mentions.now c.loop-one.one-index _ c.loop-one-test.true) c.in_ok-report.ensures c.loop-one.invariant

pub returns : goal.returns
returns c = all_end (verdict c.args.s.now.types c.args.counts.now c.args.listed) c.args.mentions.now c.loop-one.one-index _ _ c.loop-one-test.false c.loop-one.invariant

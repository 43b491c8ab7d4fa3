use Rattle.ml_mentions.proofs.Appends.{all_step, all_end}
use Rattle.ml_decls.specs.Verdicts.{target}
use Rattle.ml_decls.proofs.Members.{same_at}
use Rattle.ml_decls.proofs.cycles.named.Goals as goal

pub loop-one-preserved : goal.loop-one-preserved
loop-one-preserved c = all_step (target c.args.s.now.types) c.args.mentions.now c.loop-one.one-index _ _ _ _ c.loop-one-test.true (same_at c.args.mentions.now c.loop-one.one-index _ c.loop-one-test.true) c.in_ok-push_target.ensures c.loop-one.invariant

pub returns : goal.returns
returns c = all_end (target c.args.s.now.types) c.args.mentions.now c.loop-one.one-index _ _ c.loop-one-test.false c.loop-one.invariant

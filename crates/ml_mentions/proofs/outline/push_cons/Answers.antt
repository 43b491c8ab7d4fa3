use Rattle.ml_mentions.proofs.Appends.{all_step, all_end}
use Rattle.ml_mentions.specs.Programs.{con_mentions}
use Rattle.ml_mentions.proofs.outline.push_cons.Goals as goal

pub loop-one-preserved : goal.loop-one-preserved
loop-one-preserved c = all_step con_mentions c.args.cons.now c.loop-one.one-index _ _ _ _ c.loop-one-test.true c.one-item.is (rw c.as_slice.ensures at c.in_ok-push_args.ensures) c.loop-one.invariant

pub returns : goal.returns
returns c = all_end con_mentions c.args.cons.now c.loop-one.one-index _ _ c.loop-one-test.false c.loop-one.invariant

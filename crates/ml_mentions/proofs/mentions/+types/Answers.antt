use Rattle.ml_mentions.proofs.Appends.{all_step, all_end}
use Rattle.ml_mentions.specs.Mentions.{mentions}
use Rattle.ml_mentions.proofs.mentions.+types.Goals as goal

pub push_types-loop-one-preserved : goal.push_types-loop-one-preserved
push_types-loop-one-preserved t c = all_step mentions c.args.types.now c.loop-one.one-index _ _ _ _ c.loop-one-test.true c.one-item.is c.in_ok-push_mentions.ensures c.loop-one.invariant

pub push_types-returns : goal.push_types-returns
push_types-returns t c = all_end mentions c.args.types.now c.loop-one.one-index _ _ c.loop-one-test.false c.loop-one.invariant

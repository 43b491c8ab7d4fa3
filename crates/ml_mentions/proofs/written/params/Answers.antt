use Rattle.ml_mentions.proofs.Appends.{all_step, all_end}
use Rattle.ml_mentions.specs.Written.{in_param}
use Rattle.ml_mentions.proofs.written.params.Goals as goal

pub loop-one-preserved : goal.loop-one-preserved
loop-one-preserved c = all_step in_param c.args.list.now c.loop-one.one-index _ _ _ _ c.loop-one-test.true c.one-item.is c.in_ok-pattern.ensures c.loop-one.invariant

pub returns : goal.returns
returns c = all_end in_param c.args.list.now c.loop-one.one-index _ _ c.loop-one-test.false c.loop-one.invariant

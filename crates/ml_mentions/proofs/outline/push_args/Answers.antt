use Rattle.ml_mentions.proofs.Appends.{all_step, all_end}
use Rattle.ml_mentions.specs.Mentions.{arg_mentions}
use Rattle.ml_mentions.proofs.outline.push_args.Goals as goal

pub loop-one-preserved : goal.loop-one-preserved
loop-one-preserved c = all_step arg_mentions c.args.args.now c.loop-one.one-index _ _ _ _ c.loop-one-test.true c.one-item.is c.in_ok-push_arg.ensures c.loop-one.invariant

pub returns : goal.returns
returns c = all_end arg_mentions c.args.args.now c.loop-one.one-index _ _ c.loop-one-test.false c.loop-one.invariant

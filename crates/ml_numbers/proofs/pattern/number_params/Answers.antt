use Rattle.ml_numbers.specs.Numbered.{numbered_param}
use Rattle.ml_numbers.proofs.Lists.{each_step, each_end}
use Rattle.ml_numbers.proofs.pattern.number_params.Goals as goal

pub loop-one-preserved : goal.loop-one-preserved
loop-one-preserved c = each_step numbered_param c.args.list.now c.loop-one.one-index _ _ _ _ _ _ _ c.loop-one-test.true c.one-item.is c.in_ok-number_param.ensures c.in_ok-push.ensures.ok c.loop-one.invariant

pub returns : goal.returns
returns c = each_end numbered_param c.args.list.now c.loop-one.one-index _ _ _ c.loop-one-test.false c.loop-one.invariant

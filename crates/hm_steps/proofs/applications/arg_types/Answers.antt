use Rattle.hm_steps.proofs.Arguments.{args_step, args_end}
use Rattle.hm_steps.proofs.applications.arg_types.Goals as goal

pub loop-number-preserved : goal.loop-number-preserved
loop-number-preserved c = λ names. args_step names c.args.n c.args.args.now c.loop-number.number _ _ _ _ _ c.loop-number-test.true c.index-args-number.is c.fresh.ensures c.in_ok-all.ensures (c.loop-number.invariant names)

pub returns : goal.returns
returns c = λ names. args_end names c.args.n c.args.args.now c.loop-number.number _ _ c.loop-number-test.false (c.loop-number.invariant names)

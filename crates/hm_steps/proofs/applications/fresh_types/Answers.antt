use Rattle.std.proofs.Common.{◌∷◌, ◌++◌, [], ap, ◌∙◌}
use Rattle.hm_steps.proofs.Arguments.{types_step, types_end}
use Rattle.hm_steps.proofs.applications.fresh_types.Goals as goal

pub loop-number-preserved : goal.loop-number-preserved
loop-number-preserved c = λ names. types_step names c.args.n c.args.args.now c.loop-number.number _ _ _ c.loop-number-test.true (c.in_ok-push.ensures.ok ∙ ap (λ z. c.loop-number.types ++ z ∷ []) c.fresh.ensures) (c.loop-number.invariant names)

pub returns : goal.returns
returns c = λ names. types_end names c.args.n c.args.args.now c.loop-number.number _ _ c.loop-number-test.false (c.loop-number.invariant names)

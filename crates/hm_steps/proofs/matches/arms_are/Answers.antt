use Rattle.std.proofs.Common.{map, refl}
use Rattle.ml_typing.specs.declared.equation.Term.TheVariants.{Of}
use Rattle.ml_typing.specs.Steps.{arm, arms_are}
use Rattle.hm_steps.specs.Blocks.{arm_is}
use Rattle.hm_steps.proofs.Lists.{block_step, block_end}
use Rattle.hm_steps.proofs.matches.arms_are.Goals as goal

pub loop-one-preserved : goal.loop-one-preserved
loop-one-preserved c = λ names.
    block_step (λ a. arm_is (Of c.args.whole) (arm names a)) (λ qs. arms_are (Of c.args.whole) (map (arm names) qs)) c.args.arms.now c.loop-one.one-index _ _ _ _ (λ y ys. refl) c.loop-one-test.true c.one-item.is (c.in_ok-all.ensures names) (c.loop-one.invariant names)

pub returns : goal.returns
returns c = λ names. block_end (λ qs. arms_are (Of c.args.whole) (map (arm names) qs)) c.args.arms.now c.loop-one.one-index _ _ refl c.loop-one-test.false (c.loop-one.invariant names)

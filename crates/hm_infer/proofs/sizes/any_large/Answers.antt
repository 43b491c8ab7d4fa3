use Rattle.std.proofs.Common.{Bool, subst, arith}
use Rattle.std.specs.Bool.{MatchBool}
use Rattle.hm_terms.specs.Stores.{store}
use Rattle.hm_infer.specs.Sizes.{HasLargeAt, IsSmallAt}
use Rattle.hm_infer.proofs.Larges.{at_item, small_steps_more, small_steps_all, large_step}
use Rattle.hm_infer.proofs.sizes.any_large.Goals as goal

pub loop-step-init : goal.loop-step-init
loop-step-init c = λ a shown k s below at. absurd (omega arith)

pub loop-step-preserved : goal.loop-step-preserved
loop-step-preserved c = λ a shown.
    let at = at_item c.args.steps.now c.loop-step.step-index c.step-item.result c.loop-step-test.true c.step-item.is in
    let small = subst (λ (large : Bool). MatchBool large (HasLargeAt (store c.args.solver.now) c.step-item.result a) (IsSmallAt c.step-item.result a)) c.if-branch.false (c.in_ok-step_is_large.ensures a shown) in
    small_steps_more c.args.steps.now a c.loop-step.step-index c.step-item.result at small (c.loop-step.invariant a shown)

pub returns-then-branch : goal.returns-then-branch
returns-then-branch c = λ a shown.
    let at = at_item c.args.steps.now c.loop-step.step-index c.step-item.result c.loop-step-test.true c.step-item.is in
    let large = subst (λ (large : Bool). MatchBool large (HasLargeAt (store c.args.solver.now) c.step-item.result a) (IsSmallAt c.step-item.result a)) c.if-branch.true (c.in_ok-step_is_large.ensures a shown) in
    large_step (store c.args.solver.now) c.args.steps.now a c.loop-step.step-index c.step-item.result at large

pub returns : goal.returns
returns c = λ a shown. small_steps_all c.args.steps.now a c.loop-step.step-index c.loop-step-test.false (c.loop-step.invariant a shown)

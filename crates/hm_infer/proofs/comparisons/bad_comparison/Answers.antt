use Rattle.std.proofs.Common.{Bool, refl, subst}
use Rattle.std.specs.Bool.{MatchBool}
use Rattle.std.proofs.lemmas.Option.{slice_get_read}
use Rattle.hm_infer.specs.Compared.{IsGoodAt, IsBadAt}
use Rattle.hm_infer.proofs.Comparing.{compares_next, compares_all, bad_among}
use Rattle.hm_infer.proofs.comparisons.bad_comparison.Goals as goal

pub returns-then-not-branch : goal.returns-then-not-branch
returns-then-not-branch c = λ a shows.
    let at = slice_get_read c.args.steps.now _ c.loop-step.step-index c.step-item.result refl c.loop-step-test.true c.step-item.is in
    bad_among c.args.steps.now a c.loop-step.step-index c.step-item.result at (c.loop-step.invariant a shows)
    (subst (λ (b : Bool). MatchBool b (IsGoodAt c.step-item.result a) (IsBadAt c.step-item.result a)) c.if-not-branch.true (c.in_ok-is_good.ensures a shows))

pub loop-step-preserved : goal.loop-step-preserved
loop-step-preserved c = λ a shows.
    let at = slice_get_read c.args.steps.now _ c.loop-step.step-index c.step-item.result refl c.loop-step-test.true c.step-item.is in
    compares_next c.args.steps.now a c.loop-step.step-index c.step-item.result at (c.loop-step.invariant a shows)
    (subst (λ (b : Bool). MatchBool b (IsGoodAt c.step-item.result a) (IsBadAt c.step-item.result a)) c.if-not-branch.false (c.in_ok-is_good.ensures a shows))

pub returns : goal.returns
returns c = λ a shows. compares_all c.args.steps.now a c.loop-step.step-index c.loop-step-test.false (c.loop-step.invariant a shows)

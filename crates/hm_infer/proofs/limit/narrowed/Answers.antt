use Rattle.std.proofs.Common.{Bool, ℕ, take, sym, subst, arith}
use Rattle.std.specs.Bool.{MatchBool}
use Rattle.ml_typing.specs.Typing.{Assignment}
use Rattle.ml_typing.specs.Refusals.{IsSmall}
use Rattle.hm_terms.specs.Stores.{store}
use Rattle.hm_infer.specs.Running.{IsShown}
use Rattle.hm_infer.specs.Sizes.{HasLarge}
use Rattle.hm_infer.proofs.Larges.{at_item}
use Rattle.hm_infer.proofs.Narrowing.{Narrowing, narrowing_start, narrowing_more, narrowing_small, narrows_large, narrows_all}
use Rattle.hm_infer.proofs.limit.narrowed.Goals as goal
use Rattle.hm_infer.proofs.limit.narrowed.Goals.{then-number-saturating_add+in_ok-any_large+else-branch, else-number-saturating_add}

pub loop-number-init : goal.loop-number-init
loop-number-init c = λ e read none fits.
    narrowing_start (store c.args.solver.now) c.args.d.now.types e c.args.steps.now c.args.low c.sound.ensures read none fits

pub loop-number-preserved : goal.loop-number-preserved
loop-number-preserved c =
    let s = store c.loop-number.solver in
    let steps = c.args.steps.now in
    let number = c.loop-number.number in
    λ e read none fits.
    let before = c.loop-number.invariant e read none fits in
    let looked : Narrowing s c.args.d.now.types e steps c.if-number-saturating_add.small number =
    elim c.if-number-saturating_add.branch [
      | then-number-saturating_add+in_ok-any_large+else-branch w ↦
          let small : (a : Assignment) → IsShown s a → IsSmall (take number steps) a = λ a shown.
          subst (λ (large : Bool). MatchBool large (HasLarge s (take number steps) a) (IsSmall (take number steps) a)) w.if-branch.false (w.in_ok-any_large.ensures a shown) in
          subst (λ (n : ℕ). Narrowing s c.args.d.now.types e steps n number) (sym w.small-is)
          (narrowing_small s c.args.d.now.types e steps c.loop-number.small number w.sound-then-number-saturating_add.ensures small before)
      | else-number-saturating_add w ↦ subst (λ (n : ℕ). Narrowing s c.args.d.now.types e steps n number) (sym w.small-is) before
    ] in
    let at = at_item steps number c.index-steps-number.result c.loop-number-test.true c.index-steps-number.is in
    narrowing_more s (store c.run_held.new.solver) c.args.d.now.types e steps c.if-number-saturating_add.small number c.index-steps-number.result at (c.in_ok-run_held.ensures e) looked

pub returns-then-branch : goal.returns-then-branch
returns-then-branch c =
    let s = store c.loop-number.solver in
    let steps = c.args.steps.now in
    let number = c.loop-number.number in
    let large : (a : Assignment) → IsShown s a → HasLarge s (take number steps) a = λ a shown.
    subst (λ (large : Bool). MatchBool large (HasLarge s (take number steps) a) (IsSmall (take number steps) a)) c.if-branch.true (c.in_ok-any_large.ensures a shown) in
    record {
      within = omega arith;
      narrows = λ e read none low fits makes. narrows_large s c.args.d.now.types e steps c.loop-number.small number c.sound-then-number-saturating_add.ensures c.loop-number-test.true large (c.loop-number.invariant e read none fits);
    }

pub returns : goal.returns
returns c = record {
  within = omega arith;
  narrows = λ e read none low fits makes. narrows_all (store c.loop-number.solver) c.args.d.now.types e c.args.steps.now c.loop-number.small c.loop-number.number makes (c.loop-number.invariant e read none fits);
}

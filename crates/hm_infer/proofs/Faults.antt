-- Why an item has no types, from what came of its steps.
use Rattle.std.proofs.Common.{◌≡◌, Bool, true, false, None, ℕ, ◌+◌, ◌<◌, List, ◌++◌, length, take, Some, refl, sym, ap, ◌∙◌, subst, inr, arith}
use Rattle.std.specs.List.{slice_get}
use Rattle.std.specs.Bool.{MatchBool}
use Rattle.oxml_base.specs.declared.span.Span.{Span}
use Rattle.oxml_base.specs.Rules.{rule_number}
use Rattle.ml_types.specs.declared.declared.DeclInfo.{DeclInfo}
use Rattle.ml_types.specs.Types.{Leaf}
use Rattle.ml_typing.specs.declared.equation.Step.{Step}
use Rattle.ml_typing.specs.Terms.{Context}
use Rattle.ml_typing.specs.Typing.{Assignment, Satisfies, pairs, step_pairs}
use Rattle.ml_typing.specs.Refusals.{Fits, IsSmall, HasSolution, IsRuleOf, IsTooLarge}
use Rattle.hm_terms.specs.Stores.{Store}
use Rattle.hm_terms.specs.Contexts.{IsRead}
use Rattle.hm_unify.specs.States.{IsSound}
use Rattle.hm_infer.specs.declared.error.InferErr.{InferErr}
use Rattle.hm_infer.specs.declared.error.InferErr.TheVariants.{Refused, Limit, NoMemory}
use Rattle.hm_infer.specs.declared.run.Outcome.TheVariants.{Holds, Unsolved, Large}
use Rattle.hm_infer.specs.declared.run.Progress.{Progress}
use Rattle.hm_infer.specs.Running.{IsShown, Outgrows, Knowing, Stops, Runs}
use Rattle.hm_infer.specs.Sizes.{HasLarge, MakesLarge, IsFirstLarge}
use Rattle.hm_infer.specs.Answers.{Checked, IsItemFault, IsLimitAt, IsRefusedAt}
use Rattle.hm_infer.proofs.Narrowing.{shown_satisfies, makes_large}
use Rattle.hm_infer.proofs.Lists.{take_take, length_take, at_next, pairs_next, take_whole}

-- the first of the steps that were run which makes a type too large
too_large_at : (c : Context) (steps : List Step) (n k : ℕ) (span : Span) → IsFirstLarge c (take n steps) k → (step : Step) × (slice_get steps k ≡ Some step) × (span ≡ step.span) → IsTooLarge c steps span
too_large_at c steps n k span f (step, at, is) = record {
  k = k;
  step = step;
  at = at;
  before = subst (Fits c) (take_take steps k n (omega (arith, below))) f.fits;
  solvable = subst HasSolution front_is makes.solvable;
  type = makes.type;
  of_steps = makes.of_steps;
  large = λ a s. makes.large a (subst (Satisfies a) (sym front_is) s);
  span_is = is;
}
  where
    below : k < n
    below = (let l = length_take steps n in omega (arith, f.within, l))

    makes : MakesLarge c (take (k + 1) steps)
    makes = subst (MakesLarge c) (take_take steps (k + 1) n (omega (arith, below))) f.makes

    front_is : pairs c (take (k + 1) steps) ≡ pairs c (take k steps) ++ step_pairs c step
    front_is = pairs_next c steps k step at

pub large_fault : (c : Context) (steps done : List Step) (n k : ℕ) (e : InferErr) → done ≡ take n steps → IsFirstLarge c done k → IsLimitAt steps k e → IsItemFault c steps e
large_fault c steps done n k (Refused r) same f l = absurd l
large_fault c steps done n k (Limit limit span) same f l = (l.0, too_large_at c steps n k span (subst (λ (ss : List Step). IsFirstLarge c ss k) same f) (l.1, l.2, l.3))
large_fault c steps done n k NoMemory same f l = tt

-- a step that makes what one of its equations is about too large
outgrown_at : (c : Context) (steps : List Step) (k : ℕ) (step other : Step) (span : Span) → Fits c (take k steps) → slice_get steps k ≡ Some step → Outgrows c (pairs c (take k steps)) step → slice_get steps k ≡ Some other → span ≡ other.span → IsTooLarge c steps span
outgrown_at c steps k step other span fits at o at' is = record {
  k = k;
  step = step;
  at = at;
  before = fits;
  solvable = o.solvable;
  type = o.equation.left;
  of_steps = (k, step, at_next steps k step at, inr (o.part, o.equation, o.equation_at, refl));
  large = o.large;
  span_is = is ∙ ap (λ (s : Step). s.span) same;
}
  where
    same : other ≡ step
    same = let q : Some other ≡ Some step = sym at' ∙ at in cc

pub outgrown_fault : (c : Context) (steps : List Step) (k : ℕ) (e : InferErr) → Fits c (take k steps) → Stops c steps k Large → IsLimitAt steps k e → IsItemFault c steps e
outgrown_fault c steps k (Refused r) fits o l = absurd l
outgrown_fault c steps k (Limit limit span) fits o l = (l.0, outgrown_at c steps k o.0 l.1 span fits o.1 o.2 l.2 l.3)
outgrown_fault c steps k NoMemory fits o l = tt

pub unsolved_fault : (c : Context) (steps : List Step) (k : ℕ) (span : Span) (e : InferErr) → Fits c (take k steps) → Stops c steps k (Unsolved span) → IsRefusedAt c steps k span e → IsItemFault c steps e
unsolved_fault c steps k span (Refused r) fits (step, at, f) l = record {
  k = k;
  step = step;
  at = at;
  before = fits;
  part = f.part;
  equation = f.equation;
  equation_at = f.equation_at;
  still = f.still;
  fails = f.fails;
  rule_is = subst (IsRuleOf (rule_number r.rule)) (pairs_next c steps k step at) l.0;
  span_is = l.1 ∙ f.span_is;
}
unsolved_fault c steps k span (Limit limit other) fits o l = absurd l
unsolved_fault c steps k span NoMemory fits o l = tt

-- all steps hold
pub checked_all : (s : Store) (d : List DeclInfo) (c : Context) (steps done : List Step) (n : ℕ) → done ≡ take n steps → Knowing s d c (pairs c (take n steps)) → n ≡ length steps → ((a : Assignment) → IsShown s a → IsSmall done a) → Checked s d c steps
checked_all s d c steps done n same k all small = record {
  knows = subst (λ (ss : List Step). Knowing s d c (pairs c ss)) whole k;
  small = λ a h. subst (λ (ss : List Step). IsSmall ss a) (same ∙ whole) (small a h);
}
  where
    whole : take n steps ≡ steps
    whole = take_whole steps n (omega (arith, all))

-- no step makes no type too large
fits_none : (c : Context) (steps : List Step) → Fits c (take 0 steps)
fits_none c steps = ((λ v. Leaf 0), tt, λ v t. absurd (let q : None ≡ Some t.1 = t.2 in cc))

pub fits_done : (s : Store) (d : List DeclInfo) (c : Context) (steps done : List Step) (p : Progress) (large : Bool) → large ≡ false → IsSound s.nodes s.bound → done ≡ take p.done steps → Runs s d c steps p → ((a : Assignment) → IsShown s a → MatchBool large (HasLarge s done a) (IsSmall done a)) → Fits c (take p.done steps)
fits_done s d c steps done p large e sound same r looked =
    let a = shown_satisfies s d c (pairs c (take p.done steps)) r.knows sound in
    (a.0, a.2, subst (λ (ss : List Step). IsSmall ss a.0) same (subst (λ (b : Bool). MatchBool b (HasLarge s done a.0) (IsSmall done a.0)) e (looked a.0 a.1)))

-- the arms of what became of the steps
pub judged_large : (s : Store) (d : List DeclInfo) (c : Context) (steps done : List Step) (p : Progress) (large : Bool) (k : ℕ) (e : InferErr) → large ≡ true → IsSound s.nodes s.bound → done ≡ take p.done steps → ((a : Assignment) → IsShown s a → MatchBool large (HasLarge s done a) (IsSmall done a)) → ((c : Context) → IsRead s d c → MakesLarge c done → IsFirstLarge c done k) → IsLimitAt steps k e → Runs s d c steps p → IsItemFault c steps e
judged_large s d c steps done p large k e is sound same looked first l r =
    large_fault c steps done p.done k e same (first c r.knows.read (makes_large s d c done sound
    (λ a h. subst (λ (b : Bool). MatchBool b (HasLarge s done a) (IsSmall done a)) is (looked a h))
    (subst (λ (ss : List Step). Knowing s d c (pairs c ss)) (sym same) r.knows))) l

pub judged_outgrown : (s : Store) (d : List DeclInfo) (c : Context) (steps done : List Step) (p : Progress) (large : Bool) (e : InferErr) → large ≡ false → p.outcome ≡ Large → IsSound s.nodes s.bound → done ≡ take p.done steps → ((a : Assignment) → IsShown s a → MatchBool large (HasLarge s done a) (IsSmall done a)) → IsLimitAt steps p.done e → Runs s d c steps p → IsItemFault c steps e
judged_outgrown s d c steps done p large e is came sound same looked l r =
    outgrown_fault c steps p.done e (fits_done s d c steps done p large is sound same r looked) (subst (Stops c steps p.done) came r.stops) l

pub judged_unsolved : (s : Store) (d : List DeclInfo) (c : Context) (steps done : List Step) (p : Progress) (large : Bool) (span : Span) (e : InferErr) → large ≡ false → p.outcome ≡ Unsolved span → IsSound s.nodes s.bound → done ≡ take p.done steps → ((a : Assignment) → IsShown s a → MatchBool large (HasLarge s done a) (IsSmall done a)) → ((c : Context) → IsRead s d c → IsRefusedAt c steps p.done span e) → Runs s d c steps p → IsItemFault c steps e
judged_unsolved s d c steps done p large span e is came sound same looked refused r =
    unsolved_fault c steps p.done span e (fits_done s d c steps done p large is sound same r looked) (subst (Stops c steps p.done) came r.stops) (refused c r.knows.read)

pub judged_held : (s : Store) (d : List DeclInfo) (c : Context) (steps done : List Step) (p : Progress) (large : Bool) → large ≡ false → p.outcome ≡ Holds → done ≡ take p.done steps → ((a : Assignment) → IsShown s a → MatchBool large (HasLarge s done a) (IsSmall done a)) → Runs s d c steps p → Checked s d c steps
judged_held s d c steps done p large is came same looked r =
    checked_all s d c steps done p.done same r.knows (subst (Stops c steps p.done) came r.stops)
    (λ a h. subst (λ (b : Bool). MatchBool b (HasLarge s done a) (IsSmall done a)) is (looked a h))

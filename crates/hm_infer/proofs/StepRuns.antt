-- Steps as they are run, one after the other.
use Rattle.std.proofs.Common.{◌≡◌, ℕ, zero, suc, ◌+◌, ◌≤◌, List, [], ◌∷◌, ◌++◌, map, take, length, Some, None, refl, sym, ap, ◌∙◌, subst, add-one, append_assoc, arith}
use Rattle.std.specs.List.{slice_get}
use Rattle.std.proofs.lemmas.List.{append-nil}
use Rattle.oxml_base.specs.declared.span.Span.{Span}
use Rattle.ml_types.specs.declared.declared.DeclInfo.{DeclInfo}
use Rattle.ml_typing.specs.declared.equation.Unknown.{Unknown}
use Rattle.ml_typing.specs.declared.equation.Equation.{Equation}
use Rattle.ml_typing.specs.declared.equation.Step.{Step}
use Rattle.ml_typing.specs.Terms.{Context}
use Rattle.ml_typing.specs.Typing.{Pair, pair_of, step_pairs, pairs}
use Rattle.hm_unify.specs.Solutions.{Pairs, IsFirstFault, IsTooLarge}
use Rattle.hm_unify.specs.States.{Equated, Refused}
use Rattle.hm_unify.specs.declared.error.UnifyErr.{UnifyErr}
use Rattle.hm_unify.specs.declared.error.UnifyErr.TheVariants.{Clash, Cycle, TooLarge}
use Rattle.hm_terms.specs.Stores.{Store, state, SameNames}
use Rattle.hm_terms.specs.Contexts.{IsRead}
use Rattle.hm_terms.proofs.Contexts.{read_grows}
use Rattle.hm_terms.proofs.Walking.{take_all}
use Rattle.hm_infer.specs.declared.run.Outcome.{Outcome}
use Rattle.hm_infer.specs.declared.run.Outcome.TheVariants.{Holds as Went, Unsolved, Large}
use Rattle.hm_infer.specs.Running.{LowersPairs, Agrees, Knowing, Comes, Runs}
use Rattle.hm_infer.proofs.Readings.{read_equated}
use Rattle.hm_infer.proofs.Agreements.{agrees_grows, agrees_equated, step_fails, step_outgrows}

-- the pairs of a step are lowered, whatever reads its terms
abbrev pub LowersStep : Store → Store → List DeclInfo → Step → Pairs → Type 0
LowersStep old mid decls step ids = (c : Context) → IsRead old decls c → LowersPairs old mid (map (pair_of c) step.equations) ids

-- a step that has no solution, or whose types are too large, leaves what was known
knowing_grown : (old mid new : Store) (decls : List DeclInfo) (c : Context) (before ps : List Pair) (ids : Pairs) → IsRead old decls c → Agrees old before → LowersPairs old mid ps ids → new ≡ mid → Knowing new decls c before
knowing_grown old mid new decls c before ps ids k agrees l same =
    subst (λ (s : Store). Knowing s decls c before) (sym same) (record { read = read_grows old mid decls c k l.grows; agrees = agrees_grows old mid before agrees k.ready l.grows })

pub step_holds : (old mid new : Store) (decls : List DeclInfo) (c : Context) (before : List Pair) (step : Step) (ids slice : Pairs) → IsRead old decls c → Agrees old before → LowersStep old mid decls step ids → slice ≡ ids → Equated (state mid) (state new) slice → ((u : Unknown) → new.ids u ≡ mid.ids u) → SameNames mid new → Comes new decls c before step Went
step_holds old mid new decls c before step ids slice k agrees lowers is e same names =
    let l = lowers c k in
    let equated : Equated (state mid) (state new) ids = subst (λ (ps : Pairs). Equated (state mid) (state new) ps) is e in
    record {
      read = read_equated mid new decls c (step_pairs c step) ids (read_grows old mid decls c k l.grows) l.hold equated same names;
      agrees = agrees_equated mid new before (step_pairs c step) ids (agrees_grows old mid before agrees k.ready l.grows) l.hold equated same;
    }

pub step_unsolved : (old mid new : Store) (decls : List DeclInfo) (c : Context) (before : List Pair) (step : Step) (ids slice : Pairs) (k : ℕ) (equations : List Equation) (span : Span) → IsRead old decls c → Agrees old before → LowersStep old mid decls step ids → slice ≡ ids → IsFirstFault mid.nodes mid.bound slice k → new ≡ mid → equations ≡ step.equations → (e : Equation) × (slice_get equations k ≡ Some e) × (span ≡ e.part) → Comes new decls c before step (Unsolved span)
step_unsolved old mid new decls c before step ids slice k equations span read agrees lowers is fault same list part =
    let l = lowers c read in (
      knowing_grown old mid new decls c before (step_pairs c step) ids read agrees l same,
      step_fails mid c before step ids k part.0 span (agrees_grows old mid before agrees read.ready l.grows) l.hold (subst (λ (ps : Pairs). IsFirstFault mid.nodes mid.bound ps k) is fault)
          (ap (λ (es : List Equation). slice_get es k) (sym list) ∙ part.1) part.2,
    )

pub step_too_large : (old mid new : Store) (decls : List DeclInfo) (c : Context) (before : List Pair) (step : Step) (ids slice : Pairs) → IsRead old decls c → Agrees old before → LowersStep old mid decls step ids → slice ≡ ids → IsTooLarge mid.nodes mid.bound slice → new ≡ mid → Comes new decls c before step Large
step_too_large old mid new decls c before step ids slice read agrees lowers is large same =
    let l = lowers c read in (
      knowing_grown old mid new decls c before (step_pairs c step) ids read agrees l same,
      step_outgrows mid c before step ids (agrees_grows old mid before agrees read.ready l.grows) l.hold (subst (λ (ps : Pairs). IsTooLarge mid.nodes mid.bound ps) is large),
    )

-- ---- why pairs were refused

pub clash_fault : (s : Store) (ids : Pairs) (e : UnifyErr) (k : ℕ) → e ≡ Clash k → Refused (state s) ids e → IsFirstFault s.nodes s.bound ids k
clash_fault s ids e k is r = (subst (λ (f : UnifyErr). Refused (state s) ids f) is r).1

pub cycle_fault : (s : Store) (ids : Pairs) (e : UnifyErr) (k : ℕ) → e ≡ Cycle k → Refused (state s) ids e → IsFirstFault s.nodes s.bound ids k
cycle_fault s ids e k is r = (subst (λ (f : UnifyErr). Refused (state s) ids f) is r).1

pub large_fault : (s : Store) (ids : Pairs) (e : UnifyErr) (n : ℕ) → e ≡ TooLarge n → Refused (state s) ids e → IsTooLarge s.nodes s.bound ids
large_fault s ids e n is r = (subst (λ (f : UnifyErr). Refused (state s) ids f) is r).0

-- ---- the steps in their order

pub pairs_next : (c : Context) (steps : List Step) (n : ℕ) (step : Step) → slice_get steps n ≡ Some step → pairs c (take (n + 1) steps) ≡ pairs c (take n steps) ++ step_pairs c step
pairs_next c steps n step e = rw add-one (by steps n e)
  where
    by : (ss : List Step) (n : ℕ) → slice_get ss n ≡ Some step → pairs c (take (suc n) ss) ≡ pairs c (take n ss) ++ step_pairs c step
    by [] n e = absurd (let q : None ≡ Some step = e in cc)
    by (s ∷ ss) zero e = let q : s ≡ step = cc in append-nil (step_pairs c s) ∙ ap (step_pairs c) q
    by (s ∷ ss) (suc n) e = ap (λ (ps : List Pair). step_pairs c s ++ ps) (by ss n e) ∙ sym (append_assoc (step_pairs c s) (pairs c (take n ss)) (step_pairs c step))

pub steps_start : (s : Store) (decls : List DeclInfo) (c : Context) (steps : List Step) → IsRead s decls c → Agrees s [] → Knowing s decls c (pairs c (take 0 steps))
steps_start s decls c [] k agrees = record { read = k; agrees = agrees }
steps_start s decls c (step ∷ steps) k agrees = record { read = k; agrees = agrees }

-- one step more holds
pub steps_next : (old new : Store) (decls : List DeclInfo) (c : Context) (steps : List Step) (n : ℕ) (step : Step) (o : Outcome) → slice_get steps n ≡ Some step → Knowing old decls c (pairs c (take n steps)) → ((b : Context) (before : List Pair) → IsRead old decls b → Agrees old before → Comes new decls b before step o) → o ≡ Went → Knowing new decls c (pairs c (take (n + 1) steps))
steps_next old new decls c steps n step o at k comes went =
    let came = comes c (pairs c (take n steps)) k.read k.agrees in
    subst (λ (ps : List Pair). Knowing new decls c ps) (sym (pairs_next c steps n step at))
    (subst (λ (p : Outcome). Comes new decls c (pairs c (take n steps)) step p) went came)

-- a step does not hold
pub steps_stop : (old new : Store) (decls : List DeclInfo) (c : Context) (steps : List Step) (n : ℕ) (step : Step) (o : Outcome) → slice_get steps n ≡ Some step → Knowing old decls c (pairs c (take n steps)) → ((b : Context) (before : List Pair) → IsRead old decls b → Agrees old before → Comes new decls b before step o) → (o ≡ Went → ⊥) → Runs new decls c steps (record { done = n; outcome = o })
steps_stop old new decls c steps n step o at k comes other = by o (comes c (pairs c (take n steps)) k.read k.agrees) other
  where
    by : (o : Outcome) → Comes new decls c (pairs c (take n steps)) step o → (o ≡ Went → ⊥) → Runs new decls c steps (record { done = n; outcome = o })
    by Went came other = absurd (other refl)
    by (Unsolved span) came other = record { knows = came.0; stops = (step, at, came.1) }
    by Large came other = record { knows = came.0; stops = (step, at, came.1) }

-- all steps hold
pub steps_done : (s : Store) (decls : List DeclInfo) (c : Context) (steps : List Step) (n : ℕ) → length steps ≤ n → Knowing s decls c (pairs c (take n steps)) → Runs s decls c steps (record { done = length steps; outcome = Went })
steps_done s decls c steps n h k = record {
  knows = subst (λ (ss : List Step). Knowing s decls c (pairs c ss)) (take_all steps n h ∙ sym (take_all steps (length steps) (omega arith))) k;
  stops = refl;
}

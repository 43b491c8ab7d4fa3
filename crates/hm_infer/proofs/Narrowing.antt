-- The search for the first step that makes a type too large.
use Rattle.std.proofs.Common.{◌≡◌, ℕ, zero, suc, ◌+◌, ◌<◌, ◌≤◌, List, [], ◌∷◌, ◌++◌, length, take, Some, None, sym, subst, ⊎_elim, arith}
use Rattle.std.specs.List.{slice_get}
use Rattle.std.proofs.lemmas.Bool.{cases_lt}
use Rattle.std.proofs.lemmas.List.{take_all, take-take, length-take-le}
use Rattle.ml_types.specs.declared.declared.DeclInfo.{DeclInfo}
use Rattle.ml_typing.specs.declared.equation.Step.{Step}
use Rattle.ml_typing.specs.Terms.{Context}
use Rattle.ml_typing.specs.Typing.{Assignment, Pair, Satisfies, pairs, step_pairs}
use Rattle.ml_typing.specs.Refusals.{Fits, IsSmall}
use Rattle.hm_unify.specs.States.{IsSound}
use Rattle.hm_terms.specs.Stores.{Store, Forgets}
use Rattle.hm_terms.specs.Contexts.{IsRead}
use Rattle.hm_infer.specs.declared.limit.Bracket.{Bracket}
use Rattle.hm_infer.specs.Running.{Agrees, IsShown, HasNoIds, Knowing}
use Rattle.hm_infer.specs.Sizes.{HasLarge, MakesLarge, Narrows, IsFirstLarge}
use Rattle.hm_infer.proofs.Readings.{read_forgets}
use Rattle.hm_infer.proofs.StepRuns.{pairs_next}
use Rattle.hm_infer.proofs.Shown.{starts, shown, shown_reading, least}

-- ---- the first of some steps

satisfies_with : (a : Assignment) (ps qs rs : List Pair) → Satisfies a (ps ++ qs) → (Satisfies a qs → Satisfies a rs) → Satisfies a (ps ++ rs)
satisfies_with a [] qs rs h f = f h
satisfies_with a (p ∷ ps) qs rs h f = (h.0, satisfies_with a ps qs rs h.1 f)

satisfies_front : (c : Context) (a : Assignment) (steps : List Step) (m n : ℕ) → m ≤ n → Satisfies a (pairs c (take n steps)) → Satisfies a (pairs c (take m steps))
satisfies_front c a steps zero n h k = tt
satisfies_front c a [] (suc m) n h k = tt
satisfies_front c a (s ∷ steps) (suc m) zero h k = absurd (omega arith)
satisfies_front c a (s ∷ steps) (suc m) (suc n) h k = satisfies_with a (step_pairs c s) (pairs c (take n steps)) (pairs c (take m steps)) k (satisfies_front c a steps m n (omega arith))

at_front : (steps : List Step) (m n i : ℕ) (s : Step) → m ≤ n → slice_get (take m steps) i ≡ Some s → slice_get (take n steps) i ≡ Some s
at_front steps zero n i s h e = absurd (let q : None ≡ Some s = e in cc)
at_front [] (suc m) n i s h e = absurd (let q : None ≡ Some s = e in cc)
at_front (r ∷ steps) (suc m) zero i s h e = absurd (omega arith)
at_front (r ∷ steps) (suc m) (suc n) zero s h e = e
at_front (r ∷ steps) (suc m) (suc n) (suc i) s h e = at_front steps m n i s (omega arith) e

fits_front : (c : Context) (steps : List Step) (m n : ℕ) → m ≤ n → Fits c (take n steps) → Fits c (take m steps)
fits_front c steps m n h f = (f.0, satisfies_front c f.0 steps m n h f.1, λ v t. f.2 v (t.0, t.1, at_front steps m n t.0 t.1 h t.2, t.3))

-- steps with a solution whose types are all small make no type too large
fits_or_makes : (c : Context) (steps : List Step) → Fits c steps → MakesLarge c steps → ⊥
fits_or_makes c steps f m = let large = m.large f.0 f.1 in let small = f.2 m.type m.of_steps in omega arith

below : (c : Context) (steps : List Step) (m n : ℕ) → Fits c (take m steps) → MakesLarge c (take n steps) → m < n
below c steps m n f k = ⊎_elim (λ h. h) (λ h. absurd (fits_or_makes c (take n steps) (fits_front c steps n m h f) k)) (cases_lt m n)

-- ---- one run

-- the first `number` steps were run, and the first `small` make no type too large
pub record Narrowing (s : Store) (decls : List DeclInfo) (c : Context) (steps : List Step) (small number : ℕ) : Type 0 where
  pub knows : Knowing s decls c (pairs c (take number steps))
  pub fits : Fits c (take small steps)

pub narrowing_start : (s : Store) (decls : List DeclInfo) (c : Context) (steps : List Step) (low : ℕ) → IsSound s.nodes s.bound → IsRead s decls c → HasNoIds s → Fits c (take low steps) → Narrowing s decls c steps low 0
narrowing_start s decls c steps low sound read none fits = record {
  knows = record { read = read; agrees = starts s sound none };
  fits = fits;
}

abbrev pub Knows : Store → Store → List DeclInfo → Context → Step → Type 0
Knows old new decls c step = (before : List Pair) → IsRead old decls c → Agrees old before → Knowing new decls c (before ++ step_pairs c step)

pub narrowing_more : (old new : Store) (decls : List DeclInfo) (c : Context) (steps : List Step) (small number : ℕ) (step : Step) → slice_get steps number ≡ Some step → Knows old new decls c step → Narrowing old decls c steps small number → Narrowing new decls c steps small (number + 1)
narrowing_more old new decls c steps small number step at knows n = record {
  knows = subst (λ (ps : List Pair). Knowing new decls c ps) (sym (pairs_next c steps number step at)) (knows (pairs c (take number steps)) n.knows.read n.knows.agrees);
  fits = n.fits;
}

-- the types that are shown satisfy the equations of the steps
pub shown_satisfies : (s : Store) (decls : List DeclInfo) (c : Context) (ps : List Pair) → Knowing s decls c ps → IsSound s.nodes s.bound → (a : Assignment) × IsShown s a × Satisfies a ps
shown_satisfies s decls c ps k sound =
    let a = shown s k.read.ready sound in
    let r = shown_reading s a.0 k.read.ready sound a.1 in
    (a.0, a.1, k.agrees.forth r.0 a.0 r.1)

pub narrowing_small : (s : Store) (decls : List DeclInfo) (c : Context) (steps : List Step) (small number : ℕ) → IsSound s.nodes s.bound → ((a : Assignment) → IsShown s a → IsSmall (take number steps) a) → Narrowing s decls c steps small number → Narrowing s decls c steps number number
narrowing_small s decls c steps small number sound looked n =
    let a = shown_satisfies s decls c (pairs c (take number steps)) n.knows sound in
    record {
      knows = n.knows;
      fits = (a.0, a.2, looked a.0 a.1);
    }

pub makes_large : (s : Store) (decls : List DeclInfo) (c : Context) (steps : List Step) → IsSound s.nodes s.bound → ((a : Assignment) → IsShown s a → HasLarge s steps a) → Knowing s decls c (pairs c steps) → MakesLarge c steps
makes_large s decls c steps sound looked k =
    let a = shown_satisfies s decls c (pairs c steps) k sound in
    let v = looked a.0 a.1 in
    record {
      solvable = (a.0, a.2);
      type = v.0;
      of_steps = v.1;
      large = λ b sat. (let l = least s (pairs c steps) a.0 b v.0 v.2.0 k.read.ready k.agrees a.1 sat v.2.1 in omega (arith, l, v.2.2));
    }

pub narrows_large : (s : Store) (decls : List DeclInfo) (c : Context) (steps : List Step) (small number : ℕ) → IsSound s.nodes s.bound → number < length steps → ((a : Assignment) → IsShown s a → HasLarge s (take number steps) a) → Narrowing s decls c steps small number → Narrows s decls c steps (record { low = small; high = number })
narrows_large s decls c steps small number sound within looked n =
    let makes = makes_large s decls c (take number steps) sound looked n.knows in
    record {
      read = n.knows.read;
      order = below c steps small number n.fits makes;
      within = omega arith;
      fits = n.fits;
      makes = makes;
    }

pub narrows_all : (s : Store) (decls : List DeclInfo) (c : Context) (steps : List Step) (small number : ℕ) → MakesLarge c steps → Narrowing s decls c steps small number → Narrows s decls c steps (record { low = small; high = length steps })
narrows_all s decls c steps small number makes n =
    let all : MakesLarge c (take (length steps) steps) = subst (MakesLarge c) (sym (take_all (length steps) steps (omega arith))) makes in
    record {
      read = n.knows.read;
      order = below c steps small (length steps) n.fits all;
      within = omega arith;
      fits = n.fits;
      makes = all;
    }

-- ---- all runs

-- the first `low` steps make no type too large, and the first `high` make one
pub record Searching (s : Store) (decls : List DeclInfo) (c : Context) (steps : List Step) (low high : ℕ) : Type 0 where
  pub read : IsRead s decls c
  pub fits : Fits c (take low steps)
  pub makes : MakesLarge c (take high steps)

pub searching_start : (s : Store) (decls : List DeclInfo) (c : Context) (steps : List Step) → IsRead s decls c → MakesLarge c steps → Searching s decls c steps 0 (length steps)
searching_start s decls c steps read makes = record {
  read = read;
  fits = (makes.solvable.0, tt, λ v t. absurd (let q : None ≡ Some t.1 = t.2 in cc));
  makes = subst (MakesLarge c) (sym (take_all (length steps) steps (omega arith))) makes;
}

abbrev pub NarrowsFrom : Store → Store → List DeclInfo → Context → List Step → ℕ → Bracket → Type 0
NarrowsFrom old new decls c steps low b = IsRead old decls c → HasNoIds old → low < length steps → Fits c (take low steps) → MakesLarge c steps → Narrows new decls c steps b

pub searching_more : (old middle new : Store) (decls : List DeclInfo) (c : Context) (steps : List Step) (low high : ℕ) (b : Bracket) → high ≤ length steps → Forgets old middle → NarrowsFrom middle new decls c (take high steps) low b → Searching old decls c steps low high → Searching new decls c steps b.low b.high
searching_more old middle new decls c steps low high b within forgets narrows k =
    let count = length-take-le high steps within in
    let order = below c steps low high k.fits k.makes in
    let front : Fits c (take low (take high steps)) = subst (Fits c) (sym (take-take low high steps (omega arith))) k.fits in
    let n = narrows (read_forgets old middle decls c k.read forgets) forgets.none (omega arith) front k.makes in
    record {
      read = n.read;
      fits = subst (Fits c) (take-take b.low high steps (omega (arith, n.order, n.within, count))) n.fits;
      makes = subst (MakesLarge c) (take-take b.high high steps (omega (arith, n.within, count))) n.makes;
    }

pub first_found : (s : Store) (decls : List DeclInfo) (c : Context) (steps : List Step) (low high : ℕ) → high ≤ length steps → high ≤ low + 1 → Searching s decls c steps low high → IsFirstLarge c steps low
first_found s decls c steps low high within near k =
    let order = below c steps low high k.fits k.makes in
    let e : high ≡ low + 1 = omega arith in
    record {
      within = omega arith;
      fits = k.fits;
      makes = subst (λ (n : ℕ). MakesLarge c (take n steps)) e k.makes;
    }

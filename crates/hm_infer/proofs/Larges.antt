-- Which types are too large, by the places that were looked at so far.
use Rattle.std.proofs.Common.{◌≡◌, ℕ, ◌+◌, ◌<◌, ◌≤◌, ◌⊎◌, Bool, true, false, List, length, min, Option, Some, None, get_or, refl, sym, ◌∙◌, subst, inl, inr, arith}
use Rattle.std.specs.Bool.{MatchBool}
use Rattle.std.specs.List.{slice_get}
use Rattle.std.proofs.lemmas.Bool.{cases_eq}
use Rattle.std.proofs.lemmas.Option.{slice_get_read, slice_get_within}
use Rattle.ml_types.specs.declared.node.TyId.{TyId}
use Rattle.ml_types.specs.Types.{tree_size}
use Rattle.ml_typing.specs.declared.equation.Unknown.{Unknown}
use Rattle.ml_typing.specs.declared.equation.Unknown.TheVariants as u
use Rattle.ml_typing.specs.declared.equation.Equation.{Equation}
use Rattle.ml_typing.specs.declared.equation.Step.{Step}
use Rattle.ml_typing.specs.Typing.{Assignment}
use Rattle.ml_typing.specs.Refusals.{IsTypeAt, IsSmall}
use Rattle.hm_terms.specs.Stores.{Store}
use Rattle.hm_infer.specs.Sizes.{IsLarge, HasLargeLeft, AreSmallLefts, HasLargeAt, IsSmallAt, HasLarge}

pub at_item : {A : Type 0} (xs : List A) (i : ℕ) (x : A) → i < length xs → x ≡ get_or xs i x → slice_get xs i ≡ Some x
at_item xs i x h e = slice_get_read xs (length xs) i x refl h e

at_place : {A : Type 0} (xs : List A) (i k : ℕ) (x y : A) → slice_get xs i ≡ Some x → slice_get xs k ≡ Some y → k ≡ i → x ≡ y
at_place xs i k x y p q e = let r : slice_get xs k ≡ Some x = subst (λ (n : ℕ). slice_get xs n ≡ Some x) (sym e) p in cc

-- ---- the equations of a step

abbrev pub SmallLeftsBefore : List Equation → Assignment → ℕ → Type 0
SmallLeftsBefore equations a i = (k : ℕ) (e : Equation) → k < i → slice_get equations k ≡ Some e → tree_size (a e.left) ≤ 2000

pub is_large : (s : Store) (a : Assignment) (v : Unknown) (n : ℕ) → (x : TyId) × (s.ids v ≡ Some x) → n ≡ min (tree_size (a v)) 2001 → 2000 < n → IsLarge s a v
is_large s a v n known size large = (known.0, known.1, omega arith)

pub small_lefts_more : (equations : List Equation) (a : Assignment) (i n : ℕ) (e : Equation) → slice_get equations i ≡ Some e → n ≡ min (tree_size (a e.left)) 2001 → n ≤ 2000 → SmallLeftsBefore equations a i → SmallLeftsBefore equations a (i + 1)
small_lefts_more equations a i n e at size small before k f below there = by (cases_eq k i)
  where
    by : (k ≡ i) ⊎ (k ≡ i → ⊥) → tree_size (a f.left) ≤ 2000
    by (inl same) =
        let here = at_place equations i k e f at there same in
        subst (λ (g : Equation). tree_size (a g.left) ≤ 2000) here (omega arith)
    by (inr other) = before k f (omega (arith, below, other)) there

pub small_lefts_all : (equations : List Equation) (a : Assignment) (i : ℕ) → length equations ≤ i → SmallLeftsBefore equations a i → AreSmallLefts equations a
small_lefts_all equations a i h before k e at = before k e (omega (arith, h, slice_get_within equations k e at)) at

-- ---- a step

abbrev pub SmallNode : Option ℕ → Assignment → Type 0
SmallNode node a = (n : ℕ) → node ≡ Some n → tree_size (a (u.Node n)) ≤ 2000

pub small_node : (node : Option ℕ) (a : Assignment) (m n : ℕ) → node ≡ Some m → n ≡ min (tree_size (a (u.Node m))) 2001 → n ≤ 2000 → SmallNode node a
small_node place a m n is size small k at =
    let same : m ≡ k = cc in
    subst (λ (i : ℕ). tree_size (a (u.Node i)) ≤ 2000) same (omega arith)

pub no_node : (node : Option ℕ) (a : Assignment) → node ≡ None → SmallNode node a
no_node place a is k at = absurd (let q : None ≡ Some k = sym is ∙ at in cc)

pub large_node : (s : Store) (step : Step) (a : Assignment) (m n : ℕ) → step.node ≡ Some m → (x : TyId) × (s.ids (u.Node m) ≡ Some x) → n ≡ min (tree_size (a (u.Node m))) 2001 → 2000 < n → HasLargeAt s step a
large_node s step a m n is known size large = (u.Node m, inl (m, is, refl), is_large s a (u.Node m) n known size large)

pub step_by : (s : Store) (step : Step) (a : Assignment) (large : Bool) → SmallNode step.node a → MatchBool large (HasLargeLeft s step.equations a) (AreSmallLefts step.equations a) → MatchBool large (HasLargeAt s step a) (IsSmallAt step a)
step_by s step a true node h = (h.1.left, inr (h.0, h.1, h.2, refl), h.3)
step_by s step a false node h = λ v t. small v t
  where
    small : (v : Unknown) → IsTypeAt step v → tree_size (a v) ≤ 2000
    small v (inl w) = subst (λ (z : Unknown). tree_size (a z) ≤ 2000) (sym w.2) (node w.0 w.1)
    small v (inr w) = subst (λ (z : Unknown). tree_size (a z) ≤ 2000) (sym w.3) (h w.0 w.1 w.2)

-- ---- the steps

abbrev pub SmallStepsBefore : List Step → Assignment → ℕ → Type 0
SmallStepsBefore steps a i = (k : ℕ) (s : Step) → k < i → slice_get steps k ≡ Some s → IsSmallAt s a

pub small_steps_more : (steps : List Step) (a : Assignment) (i : ℕ) (s : Step) → slice_get steps i ≡ Some s → IsSmallAt s a → SmallStepsBefore steps a i → SmallStepsBefore steps a (i + 1)
small_steps_more steps a i s at small before k r below there = by (cases_eq k i)
  where
    by : (k ≡ i) ⊎ (k ≡ i → ⊥) → IsSmallAt r a
    by (inl same) = subst (λ (q : Step). IsSmallAt q a) (at_place steps i k s r at there same) small
    by (inr other) = before k r (omega (arith, below, other)) there

pub small_steps_all : (steps : List Step) (a : Assignment) (i : ℕ) → length steps ≤ i → SmallStepsBefore steps a i → IsSmall steps a
small_steps_all steps a i h before v t = before t.0 t.1 (omega (arith, h, slice_get_within steps t.0 t.1 t.2)) t.2 v t.3

pub large_step : (s : Store) (steps : List Step) (a : Assignment) (i : ℕ) (step : Step) → slice_get steps i ≡ Some step → HasLargeAt s step a → HasLarge s steps a
large_step s steps a i step at h = (h.0, (i, step, at, h.1), h.2)

-- Abbreviations below a number of which none reaches itself make no chain that is longer than it.
use Rattle.std.proofs.Common.{◌≡◌, ℕ, zero, suc, ◌+◌, ◌<◌, ◌≤◌, ◌⊎◌, inl, inr, List, [], ◌∷◌, length, Bool, true, false, ◌&&◌, ◌||◌, Option, Some, None, eqb, refl, sym, ap, ◌∙◌, subst, arith}
use Rattle.std.specs.List.{list_any, IsDistinct, AllByRecursion}
use Rattle.std.proofs.lemmas.Bool.Decides.{eqb_tells}
use Rattle.std.proofs.lemmas.Map.Keys.{IsDistinct-cons}
use Rattle.std.proofs.lemmas.Map.Steps.{length-le_from_distinct_below}
use Rattle.ml_types.specs.Types.{Tree}
use Rattle.ml_decls.specs.Lists.{IsIn}
use Rattle.declared_laws.proofs.Expansions.{numbers, every, each_named, is_no_tree, is_shallow}

-- how abbreviations reach each other, where all are below a bound and none reaches itself
pub record IsAcyclic (bodies : ℕ → Option Tree) (bound : ℕ) (Reach : ℕ → ℕ → Type 0) : Type 0 where
  pub below : (d : ℕ) (t : Tree) → bodies d ≡ Some t → d < bound
  pub at_once : (d e : ℕ) (t : Tree) → bodies d ≡ Some t → IsIn e (numbers t) → Reach d e
  pub joined : (d e f : ℕ) → Reach d e → Reach e f → Reach d f
  pub never : (d : ℕ) (t : Tree) → bodies d ≡ Some t → Reach d d → ⊥

-- one of a list for which a test fails
pub record Fails (p : ℕ → Bool) (ds : List ℕ) : Type 0 where
  pub number : ℕ
  pub stands : IsIn number ds
  pub fails : p number ≡ false

some_fails : (p : ℕ → Bool) (ds : List ℕ) → every p ds ≡ false → Fails p ds
some_fails p [] e = absurd cc
some_fails p (d ∷ ds) e = by (λ h. some_fails p ds h) (p d) refl e
  where
    by : (every p ds ≡ false → Fails p ds) → (b : Bool) → p d ≡ b → (b && every p ds) ≡ false → Fails p (d ∷ ds)
    by rest true q h = let r : Fails p ds = rest h in record { number = r.number; stands = inr r.stands; fails = r.fails }
    by rest false q h = record { number = d; stands = inl refl; fails = q }

-- each of these numbers has a type and reaches d
abbrev Lead : (ℕ → Option Tree) → (ℕ → ℕ → Type 0) → ℕ → List ℕ → Type 0
Lead bodies Reach d xs = AllByRecursion (λ x. ((t : Tree) × (bodies x ≡ Some t)) × Reach x d) xs

none_passed : IsDistinct eqb []
unfolding IsDistinct
none_passed = tt

module _ (bodies : ℕ → Option Tree) (bound : ℕ) (Reach : ℕ → ℕ → Type 0) (acyclic : IsAcyclic bodies bound Reach) where
  lead_on : (d e : ℕ) → Reach d e → (xs : List ℕ) → Lead bodies Reach d xs → Lead bodies Reach e xs
  lead_on d e r [] h = tt
  lead_on d e r (x ∷ xs) h = ((h.0.0, acyclic.joined x d e h.0.1 r), lead_on d e r xs h.1)

  new : (d : ℕ) (t : Tree) → bodies d ≡ Some t → (xs : List ℕ) → Lead bodies Reach d xs → AllByRecursion (λ y. eqb d y ≡ false) xs
  new d t b [] h = tt
  new d t b (x ∷ xs) h = (by (eqb_tells d x), new d t b xs h.1)
    where
      by : ((eqb d x ≡ true) × (d ≡ x)) ⊎ ((eqb d x ≡ false) × (d ≡ x → ⊥)) → eqb d x ≡ false
      by (inl q) = absurd (acyclic.never d t b (subst (λ z. Reach z d) (sym q.1) h.0.1))
      by (inr q) = q.0

  below_either : (q x : ℕ) (xs : List ℕ) (t : Tree) → bodies x ≡ Some t → (list_any (eqb q) xs ≡ true → q < bound) → list_any (eqb q) (x ∷ xs) ≡ true → q < bound
  below_either q x xs t b rest e = by (eqb_tells q x)
    where
      by : ((eqb q x ≡ true) × (q ≡ x)) ⊎ ((eqb q x ≡ false) × (q ≡ x → ⊥)) → q < bound
      by (inl p) = let less : x < bound = acyclic.below x t b in let same : q ≡ x = p.1 in omega arith
      by (inr p) = rest (ap (λ z. z || list_any (eqb q) xs) (sym p.0) ∙ e)

  below_bound : (d : ℕ) (xs : List ℕ) → Lead bodies Reach d xs → (q : ℕ) → list_any (eqb q) xs ≡ true → q < bound
  below_bound d [] h q e = absurd cc
  below_bound d (x ∷ xs) h q e = below_either q x xs h.0.0.0 h.0.0.1 (below_bound d xs h.1 q) e

  -- one number more, which has a type
  fits : (d : ℕ) (t : Tree) → bodies d ≡ Some t → (passed : List ℕ) → Lead bodies Reach d passed → IsDistinct eqb passed → length passed < bound
  fits d t b passed lead distinct =
      omega (arith, length-le_from_distinct_below (d ∷ passed) bound (IsDistinct-cons eqb d passed (new d t b passed lead) distinct) (λ q e. below_either q d passed t b (below_bound d passed lead q) e))

  -- a chain that is too long, behind the numbers that it passed
  too_deep : (k d : ℕ) (passed : List ℕ) → Lead bodies Reach d passed → IsDistinct eqb passed → bound ≤ k + length passed → is_shallow bodies k d ≡ false → ⊥
  too_deep zero d passed lead distinct long deep = by (bodies d) refl deep
    where
      by : (o : Option Tree) → bodies d ≡ o → is_no_tree o ≡ false → ⊥
      by None b e = absurd cc
      by (Some t) b e = omega (arith, long, fits d t b passed lead distinct)
  too_deep (suc k) d passed lead distinct long deep = by (λ e more further apart enough fails. too_deep k e more further apart enough fails) (bodies d) refl deep
    where
      by : ((e : ℕ) (more : List ℕ) → Lead bodies Reach e more → IsDistinct eqb more → bound ≤ k + length more → is_shallow bodies k e ≡ false → ⊥) → (o : Option Tree) → bodies d ≡ o → each_named (is_shallow bodies k) o ≡ false → ⊥
      by rest None b e = absurd cc
      by rest (Some t) b e =
          let f : Fails (is_shallow bodies k) (numbers t) = some_fails (is_shallow bodies k) (numbers t) e in
          let reach : Reach d f.number = acyclic.at_once d f.number t b f.stands in
          rest f.number (d ∷ passed) (((t, b), reach), lead_on d f.number reach passed lead) (IsDistinct-cons eqb d passed (new d t b passed lead) distinct) (omega (arith, long)) f.fails

  -- so no chain is longer than the bound
  pub all_shallow : (d : ℕ) → is_shallow bodies bound d ≡ true
  all_shallow d = by (is_shallow bodies bound d) refl
    where
      by : (b : Bool) → is_shallow bodies bound d ≡ b → b ≡ true
      by true e = refl
      by false e = absurd (too_deep bound d [] tt none_passed (omega arith) e)

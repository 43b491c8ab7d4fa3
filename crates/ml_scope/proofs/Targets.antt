-- What a node names, found in a list that rises.
use Rattle.std.proofs.Common.{◌≡◌, ℕ, zero, suc, ◌+◌, ◌-◌, ◌<◌, ◌≤◌, List, [], ◌∷◌, Some, None, true, false, refl, sym, ap, ◌∙◌, arith, slice_get, nat_eq, nat_le, nat_lt, ◌&&◌, ◌||◌, map, inl, inr}
use Rattle.std.proofs.lemmas.Bool.{cases_Bool, cond-true, cond-false}
use Rattle.std.proofs.lemmas.Bool.Decides.{Decides-eqb, nat_tests}
use Rattle.std.specs.List.{list_any, range_with_len}
use Rattle.ml_tree.specs.Rising.{Rises, Has}
use Rattle.ml_tree.specs.declared.reference.Ref.{Ref}
use Rattle.ml_scope.specs.FreeNames.{target_at, with_free, free_at, free_names}
use Rattle.ml_scope.specs.Journal.{each}

pub found_at : (refs : List (ℕ × Ref)) (node : ℕ) (target : Ref) → Rises refs → Has refs node target → target_at refs node ≡ Some target
found_at [] node target rises has = absurd (let e = has.1 in cc)
found_at (x ∷ refs) node target rises has = at (λ k e. found_at refs node target (tail rises) (k, e)) has.0 has.1
  where
    tail : Rises (x ∷ refs) → Rises refs
    tail rises = λ i j p q h e f. rises (suc i) (suc j) p q (omega (arith, h)) e f

    at : ((k : ℕ) → slice_get refs k ≡ Some (node, target) → target_at refs node ≡ Some target) → (k : ℕ) → slice_get (x ∷ refs) k ≡ Some (node, target) → target_at (x ∷ refs) node ≡ Some target
    at rest zero e = (let same : x ≡ (node, target) = cc in let t : nat_eq node x.0 ≡ true = (Decides-eqb node x.0).1 (sym (ap (λ p. p.0) same)) in cond-true (nat_eq node x.0) (Some x.1) (target_at refs node) t ∙ ap (λ p. Some p.1) same)
    at rest (suc k) e = elim (cases_Bool (nat_eq node x.0)) [
      | inl t ↦ (let same : node ≡ x.0 = (Decides-eqb node x.0).0 t in let below : x.0 < node = rises zero (suc k) x (node, target) (omega arith) refl e in absurd (omega (arith, same, below)))
      | inr f ↦ cond-false (nat_eq node x.0) (Some x.1) (target_at refs node) f ∙ rest k e
    ]

pub none_at : (refs : List (ℕ × Ref)) (node : ℕ) → ((target : Ref) → Has refs node target → ⊥) → target_at refs node ≡ None
none_at [] node none = refl
none_at (x ∷ refs) node none = elim (cases_Bool (nat_eq node x.0)) [
  | inl t ↦ (let same : x ≡ (node, x.1) = (let n : ℕ → ℕ × Ref = λ m. (m, x.1) in ap n (sym ((Decides-eqb node x.0).0 t))) in absurd (none x.1 (zero, ap Some same)))
  | inr f ↦ cond-false (nat_eq node x.0) (Some x.1) (target_at refs node) f ∙ none_at refs node (λ target has. none target (suc has.0, has.1))
]

-- ---- the numbers from one up to another

among_step : (low n b : ℕ) → (nat_eq b low || (nat_le (low + 1) b && nat_lt b ((low + 1) + n))) ≡ (nat_le low b && nat_lt b (low + suc n))
among_step low n b = grind (arith, nat_tests)

among_none : (low b : ℕ) → false ≡ (nat_le low b && nat_lt b (low + 0))
among_none low b = grind (arith, nat_tests)

among_from : (low n b : ℕ) → list_any (nat_eq b) (range_with_len low n) ≡ (nat_le low b && nat_lt b (low + n))
among_from low zero b = among_none low b
among_from low (suc n) b = ap (λ t. nat_eq b low || t) (among_from (low + 1) n b) ∙ among_step low n b

among_end : (low high b : ℕ) → (nat_le low b && nat_lt b (low + (high - low))) ≡ (nat_le low b && nat_lt b high)
among_end low high b = grind (arith, nat_tests)

pub among : (low high b : ℕ) → list_any (nat_eq b) (range_with_len low (high - low)) ≡ (nat_le low b && nat_lt b high)
among low high b = among_from low (high - low) b ∙ among_end low high b

pub free_step : (refs : List (ℕ × Ref)) (nodes : List ℕ) (node high : ℕ) (names : List ℕ) → node < high → each (map (free_at refs nodes) (range_with_len node (high - node))) names ≡ each (map (free_at refs nodes) (range_with_len (node + 1) (high - (node + 1)))) (with_free nodes (target_at refs node) names)
free_step refs nodes node high names h = ap (λ n. each (map (free_at refs nodes) (range_with_len node n)) names) (let e : high - node ≡ suc (high - (node + 1)) = omega (arith, h) in e)

pub free_end : (refs : List (ℕ × Ref)) (nodes : List ℕ) (node high : ℕ) (names : List ℕ) → high ≤ node → each (map (free_at refs nodes) (range_with_len node (high - node))) names ≡ names
free_end refs nodes node high names h = ap (λ n. each (map (free_at refs nodes) (range_with_len node n)) names) (let e : high - node ≡ 0 = omega (arith, h) in e)

pub nodes_between : (refs : List (ℕ × Ref)) (nodes : List ℕ) (low count : ℕ) → nodes ≡ range_with_len low count → free_names refs (range_with_len low ((low + count) - low)) ≡ free_names refs nodes
nodes_between refs nodes low count e = let less : (low + count) - low ≡ count = omega arith in ap (λ n. free_names refs (range_with_len low n)) less ∙ ap (free_names refs) (sym e)

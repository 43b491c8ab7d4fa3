-- What a binary search has shown: the numbers below one index are too small, and those from another on too great.
use Rattle.std.proofs.Common.{◌≡◌, ◌<◌, ◌≤◌, ◌+◌, ℕ, List, Some, slice_get, arith, subst, sym, inl, inr}
use Rattle.std.proofs.Math.Nat.{eq-or-lt_of_le}
use Rattle.std.proofs.Math.Decide.{dec_lt}
use Rattle.ml_tree.specs.Rising.{Rises, Has}

pub record IsBetween {A : Type 0} (xs : List (ℕ × A)) (n low high : ℕ) : Type 0 where
  pub below : (k : ℕ) (p : ℕ × A) → k < low → slice_get xs k ≡ Some p → p.0 < n
  pub above : (k : ℕ) (p : ℕ × A) → high ≤ k → slice_get xs k ≡ Some p → n < p.0

pub between_all : {A : Type 0} (xs : List (ℕ × A)) (n m : ℕ) → ((k : ℕ) (p : ℕ × A) → m ≤ k → slice_get xs k ≡ Some p → ⊥) → IsBetween xs n 0 m
between_all xs n m past = record { below = λ k p lt e. absurd (omega (arith, lt)); above = λ k p le e. absurd (past k p le e) }

pub go_above : {A : Type 0} (xs : List (ℕ × A)) (n low high m : ℕ) (q : ℕ × A) → Rises xs → IsBetween xs n low high → slice_get xs m ≡ Some q → q.0 < n → IsBetween xs n (m + 1) high
go_above xs n low high m q rises b e lt = record {
  below = λ k p less f. elim (dec_lt k m) [ yes h ↦ (let g = rises k m p q h f e in omega (arith, g, lt)) | no h ↦ (let same : k ≡ m = omega (arith, less, h) in let f' : slice_get xs m ≡ Some p = subst (λ j. slice_get xs j ≡ Some p) same f in let eq : p ≡ q = cc in subst (λ r. r.0 < n) (sym eq) lt) ];
  above = b.above;
}

pub go_below : {A : Type 0} (xs : List (ℕ × A)) (n low high m : ℕ) (q : ℕ × A) → Rises xs → IsBetween xs n low high → slice_get xs m ≡ Some q → n < q.0 → IsBetween xs n low m
go_below xs n low high m q rises b e lt = record {
  below = b.below;
  above = λ k p le f. elim (eq-or-lt_of_le le) [ inl same ↦ (let f' : slice_get xs m ≡ Some p = subst (λ j. slice_get xs j ≡ Some p) (sym same) f in let eq : p ≡ q = cc in subst (λ r. n < r.0) (sym eq) lt) | inr h ↦ (let g = rises m k q p h e f in omega (arith, g, lt)) ];
}

pub absent : {A : Type 0} (xs : List (ℕ × A)) (n low high : ℕ) → IsBetween xs n low high → high ≤ low → (a : A) → Has xs n a → ⊥
absent xs n low high b le a h = elim (dec_lt h.0 low) [ yes f ↦ (let g = b.below h.0 (n, a) f h.1 in omega (arith, g)) | no f ↦ (let le' : high ≤ h.0 = omega (arith, le, f) in let g = b.above h.0 (n, a) le' h.1 in omega (arith, g)) ]

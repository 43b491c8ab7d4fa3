-- Reads of lists after a push, a write or a `take`.
use Rattle.std.proofs.Common.{◌≡◌, ℕ, zero, suc, ◌+◌, ◌-◌, ◌<◌, ◌⊎◌, inl, inr, List, [], ◌∷◌, ◌++◌, length, take, drop, Some, slice_get, slice_set, refl, ap, ◌∙◌, arith}
use Rattle.std.proofs.lemmas.List.{take_all, length-drop}

-- an item after a push is one from before or the one that was pushed
pub pushed : {X : Type 0} → (xs : List X) (x a : X) (i : ℕ) → slice_get (xs ++ x ∷ []) i ≡ Some a → (slice_get xs i ≡ Some a) ⊎ ((i ≡ length xs) × (a ≡ x))
pushed [] x a zero e = let h : a ≡ x = cc in inr (refl, h)
pushed [] x a (suc i) e = absurd cc
pushed (y ∷ xs) x a zero e = inl e
pushed (y ∷ xs) x a (suc i) e = elim (pushed xs x a i e) [ inl h ↦ inl h | inr h ↦ let n : suc i ≡ length (y ∷ xs) = ap suc h.0 in inr (n, h.1) ]

-- an item of a beginning is one of the whole, before its end
pub taken : {X : Type 0} → (n : ℕ) (xs : List X) (a : X) (i : ℕ) → slice_get (take n xs) i ≡ Some a → (i < n) × (slice_get xs i ≡ Some a)
taken zero xs a i e = absurd cc
taken (suc n) [] a i e = absurd cc
taken (suc n) (y ∷ xs) a zero e = (omega arith, e)
taken (suc n) (y ∷ xs) a (suc i) e = let h : (i < n) × (slice_get xs i ≡ Some a) = taken n xs a i e in (omega arith, h.1)

-- an item that stands before the end of a beginning is in it
pub within_taken : {X : Type 0} → (n : ℕ) (xs : List X) (a : X) (i : ℕ) → i < n → slice_get xs i ≡ Some a → slice_get (take n xs) i ≡ Some a
within_taken zero xs a i h e = absurd (omega arith)
within_taken (suc n) [] a i h e = absurd cc
within_taken (suc n) (y ∷ xs) a zero h e = e
within_taken (suc n) (y ∷ xs) a (suc i) h e = within_taken n xs a i (omega arith) e

-- an item behind a place
pub dropped : {X : Type 0} → (n : ℕ) (xs : List X) (a : X) (i : ℕ) → slice_get (drop n xs) i ≡ Some a → slice_get xs (n + i) ≡ Some a
dropped zero xs a i e = let h : zero + i ≡ i = omega arith in rw h e
dropped (suc n) [] a i e = absurd cc
dropped (suc n) (y ∷ xs) a i e = let h : suc n + i ≡ suc (n + i) = omega arith in rw h (dropped n xs a i e)

-- an item after a write is one from before or the one that was written
pub written : {X : Type 0} → (xs : List X) (x a : X) (n i : ℕ) → slice_get (slice_set xs n x) i ≡ Some a → (slice_get xs i ≡ Some a) ⊎ ((i ≡ n) × (a ≡ x))
written [] x a n i e = inl e
written (y ∷ xs) x a zero zero e = let h : a ≡ x = cc in inr (refl, h)
written (y ∷ xs) x a zero (suc i) e = inl e
written (y ∷ xs) x a (suc n) zero e = inl e
written (y ∷ xs) x a (suc n) (suc i) e = elim (written xs x a n i e) [ inl h ↦ inl h | inr h ↦ inr (ap suc h.0, h.1) ]

-- one item stands at one place
pub same_item : {X : Type 0} → (xs : List X) (a b : X) (i : ℕ) → slice_get xs i ≡ Some a → slice_get xs i ≡ Some b → a ≡ b
same_item xs a b i p q = cc

-- there is an item at each place of a list
pub item_at : {X : Type 0} → (xs : List X) (i : ℕ) → i < length xs → (a : X) × (slice_get xs i ≡ Some a)
item_at [] i h = absurd (omega arith)
item_at (x ∷ xs) zero h = (x, refl)
item_at (x ∷ xs) (suc i) h = item_at xs i (omega arith)

-- the slice from a place to the end
pub slice_from : {X : Type 0} → (xs ys : List X) (n : ℕ) → ys ≡ xs → take (length ys - n) (drop n ys) ≡ drop n xs
slice_from xs ys n e = ap (λ z. take (length z - n) (drop n z)) e ∙ take_all (length xs - n) (drop n xs) (simp length-drop (omega arith))

-- Reads of lists after a push, a write or a `take`.
use Rattle.std.proofs.Common.{◌≡◌, ℕ, zero, suc, ◌+◌, ◌<◌, inl, inr, List, [], ◌∷◌, ◌++◌, length, take, Option, Some, None, slice_get, slice_set, refl, sym, ap, ◌∙◌, arith, is_some, true, false, get_or}
use Rattle.std.proofs.lemmas.List.{get_or_append_left, get_or_push, get_or_past, get_or-set_same, get_or-set_other, take_all, length-take-le}
use Rattle.std.proofs.lemmas.Option.{slice_get-get_or, get_or_from_slice_get}
use Rattle.std.proofs.lemmas.Bool.{cases_lt}
use native.Mathlib.Numerals.{unary_clauses}
use Rattle.mode_lattice.specs.declared.clause.Bit.{Bit}
use Rattle.mode_solver.specs.Graph.{entry}

-- an entry that is there stands within the list
pub entry_within : (xs : List (Option ℕ)) (i v : ℕ) → entry xs i ≡ Some v → i < length xs
entry_within xs i v e = elim (cases_lt i (length xs)) [ inl h ↦ h | inr h ↦ let n : entry xs i ≡ None = get_or_past xs i None h in absurd cc ]

pub entry-push_left : (xs ys : List (Option ℕ)) (i : ℕ) → i < length xs → entry (xs ++ ys) i ≡ entry xs i
entry-push_left xs ys i h = get_or_append_left xs ys None i h

pub entry-push_at : (xs : List (Option ℕ)) (y : Option ℕ) (i : ℕ) → i ≡ length xs → entry (xs ++ y ∷ []) i ≡ y
entry-push_at xs y i h = get_or_push xs y None i (sym h)

pub entry-set_same : (xs : List (Option ℕ)) (i : ℕ) (v : Option ℕ) → i < length xs → entry (slice_set xs i v) i ≡ v
entry-set_same xs i v h = get_or-set_same xs i v None h

pub entry-set_other : (xs : List (Option ℕ)) (i j : ℕ) (v : Option ℕ) → (j ≡ i → ⊥) → entry (slice_set xs i v) j ≡ entry xs j
entry-set_other xs i j v h = get_or-set_other xs i j v None h

-- bits of one number are the same
pub same_bit : (a b : Bit) → a.0 ≡ b.0 → a ≡ b
same_bit a b e = let make : ℕ → Bit = λ n. record { 0 = n } in ap make e

-- the beginnings of a list
pub take-last : {X : Type 0} → (n : ℕ) (xs : List X) (x : X) → slice_get xs n ≡ Some x → take (n + 1) xs ≡ take n xs ++ x ∷ []
take-last zero [] x e = absurd cc
take-last zero (y ∷ xs) x e = let h : y ≡ x = cc in ap (λ z. z ∷ []) h
take-last (suc n) [] x e = absurd cc
take-last (suc n) (y ∷ xs) x e = simp unary_clauses (ap (λ z. y ∷ z) (simp unary_clauses at (take-last n xs x e)))

-- an option that is some
pub some_of : (o : Option ℕ) → is_some o ≡ true → (v : ℕ) × (o ≡ Some v)
some_of None e = let no' : ⊥ = cc in absurd no'
some_of (Some v) e = (v, refl)

pub none_of : (o : Option ℕ) → is_some o ≡ false → o ≡ None
none_of None e = refl
none_of (Some v) e = let no' : ⊥ = cc in absurd no'

-- what an index reads, as an item
pub slice_get-is : {X : Type 0} → (xs : List X) (i : ℕ) (d x : X) → i < length xs → get_or xs i d ≡ x → slice_get xs i ≡ Some x
slice_get-is xs i d x within e = slice_get-get_or xs i d within ∙ ap Some e

-- an item is what an index reads, whatever the default
pub not_item : {X : Type 0} → (xs : List X) (i : ℕ) (d x : X) → (get_or xs i d ≡ x → ⊥) → slice_get xs i ≡ Some x → ⊥
not_item xs i d x h e = h (get_or_from_slice_get xs i x d e)

-- a list is its beginning and its last item
pub split_last : {X : Type 0} → (xs : List X) (n : ℕ) (x : X) → length xs ≡ n + 1 → slice_get xs n ≡ Some x → xs ≡ take n xs ++ x ∷ []
split_last xs n x count last = sym (take_all (n + 1) xs (omega arith)) ∙ take-last n xs x last

pub length_before_last : {X : Type 0} → (xs : List X) (n : ℕ) → length xs ≡ n + 1 → length (take n xs) ≡ n
length_before_last xs n count = length-take-le n xs (omega arith)

-- When a table obeys lists of clauses that are put together, and when such a list is closed.
use Rattle.std.proofs.Common.{ℕ, ◌+◌, inl, inr, Bool, List, [], ◌∷◌, ◌++◌, length, take, subst, ◌∙◌}
use Rattle.mode_lattice.specs.declared.clause.Clause.{Clause}
use Rattle.mode_lattice.specs.Clauses.{Holds, Obeys, IsBelow, IsClosed}
use Rattle.mode_lattice.proofs.Lists.{slice_get-append_left, slice_get-append_right, slice_get-append_cases, slice_get-push_cases, slice_get-take}

pub Obeys-nil : (t : ℕ → Bool) → Obeys t []
Obeys-nil t = record { each = λ i c h. let no_item : ⊥ = cc in absurd no_item }

pub Obeys-append : (t : ℕ → Bool) (xs ys : List Clause) → Obeys t xs → Obeys t ys → Obeys t (xs ++ ys)
Obeys-append t xs ys f g = record { each = λ i c h. elim (slice_get-append_cases xs ys i c h) [ inl left ↦ f.each i c left | inr right ↦ g.each right.0 c right.1 ] }

pub Obeys-left : (t : ℕ → Bool) (xs ys : List Clause) → Obeys t (xs ++ ys) → Obeys t xs
Obeys-left t xs ys f = record { each = λ i c h. f.each i c (slice_get-append_left xs ys i c h) }

pub Obeys-right : (t : ℕ → Bool) (xs ys : List Clause) → Obeys t (xs ++ ys) → Obeys t ys
Obeys-right t xs ys f = record { each = λ i c h. f.each (length xs + i) c (slice_get-append_right xs ys i ∙ h) }

pub Obeys-push : (t : ℕ → Bool) (xs : List Clause) (c : Clause) → Obeys t xs → Holds t c.form → Obeys t (xs ++ c ∷ [])
Obeys-push t xs c f holds = record {
  each = λ i d h.
      let P : Clause → Type 0 = λ x. Holds t x.form in
      elim (slice_get-push_cases xs c i d h) [ inl old ↦ f.each i d old | inr new ↦ subst P new.1 holds ];
}

pub Obeys-take : (t : ℕ → Bool) (n : ℕ) (xs : List Clause) → Obeys t xs → Obeys t (take n xs)
Obeys-take t n xs f = record { each = λ i c h. f.each i c (slice_get-take n xs i c h) }

pub IsClosed-nil : (bits : ℕ) → IsClosed (record { bits = bits; list = [] })
IsClosed-nil bits = record { each = λ i c h. let no_item : ⊥ = cc in absurd no_item }

pub IsClosed-push : (bits : ℕ) (xs : List Clause) (c : Clause) → IsClosed (record { bits = bits; list = xs }) → IsBelow bits c.form → IsClosed (record { bits = bits; list = xs ++ c ∷ [] })
IsClosed-push bits xs c closed below = record {
  each = λ i d h.
      let P : Clause → Type 0 = λ x. IsBelow bits x.form in
      elim (slice_get-push_cases xs c i d h) [ inl old ↦ closed.each i d old | inr new ↦ subst P new.1 below ];
}

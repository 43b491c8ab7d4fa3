-- Values with distinct ranks are a lattice, ordered by rank.
use Rattle.std.specs.Prelude.{◌≡◌, ℕ, ◌≤◌, ◌<◌, nat_le, cond}
use Rattle.std.proofs.Common.{arith, ◌⊎◌, inl, inr, refl}
use Rattle.std.proofs.lemmas.Bool.{cases_lt, le-leb, lt-leb, leb-true}
use Rattle.mode_lattice.specs.Lattices.{IsLattice}

join-is : {A : Type 0} (rank : A → ℕ) (a b : A) → ((rank a ≤ rank b) × (cond (nat_le (rank a) (rank b)) b a ≡ b)) ⊎ ((rank b < rank a) × (cond (nat_le (rank a) (rank b)) b a ≡ a))
join-is rank a b = elim (cases_lt (rank b) (rank a)) [
  | inl above ↦ inr (above, rw (lt-leb (rank a) (rank b) above) refl)
  | inr below ↦ inl (below, rw (le-leb (rank a) (rank b) below) refl)
]

meet-is : {A : Type 0} (rank : A → ℕ) (a b : A) → ((rank a ≤ rank b) × (cond (nat_le (rank a) (rank b)) a b ≡ a)) ⊎ ((rank b < rank a) × (cond (nat_le (rank a) (rank b)) a b ≡ b))
meet-is rank a b = elim (cases_lt (rank b) (rank a)) [
  | inl above ↦ inr (above, rw (lt-leb (rank a) (rank b) above) refl)
  | inr below ↦ inl (below, rw (le-leb (rank a) (rank b) below) refl)
]

pub IsLattice-ranked : {A : Type 0} (rank : A → ℕ) → ((a b : A) → rank a ≡ rank b → a ≡ b) → IsLattice (λ a b. nat_le (rank a) (rank b)) (λ a b. cond (nat_le (rank a) (rank b)) b a) (λ a b. cond (nat_le (rank a) (rank b)) a b)
IsLattice-ranked rank distinct = record {
  order = record {
    reflexive = λ a. le-leb (rank a) (rank a) (omega arith);
    transitive = λ a b c h i. le-leb (rank a) (rank c) (omega (arith, leb-true (rank a) (rank b) h, leb-true (rank b) (rank c) i));
    antisymmetric = λ a b h i. distinct a b (omega (arith, leb-true (rank a) (rank b) h, leb-true (rank b) (rank a) i));
  };
  joins = record {
    left = λ a b. elim (join-is rank a b) [ inl h ↦ rw h.1 (le-leb (rank a) (rank b) h.0) | inr h ↦ rw h.1 (le-leb (rank a) (rank a) (omega arith)) ];
    right = λ a b. elim (join-is rank a b) [ inl h ↦ rw h.1 (le-leb (rank b) (rank b) (omega arith)) | inr h ↦ rw h.1 (le-leb (rank b) (rank a) (omega (arith, h.0))) ];
    least = λ a b c h i. elim (join-is rank a b) [ inl j ↦ rw j.1 i | inr j ↦ rw j.1 h ];
  };
  meets = record {
    left = λ a b. elim (meet-is rank a b) [ inl h ↦ rw h.1 (le-leb (rank a) (rank a) (omega arith)) | inr h ↦ rw h.1 (le-leb (rank b) (rank a) (omega (arith, h.0))) ];
    right = λ a b. elim (meet-is rank a b) [ inl h ↦ rw h.1 (le-leb (rank a) (rank b) h.0) | inr h ↦ rw h.1 (le-leb (rank b) (rank b) (omega arith)) ];
    greatest = λ a b c h i. elim (meet-is rank a b) [ inl j ↦ rw j.1 h | inr j ↦ rw j.1 i ];
  };
}

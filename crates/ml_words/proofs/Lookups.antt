-- The first pair of a number in a list whose numbers rise is the one that the list has.
use Rattle.std.proofs.Common.{◌≡◌, ◌<◌, ◌≢◌, ℕ, zero, suc, List, [], ◌∷◌, Option, Some, None, slice_get, arith, refl, sym, ap, ◌∙◌}
use Rattle.std.proofs.Math.Decide.{ℕ_discrete}
use Rattle.ml_tree.specs.Rising.{Rises, Has}
use Rattle.ml_meaning.specs.Names.{lookup}

lookup_here : {A : Type 0} (x : ℕ × A) (xs : List (ℕ × A)) (n : ℕ) → x.0 ≡ n → lookup n (x ∷ xs) ≡ Some x.1
lookup_here x xs n e = grind arith

lookup_behind : {A : Type 0} (x : ℕ × A) (xs : List (ℕ × A)) (n : ℕ) → (x.0 ≢ n) → lookup n (x ∷ xs) ≡ lookup n xs
lookup_behind x xs n other = grind arith

found_at : {A : Type 0} (xs : List (ℕ × A)) (n k : ℕ) (a : A) → Rises xs → slice_get xs k ≡ Some (n, a) → lookup n xs ≡ Some a
found_at [] n k a rises e = absurd (let g : None ≡ Some (n, a) = e in cc)
found_at (x ∷ xs) n zero a rises e =
    let g : Some x ≡ Some (n, a) = e in
    let same : x ≡ (n, a) = cc in
    lookup_here x xs n (ap (λ p. p.0) same) ∙ ap (λ p. Some p.1) same
found_at (x ∷ xs) n (suc k) a rises e =
    let less : x.0 < n = rises 0 (suc k) x (n, a) (omega arith) refl e in
    lookup_behind x xs n (omega (arith, less))
    ∙ found_at xs n k a (λ i j p q lt f g. rises (suc i) (suc j) p q (omega (arith, lt)) f g) e

pub found_is_lookup : {A : Type 0} (xs : List (ℕ × A)) (n : ℕ) (a : A) → Rises xs → Has xs n a → Some a ≡ lookup n xs
found_is_lookup xs n a rises h = sym (found_at xs n h.0 a rises h.1)

pair_is : {A : Type 0} (x : ℕ × A) (n : ℕ) (a : A) → x.0 ≡ n → x.1 ≡ a → Some x ≡ Some (n, a)
pair_is x n a e f = λ i. Some (e i, f i)

in_list : {A : Type 0} (xs : List (ℕ × A)) (n : ℕ) (a : A) → lookup n xs ≡ Some a → Has xs n a
in_list [] n a e = absurd (let g : None ≡ Some a = e in cc)
in_list (x ∷ xs) n a e = elim (ℕ_discrete x.0 n) [
  | yes same ↦ (0, (let f : Some x.1 ≡ Some a = sym (lookup_here x xs n same) ∙ e in let g : x.1 ≡ a = cc in pair_is x n a same g))
  | no other ↦ (let h : Has xs n a = in_list xs n a (sym (lookup_behind x xs n other) ∙ e) in (suc h.0, h.1))
]

none_by : {A : Type 0} (xs : List (ℕ × A)) (n : ℕ) (o : Option A) → lookup n xs ≡ o → ((a : A) → Has xs n a → ⊥) → None ≡ o
none_by xs n None e none = refl
none_by xs n (Some a) e none = absurd (none a (in_list xs n a e))

pub none_is_lookup : {A : Type 0} (xs : List (ℕ × A)) (n : ℕ) → ((a : A) → Has xs n a → ⊥) → None ≡ lookup n xs
none_is_lookup xs n none = none_by xs n (lookup n xs) refl none

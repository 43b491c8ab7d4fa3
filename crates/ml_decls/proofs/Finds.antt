-- Looking a number up in a list of pairs whose numbers rise.
use Rattle.std.proofs.Common.{◌≡◌, ℕ, zero, suc, ◌<◌, List, [], ◌∷◌, Option, Some, None, slice_get, true, false, cond, nat_eq, eqb, refl, sym, ap, ◌∙◌, subst, ⊎_elim, arith, IfSome, IfNone}
use Rattle.std.proofs.lemmas.Bool.Decides.{eqb_tells}
use Rattle.ml_tree.specs.Rising.{Rises, Has}
use Rattle.ml_decls.specs.Lists.{find}

found_first : {A : Type 0} → (p : ℕ × A) (ps : List (ℕ × A)) (n : ℕ) → nat_eq p.0 n ≡ true → find (p ∷ ps) n ≡ Some p.1
found_first p ps n e = ap (λ b. cond b (Some p.1) (find ps n)) e

found_later : {A : Type 0} → (p : ℕ × A) (ps : List (ℕ × A)) (n : ℕ) → nat_eq p.0 n ≡ false → find (p ∷ ps) n ≡ find ps n
found_later p ps n e = ap (λ b. cond b (Some p.1) (find ps n)) e

find_some : {A : Type 0} → (xs : List (ℕ × A)) (n : ℕ) (a : A) (k : ℕ) → Rises xs → slice_get xs k ≡ Some (n, a) → find xs n ≡ Some a
find_some [] n a k r e = absurd cc
find_some {A = A} (p ∷ ps) n a zero r e =
    let same : p ≡ (n, a) = cc in
    let number : p.0 ≡ n = ap (λ (z : ℕ × A). z.0) same in
    let value : p.1 ≡ a = ap (λ (z : ℕ × A). z.1) same in
    ⊎_elim
    (λ (h : (eqb p.0 n ≡ true) × (p.0 ≡ n)). found_first p ps n h.0 ∙ ap Some value)
    (λ (h : (eqb p.0 n ≡ false) × (p.0 ≡ n → ⊥)). absurd (h.1 number))
    (eqb_tells p.0 n)
find_some (p ∷ ps) n a (suc k) r e =
    let less : p.0 < n = r 0 (suc k) p (n, a) (omega arith) refl e in
    let rest : Rises ps = λ i j x y h u v. r (suc i) (suc j) x y (omega arith) u v in
    ⊎_elim
    (λ (h : (eqb p.0 n ≡ true) × (p.0 ≡ n)). let q : p.0 ≡ n = h.1 in absurd (omega arith))
    (λ (h : (eqb p.0 n ≡ false) × (p.0 ≡ n → ⊥)). found_later p ps n h.0 ∙ find_some ps n a k rest e)
    (eqb_tells p.0 n)

find_none : {A : Type 0} → (xs : List (ℕ × A)) (n : ℕ) → ((a : A) (k : ℕ) → slice_get xs k ≡ Some (n, a) → ⊥) → find xs n ≡ None
find_none [] n h = refl
find_none {A = A} (p ∷ ps) n h =
    ⊎_elim
    (λ (q : (eqb p.0 n ≡ true) × (p.0 ≡ n)). let make : ℕ → ℕ × A = λ z. (z, p.1) in absurd (h p.1 0 (ap (λ z. Some (make z)) q.1)))
    (λ (q : (eqb p.0 n ≡ false) × (p.0 ≡ n → ⊥)). found_later p ps n q.0 ∙ find_none ps n (λ a k e. h a (suc k) e))
    (eqb_tells p.0 n)

pub is_find : {A : Type 0} → (o : Option A) (xs : List (ℕ × A)) (n : ℕ) → Rises xs → IfSome o (Has xs n) → IfNone o ((a : A) → Has xs n a → ⊥) → o ≡ find xs n
is_find None xs n r s none = sym (find_none xs n (λ a k e. none a (k, e)))
is_find (Some a) xs n r s none = sym (find_some xs n a s.0 r s.1)

pub rises_one : {A : Type 0} → (p : ℕ × A) (xs : List (ℕ × A)) → xs ≡ p ∷ [] → Rises xs
rises_one {A = A} p xs e = subst (λ (z : List (ℕ × A)). Rises z) (sym e) one
  where
    one : Rises (p ∷ [])
    one zero zero x y h u v = absurd (omega arith)
    one zero (suc j) x y h u v = absurd cc
    one (suc i) j x y h u v = absurd cc

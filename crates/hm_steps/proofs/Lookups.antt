-- What is found in a list in the order of its numbers.
use Rattle.std.proofs.Common.{◌≡◌, ℕ, zero, suc, ◌<◌, true, false, cond, eqb, List, [], ◌∷◌, Option, Some, None, IfSome, IfNone, slice_get, refl, sym, ap, ◌∙◌, ⊎_elim, arith}
use Rattle.std.proofs.lemmas.Bool.{eq-eqb}
use Rattle.std.proofs.lemmas.Bool.Decides.{eqb_tells}
use Rattle.ml_tree.specs.Rising.{Rises, Has}
use Rattle.ml_typing.specs.Typing.{find}

-- the tail of a list whose numbers rise
rises_tail : {A : Type 0} (p : ℕ × A) (ps : List (ℕ × A)) → Rises (p ∷ ps) → Rises ps
rises_tail p ps rise = λ i j q r below at_i at_j. rise (suc i) (suc j) q r (omega arith) at_i at_j

passed : {A : Type 0} (m n : ℕ) (a b : Option A) → m < n → cond (eqb m n) a b ≡ b
passed m n a b less = ⊎_elim
    (λ (e : (eqb m n ≡ true) × (m ≡ n)). absurd (omega (arith, less, e.1)))
    (λ (e : (eqb m n ≡ false) × (m ≡ n → ⊥)). ap (λ c. cond c a b) e.0)
    (eqb_tells m n)

reached : {A : Type 0} (m n : ℕ) (a b : Option A) → m ≡ n → cond (eqb m n) a b ≡ a
reached m n a b same = ap (λ c. cond c a b) (eq-eqb m n same)

find_at : {A : Type 0} (xs : List (ℕ × A)) (k n : ℕ) (a : A) → Rises xs → slice_get xs k ≡ Some (n, a) → find xs n ≡ Some a
find_at [] k n a rise at = cc
find_at {A} (p ∷ ps) zero n a rise at =
    let e : p ≡ (n, a) = cc in
    reached p.0 n (Some p.1) (find ps n) (ap (λ (q : ℕ × A). q.0) e) ∙ ap (λ (q : ℕ × A). Some q.1) e
find_at (p ∷ ps) (suc k) n a rise at =
    passed p.0 n (Some p.1) (find ps n) (rise zero (suc k) p (n, a) (omega arith) refl at) ∙ find_at ps k n a (rises_tail p ps rise) at

find_has : {A : Type 0} (xs : List (ℕ × A)) (n : ℕ) (a : A) → Rises xs → Has xs n a → find xs n ≡ Some a
find_has xs n a rise has = find_at xs has.0 n a rise has.1

find_none : {A : Type 0} (xs : List (ℕ × A)) (n : ℕ) → ((a : A) → Has xs n a → ⊥) → find xs n ≡ None
find_none [] n none = refl
find_none (p ∷ ps) n none = ⊎_elim
    (λ (e : (eqb p.0 n ≡ true) × (p.0 ≡ n)). absurd (none p.1 (0, ap (λ (m : ℕ). Some (m, p.1)) e.1)))
    (λ (e : (eqb p.0 n ≡ false) × (p.0 ≡ n → ⊥)). ap (λ c. cond c (Some p.1) (find ps n)) e.0 ∙ find_none ps n (λ a has. none a (suc has.0, has.1)))
    (eqb_tells p.0 n)

pub find_is : {A : Type 0} (xs : List (ℕ × A)) (n : ℕ) (o : Option A) → Rises xs → IfSome o (Has xs n) → IfNone o ((a : A) → Has xs n a → ⊥) → o ≡ find xs n
find_is xs n None rise some none = sym (find_none xs n none)
find_is xs n (Some a) rise some none = sym (find_has xs n a rise some)

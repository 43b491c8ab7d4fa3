-- A list numbered in a loop: what is done, and what the rest gives from the next numbers on.
use Rattle.std.proofs.Common.{◌≡◌, ℕ, suc, ◌+◌, ◌<◌, ◌≤◌, List, [], ◌∷◌, ◌++◌, map, length, get_or, drop, sym, ap, ◌∙◌, add-one, drop-cons}
use Rattle.std.proofs.lemmas.List.{append_assoc, append-nil, drop_all}
use Rattle.ml_numbers.specs.declared.next.Next.{Next}
use Rattle.ml_numbers.specs.Steps.{Step, each}

abbrev pub onto : {A : Type 0} → List A → List A × Next → List A × Next
onto ready r = (ready ++ r.0, r.1)

first : {A : Type 0} (f : A → Step A) (x y : A) (xs : List A) (n m : Next) → f x n ≡ (y, m) → each (map f (x ∷ xs)) n ≡ ((y ∷ (each (map f xs) m).0), (each (map f xs) m).1)
first f x y xs n m e = ap (λ (r : _ × Next). ((r.0 ∷ (each (map f xs) r.1).0), (each (map f xs) r.1).1)) e

split : {A : Type 0} (xs : List A) (i : ℕ) (x : A) → i < length xs → x ≡ get_or xs i x → drop i xs ≡ x ∷ drop (i + 1) xs
split xs i x lt e = rw add-one (drop-cons xs i x lt ∙ ap (λ z. z ∷ drop (suc i) xs) (sym e))

pub each_step : {A : Type 0} (f : A → Step A) (xs : List A) (i : ℕ) (x y : A) (n m : Next) (old new : List A) (all : List A × Next) → i < length xs → x ≡ get_or xs i x → f x n ≡ (y, m) → new ≡ old ++ y ∷ [] → onto old (each (map f (drop i xs)) n) ≡ all → onto new (each (map f (drop (i + 1) xs)) m) ≡ all
each_step f xs i x y n m old new all lt is e grown h =
    let rest = each (map f (drop (i + 1) xs)) m in
    let here = ap (λ zs. onto old (each (map f zs) n)) (split xs i x lt is) ∙ ap (onto old) (first f x y (drop (i + 1) xs) n m e) in
    ap (λ ys. onto ys rest) grown ∙ (ap (λ ys. (ys, rest.1)) (append_assoc old (y ∷ []) rest.0) ∙ (sym here ∙ h))

pub each_end : {A : Type 0} (f : A → Step A) (xs : List A) (i : ℕ) (n : Next) (ready : List A) (all : List A × Next) → length xs ≤ i → onto ready (each (map f (drop i xs)) n) ≡ all → all ≡ (ready, n)
each_end f xs i n ready all le h = sym h ∙ (ap (λ zs. onto ready (each (map f zs) n)) (drop_all i xs le) ∙ ap (λ ys. (ys, n)) (append-nil ready))

-- A loop that counts up to the greatest number of 64 bits.
use Rattle.std.proofs.Common.{◌≡◌, ◌+◌, ◌-◌, ◌^◌, ◌≤◌, ℕ, List, length, min, sum, map, drop, ap, arith}
use Rattle.std.proofs.lemmas.List.{drop_all}
use Rattle.ml_functions.specs.Parts.{counted}

-- the total so far and what is left give the whole, as far as 64 bits count
abbrev pub CountsOn : ℕ → ℕ → ℕ → Type 0
CountsOn total rest whole = min (total + rest) (2 ^ 64 - 1) ≡ min whole (2 ^ 64 - 1)

pub counts_end : {A : Type 0} (f : A → ℕ) (xs : List A) (i total : ℕ) → length xs ≤ i → total ≤ 2 ^ 64 - 1 → CountsOn total (sum (map f (drop i xs))) (sum (map f xs)) → total ≡ counted (sum (map f xs))
counts_end f xs i total le fits e =
    let none : sum (map f (drop i xs)) ≡ 0 = ap (λ ys. sum (map f ys)) (drop_all i xs le) in
    omega (arith, none, fits, e)

-- two counts added give the count of both
pub counts_both : (k a b x y r : ℕ) → k ≡ a + b → x ≡ counted a → y ≡ counted b → r ≡ min (x + y) (2 ^ 64 - 1) → r ≡ counted k
counts_both k a b x y r whole one other sum_is = omega (arith, whole, one, other, sum_is)

-- The order of texts is that of slices of bytes.
use Rattle.std.proofs.Common.{◌≡◌, ℕ, List, [], ◌∷◌, refl, ap}
use Rattle.std.specs.declared.cmp.Ordering.{Ordering}
use Rattle.std.specs.Ordering.{nat_cmp, ordering_then}
use Rattle.std.specs.Cmp.Lexicographic.{slice_cmp}
use Rattle.ml_meaning.specs.Comparing.{text_order}

pub order_is : (xs ys : List ℕ) → slice_cmp nat_cmp xs ys ≡ text_order xs ys
order_is [] [] = refl
order_is [] (y ∷ ys) = refl
order_is (x ∷ xs) [] = refl
order_is (x ∷ xs) (y ∷ ys) = ap (ordering_then (nat_cmp x y)) (order_is xs ys)

pub order_as_slices : (xs ys : List ℕ) (r : Ordering) → r ≡ slice_cmp nat_cmp xs ys → r ≡ text_order xs ys
order_as_slices xs ys r e = rw (← order_is xs ys) e

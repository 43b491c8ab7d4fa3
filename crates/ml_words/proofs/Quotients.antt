-- The quotient of two numbers of 64 bits fits 128 bits.
use Rattle.std.proofs.Common.{◌≡◌, ℕ, zero, suc, ◌<◌, ◌≤◌, ◌/◌, ◌^◌, ℤ, pos, negsuc, neg_ℤ, int_div, unsigned_abs, FitsSigned, w64, to_z, of_z, to_z-of_z, div-le_self, arith, refl, subst, sym, ap₂, ◌∙◌}
use Rattle.std.specs.Int.{w128}
use Rattle.std.proofs.lemmas.Int.{fits_signed_from_abs, quot_is}

neg_abs : (n : ℕ) → unsigned_abs (neg_ℤ (pos n)) ≡ n
neg_abs zero = refl
neg_abs (suc n) = refl

quotient_abs : (a b : ℤ) → unsigned_abs (int_div a b) ≤ unsigned_abs a
quotient_abs (pos a) (pos b) = div-le_self a b
quotient_abs (pos a) (negsuc b) = subst (λ n. n ≤ a) (sym (neg_abs (a / suc b))) (div-le_self a (suc b))
quotient_abs (negsuc a) (pos b) = subst (λ n. n ≤ suc a) (sym (neg_abs (suc a / b))) (div-le_self (suc a) b)
quotient_abs (negsuc a) (negsuc b) = div-le_self (suc a) (suc b)

abs_below : (a : ℤ) → FitsSigned w64 a → unsigned_abs a ≤ 2 ^ 63
abs_below (pos n) f = let h : n < 2 ^ 63 = f.sfits in omega (arith, h)
abs_below (negsuc n) f = let h : n < 2 ^ 63 = f.sfits in omega (arith, h)

fits_wide : (a : ℤ) (n : ℕ) → unsigned_abs a ≤ n → n ≤ 2 ^ 63 → FitsSigned w128 a
fits_wide a n le bound = fits_signed_from_abs w128 a (omega (arith, le, bound))

pub quotient_is : (a b : ℤ) → FitsSigned w64 a → FitsSigned w64 b → to_z w128 (of_z w128 (int_div (to_z w128 (of_z w128 (to_z w64 (of_z w64 a)))) (to_z w128 (of_z w128 (to_z w64 (of_z w64 b)))))) ≡ int_div a b
quotient_is a b f g =
    ap₂ (λ (x y : ℤ). to_z w128 (of_z w128 (int_div (to_z w128 (of_z w128 x)) (to_z w128 (of_z w128 y))))) (to_z-of_z f) (to_z-of_z g)
    ∙ quot_is w128 a b (fits_wide a _ (abs_below a f) (omega arith)) (fits_wide b _ (abs_below b g) (omega arith)) (fits_wide (int_div a b) (unsigned_abs a) (quotient_abs a b) (abs_below a f))

-- Quotients that fit, and remainders that always do.
use Rattle.std.proofs.Common.{ℕ, zero, suc, ◌+◌, ◌-◌, ◌*◌, ◌<◌, ◌≤◌, ◌^◌, ◌≡◌, inl, inr, false, ℤ, pos, negsuc, FitsSigned, unsigned_abs, nat_le, eqb, ◌≢◌, int_div, int_rem, Option, None, refl, ap, ◌∙◌, arith}
use Rattle.std.specs.Int.{w64, w128, cast_signed, cast_unsigned}
use Rattle.std.proofs.lemmas.Int.{fits_signed_from_abs, rem_below}
use Rattle.std.proofs.lemmas.Bool.Decides.{nat_tests, leb_tells}
use Rattle.x64_table.specs.Machine.{fitting, divided}

far : (q : ℤ) → (FitsSigned w128 q → ⊥) → 2 ^ 127 ≤ unsigned_abs q
far q h =
    elim (leb_tells (2 ^ 127) (unsigned_abs q)) [
      | inl w ↦ w.1
      | inr w ↦ absurd (h (fits_signed_from_abs w128 q w.1))
    ]

above : (n m : ℕ) → m < n → nat_le n m ≡ false
above n m h = grind (arith, nat_tests)

-- a quotient that does not fit 128 bits does not fit 64
pub no_quotient : (q r : ℤ) → (FitsSigned w128 q → ⊥) → fitting q r ≡ None
no_quotient (pos n) r h =
    let e = far (pos n) h in rw (above n (2 ^ 63 - 1) (omega arith)) refl
no_quotient (negsuc n) r h =
    let e = far (negsuc n) h in rw (above n (2 ^ 63 - 1) (omega arith)) refl

not_zero : (n : ℕ) → n ≢ 0 → eqb n 0 ≡ false
not_zero n h = grind (arith, nat_tests)

-- what the code's steps come to
pub divided_is : (high low by : ℕ) (a d q r : ℤ) (o : Option (ℕ × ℕ)) → by ≢ 0 → a ≡ cast_signed w128 (high * 2 ^ 64 + low) → d ≡ cast_signed w64 by → q ≡ int_div a d → r ≡ int_rem a d → o ≡ fitting q r → o ≡ divided high low by
divided_is high low by a d q r o h ea ed eq er eo =
    eo ∙ rw (eq, er, ea, ed, not_zero by h) refl

abs_at_most : (z : ℤ) → FitsSigned w64 z → unsigned_abs z ≤ 2 ^ 63
abs_at_most (pos n) f = omega (arith, f)
abs_at_most (negsuc n) f = omega (arith, f)

abs_some : (d : ℤ) → 0 < cast_unsigned w128 d → 0 < unsigned_abs d
abs_some (pos zero) h = absurd (omega arith)
abs_some (pos (suc n)) h = omega arith
abs_some (negsuc n) h = omega arith

-- a remainder fits wherever the divisor does
pub remainder_fits : (a d r : ℤ) → FitsSigned w64 d → 0 < cast_unsigned w128 d → r ≡ int_rem a d → FitsSigned w64 r
remainder_fits a d r f some e =
    let h = rem_below a d (abs_some d some) in
    let k = abs_at_most d f in
    let m = ap unsigned_abs e in
    fits_signed_from_abs w64 r (omega arith)

-- The answers to a write of len bytes, by what the program does then.
use Rattle.std.proofs.Common.{ℕ, zero, suc, ◌+◌, ◌-◌, ◌≤◌, ◌<◌, ◌^◌, ◌≡◌, ◌≢◌, Bool, true, false, ℤ, pos, negsuc, refl, ap, ◌∙◌, arith, nat_le, nat_lt, eqb, FitsSigned}
use Rattle.std.specs.Int.{w64, cast_unsigned}
use Rattle.std.proofs.lemmas.Int.{ints}
use Rattle.std.proofs.lemmas.Bool.{leb-true}
use Rattle.std.proofs.lemmas.Bool.Decides.{nat_tests}
use Rattle.x64_table.specs.Machine.{is_met, difference_64, difference_flags, flags_of}
use Rattle.x64_table.specs.declared.instr.Cond.TheVariants.{E, NE, A}
use Rattle.x64_table.specs.Kernel.{is_good, taken}

pub data Answer (n : ℤ) (len : ℕ) : Type 0 where
  -- a signal broke the write off
  Again : cast_unsigned w64 n ≡ 0xffff_ffff_ffff_fffc → is_good n len ≡ true → taken n len ≡ 0 → Answer n len
  -- a part of the bytes is taken, and all of them
  Part : (m : ℕ) → cast_unsigned w64 n ≡ m → is_good n len ≡ true → taken n len ≡ m → 1 ≤ m → m < len → Answer n len
  Whole : cast_unsigned w64 n ≡ len → is_good n len ≡ true → taken n len ≡ len → Answer n len
  -- nothing is taken, and what the program then sees as a number without sign is 0, or above len
  Nothing : cast_unsigned w64 n ≡ 0 → is_good n len ≡ false → taken n len ≡ 0 → Answer n len
  Refusal : (x : ℕ) → cast_unsigned w64 n ≡ x → is_good n len ≡ false → taken n len ≡ 0 → len < x → x < 2 ^ 64 → x ≢ 0xffff_ffff_ffff_fffc → Answer n len

bits_pos : (m : ℕ) → FitsSigned w64 (pos m) → (m < 2 ^ 63) × (cast_unsigned w64 (pos m) ≡ m)
bits_pos m f = (omega (arith, ints), omega (arith, ints))

bits_neg : (k : ℕ) → FitsSigned w64 (negsuc k) → (k < 2 ^ 63) × (cast_unsigned w64 (negsuc k) ≡ 2 ^ 64 - (k + 1))
bits_neg k f = (omega (arith, ints), omega (arith, ints))

le_not : (a b : ℕ) → nat_le a b ≡ false → b < a
le_not a b h = grind (arith, nat_tests)

eq_not : (a b : ℕ) → eqb a b ≡ false → a ≢ b
eq_not a b h = grind (arith, nat_tests)

eq_is : (a b : ℕ) → eqb a b ≡ true → a ≡ b
eq_is a b h = grind (arith, nat_tests)

lt_true : (a b : ℕ) → a < b → nat_lt a b ≡ true
lt_true a b h = grind (arith, nat_tests)

le_true : (a b : ℕ) → a ≤ b → nat_le a b ≡ true
le_true a b h = grind (arith, nat_tests)

good : (m len : ℕ) → suc m ≤ len → is_good (pos (suc m)) len ≡ true
good m len inside = rw (lt_true 0 (suc m) (omega arith), le_true (suc m) len inside) refl

takes : (m len : ℕ) → m ≤ len → taken (pos m) len ≡ m
takes m len inside = rw (le_true m len inside) refl

within : (m len : ℕ) (b : Bool) → eqb (suc m) len ≡ b → suc m ≤ len → FitsSigned w64 (pos (suc m)) → Answer (pos (suc m)) len
within m len true whole inside f =
    let e = eq_is _ _ whole in
    Whole ((bits_pos (suc m) f).1 ∙ e) (good m len inside) (takes (suc m) len inside ∙ e)
within m len false some inside f =
    let other = eq_not _ _ some in
    Part (suc m) (bits_pos (suc m) f).1 (good m len inside) (takes (suc m) len inside) (omega arith) (omega (arith, inside, other))

pub good_whole : (len : ℕ) → 1 ≤ len → is_good (pos len) len ≡ true
good_whole len some = rw (lt_true 0 len some, le_true len len (omega arith)) refl

pub takes_whole : (len : ℕ) → taken (pos len) len ≡ len
takes_whole len = takes len len (omega arith)

positive : (m len : ℕ) (b : Bool) → nat_le (suc m) len ≡ b → FitsSigned w64 (pos (suc m)) → len < 2 ^ 62 → Answer (pos (suc m)) len
positive m len true fits f short = within m len _ refl (leb-true _ _ fits) f
positive m len false above f short =
    let bits = bits_pos (suc m) f in
    let over = le_not _ _ above in
    let some : nat_lt 0 (suc m) ≡ true = lt_true _ _ (omega arith) in
    Refusal (suc m) bits.1 (rw (some, above) refl) (rw above refl) over (omega (arith, bits.0)) (omega (arith, bits.0))

negative : (k len : ℕ) (b : Bool) → eqb k 3 ≡ b → FitsSigned w64 (negsuc k) → len < 2 ^ 62 → Answer (negsuc k) len
negative k len true is_3 f short =
    let e = eq_is k 3 is_3 in
    let bits = bits_neg k f in
    Again (bits.1 ∙ ap (λ n. 2 ^ 64 - (n + 1)) e) is_3 refl
negative k len false is_not f short =
    let bits = bits_neg k f in
    let other = eq_not k 3 is_not in
    Refusal (2 ^ 64 - (k + 1)) bits.1 is_not refl (omega (arith, bits.0)) (omega (arith, bits.0)) (omega (arith, bits.0))

pub answer_of : (n : ℤ) (len : ℕ) → FitsSigned w64 n → len < 2 ^ 62 → Answer n len
answer_of (pos zero) len f short =
    Nothing (bits_pos 0 f).1 refl (rw (le_true 0 len (omega arith)) refl)
answer_of (pos (suc m)) len f short = positive m len _ refl f short
answer_of (negsuc k) len f short = negative k len _ refl f short

-- ---- the program's tests

-- rax against -4
pub again_met : is_met E (difference_flags 0xffff_ffff_ffff_fffc (cast_unsigned w64 (negsuc 3))) ≡ true
again_met = refl

pub again_not : (x : ℕ) → x < 2 ^ 64 → x ≢ 0xffff_ffff_ffff_fffc → is_met E (difference_flags x (cast_unsigned w64 (negsuc 3))) ≡ false
again_not x small other = let e : difference_64 x 0xffff_ffff_ffff_fffc ≢ 0 = omega arith in grind (arith, nat_tests)

pub some_not : (x : ℕ) → 1 ≤ x → is_met E (flags_of x) ≡ false
some_not x some = grind (arith, nat_tests)

pub above_met : (x len : ℕ) → len < x → x < 2 ^ 64 → is_met A (difference_flags x len) ≡ true
above_met x len above small =
    let e : difference_64 x len ≢ 0 = omega arith in
    let le : len ≤ x = omega arith in
    grind (arith, nat_tests)

pub above_not : (x len : ℕ) → x ≤ len → len < 2 ^ 64 → is_met A (difference_flags x len) ≡ false
above_not x len within small = grind (arith, nat_tests)

pub rest_met : (len x : ℕ) → x < len → len < 2 ^ 64 → is_met NE (difference_flags len x) ≡ true
rest_met len x part small = let e : difference_64 len x ≢ 0 = omega arith in grind (arith, nat_tests)

pub rest_not : (len : ℕ) → len < 2 ^ 64 → is_met NE (difference_flags len len) ≡ false
rest_not len small = let e : difference_64 len len ≡ 0 = omega arith in grind (arith, nat_tests)

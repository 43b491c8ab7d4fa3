-- Each format of an instruction gives its operands back.
use Rattle.std.proofs.Common.{ℕ, ◌+◌, ◌*◌, ◌/◌, ◌%◌, ◌<◌, ◌≡◌, ◌≢◌, Bool, true, false, cond, eqb, List, ◌∷◌, ◌++◌, ℤ, FitsSigned, ap, ◌∙◌, arith}
use Rattle.std.specs.Int.{w32, from_le_bytes, cast_signed, cast_unsigned}
use Rattle.std.proofs.lemmas.Int.{to_z-of_z}
use Rattle.std.proofs.lemmas.Nat.{from_le_bytes-to_le_bytes_4}
use Rattle.std.proofs.Math.Facts.{Fits-of_z}
use Rattle.std.proofs.lemmas.Bool.Decides.{nat_tests}
use Rattle.x64_table.specs.Encoding.{rex_w, rex_n, direct, signed_4, memory, register, signed_at, displacement}

-- ---- tests on bytes, decided

pub yes : (a b : ℕ) → a ≡ b → eqb a b ≡ true
yes a b h = grind (arith, nat_tests)

pub no : (a b : ℕ) → a ≢ b → eqb a b ≡ false
no a b h = grind (arith, nat_tests)

pub rex_w-first : (r b : ℕ) → r < 16 → b < 16 → eqb (rex_w r b / 16) 4 ≡ true
rex_w-first r b hr hb = yes _ _ (omega arith)

pub rex_n-first : (r b : ℕ) → r < 16 → b < 16 → eqb (rex_n r b / 16) 4 ≡ true
rex_n-first r b hr hb = yes _ _ (omega arith)

-- ---- the two registers

pub field_r : (p q r b : ℕ) → p % 8 ≡ 0 → q % 64 ≡ 0 → r < 16 → b < 16 → register ((p + (4 * (r / 8) + b / 8)) / 4) ((q + (8 * (r % 8) + b % 8)) / 8) ≡ r
field_r p q r b hp hq hr hb = omega arith

pub field_b : (p q r b : ℕ) → p % 8 ≡ 0 → q % 64 ≡ 0 → r < 16 → b < 16 → register (p + (4 * (r / 8) + b / 8)) (q + (8 * (r % 8) + b % 8)) ≡ b
field_b p q r b hp hq hr hb = omega arith

pub extension : (k b : ℕ) → k < 8 → direct k b / 8 % 8 ≡ k
extension k b hk = omega arith

pub direct-mode : (r b : ℕ) → eqb (direct r b / 64) 3 ≡ true
direct-mode r b = yes _ _ (omega arith)

pub memory-mode : (r b : ℕ) → eqb ((128 + (8 * (r % 8) + b % 8)) / 64) 3 ≡ false
memory-mode r b = no _ _ (omega arith)

-- ---- numbers

pub signed_back : (z : ℤ) → FitsSigned w32 z → cast_signed w32 (from_le_bytes w32 (signed_4 z)) ≡ z
signed_back z f =
    let fits = Fits-of_z f in
    ap (cast_signed w32) (from_le_bytes-to_le_bytes_4 (cast_unsigned w32 z) (omega (arith, fits))) ∙ to_z-of_z w32 z f

displaced_2 : (t : Bool) (a b m : ℕ) (z : ℤ) (rest : List ℕ) → FitsSigned w32 z → cond t (signed_at (a ∷ b ∷ m ∷ (cond t (36 ∷ signed_4 z) (signed_4 z) ++ rest)) 4) (signed_at (a ∷ b ∷ m ∷ (cond t (36 ∷ signed_4 z) (signed_4 z) ++ rest)) 3) ≡ z
displaced_2 true a b m z rest f = signed_back z f
displaced_2 false a b m z rest f = signed_back z f

displaced_3 : (t : Bool) (a b c m : ℕ) (z : ℤ) (rest : List ℕ) → FitsSigned w32 z → cond t (signed_at (a ∷ b ∷ c ∷ m ∷ (cond t (36 ∷ signed_4 z) (signed_4 z) ++ rest)) 5) (signed_at (a ∷ b ∷ c ∷ m ∷ (cond t (36 ∷ signed_4 z) (signed_4 z) ++ rest)) 4) ≡ z
displaced_3 true a b c m z rest f = signed_back z f
displaced_3 false a b c m z rest f = signed_back z f

low_bits : (r b : ℕ) → (128 + (8 * (r % 8) + b % 8)) % 8 ≡ b % 8
low_bits r b = omega arith

pub displacement_2 : (a b r base : ℕ) (z : ℤ) (rest : List ℕ) → FitsSigned w32 z → displacement (a ∷ b ∷ (memory r base z ++ rest)) 2 ≡ z
displacement_2 a b r base z rest f =
    rw (low_bits r base) (displaced_2 (eqb (base % 8) 4) a b (128 + (8 * (r % 8) + base % 8)) z rest f)

pub displacement_3 : (a b c r base : ℕ) (z : ℤ) (rest : List ℕ) → FitsSigned w32 z → displacement (a ∷ b ∷ c ∷ (memory r base z ++ rest)) 3 ≡ z
displacement_3 a b c r base z rest f =
    rw (low_bits r base) (displaced_3 (eqb (base % 8) 4) a b c (128 + (8 * (r % 8) + base % 8)) z rest f)

-- Combinations of the bits of two numbers of 63 bits.
use Rattle.std.proofs.Common.{ℕ, ◌≡◌, ◌<◌, ◌≤◌, ◌^◌, ◌*◌, ◌%◌, pos, FitsSigned, w64, to_z, arith}
use Rattle.std.proofs.lemmas.Int.{ints}
use Rattle.std.specs.Prelude.{bit_or, bit_xor}
use Rattle.std.proofs.lemmas.Nat.{or_lt, xor_lt, pow_below}

pub or_below : (a b : ℕ) → a < 2 ^ 63 → b < 2 ^ 63 → bit_or a b < 2 ^ 63
or_below a b p q = or_lt 63 a b p q

pub xor_below : (a b : ℕ) → a < 2 ^ 63 → b < 2 ^ 63 → bit_xor a b < 2 ^ 63
xor_below a b p q = xor_lt 63 a b p q

pub power_below : (k : ℕ) → k ≤ 62 → 2 ^ k < 2 ^ 63
power_below k le = pow_below k 63 (omega (arith, le))

pub power_value : (k : ℕ) → k ≤ 62 → 1 * 2 ^ k % 18446744073709551616 ≡ 2 ^ k
power_value k le = let below : 2 ^ k < 2 ^ 63 = power_below k le in omega (arith, below)

pub power_fits : (k : ℕ) → k ≤ 62 → FitsSigned w64 (pos (2 ^ k))
power_fits k le = let below : 2 ^ k < 2 ^ 63 = power_below k le in omega (arith, ints, below)

pub power_signed : (k : ℕ) → k ≤ 62 → to_z w64 (2 ^ k) ≡ pos (2 ^ k)
power_signed k le = let below : 2 ^ k < 2 ^ 63 = power_below k le in omega (arith, ints, below)

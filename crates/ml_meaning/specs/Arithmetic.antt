-- Whole numbers of 63 bits with sign, as OCaml has them: they wrap modulo 2 ^ 63.
use Rattle.std.specs.Prelude.{ℕ, ◌-◌, ◌/◌, ◌^◌, ℤ, pos, negsuc, ◌+ℤ◌, ◌-ℤ◌, ◌*ℤ◌, int_lt, int_div, int_rem, unsigned_abs, bit_and, bit_or, bit_xor, nat_lt, nat_le, suc, if◌then◌else◌, Option, Some, None}
use Rattle.std.specs.Int.{int_rem_euclid, int_div_euclid}
use Rattle.std.specs.Ordering.{int_eq}
use Rattle.ml_tree.specs.declared.expr.BinOp.{BinOp}
use Rattle.ml_tree.specs.declared.expr.BinOp.TheVariants as op

-- the 63 bits of a number
abbrev pub residue : ℤ → ℕ
residue z = unsigned_abs (int_rem_euclid z (pos (2 ^ 63)))

-- the number from -2 ^ 62 to 2 ^ 62 - 1 that has these 63 bits
abbrev pub of_residue : ℕ → ℤ
of_residue n = if nat_lt n (2 ^ 62) then pos n else negsuc (2 ^ 63 - suc n)

abbrev pub wrapped : ℤ → ℤ
wrapped z = of_residue (residue z)

-- a shift count from 0 to 62; by any other count all bits are shifted out
abbrev pub shift_count : ℤ → Option ℕ
shift_count (pos k) = if nat_le k 62 then Some k else None
shift_count (negsuc k) = None

abbrev pub shift_left : ℤ → Option ℕ → ℤ
shift_left a None = pos 0
shift_left a (Some k) = wrapped (a *ℤ pos (2 ^ k))

abbrev pub shift_right : ℤ → Option ℕ → ℤ
shift_right a None = pos 0
shift_right a (Some k) = of_residue (residue a / 2 ^ k)

-- the sign stays
abbrev pub shift_right_signed : ℤ → Option ℕ → ℤ
shift_right_signed a None = if int_lt a (pos 0) then negsuc 0 else pos 0
shift_right_signed a (Some k) = int_div_euclid a (pos (2 ^ k))

-- division rounds toward 0, and the remainder has the sign of the dividend; none by 0
abbrev pub quotient : ℤ → ℤ → Option ℤ
quotient a b = if int_eq b (pos 0) then None else Some (wrapped (int_div a b))

abbrev pub remainder : ℤ → ℤ → Option ℤ
remainder a b = if int_eq b (pos 0) then None else Some (int_rem a b)

-- what an operator on two numbers gives; none where it divides by 0
abbrev pub arithmetic : BinOp → ℤ → ℤ → Option ℤ
arithmetic op.Add a b = Some (wrapped (a +ℤ b))
arithmetic op.Sub a b = Some (wrapped (a -ℤ b))
arithmetic op.Mul a b = Some (wrapped (a *ℤ b))
arithmetic op.Div a b = quotient a b
arithmetic op.Mod a b = remainder a b
arithmetic op.And a b = Some (of_residue (bit_and (residue a) (residue b)))
arithmetic op.Or a b = Some (of_residue (bit_or (residue a) (residue b)))
arithmetic op.Xor a b = Some (of_residue (bit_xor (residue a) (residue b)))
arithmetic op.Lsl a b = Some (shift_left a (shift_count b))
arithmetic op.Lsr a b = Some (shift_right a (shift_count b))
arithmetic op.Asr a b = Some (shift_right_signed a (shift_count b))
arithmetic _ a b = None

-- The bytes of each instruction, after the Intel 64 manual, volume 2, in one form each.
use Rattle.std.specs.Prelude.{ℕ, ◌+◌, ◌-◌, ◌*◌, ◌/◌, ◌%◌, ◌^◌, ◌<◌, Bool, true, List, [], ◌∷◌, ◌++◌, length, drop, ◌≡◌, ◌≢◌, ℤ, if◌then◌else◌, ◌==◌, nat_lt, nat_eq, slice_index, FitsSigned, replicate, option_map, Option, Some, None}
use Rattle.std.specs.Int.{w32, w64, to_le_bytes, from_le_bytes, cast_signed, cast_unsigned}
use Rattle.std.specs.List.{starts_with}
pub use Rattle.x64_table.specs.Numbers.{register}
use Rattle.x64_table.specs.declared.instr.ArithOp.{ArithOp}
use Rattle.x64_table.specs.declared.instr.ArithOp.TheVariants.{Add, Or, And, Sub, Xor, Cmp}
use Rattle.x64_table.specs.declared.instr.ShiftOp.{ShiftOp}
use Rattle.x64_table.specs.declared.instr.ShiftOp.TheVariants.{Shl, Shr, Sar}
use Rattle.x64_table.specs.declared.instr.Cond.{Cond}
use Rattle.x64_table.specs.declared.instr.Cond.TheVariants.{B, AE, E, NE, BE, A, L, GE, LE, G}
use Rattle.x64_table.specs.declared.instr.Instr.{Instr}
use Rattle.x64_table.specs.declared.instr.Instr.TheVariants.{MovReg, MovImm, Load, Store, LoadByte, StoreByte, Lea, Arith, ArithImm, Test, Imul, Cqo, Neg, Idiv, ShiftImm, ShiftCl, Jump, Call, JumpIf, CallReg, JumpReg, Ret, Syscall}

-- ---- the parts of an instruction

-- the REX prefix with W, and without; R and B are the top bits of the two register numbers
abbrev pub rex_w : ℕ → ℕ → ℕ
rex_w r b = 72 + (4 * (r / 8) + b / 8)

abbrev pub rex_n : ℕ → ℕ → ℕ
rex_n r b = 64 + (4 * (r / 8) + b / 8)

-- the ModRM byte of two registers, or of a register and an extension of the opcode
abbrev pub direct : ℕ → ℕ → ℕ
direct r b = 192 + (8 * (r % 8) + b % 8)

-- four bytes with sign
abbrev pub signed_4 : ℤ → List ℕ
signed_4 z = to_le_bytes w32 (cast_unsigned w32 z)

-- ModRM, the SIB byte where the base's low bits are those of rsp, and the displacement
abbrev pub memory : ℕ → ℕ → ℤ → List ℕ
memory r base disp =
    (128 + (8 * (r % 8) + base % 8)) ∷ (if base % 8 == 4 then 36 ∷ signed_4 disp else signed_4 disp)

abbrev pub arith_number : ArithOp → ℕ
arith_number Add = 0
arith_number Or = 1
arith_number And = 4
arith_number Sub = 5
arith_number Xor = 6
arith_number Cmp = 7

abbrev pub shift_number : ShiftOp → ℕ
shift_number Shl = 4
shift_number Shr = 5
shift_number Sar = 7

abbrev pub cond_number : Cond → ℕ
cond_number B = 2
cond_number AE = 3
cond_number E = 4
cond_number NE = 5
cond_number BE = 6
cond_number A = 7
cond_number L = 12
cond_number GE = 13
cond_number LE = 14
cond_number G = 15

-- ---- the table

abbrev pub encoding : Instr → List ℕ
encoding (MovReg dst src) = rex_w src dst ∷ 0x89 ∷ direct src dst ∷ []
encoding (MovImm dst imm) = rex_w 0 dst ∷ (0xB8 + dst % 8) ∷ to_le_bytes w64 imm
encoding (Load dst base disp) = rex_w dst base ∷ 0x8B ∷ memory dst base disp
encoding (Store base disp src) = rex_w src base ∷ 0x89 ∷ memory src base disp
encoding (LoadByte dst base disp) = rex_w dst base ∷ 0x0F ∷ 0xB6 ∷ memory dst base disp
encoding (StoreByte base disp src) = rex_n src base ∷ 0x88 ∷ memory src base disp
encoding (Lea dst base disp) = rex_w dst base ∷ 0x8D ∷ memory dst base disp
encoding (Arith op dst src) = rex_w src dst ∷ (8 * arith_number op + 1) ∷ direct src dst ∷ []
encoding (ArithImm op dst imm) = rex_w 0 dst ∷ 0x81 ∷ direct (arith_number op) dst ∷ signed_4 imm
encoding (Test a b) = rex_w b a ∷ 0x85 ∷ direct b a ∷ []
encoding (Imul dst src) = rex_w dst src ∷ 0x0F ∷ 0xAF ∷ direct dst src ∷ []
encoding Cqo = 0x48 ∷ 0x99 ∷ []
encoding (Neg dst) = rex_w 0 dst ∷ 0xF7 ∷ direct 3 dst ∷ []
encoding (Idiv src) = rex_w 0 src ∷ 0xF7 ∷ direct 7 src ∷ []
encoding (ShiftImm op dst count) = rex_w 0 dst ∷ 0xC1 ∷ direct (shift_number op) dst ∷ count ∷ []
encoding (ShiftCl op dst) = rex_w 0 dst ∷ 0xD3 ∷ direct (shift_number op) dst ∷ []
encoding (Jump rel) = 0xE9 ∷ signed_4 rel
encoding (Call rel) = 0xE8 ∷ signed_4 rel
encoding (JumpIf cond rel) = 0x0F ∷ (0x80 + cond_number cond) ∷ signed_4 rel
encoding (CallReg to) = rex_n 0 to ∷ 0xFF ∷ direct 2 to ∷ []
encoding (JumpReg to) = rex_n 0 to ∷ 0xFF ∷ direct 4 to ∷ []
encoding Ret = 0xC3 ∷ []
encoding Syscall = 0x0F ∷ 0x05 ∷ []

-- the operands are in range: only these instructions have a row
abbrev pub IsRow : Instr → Type 0
IsRow (MovReg dst src) = (dst < 16) × (src < 16)
IsRow (MovImm dst imm) = (dst < 16) × (imm < 2 ^ 64)
IsRow (Load dst base disp) = (dst < 16) × (base < 16) × FitsSigned w32 disp
IsRow (Store base disp src) = (base < 16) × FitsSigned w32 disp × (src < 16)
IsRow (LoadByte dst base disp) = (dst < 16) × (base < 16) × FitsSigned w32 disp
IsRow (StoreByte base disp src) = (base < 16) × FitsSigned w32 disp × (src < 16)
IsRow (Lea dst base disp) = (dst < 16) × (base < 16) × FitsSigned w32 disp
IsRow (Arith op dst src) = (dst < 16) × (src < 16)
IsRow (ArithImm op dst imm) = (dst < 16) × FitsSigned w32 imm
IsRow (Test a b) = (a < 16) × (b < 16)
IsRow (Imul dst src) = (dst < 16) × (src < 16)
IsRow Cqo = Unit {0}
IsRow (Neg dst) = dst < 16
IsRow (Idiv src) = src < 16
IsRow (ShiftImm op dst count) = (dst < 16) × (count < 64)
IsRow (ShiftCl op dst) = dst < 16
IsRow (Jump rel) = FitsSigned w32 rel
IsRow (Call rel) = FitsSigned w32 rel
IsRow (JumpIf cond rel) = FitsSigned w32 rel
IsRow (CallReg to) = to < 16
IsRow (JumpReg to) = to < 16
IsRow Ret = Unit {0}
IsRow Syscall = Unit {0}

-- ---- reading: the one row that can begin so is guessed, and then compared

-- the four bytes from k on, with sign
abbrev pub signed_at : List ℕ → ℕ → ℤ
signed_at bytes k =
    cast_signed w32 (from_le_bytes w32 (slice_index bytes k ∷ slice_index bytes (k + 1) ∷ slice_index bytes (k + 2) ∷ slice_index bytes (k + 3) ∷ []))

-- the eight bytes from 2 on
abbrev pub wide_at_2 : List ℕ → ℕ
wide_at_2 bytes =
    from_le_bytes w64 (slice_index bytes 2 ∷ slice_index bytes 3 ∷ slice_index bytes 4 ∷ slice_index bytes 5 ∷ slice_index bytes 6 ∷ slice_index bytes 7 ∷ slice_index bytes 8 ∷ slice_index bytes 9 ∷ [])

-- the displacement behind the ModRM byte at k, which comes behind the SIB byte where there is one
abbrev pub displacement : List ℕ → ℕ → ℤ
displacement bytes k =
    if slice_index bytes k % 8 == 4 then signed_at bytes (k + 2) else signed_at bytes (k + 1)

abbrev pub arith_of_high : ℕ → ArithOp
arith_of_high n = if n == 5 then Sub else (if n == 6 then Xor else Cmp)

abbrev pub arith_of : ℕ → ArithOp
arith_of n = if n == 0 then Add else (if n == 1 then Or else (if n == 4 then And else arith_of_high n))

abbrev pub shift_of : ℕ → ShiftOp
shift_of n = if n == 4 then Shl else (if n == 5 then Shr else Sar)

abbrev pub cond_of_signed : ℕ → Cond
cond_of_signed n = if n == 12 then L else (if n == 13 then GE else (if n == 14 then LE else G))

abbrev pub cond_of_high : ℕ → Cond
cond_of_high n = if n == 6 then BE else (if n == 7 then A else cond_of_signed n)

abbrev pub cond_of : ℕ → Cond
cond_of n =
    if n == 2 then B else (if n == 3 then AE else (if n == 4 then E else (if n == 5 then NE else cond_of_high n)))

-- the opcodes 88 to 8F, with a register and an operand in memory or a second register
abbrev pub guess_move : List ℕ → ℕ → ℕ → ℕ → Instr
guess_move bytes op r b =
    if op == 0x8B then Load r b (displacement bytes 2)
    else (if op == 0x8D then Lea r b (displacement bytes 2)
    else (if op == 0x88 then StoreByte b (displacement bytes 2) r
    else (if slice_index bytes 2 / 64 == 3 then MovReg b r else Store b (displacement bytes 2) r)))

-- the opcodes F7 and FF, which the register field of ModRM extends
abbrev pub guess_unary : ℕ → ℕ → ℕ → Instr
guess_unary op extension b =
    if op == 0xF7 then (if extension == 3 then Neg b else Idiv b)
    else (if extension == 2 then CallReg b else JumpReg b)

-- the opcodes from 90 on
abbrev pub guess_group : List ℕ → ℕ → ℕ → ℕ → Instr
guess_group bytes op extension b =
    if op == 0x99 then Cqo
    else (if op == 0xC1 then ShiftImm (shift_of extension) b (slice_index bytes 3)
    else (if op == 0xD3 then ShiftCl (shift_of extension) b
    else guess_unary op extension b))

-- the opcodes from 80 on
abbrev pub guess_high : List ℕ → ℕ → ℕ → ℕ → ℕ → Instr
guess_high bytes op extension r b =
    if op == 0x81 then ArithImm (arith_of extension) b (signed_at bytes 3)
    else (if op == 0x85 then Test b r
    else (if nat_lt op 0x90 then guess_move bytes op r b else guess_group bytes op extension b))

-- the opcodes of two bytes, behind 0F
abbrev pub guess_two : List ℕ → ℕ → Instr
guess_two bytes prefix =
    let r = register (prefix / 4) (slice_index bytes 3 / 8) in
    let b = register prefix (slice_index bytes 3) in
    if slice_index bytes 2 == 0xB6 then LoadByte r b (displacement bytes 3) else Imul r b

abbrev pub guess_one : List ℕ → ℕ → ℕ → Instr
guess_one bytes prefix op =
    let r = register (prefix / 4) (slice_index bytes 2 / 8) in
    let b = register prefix (slice_index bytes 2) in
    if op / 8 == 23 then MovImm (register prefix op) (wide_at_2 bytes)
    else (if nat_lt op 0x80 then Arith (arith_of (op / 8)) b r
    else guess_high bytes op (slice_index bytes 2 / 8 % 8) r b)

-- behind a REX prefix
abbrev pub guess_rex : List ℕ → ℕ → ℕ → Instr
guess_rex bytes prefix op = if op == 0x0F then guess_two bytes prefix else guess_one bytes prefix op

-- without a REX prefix
abbrev pub guess_plain : List ℕ → ℕ → Instr
guess_plain bytes op =
    if op == 0xE9 then Jump (signed_at bytes 1)
    else (if op == 0xE8 then Call (signed_at bytes 1)
    else (if op == 0xC3 then Ret
    else (if slice_index bytes 1 == 5 then Syscall else JumpIf (cond_of (slice_index bytes 1 % 16)) (signed_at bytes 2))))

abbrev pub guess : List ℕ → Instr
guess bytes =
    if slice_index bytes 0 / 16 == 4 then guess_rex bytes (slice_index bytes 0) (slice_index bytes 1)
    else guess_plain bytes (slice_index bytes 0)

abbrev pub begins_with : List ℕ → List ℕ → Bool
begins_with bytes front = starts_with nat_eq bytes front

-- the length of the instruction, if the bytes begin with it
abbrev pub length_at : List ℕ → Instr → Option ℕ
length_at bytes i = if begins_with bytes (encoding i) then Some (length (encoding i)) else None

-- a count of 64 and more has no row
abbrev pub is_row : Instr → Bool
is_row (ShiftImm op dst count) = nat_lt count 64
is_row _ = true

abbrev pub read_row : List ℕ → Option (Instr × ℕ)
read_row bytes =
    if is_row (guess bytes) then option_map (λ n. (guess bytes, n)) (length_at bytes (guess bytes)) else None

-- the row that the bytes begin with, and its length
unfoldable pub decoded : List ℕ → Option (Instr × ℕ)
decoded bytes = read_row bytes

-- the bytes and zeros up to 15, and how many bytes there are
abbrev pub padded : List ℕ → List ℕ × ℕ
padded bytes = (bytes ++ replicate (15 - length bytes) 0, length bytes)

-- the bytes begin with the encoding of this instruction, which is a row, and has n bytes
pub record ReadsRow (bytes : List ℕ) (i : Instr) (n : ℕ) : Type 0 where
  pub row : is_row i ≡ true
  pub whole : n ≡ length (encoding i)
  pub front : bytes ≡ encoding i ++ drop n bytes

-- the bytes begin with no row
abbrev pub BeginsNoRow : List ℕ → Type 0
BeginsNoRow bytes = (i : Instr) (rest : List ℕ) → IsRow i → bytes ≢ encoding i ++ rest

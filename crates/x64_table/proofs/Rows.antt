-- What is encoded reads back as itself, and what reads is a row that the bytes begin with. So no
-- bytes begin with two rows.
use Rattle.std.proofs.Common.{ℕ, ◌+◌, ◌/◌, ◌%◌, ◌^◌, ◌<◌, ◌≡◌, true, false, eqb, List, ◌++◌, length, drop, ℤ, FitsSigned, refl, IfSome, subst, IfNone, option_map, sym, ap, ◌∙◌, arith, nat_eq, nat_lt, Option, Some, None, if◌then◌else◌, Bool, take}
use Rattle.std.specs.Int.{w32}
use Rattle.std.proofs.lemmas.Nat.{from_le_bytes-to_le_bytes_8}
use Rattle.std.proofs.lemmas.Slice.Eq.{starts_is}
use Rattle.std.proofs.lemmas.Bool.Decides.{nat_tests, Decides-eqb}
use Rattle.x64_table.specs.declared.instr.ArithOp.{ArithOp}
use Rattle.x64_table.specs.declared.instr.ArithOp.TheVariants.{Add, Or, And, Sub, Xor, Cmp}
use Rattle.x64_table.specs.declared.instr.ShiftOp.{ShiftOp}
use Rattle.x64_table.specs.declared.instr.ShiftOp.TheVariants.{Shl, Shr, Sar}
use Rattle.x64_table.specs.declared.instr.Cond.{Cond}
use Rattle.x64_table.specs.declared.instr.Cond.TheVariants.{B, AE, E, NE, BE, A, L, GE, LE, G}
use Rattle.x64_table.specs.declared.instr.Instr.{Instr}
use Rattle.x64_table.specs.declared.instr.Instr.TheVariants.{MovReg, MovImm, Load, Store, LoadByte, StoreByte, Lea, Arith, ArithImm, Test, Imul, Cqo, Neg, Idiv, ShiftImm, ShiftCl, Jump, Call, JumpIf, CallReg, JumpReg, Ret, Syscall}
use Rattle.x64_table.specs.Encoding.{ReadsRow, BeginsNoRow, encoding, IsRow, is_row, guess, length_at, read_row, decoded, begins_with, rex_w, rex_n, direct, register}
use Rattle.std.proofs.Math.Seq.{take-append_seam}
use Rattle.x64_table.proofs.Formats.{yes, no, rex_w-first, rex_n-first, field_r, field_b, extension, direct-mode, memory-mode, signed_back, displacement_2, displacement_3}

-- ---- the rows, format by format

zero_16 : 0 < 16
zero_16 = omega arith

guess-move : (dst src : ℕ) (rest : List ℕ) → dst < 16 → src < 16 → guess (encoding (MovReg dst src) ++ rest) ≡ MovReg dst src
guess-move dst src rest hd hs =
    rw (rex_w-first src dst hs hd, direct-mode src dst, field_b 72 192 src dst refl refl hs hd, field_r 72 192 src dst refl refl hs hd) refl

guess-load : (dst base : ℕ) (z : ℤ) (rest : List ℕ) → dst < 16 → base < 16 → FitsSigned w32 z → guess (encoding (Load dst base z) ++ rest) ≡ Load dst base z
guess-load dst base z rest hd hb f =
    rw (rex_w-first dst base hd hb, field_b 72 128 dst base refl refl hd hb, field_r 72 128 dst base refl refl hd hb, displacement_2 (rex_w dst base) 0x8B dst base z rest f) refl

guess-store : (base : ℕ) (z : ℤ) (src : ℕ) (rest : List ℕ) → base < 16 → FitsSigned w32 z → src < 16 → guess (encoding (Store base z src) ++ rest) ≡ Store base z src
guess-store base z src rest hb f hs =
    rw (rex_w-first src base hs hb, memory-mode src base, field_b 72 128 src base refl refl hs hb, field_r 72 128 src base refl refl hs hb, displacement_2 (rex_w src base) 0x89 src base z rest f) refl

guess-load_byte : (dst base : ℕ) (z : ℤ) (rest : List ℕ) → dst < 16 → base < 16 → FitsSigned w32 z → guess (encoding (LoadByte dst base z) ++ rest) ≡ LoadByte dst base z
guess-load_byte dst base z rest hd hb f =
    rw (rex_w-first dst base hd hb, field_b 72 128 dst base refl refl hd hb, field_r 72 128 dst base refl refl hd hb, displacement_3 (rex_w dst base) 0x0F 0xB6 dst base z rest f) refl

guess-store_byte : (base : ℕ) (z : ℤ) (src : ℕ) (rest : List ℕ) → base < 16 → FitsSigned w32 z → src < 16 → guess (encoding (StoreByte base z src) ++ rest) ≡ StoreByte base z src
guess-store_byte base z src rest hb f hs =
    rw (rex_n-first src base hs hb, field_b 64 128 src base refl refl hs hb, field_r 64 128 src base refl refl hs hb, displacement_2 (rex_n src base) 0x88 src base z rest f) refl

guess-lea : (dst base : ℕ) (z : ℤ) (rest : List ℕ) → dst < 16 → base < 16 → FitsSigned w32 z → guess (encoding (Lea dst base z) ++ rest) ≡ Lea dst base z
guess-lea dst base z rest hd hb f =
    rw (rex_w-first dst base hd hb, field_b 72 128 dst base refl refl hd hb, field_r 72 128 dst base refl refl hd hb, displacement_2 (rex_w dst base) 0x8D dst base z rest f) refl

guess-arith : (op : ArithOp) (dst src : ℕ) (rest : List ℕ) → dst < 16 → src < 16 → guess (encoding (Arith op dst src) ++ rest) ≡ Arith op dst src
guess-arith Add dst src rest hd hs =
    rw (rex_w-first src dst hs hd, field_b 72 192 src dst refl refl hs hd, field_r 72 192 src dst refl refl hs hd) refl
guess-arith Or dst src rest hd hs =
    rw (rex_w-first src dst hs hd, field_b 72 192 src dst refl refl hs hd, field_r 72 192 src dst refl refl hs hd) refl
guess-arith And dst src rest hd hs =
    rw (rex_w-first src dst hs hd, field_b 72 192 src dst refl refl hs hd, field_r 72 192 src dst refl refl hs hd) refl
guess-arith Sub dst src rest hd hs =
    rw (rex_w-first src dst hs hd, field_b 72 192 src dst refl refl hs hd, field_r 72 192 src dst refl refl hs hd) refl
guess-arith Xor dst src rest hd hs =
    rw (rex_w-first src dst hs hd, field_b 72 192 src dst refl refl hs hd, field_r 72 192 src dst refl refl hs hd) refl
guess-arith Cmp dst src rest hd hs =
    rw (rex_w-first src dst hs hd, field_b 72 192 src dst refl refl hs hd, field_r 72 192 src dst refl refl hs hd) refl

-- a register alone, behind an extension of the opcode
field_alone : (k b : ℕ) → k < 8 → b < 16 → register (rex_w 0 b) (direct k b) ≡ b
field_alone k b hk hb = omega arith

field_alone_n : (k b : ℕ) → k < 8 → b < 16 → register (rex_n 0 b) (direct k b) ≡ b
field_alone_n k b hk hb = omega arith

guess-arith_imm : (op : ArithOp) (dst : ℕ) (z : ℤ) (rest : List ℕ) → dst < 16 → FitsSigned w32 z → guess (encoding (ArithImm op dst z) ++ rest) ≡ ArithImm op dst z
guess-arith_imm Add dst z rest hd f =
    rw (rex_w-first 0 dst zero_16 hd, extension 0 dst (omega arith), field_alone 0 dst (omega arith) hd, signed_back z f) refl
guess-arith_imm Or dst z rest hd f =
    rw (rex_w-first 0 dst zero_16 hd, extension 1 dst (omega arith), field_alone 1 dst (omega arith) hd, signed_back z f) refl
guess-arith_imm And dst z rest hd f =
    rw (rex_w-first 0 dst zero_16 hd, extension 4 dst (omega arith), field_alone 4 dst (omega arith) hd, signed_back z f) refl
guess-arith_imm Sub dst z rest hd f =
    rw (rex_w-first 0 dst zero_16 hd, extension 5 dst (omega arith), field_alone 5 dst (omega arith) hd, signed_back z f) refl
guess-arith_imm Xor dst z rest hd f =
    rw (rex_w-first 0 dst zero_16 hd, extension 6 dst (omega arith), field_alone 6 dst (omega arith) hd, signed_back z f) refl
guess-arith_imm Cmp dst z rest hd f =
    rw (rex_w-first 0 dst zero_16 hd, extension 7 dst (omega arith), field_alone 7 dst (omega arith) hd, signed_back z f) refl

guess-test : (a b : ℕ) (rest : List ℕ) → a < 16 → b < 16 → guess (encoding (Test a b) ++ rest) ≡ Test a b
guess-test a b rest ha hb =
    rw (rex_w-first b a hb ha, field_b 72 192 b a refl refl hb ha, field_r 72 192 b a refl refl hb ha) refl

guess-imul : (dst src : ℕ) (rest : List ℕ) → dst < 16 → src < 16 → guess (encoding (Imul dst src) ++ rest) ≡ Imul dst src
guess-imul dst src rest hd hs =
    rw (rex_w-first dst src hd hs, field_b 72 192 dst src refl refl hd hs, field_r 72 192 dst src refl refl hd hs) refl

guess-neg : (dst : ℕ) (rest : List ℕ) → dst < 16 → guess (encoding (Neg dst) ++ rest) ≡ Neg dst
guess-neg dst rest hd =
    rw (rex_w-first 0 dst zero_16 hd, extension 3 dst (omega arith), field_alone 3 dst (omega arith) hd) refl

guess-idiv : (src : ℕ) (rest : List ℕ) → src < 16 → guess (encoding (Idiv src) ++ rest) ≡ Idiv src
guess-idiv src rest hs =
    rw (rex_w-first 0 src zero_16 hs, extension 7 src (omega arith), field_alone 7 src (omega arith) hs) refl

guess-shift_imm : (op : ShiftOp) (dst count : ℕ) (rest : List ℕ) → dst < 16 → guess (encoding (ShiftImm op dst count) ++ rest) ≡ ShiftImm op dst count
guess-shift_imm Shl dst count rest hd =
    rw (rex_w-first 0 dst zero_16 hd, extension 4 dst (omega arith), field_alone 4 dst (omega arith) hd) refl
guess-shift_imm Shr dst count rest hd =
    rw (rex_w-first 0 dst zero_16 hd, extension 5 dst (omega arith), field_alone 5 dst (omega arith) hd) refl
guess-shift_imm Sar dst count rest hd =
    rw (rex_w-first 0 dst zero_16 hd, extension 7 dst (omega arith), field_alone 7 dst (omega arith) hd) refl

guess-shift_cl : (op : ShiftOp) (dst : ℕ) (rest : List ℕ) → dst < 16 → guess (encoding (ShiftCl op dst) ++ rest) ≡ ShiftCl op dst
guess-shift_cl Shl dst rest hd =
    rw (rex_w-first 0 dst zero_16 hd, extension 4 dst (omega arith), field_alone 4 dst (omega arith) hd) refl
guess-shift_cl Shr dst rest hd =
    rw (rex_w-first 0 dst zero_16 hd, extension 5 dst (omega arith), field_alone 5 dst (omega arith) hd) refl
guess-shift_cl Sar dst rest hd =
    rw (rex_w-first 0 dst zero_16 hd, extension 7 dst (omega arith), field_alone 7 dst (omega arith) hd) refl

guess-call_reg : (to : ℕ) (rest : List ℕ) → to < 16 → guess (encoding (CallReg to) ++ rest) ≡ CallReg to
guess-call_reg to rest ht =
    rw (rex_n-first 0 to zero_16 ht, extension 2 to (omega arith), field_alone_n 2 to (omega arith) ht) refl

guess-jump_reg : (to : ℕ) (rest : List ℕ) → to < 16 → guess (encoding (JumpReg to) ++ rest) ≡ JumpReg to
guess-jump_reg to rest ht =
    rw (rex_n-first 0 to zero_16 ht, extension 4 to (omega arith), field_alone_n 4 to (omega arith) ht) refl

guess-jump_if : (c : Cond) (z : ℤ) (rest : List ℕ) → FitsSigned w32 z → guess (encoding (JumpIf c z) ++ rest) ≡ JumpIf c z
guess-jump_if B z rest f = ap (JumpIf B) (signed_back z f)
guess-jump_if AE z rest f = ap (JumpIf AE) (signed_back z f)
guess-jump_if E z rest f = ap (JumpIf E) (signed_back z f)
guess-jump_if NE z rest f = ap (JumpIf NE) (signed_back z f)
guess-jump_if BE z rest f = ap (JumpIf BE) (signed_back z f)
guess-jump_if A z rest f = ap (JumpIf A) (signed_back z f)
guess-jump_if L z rest f = ap (JumpIf L) (signed_back z f)
guess-jump_if GE z rest f = ap (JumpIf GE) (signed_back z f)
guess-jump_if LE z rest f = ap (JumpIf LE) (signed_back z f)
guess-jump_if G z rest f = ap (JumpIf G) (signed_back z f)

-- the opcode of a wide move holds the register's low bits
wide_no : (d : ℕ) → eqb (0xB8 + d % 8) 0x0F ≡ false
wide_no d = no _ _ (omega arith)

wide_yes : (d : ℕ) → eqb ((0xB8 + d % 8) / 8) 23 ≡ true
wide_yes d = yes _ _ (omega arith)

wide_register : (d : ℕ) → d < 16 → register (rex_w 0 d) (0xB8 + d % 8) ≡ d
wide_register d h = omega arith

guess-move_imm : (dst imm : ℕ) (rest : List ℕ) → dst < 16 → imm < 2 ^ 64 → guess (encoding (MovImm dst imm) ++ rest) ≡ MovImm dst imm
guess-move_imm dst imm rest hd hi =
    rw (rex_w-first 0 dst zero_16 hd, wide_no dst, wide_yes dst, wide_register dst hd, from_le_bytes-to_le_bytes_8 imm hi) refl

-- ---- the law

pub guess-encoding : (i : Instr) (rest : List ℕ) → IsRow i → guess (encoding i ++ rest) ≡ i
guess-encoding (MovReg dst src) rest h = guess-move dst src rest h.0 h.1
guess-encoding (MovImm dst imm) rest h = guess-move_imm dst imm rest h.0 h.1
guess-encoding (Load dst base z) rest h = guess-load dst base z rest h.0 h.1 h.2
guess-encoding (Store base z src) rest h = guess-store base z src rest h.0 h.1 h.2
guess-encoding (LoadByte dst base z) rest h = guess-load_byte dst base z rest h.0 h.1 h.2
guess-encoding (StoreByte base z src) rest h = guess-store_byte base z src rest h.0 h.1 h.2
guess-encoding (Lea dst base z) rest h = guess-lea dst base z rest h.0 h.1 h.2
guess-encoding (Arith op dst src) rest h = guess-arith op dst src rest h.0 h.1
guess-encoding (ArithImm op dst z) rest h = guess-arith_imm op dst z rest h.0 h.1
guess-encoding (Test a b) rest h = guess-test a b rest h.0 h.1
guess-encoding (Imul dst src) rest h = guess-imul dst src rest h.0 h.1
guess-encoding Cqo rest h = refl
guess-encoding (Neg dst) rest h = guess-neg dst rest h
guess-encoding (Idiv src) rest h = guess-idiv src rest h
guess-encoding (ShiftImm op dst count) rest h = guess-shift_imm op dst count rest h.0
guess-encoding (ShiftCl op dst) rest h = guess-shift_cl op dst rest h
guess-encoding (Jump z) rest h = ap Jump (signed_back z h)
guess-encoding (Call z) rest h = ap Call (signed_back z h)
guess-encoding (JumpIf c z) rest h = guess-jump_if c z rest h
guess-encoding (CallReg to) rest h = guess-call_reg to rest h
guess-encoding (JumpReg to) rest h = guess-jump_reg to rest h
guess-encoding Ret rest h = refl
guess-encoding Syscall rest h = refl

below_64 : (n : ℕ) → n < 64 → nat_lt n 64 ≡ true
below_64 n h = grind (arith, nat_tests)

is_row-true : (i : Instr) → IsRow i → is_row i ≡ true
is_row-true (MovReg dst src) h = refl
is_row-true (MovImm dst imm) h = refl
is_row-true (Load dst base z) h = refl
is_row-true (Store base z src) h = refl
is_row-true (LoadByte dst base z) h = refl
is_row-true (StoreByte base z src) h = refl
is_row-true (Lea dst base z) h = refl
is_row-true (Arith op dst src) h = refl
is_row-true (ArithImm op dst z) h = refl
is_row-true (Test a b) h = refl
is_row-true (Imul dst src) h = refl
is_row-true Cqo h = refl
is_row-true (Neg dst) h = refl
is_row-true (Idiv src) h = refl
is_row-true (ShiftImm op dst count) h = below_64 count h.1
is_row-true (ShiftCl op dst) h = refl
is_row-true (Jump z) h = refl
is_row-true (Call z) h = refl
is_row-true (JumpIf c z) h = refl
is_row-true (CallReg to) h = refl
is_row-true (JumpReg to) h = refl
is_row-true Ret h = refl
is_row-true Syscall h = refl

-- a list begins with its front
pub begins-append : (front rest : List ℕ) → begins_with (front ++ rest) front ≡ true
begins-append front rest =
    (starts_is {E = nat_eq} Decides-eqb (front ++ rest) front (begins_with (front ++ rest) front) refl).1 rest refl

pub begins-split : (bytes front : List ℕ) → begins_with bytes front ≡ true → bytes ≡ front ++ drop (length front) bytes
begins-split bytes front h =
    (starts_is {E = nat_eq} Decides-eqb bytes front (begins_with bytes front) refl).0 h

decoded-by : (i g : Instr) (bytes : List ℕ) → g ≡ i → is_row i ≡ true → begins_with bytes (encoding i) ≡ true → (if is_row g then option_map {U = Instr × ℕ} (λ (n : ℕ). (g, n)) (length_at bytes g) else None) ≡ Some (i, length (encoding i))
decoded-by i g bytes e row begins = rw (e, row, begins) refl

-- what is encoded reads back as itself, whatever stands behind it
pub decoded-encoding : (i : Instr) (rest : List ℕ) → IsRow i → decoded (encoding i ++ rest) ≡ Some (i, length (encoding i))
unfolding decoded
decoded-encoding i rest h =
    decoded-by i _ (encoding i ++ rest) (guess-encoding i rest h) (is_row-true i h) (begins-append (encoding i) rest)

abbrev row_or : Instr → Option (Instr × ℕ) → Instr
row_or i None = i
row_or i (Some row) = row.0

-- no bytes begin with two rows
pub one_row : (i j : Instr) (a b : List ℕ) → IsRow i → IsRow j → encoding i ++ a ≡ encoding j ++ b → i ≡ j
one_row i j a b hi hj e =
    ap (row_or i) (sym (decoded-encoding i a hi) ∙ ap decoded e ∙ decoded-encoding j b hj)

abbrev pub IfReads : List ℕ → Option (Instr × ℕ) → Type 0
IfReads bytes o = IfSome o (λ (row : Instr × ℕ). ReadsRow bytes row.0 row.1)

checked-reads : (i : Instr) (bytes : List ℕ) (b r : Bool) → begins_with bytes (encoding i) ≡ b → is_row i ≡ r → IfReads bytes (if r then option_map {U = Instr × ℕ} (λ (n : ℕ). (i, n)) (if b then Some (length (encoding i)) else None) else None)
checked-reads i bytes b false begins row = tt
checked-reads i bytes false true begins row = tt
checked-reads i bytes true true begins row =
    record { row = row; whole = refl; front = begins-split bytes (encoding i) begins }

-- what reads is a row that the bytes begin with
pub decoded-reads : (bytes : List ℕ) → IfReads bytes (decoded bytes)
unfolding decoded
decoded-reads bytes = checked-reads (guess bytes) bytes _ _ refl refl

-- where nothing reads, no row stands
pub decoded-none : (bytes : List ℕ) → decoded bytes ≡ None → BeginsNoRow bytes
decoded-none bytes none i rest h e =
    let some = decoded-encoding i rest h in
    let at : decoded bytes ≡ decoded (encoding i ++ rest) = ap decoded e in
    cc

none_of : (bytes : List ℕ) (o : Option (Instr × ℕ)) → o ≡ decoded bytes → IfNone o (BeginsNoRow bytes)
none_of bytes None e = decoded-none bytes (sym e)
none_of bytes (Some row) e = tt

-- what a reading is, by the value alone
pub reading : (bytes : List ℕ) (o : Option (Instr × ℕ)) → o ≡ read_row bytes → (o ≡ decoded bytes) × (IfReads bytes o × IfNone o (BeginsNoRow bytes))
unfolding decoded
reading bytes o e =
    let is : o ≡ decoded bytes = e in
    (e, (subst (IfReads bytes) (sym is) (decoded-reads bytes), none_of bytes o is))

-- the encoding is what stands before the zeros
pub front_of_padded : (front rest : List ℕ) → take (length front) (front ++ rest) ≡ front
front_of_padded front rest = take-append_seam front rest

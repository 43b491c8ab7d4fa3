-- The machine, after the Intel 64 manual, volume 2: its state, what each instruction does to it,
-- and its faults.
use Rattle.std.specs.Prelude.{ℕ, zero, suc, ◌+◌, ◌-◌, ◌*◌, ◌/◌, ◌%◌, ◌^◌, Bool, true, false, not, List, [], ◌∷◌, ◌++◌, length, take, drop, replicate, map, find, ℤ, pos, neg_ℤ, if◌then◌else◌, ◌==◌, ◌&&◌, ◌||◌, nat_lt, nat_le, int_le, int_div, int_rem, bit_and, bit_or, bit_xor, slice_index, slice_index_or, slice_set, option_map, Option, Some, None}
use Rattle.std.specs.Int.{w64, w128, to_le_bytes, from_le_bytes, cast_signed, cast_unsigned, int_shr}
use Rattle.x64_table.specs.declared.cpu.Cpu.{Cpu}
use Rattle.x64_table.specs.declared.cpu.Flags.{Flags}
use Rattle.x64_table.specs.declared.cpu.Stepped.{Stepped}
use Rattle.x64_table.specs.declared.cpu.Stepped.TheVariants.{Went, Asked, Exit, Fault}
use Rattle.x64_table.specs.declared.image.Segment.{Segment}
use Rattle.x64_table.specs.declared.image.Image.{Image}
use Rattle.x64_table.specs.declared.instr.ArithOp.{ArithOp}
use Rattle.x64_table.specs.declared.instr.ArithOp.TheVariants.{Add, Or, And, Sub, Xor, Cmp}
use Rattle.x64_table.specs.declared.instr.ShiftOp.{ShiftOp}
use Rattle.x64_table.specs.declared.instr.ShiftOp.TheVariants.{Shl, Shr, Sar}
use Rattle.x64_table.specs.declared.instr.Cond.{Cond}
use Rattle.x64_table.specs.declared.instr.Cond.TheVariants.{B, AE, E, NE, BE, A, L, GE, LE, G}
use Rattle.x64_table.specs.declared.instr.Instr.{Instr}
use Rattle.x64_table.specs.declared.instr.Instr.TheVariants.{MovReg, MovImm, Load, Store, LoadByte, StoreByte, Lea, Arith, ArithImm, Test, Imul, Cqo, Neg, Idiv, ShiftImm, ShiftCl, Jump, Call, JumpIf, CallReg, JumpReg, Ret, Syscall}
use Rattle.x64_table.specs.Encoding.{decoded}

-- ---- the state

-- a segment in memory, with its zeros
pub record Loaded : Type 0 where
  pub at : ℕ
  pub flags : ℕ
  pub bytes : List ℕ

pub record State : Type 0 where
  pub cpu : Cpu
  pub segments : List Loaded

unfoldable pub zeros : ℕ → List ℕ
zeros n = replicate n 0

-- a segment of an image as the kernel loads it: its bytes, and zeros up to its size
abbrev pub in_memory : Segment → Loaded
in_memory s =
    record { at = s.at; flags = s.flags; bytes = take s.size s.bytes ++ zeros (s.size - length s.bytes) }

-- all registers and flags are undefined when a program begins
abbrev pub fresh_cpu : ℕ → Cpu
fresh_cpu entry =
    record {
      regs = None ∷ None ∷ None ∷ None ∷ None ∷ None ∷ None ∷ None ∷ None ∷ None ∷ None ∷ None ∷ None ∷ None ∷ None ∷ None ∷ [];
      flags = None;
      at = entry;
    }

-- the state that the program of an image begins in
abbrev pub begun : Image → State
begun image = record { cpu = fresh_cpu image.entry; segments = map in_memory image.segments }

-- ---- registers, positions and flags

abbrev pub reg : Cpu → ℕ → Option ℕ
reg cpu r = slice_index_or cpu.regs r None

-- the position behind an instruction of n bytes, and a jump from there
abbrev pub past : Cpu → ℕ → ℕ
past cpu n = (cpu.at + n) % 2 ^ 64

abbrev pub address : ℕ → ℤ → ℕ
address base disp = (base + cast_unsigned w64 disp) % 2 ^ 64

-- the processor goes on behind an instruction of n bytes, or elsewhere
abbrev pub moved : Cpu → ℕ → Cpu
moved cpu to = record cpu { at = to }

abbrev pub with_reg : Cpu → ℕ → ℕ → Cpu
with_reg cpu r v = record cpu { regs = slice_set cpu.regs r (Some v) }

abbrev pub without_reg : Cpu → ℕ → Cpu
without_reg cpu r = record cpu { regs = slice_set cpu.regs r None }

abbrev pub with_flags : Cpu → Option Flags → Cpu
with_flags cpu flags = record cpu { flags = flags }

abbrev pub differ : Bool → Bool → Bool
differ true b = not b
differ false b = b

abbrev pub same : Bool → Bool → Bool
same true b = b
same false b = not b

-- the sign bit
abbrev pub sign : ℕ → Bool
sign n = nat_le (2 ^ 63) n

abbrev pub is_met : Cond → Flags → Bool
is_met B f = f.cf
is_met AE f = not f.cf
is_met E f = f.zf
is_met NE f = not f.zf
is_met BE f = f.cf || f.zf
is_met A f = not (f.cf || f.zf)
is_met L f = differ f.sf f.of
is_met GE f = same f.sf f.of
is_met LE f = f.zf || differ f.sf f.of
is_met G f = not (f.zf || differ f.sf f.of)

-- ---- arithmetic on 64 bits

abbrev pub sum_64 : ℕ → ℕ → ℕ
sum_64 x y = (x + y) % 2 ^ 64

abbrev pub difference_64 : ℕ → ℕ → ℕ
difference_64 x y = (x + (2 ^ 64 - y)) % 2 ^ 64

abbrev pub arith_value : ArithOp → ℕ → ℕ → ℕ
arith_value Add x y = sum_64 x y
arith_value Or x y = bit_or x y
arith_value And x y = bit_and x y
arith_value Sub x y = difference_64 x y
arith_value Xor x y = bit_xor x y
arith_value Cmp x y = difference_64 x y

-- the carry and the overflow are clear, sign and zero are those of the result
abbrev pub flags_of : ℕ → Flags
flags_of n = record { cf = false; of = false; sf = sign n; zf = n == 0 }

-- the sum overflows where both operands have one sign and it has the other
abbrev pub sum_flags : ℕ → ℕ → Flags
sum_flags x y =
    record {
      cf = nat_le (2 ^ 64) (x + y);
      of = same (sign x) (sign y) && differ (sign x) (sign (sum_64 x y));
      sf = sign (sum_64 x y);
      zf = sum_64 x y == 0;
    }

-- the difference borrows below zero, and overflows where the operands' signs differ and it has
-- the sign of the second
abbrev pub difference_flags : ℕ → ℕ → Flags
difference_flags x y =
    record {
      cf = nat_lt x y;
      of = differ (sign x) (sign y) && differ (sign x) (sign (difference_64 x y));
      sf = sign (difference_64 x y);
      zf = difference_64 x y == 0;
    }

abbrev pub arith_flags : ArithOp → ℕ → ℕ → Flags
arith_flags Add x y = sum_flags x y
arith_flags Or x y = flags_of (bit_or x y)
arith_flags And x y = flags_of (bit_and x y)
arith_flags Sub x y = difference_flags x y
arith_flags Xor x y = flags_of (bit_xor x y)
arith_flags Cmp x y = difference_flags x y

abbrev pub keeps_result : ArithOp → Bool
keeps_result Cmp = false
keeps_result _ = true

abbrev pub shifted : ShiftOp → ℕ → ℕ → ℕ
shifted Shl x k = (x * 2 ^ k) % 2 ^ 64
shifted Shr x k = x / 2 ^ k
shifted Sar x k = cast_unsigned w64 (int_shr (cast_signed w64 x) k)

-- the quotient, if it fits 64 bits with sign, and the remainder
abbrev pub fitting : ℤ → ℤ → Option (ℕ × ℕ)
fitting quotient remainder =
    if int_le (neg_ℤ (pos (2 ^ 63))) quotient && int_le quotient (pos (2 ^ 63 - 1)) then Some (cast_unsigned w64 quotient, cast_unsigned w64 remainder)
    else None

-- high and low, 128 bits with sign, by a divisor with sign
abbrev pub divided : ℕ → ℕ → ℕ → Option (ℕ × ℕ)
divided high low by =
    if by == 0 then None
    else fitting (int_div (cast_signed w128 (high * 2 ^ 64 + low)) (cast_signed w64 by)) (int_rem (cast_signed w128 (high * 2 ^ 64 + low)) (cast_signed w64 by))

-- ---- memory

-- one segment holds the n bytes from a on
abbrev pub holds : Loaded → ℕ → ℕ → Bool
holds s a n = nat_le s.at a && nat_le (a + n) (s.at + length s.bytes)

abbrev pub below : Option ℕ → ℕ → Bool
below None a = false
below (Some top) a = nat_le a top

abbrev pub from : Option ℕ → ℕ → Bool
from None a = false
from (Some top) a = nat_le top a

-- the segments that have a closed part, by their addresses
abbrev pub area_at : ℕ
area_at = 0x1_0000_0000

abbrev pub local_at : ℕ
local_at = 0x2_0000_0000

abbrev pub stack_at : ℕ
stack_at = 0x3_0000_0000

-- the n bytes from a on are in the open part of the segment at the address at: below r15 in the
-- area, below r14 in the local stack, from rsp on in the call stack
abbrev pub is_open : Cpu → ℕ → ℕ → ℕ → Bool
is_open cpu at a n =
    if at == area_at then below (reg cpu 15) (a + n)
    else (if at == local_at then below (reg cpu 14) (a + n)
    else (if at == stack_at then from (reg cpu 4) a else true))

abbrev pub is_readable : Cpu → ℕ → ℕ → Loaded → Bool
is_readable cpu a n s = holds s a n && (s.flags / 4 % 2 == 1 && is_open cpu s.at a n)

abbrev pub is_writable : Cpu → ℕ → ℕ → Loaded → Bool
is_writable cpu a n s = holds s a n && (s.flags / 2 % 2 == 1 && is_open cpu s.at a n)

abbrev pub is_code : ℕ → Loaded → Bool
is_code a s = holds s a 1 && s.flags % 2 == 1

-- the byte at a in a segment that holds it
abbrev pub byte_in : ℕ → Loaded → ℕ
byte_in a s = slice_index s.bytes (a - s.at)

abbrev pub bytes_in : ℕ → ℕ → Loaded → List ℕ
bytes_in a n s = take n (drop (a - s.at) s.bytes)

-- the byte at a place
abbrev pub byte_at : List Loaded → ℕ → Option ℕ
byte_at segments a = option_map (byte_in a) (find (λ s. holds s a 1) segments)

abbrev pub push_last : Option (List ℕ) → Option ℕ → Option (List ℕ)
push_last None b = None
push_last (Some bytes) None = None
push_last (Some bytes) (Some b) = Some (bytes ++ b ∷ [])

-- the bytes at n places from a on, if each of them is there. An access goes byte by byte where
-- no segment holds all of it
unfoldable pub each_byte : (ℕ → Option ℕ) → ℕ → ℕ → Option (List ℕ)
each_byte byte zero a = Some []
each_byte byte (suc n) a = push_last (each_byte byte n a) (byte ((a + n) % 2 ^ 64))

-- each of n places from a on passes
unfoldable pub each_place : (ℕ → Bool) → ℕ → ℕ → Bool
each_place test zero a = true
each_place test (suc n) a = each_place test n a && test ((a + n) % 2 ^ 64)

abbrev pub run_on : Option ℕ → List ℕ → List ℕ
run_on None rest = []
run_on (Some b) rest = b ∷ rest

-- the bytes from a on up to the first that is not there, n at most
unfoldable pub run_of_bytes : (ℕ → Option ℕ) → ℕ → ℕ → List ℕ
run_of_bytes byte zero a = []
run_of_bytes byte (suc n) a = run_on (byte a) (run_of_bytes byte n ((a + 1) % 2 ^ 64))

abbrev pub readable_byte : State → ℕ → Option ℕ
readable_byte s a = option_map (byte_in a) (find (is_readable s.cpu a 1) s.segments)

abbrev pub read_in : State → ℕ → ℕ → Option Loaded → Option (List ℕ)
read_in s a n (Some segment) = Some (bytes_in a n segment)
read_in s a n None = each_byte (readable_byte s) n a

-- the n bytes from a on, if they may be read
abbrev pub read : State → ℕ → ℕ → Option (List ℕ)
read s a n = read_in s a n (find (is_readable s.cpu a n) s.segments)

-- eight bytes as a number, the lowest first
abbrev pub read_8 : State → ℕ → Option ℕ
read_8 s a = option_map (from_le_bytes w64) (read s a 8)

abbrev pub read_1 : State → ℕ → Option ℕ
read_1 s a = readable_byte s a

abbrev pub with_bytes : ℕ → List ℕ → Loaded → Loaded
with_bytes a bytes s =
    let k = a - s.at in
    record s { bytes = take k s.bytes ++ (bytes ++ drop (k + length bytes) s.bytes) }

-- the first segment that passes, changed
abbrev pub change_first : (Loaded → Bool) → (Loaded → Loaded) → List Loaded → List Loaded
change_first test change [] = []
change_first test change (s ∷ rest) = if test s then change s ∷ rest else s ∷ change_first test change rest

abbrev pub has_some : Option Loaded → Bool
has_some None = false
has_some (Some s) = true

abbrev pub has_writable : Cpu → List Loaded → ℕ → ℕ → Bool
has_writable cpu segments n a = has_some (find (is_writable cpu a n) segments)

abbrev pub has_readable : Cpu → List Loaded → ℕ → ℕ → Bool
has_readable cpu segments n a = has_some (find (is_readable cpu a n) segments)

-- the segments with these bytes from a on, in one segment
abbrev pub stored : Cpu → ℕ → List ℕ → List Loaded → List Loaded
stored cpu a bytes segments =
    change_first (is_writable cpu a (length bytes)) (with_bytes a bytes) segments

-- the same byte by byte
unfoldable pub stored_each : Cpu → ℕ → List ℕ → List Loaded → List Loaded
stored_each cpu a [] segments = segments
stored_each cpu a (b ∷ bytes) segments =
    stored_each cpu ((a + 1) % 2 ^ 64) bytes (stored cpu a (b ∷ []) segments)

abbrev pub write_each : Cpu → List Loaded → ℕ → List ℕ → Option (List Loaded)
write_each cpu segments a bytes =
    if each_place (has_writable cpu segments 1) (length bytes) a then Some (stored_each cpu a bytes segments)
    else None

-- the segments with these bytes written from a on, if they may be
abbrev pub written : Cpu → List Loaded → ℕ → List ℕ → Option (List Loaded)
written cpu segments a bytes =
    if has_writable cpu segments (length bytes) a then Some (stored cpu a bytes segments)
    else write_each cpu segments a bytes

-- all of the n bytes from a on may be read. No process has an address at or above 2^47
abbrev pub is_range : State → ℕ → ℕ → Bool
is_range s a n =
    nat_le (a + n) (2 ^ 47) && (has_readable s.cpu s.segments n a || each_place (has_readable s.cpu s.segments 1) n a)

-- ---- one instruction

-- what a step came to, and the state behind it
abbrev pub Next : Type 0
Next = Stepped × State

-- a fault leaves the state
abbrev pub fault : State → Next
fault s = (Fault s.cpu.at, s)

abbrev pub goes : State → Cpu → Next
goes s cpu = (Went, record s { cpu = cpu })

-- an undefined operand is a fault
abbrev pub with : {A : Type 0} → State → Option A → (A → Next) → Next
with s None go = fault s
with s (Some v) go = go v

-- a register gets a value, and the flags stay
abbrev pub put : State → ℕ → ℕ → ℕ → Next
put s n dst v = goes s (moved (with_reg s.cpu dst v) (past s.cpu n))

-- a register gets a value, and the flags become undefined
abbrev pub put_unflagged : State → ℕ → ℕ → ℕ → Next
put_unflagged s n dst v = goes s (moved (with_flags (with_reg s.cpu dst v) None) (past s.cpu n))

abbrev pub arith : State → ℕ → ArithOp → ℕ → ℕ → ℕ → Next
arith s n op dst x y =
    goes s (moved (with_flags (if keeps_result op then with_reg s.cpu dst (arith_value op x y) else s.cpu) (Some (arith_flags op x y))) (past s.cpu n))

abbrev pub tested : State → ℕ → ℕ → ℕ → Next
tested s n x y = goes s (moved (with_flags s.cpu (Some (flags_of (bit_and x y)))) (past s.cpu n))

abbrev pub store : State → ℕ → Option (List Loaded) → Next
store s n None = fault s
store s n (Some segments) = (Went, record { cpu = moved s.cpu (past s.cpu n); segments = segments })

abbrev pub divide : State → ℕ → Option (ℕ × ℕ) → Next
divide s n None = fault s
divide s n (Some (quotient, remainder)) =
    goes s (moved (with_flags (with_reg (with_reg s.cpu 0 quotient) 2 remainder) None) (past s.cpu n))

-- a call's target is known before the store
abbrev pub enter : State → ℕ → ℕ → Option (List Loaded) → Next
enter s sp to None = fault s
enter s sp to (Some segments) =
    (Went, record { cpu = moved (with_reg s.cpu 4 sp) to; segments = segments })

-- rsp goes down by 8 and the return address is stored there, inside the new open part
abbrev pub call : State → ℕ → ℕ → Next
call s n to =
    with s (reg s.cpu 4) (λ sp. enter s (difference_64 sp 8) to (written (with_reg s.cpu 4 (difference_64 sp 8)) s.segments (difference_64 sp 8) (to_le_bytes w64 (past s.cpu n))))

abbrev pub jump : State → ℕ → Next
jump s to = goes s (moved s.cpu to)

abbrev pub jump_if : State → ℕ → Cond → ℤ → Flags → Next
jump_if s n cond rel f = jump s (if is_met cond f then address (past s.cpu n) rel else past s.cpu n)

abbrev pub return_to : State → ℕ → ℕ → Next
return_to s sp to = goes s (moved (with_reg s.cpu 4 (sum_64 sp 8)) to)

-- the kernel's write: channel 1 or 2, and at least one byte, all of which may be read. The state
-- waits for the number of bytes taken
abbrev pub ask : State → ℕ → ℕ → ℕ → Next
ask s channel a len =
    if (channel == 1 || channel == 2) && (nat_lt 0 len && is_range s a len) then (Asked channel a len, s)
    else fault s

abbrev pub system_write : State → Next
system_write s =
    with s (reg s.cpu 7) (λ channel. with s (reg s.cpu 6) (λ a. with s (reg s.cpu 2) (λ len. ask s channel a len)))

-- the status is the low 8 bits
abbrev pub system_exit : State → Next
system_exit s = with s (reg s.cpu 7) (λ status. (Exit (status % 256), s))

abbrev pub system : State → ℕ → Next
system s number =
    if number == 1 then system_write s else (if number == 60 then system_exit s else fault s)

-- what an instruction of n bytes does
abbrev pub done : Instr → ℕ → State → Next
done (MovReg dst src) n s = with s (reg s.cpu src) (λ v. put s n dst v)
done (MovImm dst imm) n s = put s n dst imm
done (Load dst base disp) n s =
    with s (reg s.cpu base) (λ b. with s (read_8 s (address b disp)) (λ v. put s n dst v))
done (Store base disp src) n s =
    with s (reg s.cpu base) (λ b. with s (reg s.cpu src) (λ v. store s n (written s.cpu s.segments (address b disp) (to_le_bytes w64 v))))
done (LoadByte dst base disp) n s =
    with s (reg s.cpu base) (λ b. with s (read_1 s (address b disp)) (λ v. put s n dst v))
done (StoreByte base disp src) n s =
    with s (reg s.cpu base) (λ b. with s (reg s.cpu src) (λ v. store s n (written s.cpu s.segments (address b disp) (v % 256 ∷ []))))
done (Lea dst base disp) n s = with s (reg s.cpu base) (λ b. put s n dst (address b disp))
done (Arith op dst src) n s =
    with s (reg s.cpu dst) (λ x. with s (reg s.cpu src) (λ y. arith s n op dst x y))
done (ArithImm op dst imm) n s =
    with s (reg s.cpu dst) (λ x. arith s n op dst x (cast_unsigned w64 imm))
done (Test a b) n s = with s (reg s.cpu a) (λ x. with s (reg s.cpu b) (λ y. tested s n x y))
done (Imul dst src) n s =
    with s (reg s.cpu dst) (λ x. with s (reg s.cpu src) (λ y. put_unflagged s n dst ((x * y) % 2 ^ 64)))
done Cqo n s = with s (reg s.cpu 0) (λ v. put s n 2 (if sign v then 2 ^ 64 - 1 else 0))
done (Neg dst) n s = with s (reg s.cpu dst) (λ v. put_unflagged s n dst (difference_64 0 v))
done (Idiv src) n s =
    with s (reg s.cpu 2) (λ high. with s (reg s.cpu 0) (λ low. with s (reg s.cpu src) (λ by. divide s n (divided high low by))))
done (ShiftImm op dst count) n s =
    with s (reg s.cpu dst) (λ v. put_unflagged s n dst (shifted op v count))
done (ShiftCl op dst) n s =
    with s (reg s.cpu 1) (λ count. with s (reg s.cpu dst) (λ v. put_unflagged s n dst (shifted op v (count % 64))))
done (Jump rel) n s = jump s (address (past s.cpu n) rel)
done (Call rel) n s = call s n (address (past s.cpu n) rel)
done (JumpIf cond rel) n s = with s s.cpu.flags (λ f. jump_if s n cond rel f)
done (CallReg to) n s = with s (reg s.cpu to) (λ v. call s n v)
done (JumpReg to) n s = with s (reg s.cpu to) (λ v. jump s v)
done Ret n s = with s (reg s.cpu 4) (λ sp. with s (read_8 s sp) (λ to. return_to s sp to))
done Syscall n s = with s (reg s.cpu 0) (λ number. system s number)

-- ---- a step

-- the byte at a place, if it may be executed
abbrev pub code_byte : List Loaded → ℕ → Option ℕ
code_byte segments a = option_map (byte_in a) (find (is_code a) segments)

abbrev pub fetched_across : List Loaded → ℕ → Option (Instr × ℕ)
fetched_across segments a = decoded (run_of_bytes (code_byte segments) 15 a)

abbrev pub or_across : Option (Instr × ℕ) → List Loaded → ℕ → Option (Instr × ℕ)
or_across (Some row) segments a = Some row
or_across None segments a = fetched_across segments a

-- the row that stands at a in a segment that holds that place, or runs on into the next one
abbrev pub fetch_in : List Loaded → ℕ → Option Loaded → Option (Instr × ℕ)
fetch_in segments a None = None
fetch_in segments a (Some s) = or_across (decoded (drop (a - s.at) s.bytes)) segments a

-- the instruction at a, with its length: only segments to execute are fetched from
unfoldable pub fetched : List Loaded → ℕ → Option (Instr × ℕ)
fetched segments a = fetch_in segments a (find (is_code a) segments)

abbrev pub do_row : Option (Instr × ℕ) → State → Next
do_row None s = fault s
do_row (Some (i, n)) s = done i n s

unfoldable pub step_of : State → Next
step_of s = do_row (fetched s.segments s.cpu.at) s

-- the kernel's answer goes to rax with all its bits; the call leaves rcx, r11 and the flags
-- undefined. The instruction has two bytes
abbrev pub answered : State → ℤ → State
answered s n =
    record s { cpu = moved (with_flags (without_reg (without_reg (with_reg s.cpu 0 (cast_unsigned w64 n)) 1) 11) None) (past s.cpu 2) }

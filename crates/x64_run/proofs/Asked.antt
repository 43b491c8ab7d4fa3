-- A write that is asked lies below 2^47.
use Rattle.std.proofs.Common.{ℕ, ◌+◌, ◌≤◌, ◌^◌, ◌≡◌, Bool, true, false, ◌&&◌, ◌||◌, ◌==◌, nat_le, nat_lt, List, Option, Some, None, refl, sym, ◌∙◌, subst, arith, if◌then◌else◌, [], ◌∷◌, ◌*◌, ◌-◌, ◌%◌}
use Rattle.std.specs.Int.{w64, to_le_bytes, cast_unsigned}
use Rattle.std.proofs.lemmas.Bool.Decides.{nat_tests}
use Rattle.x64_table.specs.declared.cpu.Stepped.{Stepped}
use Rattle.x64_table.specs.declared.cpu.Stepped.TheVariants.{Went, Asked, Exit, Fault}
use Rattle.x64_table.specs.declared.instr.Instr.{Instr}
use Rattle.x64_table.specs.declared.instr.Instr.TheVariants.{MovReg, MovImm, Load, Store, LoadByte, StoreByte, Lea, Arith, ArithImm, Test, Imul, Cqo, Neg, Idiv, ShiftImm, ShiftCl, Jump, Call, JumpIf, CallReg, JumpReg, Ret, Syscall}
use Rattle.x64_table.specs.Machine.{Loaded, State, Next, address, arith as operate, ask, call, difference_64, divide, divided, do_row, done, enter, fault, fetched, is_range, jump, jump_if, past, put, put_unflagged, read_1, read_8, reg, return_to, shifted, sign, step_of, store, system, system_exit, system_write, tested, with, with_reg, written}
use Rattle.x64_table.proofs.Runs.{step_row}

abbrev Within : Stepped → Type 0
Within Went = Unit {0}
Within (Asked channel a len) = a + len ≤ 2 ^ 47
Within (Exit status) = Unit {0}
Within (Fault at) = Unit {0}

with_within : {A : Type 0} (s : State) (o : Option A) (go : A → Next) → ((v : A) → Within (go v).0) → Within (with s o go).0
with_within s None go h = tt
with_within s (Some v) go h = h v

store_within : (s : State) (n : ℕ) (o : Option (List Loaded)) → Within (store s n o).0
store_within s n None = tt
store_within s n (Some segments) = tt

divide_within : (s : State) (n : ℕ) (o : Option (ℕ × ℕ)) → Within (divide s n o).0
divide_within s n None = tt
divide_within s n (Some (quotient, remainder)) = tt

enter_within : (s : State) (sp to : ℕ) (o : Option (List Loaded)) → Within (enter s sp to o).0
enter_within s sp to None = tt
enter_within s sp to (Some segments) = tt

call_within : (s : State) (n to : ℕ) → Within (call s n to).0
call_within s n to = with_within s (reg s.cpu 4) (λ sp. enter s (difference_64 sp 8) to (written (with_reg s.cpu 4 (difference_64 sp 8)) s.segments (difference_64 sp 8) (to_le_bytes w64 (past s.cpu n)))) (λ sp. enter_within s (difference_64 sp 8) to (written (with_reg s.cpu 4 (difference_64 sp 8)) s.segments (difference_64 sp 8) (to_le_bytes w64 (past s.cpu n))))

if_within : (b : Bool) (x y : Next) → Within x.0 → Within y.0 → Within (if b then x else y).0
if_within true x y h k = h
if_within false x y h k = k

and_left : (a b : Bool) → (a && b) ≡ true → a ≡ true
and_left true b h = refl
and_left false b h = h

and_right : (a b : Bool) → (a && b) ≡ true → b ≡ true
and_right true b h = h
and_right false b h = absurd (cc)

at_most : (n m : ℕ) → nat_le n m ≡ true → n ≤ m
at_most n m h = grind (arith, nat_tests)

ask_by : (b : Bool) (s : State) (channel a len : ℕ) → (b ≡ true → a + len ≤ 2 ^ 47) → Within (if b then (Asked channel a len, s) else fault s).0
ask_by true s channel a len h = h refl
ask_by false s channel a len h = tt

ask_within : (s : State) (channel a len : ℕ) → Within (ask s channel a len).0
ask_within s channel a len =
    ask_by ((channel == 1 || channel == 2) && (nat_lt 0 len && is_range s a len)) s channel a len (λ h. at_most _ _ (and_left _ _ (and_right _ _ (and_right _ _ h))))

write_within : (s : State) → Within (system_write s).0
write_within s = with_within s (reg s.cpu 7) (λ channel. with s (reg s.cpu 6) (λ a. with s (reg s.cpu 2) (λ len. ask s channel a len))) (λ channel. with_within s (reg s.cpu 6) (λ a. with s (reg s.cpu 2) (λ len. ask s channel a len)) (λ a. with_within s (reg s.cpu 2) (λ len. ask s channel a len) (λ len. ask_within s channel a len)))

exit_within : (s : State) → Within (system_exit s).0
exit_within s = with_within s (reg s.cpu 7) (λ status. (Exit (status % 256), s)) (λ status. tt)

system_within : (s : State) (number : ℕ) → Within (system s number).0
system_within s number =
    if_within (number == 1) (system_write s) (if number == 60 then system_exit s else fault s) (write_within s) (if_within (number == 60) (system_exit s) (fault s) (exit_within s) tt)

done_within : (i : Instr) (n : ℕ) (s : State) → Within (done i n s).0
done_within (MovReg dst src) n s = with_within s (reg s.cpu src) (λ v. put s n dst v) (λ v. tt)
done_within (MovImm dst imm) n s = tt
done_within (Load dst base disp) n s = with_within s (reg s.cpu base) (λ b. with s (read_8 s (address b disp)) (λ v. put s n dst v)) (λ b. with_within s (read_8 s (address b disp)) (λ v. put s n dst v) (λ v. tt))
done_within (Store base disp src) n s = with_within s (reg s.cpu base) (λ b. with s (reg s.cpu src) (λ v. store s n (written s.cpu s.segments (address b disp) (to_le_bytes w64 v)))) (λ b. with_within s (reg s.cpu src) (λ v. store s n (written s.cpu s.segments (address b disp) (to_le_bytes w64 v))) (λ v. store_within s n (written s.cpu s.segments (address b disp) (to_le_bytes w64 v))))
done_within (LoadByte dst base disp) n s = with_within s (reg s.cpu base) (λ b. with s (read_1 s (address b disp)) (λ v. put s n dst v)) (λ b. with_within s (read_1 s (address b disp)) (λ v. put s n dst v) (λ v. tt))
done_within (StoreByte base disp src) n s = with_within s (reg s.cpu base) (λ b. with s (reg s.cpu src) (λ v. store s n (written s.cpu s.segments (address b disp) (v % 256 ∷ [])))) (λ b. with_within s (reg s.cpu src) (λ v. store s n (written s.cpu s.segments (address b disp) (v % 256 ∷ []))) (λ v. store_within s n (written s.cpu s.segments (address b disp) (v % 256 ∷ []))))
done_within (Lea dst base disp) n s = with_within s (reg s.cpu base) (λ b. put s n dst (address b disp)) (λ b. tt)
done_within (Arith op dst src) n s = with_within s (reg s.cpu dst) (λ x. with s (reg s.cpu src) (λ y. operate s n op dst x y)) (λ x. with_within s (reg s.cpu src) (λ y. operate s n op dst x y) (λ y. tt))
done_within (ArithImm op dst imm) n s = with_within s (reg s.cpu dst) (λ x. operate s n op dst x (cast_unsigned w64 imm)) (λ x. tt)
done_within (Test a b) n s = with_within s (reg s.cpu a) (λ x. with s (reg s.cpu b) (λ y. tested s n x y)) (λ x. with_within s (reg s.cpu b) (λ y. tested s n x y) (λ y. tt))
done_within (Imul dst src) n s = with_within s (reg s.cpu dst) (λ x. with s (reg s.cpu src) (λ y. put_unflagged s n dst ((x * y) % 2 ^ 64))) (λ x. with_within s (reg s.cpu src) (λ y. put_unflagged s n dst ((x * y) % 2 ^ 64)) (λ y. tt))
done_within Cqo n s = with_within s (reg s.cpu 0) (λ v. put s n 2 (if sign v then 2 ^ 64 - 1 else 0)) (λ v. tt)
done_within (Neg dst) n s = with_within s (reg s.cpu dst) (λ v. put_unflagged s n dst (difference_64 0 v)) (λ v. tt)
done_within (Idiv src) n s = with_within s (reg s.cpu 2) (λ high. with s (reg s.cpu 0) (λ low. with s (reg s.cpu src) (λ by. divide s n (divided high low by)))) (λ high. with_within s (reg s.cpu 0) (λ low. with s (reg s.cpu src) (λ by. divide s n (divided high low by))) (λ low. with_within s (reg s.cpu src) (λ by. divide s n (divided high low by)) (λ by. divide_within s n (divided high low by))))
done_within (ShiftImm op dst count) n s = with_within s (reg s.cpu dst) (λ v. put_unflagged s n dst (shifted op v count)) (λ v. tt)
done_within (ShiftCl op dst) n s = with_within s (reg s.cpu 1) (λ count. with s (reg s.cpu dst) (λ v. put_unflagged s n dst (shifted op v (count % 64)))) (λ count. with_within s (reg s.cpu dst) (λ v. put_unflagged s n dst (shifted op v (count % 64))) (λ v. tt))
done_within (Jump rel) n s = tt
done_within (Call rel) n s = call_within s n (address (past s.cpu n) rel)
done_within (JumpIf cond rel) n s = with_within s s.cpu.flags (λ f. jump_if s n cond rel f) (λ f. tt)
done_within (CallReg to) n s = with_within s (reg s.cpu to) (λ v. call s n v) (λ v. call_within s n v)
done_within (JumpReg to) n s = with_within s (reg s.cpu to) (λ v. jump s v) (λ v. tt)
done_within Ret n s = with_within s (reg s.cpu 4) (λ sp. with s (read_8 s sp) (λ to. return_to s sp to)) (λ sp. with_within s (read_8 s sp) (λ to. return_to s sp to) (λ to. tt))
done_within Syscall n s = with_within s (reg s.cpu 0) (λ number. system s number) (λ number. system_within s number)

row_within : (o : Option (Instr × ℕ)) (s : State) → Within (do_row o s).0
row_within None s = tt
row_within (Some (i, n)) s = done_within i n s

-- what a step asks for lies below 2^47
pub asked_within : (s t : State) (channel a len : ℕ) → step_of s ≡ (Asked channel a len, t) → a + len ≤ 2 ^ 47
asked_within s t channel a len e =
    let is = sym (step_row s (fetched s.segments s.cpu.at) refl) ∙ e in
    let P : Next → Type 0 = λ n. Within n.0 in
    subst P is (row_within (fetched s.segments s.cpu.at) s)

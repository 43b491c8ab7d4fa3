-- Runs of the program that writes texts, seen by the registers that it uses: one lemma for each kind of row.
use Rattle.std.proofs.Common.{ℕ, ◌+◌, ◌<◌, ◌%◌, ◌^◌, ◌≡◌, Bool, true, false, not, List, [], ◌∷◌, ◌++◌, ℤ, Option, Some, None, refl, ap, ◌∙◌, arith, nat_lt}
use Rattle.std.specs.Int.{w64, cast_unsigned}
use Rattle.std.specs.Int.Bits.{and_self}
use Rattle.std.proofs.Math.Bool.{not-not}
use Rattle.x64_table.specs.declared.cpu.Cpu.{Cpu}
use Rattle.x64_table.specs.declared.cpu.Flags.{Flags}
use Rattle.x64_table.specs.declared.instr.ArithOp.TheVariants.{Add, Sub, Cmp}
use Rattle.x64_table.specs.declared.instr.Cond.{Cond}
use Rattle.x64_table.specs.declared.instr.Instr.TheVariants.{MovImm, Arith, ArithImm, Test, Jump, JumpIf, Syscall}
use Rattle.x64_table.specs.Machine.{Loaded, fetched, address, is_met, is_range, sum_64, difference_64, flags_of, sum_flags, difference_flags}
use Rattle.x64_table.specs.Kernel.{Run, Going, Exited, next, ask_next, answer_with, put_bytes, taken, is_good}
use Rattle.x64_table.proofs.Runs.{row_step, jump_step, write_step, exit_step}

-- the registers that the program uses, its flags and its position
pub record View : Type 0 where
  pub rax : Option ℕ
  pub rdx : Option ℕ
  pub rsi : Option ℕ
  pub rdi : Option ℕ
  pub flags : Option Flags
  pub at : ℕ

abbrev pub cpu_of : View → Cpu
cpu_of v =
    record {
      regs = v.rax ∷ None ∷ v.rdx ∷ None ∷ None ∷ None ∷ v.rsi ∷ v.rdi ∷ None ∷ None ∷ None ∷ None ∷ None ∷ None ∷ None ∷ None ∷ [];
      flags = v.flags;
      at = v.at;
    }

-- a run that goes on, with what is left of the answers, whether one was a refusal, and what was written
abbrev pub shown : List Loaded → List ℤ → Bool → List (ℕ × ℕ) → View → Run
shown segments left refused out v =
    record {
      state = record { cpu = cpu_of v; segments = segments };
      ending = Going;
      left = left;
      refused = refused;
      asked_again = false;
      out = out;
    }

-- positions do not wrap
pub wraps_not : (a n to : ℕ) → a + n ≡ to → to < 2 ^ 64 → (a + n) % 2 ^ 64 ≡ to
wraps_not a n to e small = omega arith

module _ (segments : List Loaded) (left : List ℤ) (refused : Bool) (out : List (ℕ × ℕ)) where
  pub imm_rax : (v : View) (imm to : ℕ) → fetched segments v.at ≡ Some (MovImm 0 imm, 10) → v.at + 10 ≡ to → to < 2 ^ 64 → next (shown segments left refused out v) ≡ shown segments left refused out (record v { rax = Some imm; at = to })
  imm_rax v imm to found e small =
      row_step (shown segments left refused out v) _ refl found ∙ rw (wraps_not v.at 10 to e small) refl

  pub imm_rdx : (v : View) (imm to : ℕ) → fetched segments v.at ≡ Some (MovImm 2 imm, 10) → v.at + 10 ≡ to → to < 2 ^ 64 → next (shown segments left refused out v) ≡ shown segments left refused out (record v { rdx = Some imm; at = to })
  imm_rdx v imm to found e small =
      row_step (shown segments left refused out v) _ refl found ∙ rw (wraps_not v.at 10 to e small) refl

  pub imm_rsi : (v : View) (imm to : ℕ) → fetched segments v.at ≡ Some (MovImm 6 imm, 10) → v.at + 10 ≡ to → to < 2 ^ 64 → next (shown segments left refused out v) ≡ shown segments left refused out (record v { rsi = Some imm; at = to })
  imm_rsi v imm to found e small =
      row_step (shown segments left refused out v) _ refl found ∙ rw (wraps_not v.at 10 to e small) refl

  pub imm_rdi : (v : View) (imm to : ℕ) → fetched segments v.at ≡ Some (MovImm 7 imm, 10) → v.at + 10 ≡ to → to < 2 ^ 64 → next (shown segments left refused out v) ≡ shown segments left refused out (record v { rdi = Some imm; at = to })
  imm_rdi v imm to found e small =
      row_step (shown segments left refused out v) _ refl found ∙ rw (wraps_not v.at 10 to e small) refl

  -- rax against a number with sign
  pub cmp_imm : (v : View) (imm : ℤ) (x to : ℕ) → fetched segments v.at ≡ Some (ArithImm Cmp 0 imm, 7) → v.rax ≡ Some x → v.at + 7 ≡ to → to < 2 ^ 64 → next (shown segments left refused out v) ≡ shown segments left refused out (record v { flags = Some (difference_flags x (cast_unsigned w64 imm)); at = to })
  cmp_imm v imm x to found at_0 e small =
      row_step (shown segments left refused out v) _ refl found ∙ rw (at_0, wraps_not v.at 7 to e small) refl

  pub test_rax : (v : View) (x to : ℕ) → fetched segments v.at ≡ Some (Test 0 0, 3) → v.rax ≡ Some x → v.at + 3 ≡ to → to < 2 ^ 64 → next (shown segments left refused out v) ≡ shown segments left refused out (record v { flags = Some (flags_of x); at = to })
  test_rax v x to found at_0 e small =
      row_step (shown segments left refused out v) _ refl found ∙ rw (at_0, wraps_not v.at 3 to e small, and_self x) refl

  pub cmp_rdx : (v : View) (x y to : ℕ) → fetched segments v.at ≡ Some (Arith Cmp 0 2, 3) → v.rax ≡ Some x → v.rdx ≡ Some y → v.at + 3 ≡ to → to < 2 ^ 64 → next (shown segments left refused out v) ≡ shown segments left refused out (record v { flags = Some (difference_flags x y); at = to })
  cmp_rdx v x y to found at_0 at_2 e small =
      row_step (shown segments left refused out v) _ refl found ∙ rw (at_0, at_2, wraps_not v.at 3 to e small) refl

  pub add_rsi : (v : View) (x y z to : ℕ) → fetched segments v.at ≡ Some (Arith Add 6 0, 3) → v.rsi ≡ Some x → v.rax ≡ Some y → sum_64 x y ≡ z → v.at + 3 ≡ to → to < 2 ^ 64 → next (shown segments left refused out v) ≡ shown segments left refused out (record v { rsi = Some z; flags = Some (sum_flags x y); at = to })
  add_rsi v x y z to found at_6 at_0 sum e small =
      row_step (shown segments left refused out v) _ refl found
      ∙ rw (at_6, at_0, wraps_not v.at 3 to e small) (ap (λ n. shown segments left refused out (record v { rax = Some y; rsi = Some n; flags = Some (sum_flags x y); at = to })) sum)

  pub sub_rdx : (v : View) (x y z to : ℕ) → fetched segments v.at ≡ Some (Arith Sub 2 0, 3) → v.rdx ≡ Some x → v.rax ≡ Some y → difference_64 x y ≡ z → v.at + 3 ≡ to → to < 2 ^ 64 → next (shown segments left refused out v) ≡ shown segments left refused out (record v { rdx = Some z; flags = Some (difference_flags x y); at = to })
  sub_rdx v x y z to found at_2 at_0 difference e small =
      row_step (shown segments left refused out v) _ refl found
      ∙ rw (at_2, at_0, wraps_not v.at 3 to e small) (ap (λ n. shown segments left refused out (record v { rax = Some y; rdx = Some n; flags = Some (difference_flags x y); at = to })) difference)

  pub jump : (v : View) (rel : ℤ) (to : ℕ) → fetched segments v.at ≡ Some (Jump rel, 5) → address ((v.at + 5) % 2 ^ 64) rel ≡ to → next (shown segments left refused out v) ≡ shown segments left refused out (record v { at = to })
  jump v rel to found e = row_step (shown segments left refused out v) _ refl found ∙ rw e refl

  -- a jump that is taken, and one that is not
  pub jump_met : (v : View) (c : Cond) (rel : ℤ) (f : Flags) (to : ℕ) → fetched segments v.at ≡ Some (JumpIf c rel, 6) → v.flags ≡ Some f → is_met c f ≡ true → address ((v.at + 6) % 2 ^ 64) rel ≡ to → next (shown segments left refused out v) ≡ shown segments left refused out (record v { at = to })
  jump_met v c rel f to found flags met e =
      jump_step (shown segments left refused out v) 6 c rel f true refl found flags met ∙ rw e refl

  pub jump_not : (v : View) (c : Cond) (rel : ℤ) (f : Flags) (to : ℕ) → fetched segments v.at ≡ Some (JumpIf c rel, 6) → v.flags ≡ Some f → is_met c f ≡ false → v.at + 6 ≡ to → to < 2 ^ 64 → next (shown segments left refused out v) ≡ shown segments left refused out (record v { at = to })
  jump_not v c rel f to found flags met e small =
      jump_step (shown segments left refused out v) 6 c rel f false refl found flags met ∙ rw (wraps_not v.at 6 to e small) refl

  -- a write on channel 1
  pub write : (v : View) (a len : ℕ) → fetched segments v.at ≡ Some (Syscall, 2) → v.rax ≡ Some 1 → v.rdi ≡ Some 1 → v.rsi ≡ Some a → v.rdx ≡ Some len → nat_lt 0 len ≡ true → is_range (record { cpu = cpu_of v; segments = segments }) a len ≡ true → next (shown segments left refused out v) ≡ ask_next (shown segments left refused out v) 1 a len left
  write v a len found at_0 at_7 at_6 at_2 some range =
      write_step (shown segments left refused out v) 2 1 a len refl found at_0 at_7 at_6 at_2 refl some range

  -- the answer n, whose bits are x
  pub answered_is : (v : View) (a len : ℕ) (n : ℤ) (x to : ℕ) (b : Bool) (more : List (ℕ × ℕ)) → refused ≡ false → cast_unsigned w64 n ≡ x → is_good n len ≡ not b → out ++ put_bytes segments 1 a (taken n len) ≡ more → v.at + 2 ≡ to → to < 2 ^ 64 → answer_with (shown segments left refused out v) 1 a len n left ≡ shown segments left b more (record v { rax = Some x; flags = None; at = to })
  answered_is v a len n x to b more before bits good put e small =
      rw (before, bits, good, put, wraps_not v.at 2 to e small) (ap (λ c. shown segments left c more (record v { rax = Some x; flags = None; at = to })) (not-not b))

  pub exit : (v : View) (status : ℕ) → fetched segments v.at ≡ Some (Syscall, 2) → v.rax ≡ Some 60 → v.rdi ≡ Some status → next (shown segments left refused out v) ≡ record (shown segments left refused out v) { ending = Exited (status % 256) }
  exit v status found at_0 at_7 =
      exit_step (shown segments left refused out v) 2 status refl found at_0 at_7

-- The loop that writes one text: whatever the kernel answers, it writes all of it or gives up.
use Rattle.std.proofs.Common.{ℕ, ◌+◌, ◌-◌, ◌≤◌, ◌<◌, ◌^◌, ◌≡◌, ◌≢◌, Bool, true, false, not, List, [], ◌∷◌, ◌++◌, length, take, drop, ℤ, pos, negsuc, Option, Some, None, refl, sym, ap, ◌∙◌, subst, arith, All, FitsSigned}
use Rattle.std.specs.Int.{w64, cast_unsigned}
use Rattle.std.proofs.lemmas.List.{map-append, take-append-drop}
use Rattle.std.proofs.lemmas.List.Elements.{All-head, All-tail}
use Rattle.x64_table.specs.declared.cpu.Flags.{Flags}
use Rattle.x64_table.specs.declared.instr.ArithOp.TheVariants.{Add, Sub, Cmp}
use Rattle.x64_table.specs.declared.instr.Cond.TheVariants.{E, NE, A}
use Rattle.x64_table.specs.declared.instr.Instr.TheVariants.{MovImm, Arith, ArithImm, Test, Jump, JumpIf, Syscall}
use Rattle.x64_table.specs.Machine.{Loaded, fetched, difference_flags, flags_of, sum_flags}
use Rattle.x64_table.specs.Agreement.{IsPrefix}
use Rattle.x64_table.specs.Kernel.{Run, put_bytes, ask_next, answer_with, is_good, taken}
use Rattle.oxml_driver.specs.Printer.{on_1}
use Rattle.oxml_driver.proofs.PrinterRun.{View, cpu_of, shown, imm_rax, imm_rdi, cmp_imm, test_rax, cmp_rdx, add_rsi, sub_rdx, jump, jump_met, jump_not, write, answered_is, exit}
use Rattle.oxml_driver.proofs.PrinterMemory.{code_part, data_part, data_range, data_put, lt_true}
use Rattle.oxml_driver.proofs.PrinterEnds.{Settles, by, gave_up}
use Rattle.oxml_driver.proofs.PrinterAnswers.{Again, Part, Whole, Nothing, Refusal, answer_of, good_whole, takes_whole, again_met, again_not, some_not, above_met, above_not, rest_met, rest_not}

-- the rows of the loop, from its head on
pub record LoopRows (segments : List Loaded) (p : ℕ) : Type 0 where
  pub at_20 : fetched segments (p + 20) ≡ Some (MovImm 0 1, 10)
  pub at_30 : fetched segments (p + 30) ≡ Some (MovImm 7 1, 10)
  pub at_40 : fetched segments (p + 40) ≡ Some (Syscall, 2)
  pub at_42 : fetched segments (p + 42) ≡ Some (ArithImm Cmp 0 (negsuc 3), 7)
  pub at_49 : fetched segments (p + 49) ≡ Some (JumpIf E (negsuc 34), 6)
  pub at_55 : fetched segments (p + 55) ≡ Some (Test 0 0, 3)
  pub at_58 : fetched segments (p + 58) ≡ Some (JumpIf E (pos 26), 6)
  pub at_64 : fetched segments (p + 64) ≡ Some (Arith Cmp 0 2, 3)
  pub at_67 : fetched segments (p + 67) ≡ Some (JumpIf A (pos 17), 6)
  pub at_73 : fetched segments (p + 73) ≡ Some (Arith Add 6 0, 3)
  pub at_76 : fetched segments (p + 76) ≡ Some (Arith Sub 2 0, 3)
  pub at_79 : fetched segments (p + 79) ≡ Some (JumpIf NE (negsuc 64), 6)
  pub at_85 : fetched segments (p + 85) ≡ Some (Jump (pos 22), 5)
  pub at_90 : fetched segments (p + 90) ≡ Some (MovImm 0 60, 10)
  pub at_100 : fetched segments (p + 100) ≡ Some (MovImm 7 104, 10)
  pub at_110 : fetched segments (p + 110) ≡ Some (Syscall, 2)

abbrev pub memory : List ℕ → List ℕ → List ℕ → List Loaded → List Loaded
memory code literals padding others = code_part code ∷ data_part literals padding ∷ others

-- the first k bytes of the literals were written
abbrev pub so_far : List ℕ → ℕ → List (ℕ × ℕ)
so_far literals k = on_1 (take k literals)

-- len bytes are left from the k-th literal on
abbrev pub cursor : Option ℕ → ℕ → ℕ → Option ℕ → Option Flags → ℕ → View
cursor rax k len rdi flags at =
    record { rax = rax; rdx = Some len; rsi = Some (0x4000_0000 + k); rdi = rdi; flags = flags; at = at }

module _ (code literals padding : List ℕ) (others : List Loaded) (low : length code ≤ 1_060_004_096) (short : length literals ≤ 1_060_004_096) (p : ℕ) (near : p < 2 ^ 63) (rows : LoopRows (memory code literals padding others) p) where
  part_so_far : (k : ℕ) → IsPrefix (so_far literals k) (on_1 literals)
  part_so_far k =
      (on_1 (drop k literals), ap on_1 (sym (take-append-drop k literals)) ∙ map-append (λ byte. (1, byte)) (take k literals) (drop k literals))

  -- a refused write ends the program
  gives_up : (left : List ℤ) (k : ℕ) (v : View) → v.at ≡ p + 90 → Settles (on_1 literals) (shown (memory code literals padding others) left true (so_far literals k) v)
  gives_up left k v e =
      let m = memory code literals padding others in
      let out = so_far literals k in
      let v1 : View = record v { rax = Some 60; at = p + 100 } in
      let v2 : View = record v { rax = Some 60; rdi = Some 104; at = p + 110 } in
      by (imm_rax m left true out v 60 (p + 100) (ap (λ a. fetched m a) e ∙ rows.at_90) (omega arith) (omega arith))
      (by (imm_rdi m left true out v1 104 (p + 110) rows.at_100 (omega arith) (omega arith))
      (by (exit m left true out v2 104 rows.at_110 refl refl)
      (gave_up (record { ending = refl; out = part_so_far k; refused = refl; asked_again = refl }))))

  -- the answer -4 leads back to the head
  again : (left : List ℤ) (k len : ℕ) → ((flags : Option Flags) → Settles (on_1 literals) (shown (memory code literals padding others) left false (so_far literals k) (cursor (Some 0xffff_ffff_ffff_fffc) k len (Some 1) flags (p + 20)))) → Settles (on_1 literals) (shown (memory code literals padding others) left false (so_far literals k) (cursor (Some 0xffff_ffff_ffff_fffc) k len (Some 1) None (p + 42)))
  again left k len head =
      let m = memory code literals padding others in
      let out = so_far literals k in
      let f : Flags = difference_flags 0xffff_ffff_ffff_fffc (cast_unsigned w64 (negsuc 3)) in
      let v0 : View = cursor (Some 0xffff_ffff_ffff_fffc) k len (Some 1) None (p + 42) in
      let v1 : View = record v0 { flags = Some f; at = p + 49 } in
      by (cmp_imm m left false out v0 (negsuc 3) 0xffff_ffff_ffff_fffc (p + 49) rows.at_42 refl (omega arith) (omega arith))
      (by (jump_met m left false out v1 E (negsuc 34) f (p + 20) rows.at_49 refl again_met (omega arith))
      (head (Some f)))

  -- any other answer passes that test
  passes : (left : List ℤ) (refused : Bool) (out : List (ℕ × ℕ)) (k len x : ℕ) → x < 2 ^ 64 → x ≢ 0xffff_ffff_ffff_fffc → ((flags : Option Flags) → Settles (on_1 literals) (shown (memory code literals padding others) left refused out (cursor (Some x) k len (Some 1) flags (p + 55)))) → Settles (on_1 literals) (shown (memory code literals padding others) left refused out (cursor (Some x) k len (Some 1) None (p + 42)))
  passes left refused out k len x small other go_on =
      let m = memory code literals padding others in
      let f : Flags = difference_flags x (cast_unsigned w64 (negsuc 3)) in
      let v0 : View = cursor (Some x) k len (Some 1) None (p + 42) in
      let v1 : View = record v0 { flags = Some f; at = p + 49 } in
      by (cmp_imm m left refused out v0 (negsuc 3) x (p + 49) rows.at_42 refl (omega arith) (omega arith))
      (by (jump_not m left refused out v1 E (negsuc 34) f (p + 55) rows.at_49 refl (again_not x small other) (omega arith) (omega arith))
      (go_on (Some f)))

  -- the answer 0
  nothing : (left : List ℤ) (k len : ℕ) → Settles (on_1 literals) (shown (memory code literals padding others) left true (so_far literals k) (cursor (Some 0) k len (Some 1) None (p + 42)))
  nothing left k len =
      let m = memory code literals padding others in
      let out = so_far literals k in
      passes left true out k len 0 (omega arith) (omega arith)
      (λ flags. let v0 : View = cursor (Some 0) k len (Some 1) flags (p + 55) in
      let v1 : View = record v0 { flags = Some (flags_of 0); at = p + 58 } in
      by (test_rax m left true out v0 0 (p + 58) rows.at_55 refl (omega arith) (omega arith))
      (by (jump_met m left true out v1 E (pos 26) (flags_of 0) (p + 90) rows.at_58 refl refl (omega arith))
      (gives_up left k (record v1 { at = p + 90 }) refl)))

  -- an answer that is not 0 comes to the comparison with the bytes that were asked for
  compared : (left : List ℤ) (refused : Bool) (out : List (ℕ × ℕ)) (k len x : ℕ) → 1 ≤ x → x < 2 ^ 64 → x ≢ 0xffff_ffff_ffff_fffc → Settles (on_1 literals) (shown (memory code literals padding others) left refused out (cursor (Some x) k len (Some 1) (Some (difference_flags x len)) (p + 67))) → Settles (on_1 literals) (shown (memory code literals padding others) left refused out (cursor (Some x) k len (Some 1) None (p + 42)))
  compared left refused out k len x some small other go_on =
      let m = memory code literals padding others in
      passes left refused out k len x small other
      (λ flags. let v0 : View = cursor (Some x) k len (Some 1) flags (p + 55) in
      let v1 : View = record v0 { flags = Some (flags_of x); at = p + 58 } in
      let v2 : View = record v1 { at = p + 64 } in
      by (test_rax m left refused out v0 x (p + 58) rows.at_55 refl (omega arith) (omega arith))
      (by (jump_not m left refused out v1 E (pos 26) (flags_of x) (p + 64) rows.at_58 refl (some_not x some) (omega arith) (omega arith))
      (by (cmp_rdx m left refused out v2 x len (p + 67) rows.at_64 refl refl (omega arith) (omega arith))
      go_on)))

  -- an answer above len, or a negative one
  refusal : (left : List ℤ) (k len x : ℕ) → len < x → x < 2 ^ 64 → x ≢ 0xffff_ffff_ffff_fffc → Settles (on_1 literals) (shown (memory code literals padding others) left true (so_far literals k) (cursor (Some x) k len (Some 1) None (p + 42)))
  refusal left k len x above small other =
      let m = memory code literals padding others in
      let out = so_far literals k in
      let f : Flags = difference_flags x len in
      let v0 : View = cursor (Some x) k len (Some 1) (Some f) (p + 67) in
      compared left true out k len x (omega arith) small other
      (by (jump_met m left true out v0 A (pos 17) f (p + 90) rows.at_67 refl (above_met x len above small) (omega arith))
      (gives_up left k (record v0 { at = p + 90 }) refl))

  -- an answer from 1 to len: the cursor moves on
  moves : (left : List ℤ) (out : List (ℕ × ℕ)) (k len x : ℕ) → 1 ≤ x → x ≤ len → k + len ≤ length literals → Settles (on_1 literals) (shown (memory code literals padding others) left false out (cursor (Some x) (k + x) (len - x) (Some 1) (Some (difference_flags len x)) (p + 79))) → Settles (on_1 literals) (shown (memory code literals padding others) left false out (cursor (Some x) k len (Some 1) None (p + 42)))
  moves left out k len x some within inside go_on =
      let m = memory code literals padding others in
      let f : Flags = difference_flags x len in
      let v0 : View = cursor (Some x) k len (Some 1) (Some f) (p + 67) in
      let v1 : View = record v0 { at = p + 73 } in
      let v2 : View = record v1 { rsi = Some (0x4000_0000 + (k + x)); flags = Some (sum_flags (0x4000_0000 + k) x); at = p + 76 } in
      compared left false out k len x some (omega arith) (omega arith)
      (by (jump_not m left false out v0 A (pos 17) f (p + 73) rows.at_67 refl (above_not x len within (omega arith)) (omega arith) (omega arith))
      (by (add_rsi m left false out v1 (0x4000_0000 + k) x (0x4000_0000 + (k + x)) (p + 76) rows.at_73 refl refl (omega arith) (omega arith) (omega arith))
      (by (sub_rdx m left false out v2 len x (len - x) (p + 79) rows.at_76 refl refl (omega arith) (omega arith) (omega arith))
      go_on)))

  -- a part of the bytes is taken: back to the head
  partly : (left : List ℤ) (out : List (ℕ × ℕ)) (k len x : ℕ) → 1 ≤ x → x < len → k + len ≤ length literals → ((flags : Option Flags) → Settles (on_1 literals) (shown (memory code literals padding others) left false out (cursor (Some x) (k + x) (len - x) (Some 1) flags (p + 20)))) → Settles (on_1 literals) (shown (memory code literals padding others) left false out (cursor (Some x) k len (Some 1) None (p + 42)))
  partly left out k len x some less inside head =
      let m = memory code literals padding others in
      let f : Flags = difference_flags len x in
      let v : View = cursor (Some x) (k + x) (len - x) (Some 1) (Some f) (p + 79) in
      moves left out k len x some (omega arith) inside
      (by (jump_met m left false out v NE (negsuc 64) f (p + 20) rows.at_79 refl (rest_met len x less (omega arith)) (omega arith))
      (head (Some f)))

  -- all are taken: on behind the loop
  wholly : (left : List ℤ) (out : List (ℕ × ℕ)) (k len : ℕ) → 1 ≤ len → k + len ≤ length literals → ((v : View) → v.at ≡ p + 112 → Settles (on_1 literals) (shown (memory code literals padding others) left false out v)) → Settles (on_1 literals) (shown (memory code literals padding others) left false out (cursor (Some len) k len (Some 1) None (p + 42)))
  wholly left out k len some inside behind =
      let m = memory code literals padding others in
      let f : Flags = difference_flags len len in
      let v : View = cursor (Some len) (k + len) (len - len) (Some 1) (Some f) (p + 79) in
      let v1 : View = record v { at = p + 85 } in
      moves left out k len len some (omega arith) inside
      (by (jump_not m left false out v NE (negsuc 64) f (p + 85) rows.at_79 refl (rest_not len (omega arith)) (omega arith) (omega arith))
      (by (jump m left false out v1 (pos 22) (p + 112) rows.at_85 (omega arith))
      (behind (record v1 { at = p + 112 }) refl)))

  -- a write is asked for, with all that is left
  asks : (left : List ℤ) (k len : ℕ) (rax rdi : Option ℕ) (flags : Option Flags) → 1 ≤ len → k + len ≤ length literals → Settles (on_1 literals) (ask_next (shown (memory code literals padding others) left false (so_far literals k) (cursor (Some 1) k len (Some 1) flags (p + 40))) 1 (0x4000_0000 + k) len left) → Settles (on_1 literals) (shown (memory code literals padding others) left false (so_far literals k) (cursor rax k len rdi flags (p + 20)))
  asks left k len rax rdi flags some inside asked =
      let m = memory code literals padding others in
      let out = so_far literals k in
      let v0 : View = cursor rax k len rdi flags (p + 20) in
      let v1 : View = cursor (Some 1) k len rdi flags (p + 30) in
      let v2 : View = cursor (Some 1) k len (Some 1) flags (p + 40) in
      by (imm_rax m left false out v0 1 (p + 30) rows.at_20 (omega arith) (omega arith))
      (by (imm_rdi m left false out v1 1 (p + 40) rows.at_30 (omega arith) (omega arith))
      (by (write m left false out v2 (0x4000_0000 + k) len rows.at_40 refl refl refl refl (lt_true 0 len some) (data_range (cpu_of v2) code literals padding others k len low short some inside))
      asked))

  -- the answer n takes t bytes, and the program sees it as x
  answered : (before left : List ℤ) (k len t : ℕ) (flags : Option Flags) (n : ℤ) (x : ℕ) (b : Bool) → cast_unsigned w64 n ≡ x → is_good n len ≡ not b → taken n len ≡ t → k + t ≤ length literals → Settles (on_1 literals) (shown (memory code literals padding others) left b (so_far literals (k + t)) (cursor (Some x) k len (Some 1) None (p + 42))) → Settles (on_1 literals) (answer_with (shown (memory code literals padding others) before false (so_far literals k) (cursor (Some 1) k len (Some 1) flags (p + 40))) 1 (0x4000_0000 + k) len n left)
  answered before left k len t flags n x b bits good takes inside go_on =
      let m = memory code literals padding others in
      let out = so_far literals k in
      let put : out ++ put_bytes m 1 (0x4000_0000 + k) (taken n len) ≡ so_far literals (k + t) =
      ap (λ j. out ++ put_bytes m 1 (0x4000_0000 + k) j) takes ∙ data_put code literals padding others t k low inside in
      let e = answered_is m left false out (cursor (Some 1) k len (Some 1) flags (p + 40)) (0x4000_0000 + k) len n x (p + 42) b (so_far literals (k + t)) refl bits good put (omega arith) (omega arith) in
      let P : Run → Type 0 = λ r. Settles (on_1 literals) r in
      subst P (sym e) go_on

  -- nothing is taken by this answer
  none_taken : (before left : List ℤ) (k len : ℕ) (flags : Option Flags) (n : ℤ) (x : ℕ) (b : Bool) → cast_unsigned w64 n ≡ x → is_good n len ≡ not b → taken n len ≡ 0 → k + len ≤ length literals → Settles (on_1 literals) (shown (memory code literals padding others) left b (so_far literals k) (cursor (Some x) k len (Some 1) None (p + 42))) → Settles (on_1 literals) (answer_with (shown (memory code literals padding others) before false (so_far literals k) (cursor (Some 1) k len (Some 1) flags (p + 40))) 1 (0x4000_0000 + k) len n left)
  none_taken before left k len flags n x b bits good takes inside go_on =
      let e : k + 0 ≡ k = omega arith in
      let P : ℕ → Type 0 = λ j. Settles (on_1 literals) (shown (memory code literals padding others) left b (so_far literals j) (cursor (Some x) k len (Some 1) None (p + 42))) in
      answered before left k len 0 flags n x b bits good takes (omega arith) (subst P (sym e) go_on)

  -- from the head of the loop on, whatever is answered
  pub loop : (left : List ℤ) → All (FitsSigned w64) left → (stop k len : ℕ) (rax rdi : Option ℕ) (flags : Option Flags) → 1 ≤ len → k + len ≡ stop → stop ≤ length literals → ((after : List ℤ) → All (FitsSigned w64) after → (v : View) → v.at ≡ p + 112 → Settles (on_1 literals) (shown (memory code literals padding others) after false (so_far literals stop) v)) → Settles (on_1 literals) (shown (memory code literals padding others) left false (so_far literals k) (cursor rax k len rdi flags (p + 20)))
  loop [] fit stop k len rax rdi flags some e inside behind =
      asks [] k len rax rdi flags some (omega arith)
      (answered [] [] k len len flags (pos len) len false refl (good_whole len some) (takes_whole len) (omega arith)
      (wholly [] (so_far literals (k + len)) k len some (omega arith) (λ v at. let P : ℕ → Type 0 = λ j. Settles (on_1 literals) (shown (memory code literals padding others) [] false (so_far literals j) v) in subst P (sym e) (behind [] fit v at))))
  loop (n ∷ left) fit stop k len rax rdi flags some e inside behind =
      let m = memory code literals padding others in
      let fits = All-head (FitsSigned w64) n left fit in
      let rest = All-tail (FitsSigned w64) n left fit in
      asks (n ∷ left) k len rax rdi flags some (omega arith)
      (elim (answer_of n len fits (omega arith)) [
        | Again bits good takes ↦ none_taken (n ∷ left) left k len flags n _ false bits good takes (omega arith) (again left k len (λ f. loop left rest stop k len _ _ f some e inside behind))
        | Part t bits good takes low_t high_t ↦ answered (n ∷ left) left k len t flags n t false bits good takes (omega arith) (partly left (so_far literals (k + t)) k len t low_t high_t (omega arith) (λ f. loop left rest stop (k + t) (len - t) _ _ f (omega arith) (omega arith) inside behind))
        | Whole bits good takes ↦ answered (n ∷ left) left k len len flags n len false bits good takes (omega arith) (wholly left (so_far literals (k + len)) k len some (omega arith) (λ v at. let P : ℕ → Type 0 = λ j. Settles (on_1 literals) (shown m left false (so_far literals j) v) in subst P (sym e) (behind left rest v at)))
        | Nothing bits bad takes ↦ none_taken (n ∷ left) left k len flags n 0 true bits bad takes (omega arith) (nothing left k len)
        | Refusal x bits bad takes above small other ↦ none_taken (n ∷ left) left k len flags n x true bits bad takes (omega arith) (refusal left k len x above small other)
      ])

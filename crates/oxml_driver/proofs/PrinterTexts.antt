-- The program that writes texts: each text by its loop, then the exit.
use Rattle.std.proofs.Common.{ℕ, ◌+◌, ◌*◌, ◌-◌, ◌≤◌, ◌<◌, ◌^◌, ◌≡◌, ◌≢◌, Bool, true, false, List, [], ◌∷◌, ◌++◌, length, length-append, append-nil, add-zero, replicate, map, flat_map, ℤ, Some, None, refl, sym, ap, ◌∙◌, subst, arith, All, FitsSigned, eqb, cond, rules}
use Rattle.std.specs.Int.{w64}
use Rattle.std.proofs.lemmas.List.{take_all}
use Rattle.std.proofs.lemmas.Bool.Decides.{nat_tests}
use Rattle.x64_table.specs.declared.image.Sizes.{Sizes}
use Rattle.x64_table.specs.declared.instr.Instr.{Instr}
use Rattle.x64_table.specs.declared.instr.Instr.TheVariants.{MovImm}
use Rattle.x64_table.specs.Encoding.{encoding, IsRow}
use Rattle.x64_table.specs.Machine.{Loaded, fetched, in_memory, zeros}
use Rattle.x64_table.specs.Kernel.{Run, start, after}
use Rattle.x64_table.specs.Agreement.{Agrees, RunAgrees, no_excuse}
use Rattle.elf_image.specs.Layout.{image_of, words_segment}
use Rattle.oxml_driver.specs.Printer.{on_1, joined, prints, exit_with, write_loop, write_of, rows_of, printer_of}
use Rattle.oxml_driver.proofs.PrinterRun.{View, shown, imm_rax, imm_rdx, imm_rsi, imm_rdi, exit}
use Rattle.oxml_driver.proofs.PrinterMemory.{data_part, HasRows, AreRows, has_rows, has_rows-from}
use Rattle.oxml_driver.proofs.PrinterEnds.{Settles, by, finished, agrees}
use Rattle.oxml_driver.proofs.PrinterLoop.{LoopRows, memory, so_far, loop}

is_zero : (n : ℕ) → eqb n 0 ≡ true → n ≡ 0
is_zero n h = grind (arith, nat_tests)

not_zero : (n : ℕ) → eqb n 0 ≡ false → n ≢ 0
not_zero n h = grind (arith, nat_tests)

-- ---- the rows are of the table

AreRows-append : (is js : List Instr) → AreRows is → AreRows js → AreRows (is ++ js)
AreRows-append [] js h g = g
AreRows-append (i ∷ is) js h g = (h.0, AreRows-append is js h.1 g)

imm_row : (r imm : ℕ) → r < 16 → imm < 2 ^ 64 → IsRow (MovImm r imm) × (1 ≤ length (encoding (MovImm r imm)))
imm_row r imm low small = ((low, small), omega arith)

exit_rows : (status : ℕ) → status < 256 → AreRows (exit_with status)
exit_rows status small =
    (imm_row 0 60 (omega arith) (omega arith), (imm_row 7 status (omega arith) (omega arith), ((tt, omega arith), tt)))

loop_rows : (place n : ℕ) → place < 2 ^ 64 → n < 2 ^ 64 → AreRows (write_loop place n)
loop_rows place n near short = (
  imm_row 6 place (omega arith) near,
  (
    imm_row 2 n (omega arith) short,
    (
      imm_row 0 1 (omega arith) (omega arith),
      (
        imm_row 7 1 (omega arith) (omega arith),
        (
          (tt, omega arith),
          (
            ((omega arith, search rules), omega arith),
            (
              (search rules, omega arith),
              (
                ((omega arith, omega arith), omega arith),
                (
                  (search rules, omega arith),
                  (
                    ((omega arith, omega arith), omega arith),
                    (
                      (search rules, omega arith),
                      (
                        ((omega arith, omega arith), omega arith),
                        (
                          ((omega arith, omega arith), omega arith),
                          (
                            (search rules, omega arith),
                            (
                              (search rules, omega arith),
                              exit_rows 104 (omega arith),
                            ),
                          ),
                        ),
                      ),
                    ),
                  ),
                ),
              ),
            ),
          ),
        ),
      ),
    ),
  ),
)

write_rows : (place n : ℕ) (b : Bool) → eqb n 0 ≡ b → place < 2 ^ 64 → n < 2 ^ 64 → AreRows (cond b [] (write_loop place n))
write_rows place n true e near short = tt
write_rows place n false e near short = loop_rows place n near short

are_rows : (texts : List (List ℕ)) (place : ℕ) → place + length (joined texts) < 2 ^ 63 → AreRows (rows_of place texts)
are_rows [] place near = exit_rows 0 (omega arith)
are_rows (text ∷ texts) place near =
    let long : length (text ++ joined texts) ≡ length text + length (joined texts) = length-append text (joined texts) in
    AreRows-append (write_of place (length text)) (rows_of (place + length text) texts)
    (write_rows place (length text) _ refl (omega arith) (omega arith))
    (are_rows texts (place + length text) (omega arith))

-- ---- the program

-- the rows of one loop, with those that come before its head
rows_of_loop : (segments : List Loaded) (p place n : ℕ) (behind : List Instr) → HasRows segments p 0 (write_loop place n ++ behind) → LoopRows segments p
rows_of_loop segments p place n behind h =
    let head = h.1.1 in
    let answered = head.1.1.1 in
    let compared = answered.1.1.1.1 in
    let moved = compared.1.1 in
    let exits = moved.1.1.1.1 in
    record {
      at_20 = head.0;
      at_30 = head.1.0;
      at_40 = head.1.1.0;
      at_42 = answered.0;
      at_49 = answered.1.0;
      at_55 = answered.1.1.0;
      at_58 = answered.1.1.1.0;
      at_64 = compared.0;
      at_67 = compared.1.0;
      at_73 = moved.0;
      at_76 = moved.1.0;
      at_79 = moved.1.1.0;
      at_85 = moved.1.1.1.0;
      at_90 = exits.0;
      at_100 = exits.1.0;
      at_110 = exits.1.1.0;
    }

rows_behind : (segments : List Loaded) (p place n : ℕ) (behind : List Instr) → HasRows segments p 0 (write_loop place n ++ behind) → HasRows segments p 112 behind
rows_behind segments p place n behind h = h.1.1.1.1.1.1.1.1.1.1.1.1.1.1.1.1.1.1

code_length : List Instr → ℕ
code_length is = length (flat_map encoding is)

code_length-is : (is : List Instr) → code_length is ≡ length (flat_map encoding is)
unfolding code_length
code_length-is is = refl

loop_length : (place n : ℕ) (behind : List Instr) → code_length (write_loop place n ++ behind) ≡ 112 + code_length behind
unfolding code_length
loop_length place n behind = omega arith

-- ---- how long the code is

exit_length : (status : ℕ) → code_length (exit_with status) ≡ 22
unfolding code_length
exit_length status = refl

write_length : (b : Bool) (place n rest : ℕ) (behind : List Instr) → eqb n 0 ≡ b → (22 ≤ code_length behind) × (code_length behind ≤ 22 + 112 * rest) → (22 ≤ code_length (cond b [] (write_loop place n) ++ behind)) × (code_length (cond b [] (write_loop place n) ++ behind) ≤ 22 + 112 * (n + rest))
write_length true place n rest behind none h = (h.0, omega arith)
write_length false place n rest behind some h =
    let other = not_zero n some in
    let long = loop_length place n behind in
    (omega arith, omega arith)

texts_length : (texts : List (List ℕ)) (place : ℕ) → (22 ≤ code_length (rows_of place texts)) × (code_length (rows_of place texts) ≤ 22 + 112 * length (joined texts))
texts_length [] place = let e = exit_length 0 in (omega arith, omega arith)
texts_length (text ∷ texts) place =
    let long = length-append text (joined texts) in
    let rows = rows_of (place + length text) texts in
    let h = write_length (eqb (length text) 0) place (length text) (length (joined texts)) rows refl (texts_length texts (place + length text)) in
    let P : ℕ → Type 0 = λ n. (22 ≤ code_length (write_of place (length text) ++ rows)) × (code_length (write_of place (length text) ++ rows) ≤ 22 + 112 * n) in
    subst P (sym long) h

-- a write has 112 bytes and the exit 22
pub code_sizes : (texts : List (List ℕ)) → (22 ≤ length (printer_of texts).bytes) × (length (printer_of texts).bytes ≤ 22 + 112 * length (printer_of texts).literals)
code_sizes texts =
    let P : ℕ → Type 0 = λ n. (22 ≤ n) × (n ≤ 22 + 112 * length (joined texts)) in
    subst P (code_length-is (rows_of 0x4000_0000 texts)) (texts_length texts 0x4000_0000)

module _ (code literals padding : List ℕ) (others : List Loaded) (low : length code ≤ 1_060_004_096) (short : length literals ≤ 1_060_004_096) where
  -- the exit behind the last text
  leaves : (left : List ℤ) (k p : ℕ) (v : View) → v.at ≡ p + 0 → HasRows (memory code literals padding others) p 0 (exit_with 0) → length literals ≤ k → p < 2 ^ 63 → Settles (on_1 literals) (shown (memory code literals padding others) left false (so_far literals k) v)
  leaves left k p v e h whole near =
      let m = memory code literals padding others in
      let out = so_far literals k in
      let v1 : View = record v { rax = Some 60; at = p + 10 } in
      let v2 : View = record v { rax = Some 60; rdi = Some 0; at = p + 20 } in
      by (imm_rax m left false out v 60 (p + 10) (ap (λ a. fetched m a) e ∙ h.0) (omega arith) (omega arith))
      (by (imm_rdi m left false out v1 0 (p + 20) h.1.0 (omega arith) (omega arith))
      (by (exit m left false out v2 0 h.1.1.0 refl refl)
      (finished (record { ending = refl; out = ap on_1 (take_all k literals whole); refused = refl; asked_again = refl }))))

  -- a text of n bytes, 1 at least: the registers are set, and its loop runs
  writes : (left : List ℤ) → All (FitsSigned w64) left → (k n p : ℕ) (behind : List Instr) (v : View) → v.at ≡ p + 0 → HasRows (memory code literals padding others) p 0 (write_loop (0x4000_0000 + k) n ++ behind) → 1 ≤ n → k + n ≤ length literals → p < 2 ^ 63 → ((after : List ℤ) → All (FitsSigned w64) after → (u : View) → u.at ≡ p + 112 → Settles (on_1 literals) (shown (memory code literals padding others) after false (so_far literals (k + n)) u)) → Settles (on_1 literals) (shown (memory code literals padding others) left false (so_far literals k) v)
  writes left fit k n p behind v e h some inside near go_on =
      let m = memory code literals padding others in
      let out = so_far literals k in
      let v1 : View = record v { rsi = Some (0x4000_0000 + k); at = p + 10 } in
      by (imm_rsi m left false out v (0x4000_0000 + k) (p + 10) (ap (λ a. fetched m a) e ∙ h.0) (omega arith) (omega arith))
      (by (imm_rdx m left false out v1 n (p + 20) h.1.0 (omega arith) (omega arith))
      (loop code literals padding others low short p near (rows_of_loop m p (0x4000_0000 + k) n behind h) left fit (k + n) k n v.rax v.rdi v.flags some refl inside go_on))

  -- one text, and what comes behind it at q
  writes_text : (b : Bool) (left : List ℤ) → All (FitsSigned w64) left → (k n p : ℕ) (behind : List Instr) (v : View) → eqb n 0 ≡ b → v.at ≡ p + 0 → HasRows (memory code literals padding others) p 0 (cond b [] (write_loop (0x4000_0000 + k) n) ++ behind) → k + n ≤ length literals → p + code_length (cond b [] (write_loop (0x4000_0000 + k) n) ++ behind) < 2 ^ 63 → ((after : List ℤ) → All (FitsSigned w64) after → (q : ℕ) (u : View) → u.at ≡ q + 0 → HasRows (memory code literals padding others) q 0 behind → q + code_length behind < 2 ^ 63 → Settles (on_1 literals) (shown (memory code literals padding others) after false (so_far literals (k + n)) u)) → Settles (on_1 literals) (shown (memory code literals padding others) left false (so_far literals k) v)
  writes_text true left fit k n p behind v none e h inside near go_on =
      let is_0 : n ≡ 0 = is_zero n none in
      let same : k + n ≡ k = omega arith in
      let P : ℕ → Type 0 = λ j. Settles (on_1 literals) (shown (memory code literals padding others) left false (so_far literals j) v) in
      subst P same (go_on left fit p v e h near)
  writes_text false left fit k n p behind v some e h inside near go_on =
      let m = memory code literals padding others in
      let other = not_zero n some in
      let long = loop_length (0x4000_0000 + k) n behind in
      let below : p < 2 ^ 63 = omega arith in
      let past : (p + 112) + code_length behind < 2 ^ 63 = omega arith in
      let rows = has_rows-from m p 112 0 behind (rows_behind m p (0x4000_0000 + k) n behind h) in
      writes left fit k n p behind v e h (omega arith) inside below
      (λ after fits u at. go_on after fits (p + 112) u (at ∙ sym (add-zero (p + 112))) rows past)

  -- from the k-th literal on
  writes_all : (texts : List (List ℕ)) (left : List ℤ) → All (FitsSigned w64) left → (k p : ℕ) (v : View) → v.at ≡ p + 0 → HasRows (memory code literals padding others) p 0 (rows_of (0x4000_0000 + k) texts) → k + length (joined texts) ≡ length literals → p + code_length (rows_of (0x4000_0000 + k) texts) < 2 ^ 63 → Settles (on_1 literals) (shown (memory code literals padding others) left false (so_far literals k) v)
  writes_all [] left fit k p v e h whole near = leaves left k p v e h (omega arith) (omega arith)
  writes_all (text ∷ texts) left fit k p v e h whole near =
      let m = memory code literals padding others in
      let n = length text in
      let long : length (text ++ joined texts) ≡ n + length (joined texts) = length-append text (joined texts) in
      let place : (0x4000_0000 + k) + n ≡ 0x4000_0000 + (k + n) = omega arith in
      let total : (k + n) + length (joined texts) ≡ length literals = omega arith in
      let P : ℕ → Type 0 = λ a. ((q : ℕ) (u : View) → u.at ≡ q + 0 → HasRows m q 0 (rows_of a texts) → q + code_length (rows_of a texts) < 2 ^ 63 → (after : List ℤ) → All (FitsSigned w64) after → Settles (on_1 literals) (shown m after false (so_far literals (k + n)) u)) in
      let go_on = subst P (sym place) (λ q u at rows small after fits. writes_all texts after fits (k + n) q u at rows total small) in
      writes_text (eqb n 0) left fit k n p (rows_of ((0x4000_0000 + k) + n) texts) v refl e h (omega arith) near
      (λ after fits q u at rows small. go_on q u at rows small after fits)

-- ---- the image

-- a segment with all its bytes in the file
loaded_whole : (at flags : ℕ) (bytes : List ℕ) → in_memory (record { at = at; size = length bytes; flags = flags; bytes = bytes }) ≡ record { at = at; flags = flags; bytes = bytes }
unfolding zeros
loaded_whole at flags bytes =
    let none : length bytes - length bytes ≡ 0 = omega arith in
    ap (λ l. record { at = at; flags = flags; bytes = l }) (rw (take_all (length bytes) bytes (omega arith), none) (append-nil bytes))

pub printer_agrees : (texts : List (List ℕ)) (sizes : Sizes) → length (printer_of texts).bytes ≤ 1_060_004_096 → length (joined texts) ≤ 1_060_004_096 → Agrees (prints texts) no_excuse (image_of (printer_of texts) sizes)
printer_agrees texts sizes low short answers fit =
    let code = (printer_of texts).bytes in
    let literals = joined texts in
    let padding : List ℕ = replicate (8 - length literals) 0 in
    let others : List Loaded =
    map in_memory (words_segment 0x1_0000_0000 sizes.area ++ (words_segment 0x2_0000_0000 sizes.local ++ words_segment 0x3_0000_0000 sizes.stack)) in
    let small : 0x4000_0000 + length literals < 2 ^ 63 = omega (arith, short) in
    let rows = has_rows code (data_part literals padding ∷ others) [] (rows_of 0x4000_0000 texts) 0x40_0000 0 refl (are_rows texts 0x4000_0000 small) refl in
    let all = code_length-is (rows_of 0x4000_0000 texts) in
    let near : 0x40_0000 + code_length (rows_of 0x4000_0000 texts) < 2 ^ 63 = omega (arith, all, low) in
    let whole : 0 + length literals ≡ length literals = omega arith in
    let v : View = record { rax = None; rdx = None; rsi = None; rdi = None; flags = None; at = 0x40_0000 } in
    let settles = writes_all code literals padding others low short texts answers fit 0 0x40_0000 v refl rows whole near in
    let begins : start (image_of (printer_of texts) sizes) answers ≡ shown (memory code literals padding others) answers false [] v =
    rw (loaded_whole 0x40_0000 5 code, loaded_whole 0x4000_0000 6 (literals ++ padding)) refl in
    let P : Run → Type 0 = λ r. RunAgrees (prints texts) no_excuse (λ n. after n r) in
    subst P (sym begins) (agrees (prints texts) (shown (memory code literals padding others) answers false [] v) refl settles)

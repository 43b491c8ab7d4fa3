-- The program in machine code that writes texts in order and then exits, and what it means.
use Rattle.std.specs.Prelude.{ℕ, ◌+◌, ◌==◌, if◌then◌else◌, List, [], ◌∷◌, ◌++◌, length, map, flat_map, pos, negsuc}
use Rattle.oxml_base.specs.declared.literal.Lit.{Lit}
use Rattle.x64_table.specs.declared.image.Code.{Code}
use Rattle.x64_table.specs.declared.instr.ArithOp.TheVariants.{Add, Sub, Cmp}
use Rattle.x64_table.specs.declared.instr.Cond.TheVariants.{E, NE, A}
use Rattle.x64_table.specs.declared.instr.Instr.{Instr}
use Rattle.x64_table.specs.declared.instr.Instr.TheVariants.{MovImm, Arith, ArithImm, Test, Jump, JumpIf, Syscall}
use Rattle.x64_table.specs.Agreement.{Meant, Ends}
use Rattle.x64_table.specs.Encoding.{encoding}

-- ---- what the program means

-- these bytes on channel 1
abbrev pub on_1 : List ℕ → List (ℕ × ℕ)
on_1 bytes = map (λ byte. (1, byte)) bytes

-- the texts, one after another
abbrev pub joined : List (List ℕ) → List ℕ
joined texts = flat_map (λ text. text) texts

-- the bytes of some literals
abbrev pub bytes_of : List Lit → List (List ℕ)
bytes_of lits = map (λ lit. lit.bytes) lits

-- it writes the texts on channel 1 and ends with the status 0, whatever the bound
abbrev pub prints : List (List ℕ) → ℕ → Meant
prints texts bound = record { ending = Ends 0; out = on_1 (joined texts) }

-- ---- the program

-- the program ends with a status
abbrev pub exit_with : ℕ → List Instr
exit_with status = MovImm 0 60 ∷ MovImm 7 status ∷ Syscall ∷ []

-- the kernel is asked to write n bytes from a place on; from the call's number on it is asked again
-- with what is left
abbrev pub ask_rows : ℕ → ℕ → List Instr
ask_rows place n = MovImm 6 place ∷ MovImm 2 n ∷ MovImm 0 1 ∷ MovImm 7 1 ∷ Syscall ∷ []

-- a write that a signal broke off (-4, EINTR) is tried again; behind an answer of 0, or of more bytes than
-- were asked for, as every other negative number is without its sign, the program gives up
abbrev pub answer_rows : List Instr
answer_rows =
    ArithImm Cmp 0 (negsuc 3) ∷ JumpIf E (negsuc 34)
    ∷ Test 0 0 ∷ JumpIf E (pos 26)
    ∷ Arith Cmp 0 2 ∷ JumpIf A (pos 17)
    ∷ []

-- what was written is behind it, and the rest, if there is one, is asked for; else it goes on past the exit
abbrev pub rest_rows : List Instr
rest_rows = Arith Add 6 0 ∷ Arith Sub 2 0 ∷ JumpIf NE (negsuc 64) ∷ Jump (pos 22) ∷ []

-- n bytes from a place on are written, or the program ends with the status 104
abbrev pub write_loop : ℕ → ℕ → List Instr
write_loop place n = ask_rows place n ++ (answer_rows ++ (rest_rows ++ exit_with 104))

-- a text of no bytes is not asked for
abbrev pub write_of : ℕ → ℕ → List Instr
write_of place n = if n == 0 then [] else write_loop place n

-- the texts lie one after another from a place on
abbrev pub rows_of : ℕ → List (List ℕ) → List Instr
rows_of place [] = exit_with 0
rows_of place (text ∷ texts) = write_of place (length text) ++ rows_of (place + length text) texts

-- the code with its literals, which lie at the literals' place in the image
abbrev pub printer_of : List (List ℕ) → Code
printer_of texts = record { bytes = flat_map encoding (rows_of 0x4000_0000 texts); literals = joined texts }

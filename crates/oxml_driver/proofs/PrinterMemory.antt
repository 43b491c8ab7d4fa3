-- The memory of the program that writes texts: its code is fetched row by row, and its literals are written byte by byte.
use Rattle.std.proofs.Common.{ℕ, zero, suc, ◌+◌, ◌-◌, ◌≤◌, ◌<◌, ◌^◌, ◌≡◌, true, false, List, [], ◌∷◌, ◌++◌, length, length-append, take, drop, get_or, flat_map, Some, refl, sym, ap, ◌∙◌, subst, arith, append_assoc, append-nil, nat_le, nat_lt}
use Rattle.std.specs.List.{find}
use Rattle.std.proofs.Math.ListN.{get_or-append}
use Rattle.std.proofs.Math.Seq.{drop-append_seam}
use Rattle.std.proofs.lemmas.List.{take_more, map-append}
use Rattle.std.proofs.lemmas.Bool.Decides.{nat_tests}
use Rattle.x64_table.specs.declared.cpu.Cpu.{Cpu}
use Rattle.x64_table.specs.declared.instr.Instr.{Instr}
use Rattle.x64_table.specs.Encoding.{encoding, decoded, IsRow}
use Rattle.x64_table.specs.Machine.{Loaded, is_code, is_readable, is_range, byte_at, fetched}
use Rattle.x64_table.specs.Kernel.{put_bytes}
use Rattle.x64_table.proofs.Rows.{decoded-encoding}
use Rattle.x64_table.proofs.Fetch.{fetched_in}
use Rattle.oxml_driver.specs.Printer.{on_1}

pub le_true : (a b : ℕ) → a ≤ b → nat_le a b ≡ true
le_true a b h = grind (arith, nat_tests)

pub le_false : (a b : ℕ) → b < a → nat_le a b ≡ false
le_false a b h = grind (arith, nat_tests)

pub lt_true : (a b : ℕ) → a < b → nat_lt a b ≡ true
lt_true a b h = grind (arith, nat_tests)

pub lt_false : (a b : ℕ) → b ≤ a → nat_lt a b ≡ false
lt_false a b h = grind (arith, nat_tests)

-- ---- the code

-- the code's segment, and the segment of the literals with the zeros behind them
abbrev pub code_part : List ℕ → Loaded
code_part code = record { at = 0x40_0000; flags = 5; bytes = code }

abbrev pub data_part : List ℕ → List ℕ → Loaded
data_part literals padding = record { at = 0x4000_0000; flags = 6; bytes = literals ++ padding }

pub code_found : (code : List ℕ) (others : List Loaded) (k : ℕ) → k < length code → find (is_code (0x40_0000 + k)) (code_part code ∷ others) ≡ Some (code_part code)
code_found code others k h =
    rw (le_true 0x40_0000 (0x40_0000 + k) (omega arith), le_true (0x40_0000 + k + 1) (0x40_0000 + length code) (omega arith)) refl

-- rows that are instructions of the table
abbrev pub AreRows : List Instr → Type 0
AreRows [] = Unit {0}
AreRows (i ∷ is) = (IsRow i × (1 ≤ length (encoding i))) × AreRows is

-- these rows stand one after another from a place on, k bytes behind it
abbrev pub HasRows : List Loaded → ℕ → ℕ → List Instr → Type 0
HasRows segments p k [] = Unit {0}
HasRows segments p k (i ∷ is) =
    (fetched segments (p + k) ≡ Some (i, length (encoding i))) × HasRows segments p (k + length (encoding i)) is

row_found : (code : List ℕ) (others : List Loaded) (front : List ℕ) (i : Instr) (rest : List ℕ) (p k : ℕ) → code ≡ front ++ (encoding i ++ rest) → IsRow i → 1 ≤ length (encoding i) → p + k ≡ 0x40_0000 + length front → fetched (code_part code ∷ others) (p + k) ≡ Some (i, length (encoding i))
row_found code others front i rest p k split row some place =
    let long : length code ≡ length front + (length (encoding i) + length rest) = ap length split ∙ length-append front (encoding i ++ rest) ∙ ap (λ n. length front + n) (length-append (encoding i) rest) in
    let inside : length front < length code = omega arith in
    let found = code_found code others (length front) inside in
    let behind : (0x40_0000 + length front) - 0x40_0000 ≡ length front = omega arith in
    let read : decoded (drop ((0x40_0000 + length front) - 0x40_0000) code) ≡ Some (i, length (encoding i)) =
    ap (λ n. decoded (drop n code)) behind ∙ ap (λ c. decoded (drop (length front) c)) split ∙ ap decoded (drop-append_seam front (encoding i ++ rest)) ∙ decoded-encoding i rest row in
    ap (λ a. fetched (code_part code ∷ others) a) place ∙ fetched_in _ _ (code_part code) _ found read

-- all rows of the code stand there
pub has_rows : (code : List ℕ) (others : List Loaded) (front : List ℕ) (is : List Instr) (p k : ℕ) → code ≡ front ++ flat_map encoding is → AreRows is → p + k ≡ 0x40_0000 + length front → HasRows (code_part code ∷ others) p k is
has_rows code others front [] p k split rows place = tt
has_rows code others front (i ∷ is) p k split rows place =
    let long : length (front ++ encoding i) ≡ length front + length (encoding i) = length-append front (encoding i) in
    (row_found code others front i (flat_map encoding is) p k split rows.0.0 rows.0.1 place, has_rows code others (front ++ encoding i) is p (k + length (encoding i)) (split ∙ sym (append_assoc front (encoding i) (flat_map encoding is))) rows.1 (omega arith))

-- the rows behind k bytes, seen from there
pub has_rows-from : (segments : List Loaded) (p k j : ℕ) (is : List Instr) → HasRows segments p (k + j) is → HasRows segments (p + k) j is
has_rows-from segments p k j [] h = tt
has_rows-from segments p k j (i ∷ is) h =
    let place : (p + k) + j ≡ p + (k + j) = omega arith in
    let next_place : (k + j) + length (encoding i) ≡ k + (j + length (encoding i)) = omega arith in
    let P : ℕ → Type 0 = λ n. HasRows segments p n is in
    (ap (λ a. fetched segments a) place ∙ h.0, has_rows-from segments p k (j + length (encoding i)) is (subst P next_place h.1))

-- ---- the literals

-- the code ends below the literals
data_tests : (cpu : Cpu) (code literals padding : List ℕ) (others : List Loaded) (k n : ℕ) → length code ≤ 1_060_004_096 → 1 ≤ n → k + n ≤ length literals → find (is_readable cpu (0x4000_0000 + k) n) (code_part code ∷ data_part literals padding ∷ others) ≡ Some (data_part literals padding)
data_tests cpu code literals padding others k n low some inside =
    let long = length-append literals padding in
    rw (le_true 0x40_0000 (0x4000_0000 + k) (omega arith), le_false (0x4000_0000 + k + n) (0x40_0000 + length code) (omega arith), le_true 0x4000_0000 (0x4000_0000 + k) (omega arith), le_true (0x4000_0000 + k + n) (0x4000_0000 + length (literals ++ padding)) (omega arith)) refl

pub data_range : (cpu : Cpu) (code literals padding : List ℕ) (others : List Loaded) (k n : ℕ) → length code ≤ 1_060_004_096 → length literals ≤ 1_060_004_096 → 1 ≤ n → k + n ≤ length literals → is_range (record { cpu = cpu; segments = code_part code ∷ data_part literals padding ∷ others }) (0x4000_0000 + k) n ≡ true
data_range cpu code literals padding others k n low short some inside =
    rw (le_true (0x4000_0000 + k + n) (2 ^ 47) (omega arith), data_tests cpu code literals padding others k n low some inside) refl

data_byte : (code literals padding : List ℕ) (others : List Loaded) (k : ℕ) → length code ≤ 1_060_004_096 → k < length literals → byte_at (code_part code ∷ data_part literals padding ∷ others) (0x4000_0000 + k) ≡ Some (get_or literals k 0)
data_byte code literals padding others k low inside =
    let long = length-append literals padding in
    let behind : (0x4000_0000 + k) - 0x4000_0000 ≡ k = omega arith in
    rw (le_true 0x40_0000 (0x4000_0000 + k) (omega arith), le_false (0x4000_0000 + k + 1) (0x40_0000 + length code) (omega arith), le_true 0x4000_0000 (0x4000_0000 + k) (omega arith), le_true (0x4000_0000 + k + 1) (0x4000_0000 + length (literals ++ padding)) (omega arith), behind, get_or-append literals padding 0 k inside) refl

-- n bytes are written behind the first k
pub data_put : (code literals padding : List ℕ) (others : List Loaded) (n k : ℕ) → length code ≤ 1_060_004_096 → k + n ≤ length literals → on_1 (take k literals) ++ put_bytes (code_part code ∷ data_part literals padding ∷ others) 1 (0x4000_0000 + k) n ≡ on_1 (take (k + n) literals)
unfolding put_bytes
data_put code literals padding others zero k low inside =
    let e : k + 0 ≡ k = omega arith in append-nil (on_1 (take k literals)) ∙ ap (λ m. on_1 (take m literals)) (sym e)
data_put code literals padding others (suc n) k low inside =
    let segments = code_part code ∷ data_part literals padding ∷ others in
    let one : take (k + 1) literals ≡ take k literals ++ get_or literals k 0 ∷ [] = take_more literals k 0 (omega arith) in
    let b = get_or literals k 0 in
    let place : 0x4000_0000 + k + 1 ≡ 0x4000_0000 + (k + 1) = omega arith in
    let end : (k + 1) + n ≡ k + suc n = omega arith in
    rw (data_byte code literals padding others k low (omega arith), place)
    (sym (append_assoc (on_1 (take k literals)) ((1, b) ∷ []) (put_bytes segments 1 (0x4000_0000 + (k + 1)) n))
    ∙ ap (λ l. l ++ put_bytes segments 1 (0x4000_0000 + (k + 1)) n) (sym (ap on_1 one ∙ map-append (λ byte. (1, byte)) (take k literals) (b ∷ [])))
    ∙ data_put code literals padding others n (k + 1) low (omega arith)
    ∙ ap (λ m. on_1 (take m literals)) end)

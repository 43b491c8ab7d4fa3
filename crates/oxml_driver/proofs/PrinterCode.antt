-- The code is made text by text.
use Rattle.std.proofs.Common.{ℕ, suc, ◌+◌, ◌<◌, ◌≡◌, List, ◌∷◌, ◌++◌, length, length-append, drop, get_or, flat_map, sym, ap, ◌∙◌, append_assoc, arith}
use Rattle.std.proofs.Math.Seq.{drop-cons}
use Rattle.std.proofs.lemmas.List.Concat.{flat_map-append}
use Rattle.oxml_base.specs.declared.literal.Lit.{Lit}
use Rattle.x64_table.specs.Encoding.{encoding}
use Rattle.oxml_driver.specs.Printer.{rows_of, write_of, joined, bytes_of}

-- the texts from the i-th on
pub texts_from : (texts : List Lit) (i : ℕ) (text : Lit) → i < length texts → text ≡ get_or texts i text → bytes_of (drop i texts) ≡ text.bytes ∷ bytes_of (drop (i + 1) texts)
texts_from texts i text inside is =
    let next : suc i ≡ i + 1 = omega arith in
    ap bytes_of (drop-cons texts i text inside) ∙ ap (λ (t : Lit). t.bytes ∷ bytes_of (drop (suc i) texts)) (sym is) ∙ ap (λ j. text.bytes ∷ bytes_of (drop j texts)) next

code_made : (bytes mid literals text : List ℕ) (texts : List (List ℕ)) (all : List ℕ) → bytes ++ flat_map encoding (rows_of (0x4000_0000 + length literals) (text ∷ texts)) ≡ all → mid ≡ bytes ++ flat_map encoding (write_of (0x4000_0000 + length literals) (length text)) → mid ++ flat_map encoding (rows_of (0x4000_0000 + length (literals ++ text)) texts) ≡ all
code_made bytes mid literals text texts all before made =
    let place = 0x4000_0000 + length literals in
    let rows = write_of place (length text) in
    let long : 0x4000_0000 + length (literals ++ text) ≡ place + length text = omega (arith, length-append literals text) in
    ap (λ a. mid ++ flat_map encoding (rows_of a texts)) long
    ∙ ap (λ l. l ++ flat_map encoding (rows_of (place + length text) texts)) made
    ∙ append_assoc bytes (flat_map encoding rows) (flat_map encoding (rows_of (place + length text) texts))
    ∙ ap (λ l. bytes ++ l) (sym (flat_map-append encoding rows (rows_of (place + length text) texts)))
    ∙ before

-- the place and the length as the code computes them
pub code_step : (bytes mid literals more text : List ℕ) (texts : List (List ℕ)) (all : List ℕ) (place count : ℕ) → place ≡ 0x4000_0000 + length literals → count ≡ length text → more ≡ literals ++ text → bytes ++ flat_map encoding (rows_of (0x4000_0000 + length literals) (text ∷ texts)) ≡ all → mid ≡ bytes ++ flat_map encoding (write_of place count) → mid ++ flat_map encoding (rows_of (0x4000_0000 + length more) texts) ≡ all
code_step bytes mid literals more text texts all place count here long longer before made =
    ap (λ l. mid ++ flat_map encoding (rows_of (0x4000_0000 + length l) texts)) longer
    ∙ code_made bytes mid literals text texts all before (made ∙ ap (λ p. bytes ++ flat_map encoding (write_of p count)) here ∙ ap (λ n. bytes ++ flat_map encoding (write_of (0x4000_0000 + length literals) n)) long)

pub literals_step : (literals more text : List ℕ) (texts : List (List ℕ)) (all : List ℕ) → more ≡ literals ++ text → literals ++ joined (text ∷ texts) ≡ all → more ++ joined texts ≡ all
literals_step literals more text texts all longer before =
    ap (λ l. l ++ joined texts) longer ∙ append_assoc literals text (joined texts) ∙ before

pub four_parts : (old b_1 b_2 b_3 new p_1 p_2 p_3 p_4 : List ℕ) → b_1 ≡ old ++ p_1 → b_2 ≡ b_1 ++ p_2 → b_3 ≡ b_2 ++ p_3 → new ≡ b_3 ++ p_4 → new ≡ old ++ (p_1 ++ (p_2 ++ (p_3 ++ p_4)))
four_parts old b_1 b_2 b_3 new p_1 p_2 p_3 p_4 e_1 e_2 e_3 e_4 = rw (e_4, e_3, e_2, e_1) (simp append_assoc)

-- Where the parts of a file that was written stand in it, and what its header says.
use Rattle.std.proofs.Common.{◌≡◌, ℕ, ◌+◌, ◌-◌, ◌*◌, ◌≤◌, true, ◌&&◌, nat_le, List, [], ◌∷◌, ◌++◌, length, take, drop, flat_map, replicate, refl, sym, ap, subst, ◌∙◌, arith, length-append, append_assoc}
use Rattle.std.proofs.lemmas.List.{drop_at, length-replicate, take_all}
use Rattle.std.proofs.lemmas.Nat.{from_le_bytes-to_le_bytes_2}
use Rattle.std.proofs.Math.Seq.{take-append_seam}
use Rattle.elf_image.specs.declared.header.ProgramHeader.{ProgramHeader}
use Rattle.elf_image.specs.Fields.{padded, program_header, xword_at}
use Rattle.elf_image.specs.Layout.{file_header, file_with}
use Rattle.elf_image.specs.Load.{is_elf, has_count, is_kind, header_count}
use Rattle.elf_image.proofs.Reading.{and_true, test_le}

-- ---- the file header

pub is_elf-header : (n : ℕ) (more : List ℕ) → is_elf (file_header n ++ more) ≡ true
is_elf-header n more = refl

pub header_count-header : (n : ℕ) (more : List ℕ) → n ≤ 8 → header_count (file_header n ++ more) ≡ n
header_count-header n more few = from_le_bytes-to_le_bytes_2 n (omega arith)

has_count-header : (n : ℕ) (more : List ℕ) → 1 ≤ n → n ≤ 8 → has_count (file_header n ++ more) ≡ true
has_count-header n more some few =
    let P : ℕ → Type 0 = λ k. (nat_le 1 k && nat_le k 8) ≡ true in
    subst P (sym (header_count-header n more few)) (and_true (nat_le 1 n) (nat_le n 8) (test_le 1 n some) (test_le n 8 few))

pub is_kind-header : (n : ℕ) (more : List ℕ) → 1 ≤ n → n ≤ 8 → is_kind (file_header n ++ more) ≡ true
is_kind-header n more some few = has_count-header n more some few

pub entry-header : (n : ℕ) (more : List ℕ) → xword_at (file_header n ++ more) 24 ≡ 0x40_0000
entry-header n more = refl

pub drop-header : (n : ℕ) (more : List ℕ) → drop 64 (file_header n ++ more) ≡ more
drop-header n more = refl

-- ---- the parts behind it

length-padded : (n : ℕ) (bytes : List ℕ) → length bytes ≤ n → length (padded n bytes) ≡ n
unfolding padded
length-padded n bytes h = omega (arith, length-append bytes (replicate (n - length bytes) 0), length-replicate {A = ℕ} (n - length bytes) 0)

length-headers : (headers : List ProgramHeader) → length (flat_map program_header headers) ≡ 56 * length headers
length-headers [] = refl
length-headers (h ∷ rest) =
    let long : length (program_header h) ≡ 56 = refl in
    omega (arith, length-append (program_header h) (flat_map program_header rest), long, length-headers rest)

-- the file header and the program headers
abbrev front : List ProgramHeader → List ℕ
front headers = file_header (length headers) ++ flat_map program_header headers

length-front : (headers : List ProgramHeader) → length (front headers) ≡ 64 + 56 * length headers
length-front headers =
    let long : length (file_header (length headers)) ≡ 64 = refl in
    omega (arith, length-append (file_header (length headers)) (flat_map program_header headers), long, length-headers headers)

-- up to the code
start : List ProgramHeader → List ℕ
start headers = padded 0x1000 (front headers)

length-start : (headers : List ProgramHeader) → length headers ≤ 8 → length (start headers) ≡ 0x1000
unfolding start
length-start headers few = length-padded 0x1000 (front headers) (omega (arith, length-front headers))

gap : ℕ → List ℕ → List ℕ
gap n bytes = replicate (n - length bytes) 0

-- what stands behind the program headers
pub tail_of : List ProgramHeader → List ℕ → ℕ → List ℕ → List ℕ
tail_of headers code place content = gap 0x1000 (front headers) ++ (code ++ (gap place (start headers ++ code) ++ content))

regroup : (a b z c y d : List ℕ) → ((((a ++ b) ++ z) ++ c) ++ y) ++ d ≡ a ++ (b ++ (z ++ (c ++ (y ++ d))))
regroup a b z c y d = simp append_assoc

pub file-by_parts : (headers : List ProgramHeader) (code : List ℕ) (place : ℕ) (content : List ℕ)
    → file_with headers code place content ≡ file_header (length headers) ++ (flat_map program_header headers ++ tail_of headers code place content)
unfolding padded tail_of gap start
file-by_parts headers code place content =
    regroup (file_header (length headers)) (flat_map program_header headers) (gap 0x1000 (front headers)) code (gap place (start headers ++ code)) content

regroup_code : (p c y d : List ℕ) → ((p ++ c) ++ y) ++ d ≡ p ++ (c ++ (y ++ d))
regroup_code p c y d = simp append_assoc

file-by_code : (headers : List ProgramHeader) (code : List ℕ) (place : ℕ) (content : List ℕ) → file_with headers code place content ≡ start headers ++ (code ++ (gap place (start headers ++ code) ++ content))
unfolding padded gap start
file-by_code headers code place content = regroup_code (start headers) code (gap place (start headers ++ code)) content

-- the code stands where its program header says
pub code_stands : (headers : List ProgramHeader) (code : List ℕ) (place : ℕ) (content : List ℕ) → length headers ≤ 8 → take (length code) (drop 0x1000 (file_with headers code place content)) ≡ code
code_stands headers code place content few =
    let rest = gap place (start headers ++ code) ++ content in
    ap (λ bs. take (length code) (drop 0x1000 bs)) (file-by_code headers code place content)
    ∙ (ap (take (length code)) (drop_at (start headers) (code ++ rest) 0x1000 (length-start headers few)) ∙ take-append_seam code rest)

-- what stands in front of the data
before_data : List ProgramHeader → List ℕ → ℕ → List ℕ
before_data headers code place = padded place (start headers ++ code)

length-before_data : (headers : List ProgramHeader) (code : List ℕ) (place : ℕ) → length headers ≤ 8 → 0x1000 + length code ≤ place → length (before_data headers code place) ≡ place
unfolding before_data
length-before_data headers code place few behind = length-padded place (start headers ++ code) (omega (arith, length-append (start headers) code, length-start headers few, behind))

file-by_data : (headers : List ProgramHeader) (code : List ℕ) (place : ℕ) (content : List ℕ) → file_with headers code place content ≡ before_data headers code place ++ content
unfolding before_data start
file-by_data headers code place content = refl

pub data_stands : (headers : List ProgramHeader) (code : List ℕ) (place : ℕ) (content : List ℕ) → length headers ≤ 8 → 0x1000 + length code ≤ place → take (length content) (drop place (file_with headers code place content)) ≡ content
data_stands headers code place content few behind =
    ap (λ bs. take (length content) (drop place bs)) (file-by_data headers code place content)
    ∙ (ap (take (length content)) (drop_at (before_data headers code place) content place (length-before_data headers code place few behind)) ∙ take_all (length content) content (omega arith))

pub length-file : (headers : List ProgramHeader) (code : List ℕ) (place : ℕ) (content : List ℕ) → length headers ≤ 8 → 0x1000 + length code ≤ place → length (file_with headers code place content) ≡ place + length content
length-file headers code place content few behind =
    ap length (file-by_data headers code place content) ∙ (length-append (before_data headers code place) content ∙ ap (λ n. n + length content) (length-before_data headers code place few behind))

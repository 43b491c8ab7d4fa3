-- Program headers that are written one behind the other are read as they were written.
use Rattle.std.proofs.Common.{◌≡◌, ℕ, ◌+◌, ◌-◌, ◌≤◌, ◌<◌, ◌^◌, true, ◌==◌, not, nat_le, cond, List, [], ◌∷◌, ◌++◌, length, drop, map, find, flat_map, Some, None, refl, sym, ap, subst, ◌∙◌, arith, length-append, length-drop, append_assoc}
use Rattle.std.proofs.lemmas.List.{drop-drop}
use Rattle.std.specs.List.{range_with_len}
use Rattle.std.proofs.lemmas.Bool.Decides.{nat_tests}
use Rattle.std.proofs.lemmas.Nat.{from_le_bytes-to_le_bytes_4, from_le_bytes-to_le_bytes_8}
use Rattle.elf_image.specs.declared.header.ProgramHeader.{ProgramHeader}
use Rattle.elf_image.specs.Fields.{header_at, header_place, read_header, program_header}
use Rattle.elf_image.specs.Load.{end_of, end_before, is_in_file, has_flags, has_room, is_good_header, is_good, segment_by, segment_at}
use Rattle.elf_image.proofs.Reading.{and_true, test_le, not_true, end_before-next}

-- each number of the header fits its field
pub record IsFitting (h : ProgramHeader) : Type 0 where
  pub kind : h.kind < 2 ^ 32
  pub flags : h.flags < 2 ^ 32
  pub offset : h.offset < 2 ^ 64
  pub address : h.address < 2 ^ 64
  pub file_size : h.file_size < 2 ^ 64
  pub memory_size : h.memory_size < 2 ^ 64

header_with : ℕ → ℕ → ℕ → ℕ → ℕ → ℕ → ProgramHeader
header_with kind flags offset address file_size memory_size = record { kind = kind; flags = flags; offset = offset; address = address; file_size = file_size; memory_size = memory_size }

same_header : (a b c d e f a' b' c' d' e' f' : ℕ) → a ≡ a' → b ≡ b' → c ≡ c' → d ≡ d' → e ≡ e' → f ≡ f' → header_with a b c d e f ≡ header_with a' b' c' d' e' f'
same_header a b c d e f a' b' c' d' e' f' p q r s t u = cc

-- a program header is read as it was written, whatever stands behind it
pub read_header-program_header : (h : ProgramHeader) (more : List ℕ) → IsFitting h → read_header (program_header h ++ more) ≡ h
unfolding header_with
read_header-program_header h more fits =
    same_header _ _ _ _ _ _ h.kind h.flags h.offset h.address h.file_size h.memory_size
    (from_le_bytes-to_le_bytes_4 h.kind fits.kind)
    (from_le_bytes-to_le_bytes_4 h.flags fits.flags)
    (from_le_bytes-to_le_bytes_8 h.offset fits.offset)
    (from_le_bytes-to_le_bytes_8 h.address fits.address)
    (from_le_bytes-to_le_bytes_8 h.file_size fits.file_size)
    (from_le_bytes-to_le_bytes_8 h.memory_size fits.memory_size)

-- it takes 56 bytes
pub drop-program_header : (h : ProgramHeader) (more : List ℕ) → drop 56 (program_header h ++ more) ≡ more
drop-program_header h more = refl

-- the headers can be loaded one after the other, from `end` on, in a file of `len` bytes
abbrev pub AreLaid : ℕ → ℕ → List ProgramHeader → Type 0
AreLaid len end [] = Unit {0}
AreLaid len end (h ∷ rest) = (is_good_header len end h ≡ true) × IsFitting h × AreLaid len (end_of h) rest

-- the tests of a header, from its numbers
pub record IsGoodHeader (len end : ℕ) (h : ProgramHeader) : Type 0 where
  pub in_file : h.offset + h.file_size ≤ len
  pub kind : h.kind ≡ 1
  pub low_flag : 4 ≤ h.flags
  pub high_flag : h.flags ≤ 6
  pub filled : h.file_size ≤ h.memory_size
  pub size : h.memory_size ≤ 2 ^ 30
  pub low : end_of h ≤ 2 ^ 47
  pub behind : end ≤ h.address

test_eq : (a b : ℕ) → a ≡ b → (a == b) ≡ true
test_eq a b e = grind (arith, nat_tests)

pub is_good_header-true : (len end : ℕ) (h : ProgramHeader) → IsGoodHeader len end h → is_good_header len end h ≡ true
is_good_header-true len end h g =
    and_true (is_in_file len h) _ (and_true (nat_le (h.offset + h.file_size) len) _ (test_le (h.offset + h.file_size) len g.in_file) (test_eq h.kind 1 g.kind))
    (and_true (has_flags h) _ (and_true (nat_le 4 h.flags) _ (test_le 4 h.flags g.low_flag) (test_le h.flags 6 g.high_flag))
    (and_true (has_room h) _ (and_true (nat_le h.file_size h.memory_size) _ (test_le h.file_size h.memory_size g.filled) (test_le h.memory_size (2 ^ 30) g.size))
    (and_true (nat_le (end_of h) (2 ^ 47)) _ (test_le (end_of h) (2 ^ 47) g.low) (test_le end h.address g.behind))))

-- the headers from number n on, as they stand in the file
pub record IsRead (bytes : List ℕ) (n : ℕ) (headers : List ProgramHeader) : Type 0 where
  pub refused : find (λ k. not (is_good bytes k)) (range_with_len n (length headers)) ≡ None
  pub segments : map (segment_at bytes) (range_with_len n (length headers)) ≡ map (segment_by bytes) headers

-- one header more, where the one at n was read
IsRead-next : (bytes : List ℕ) (n : ℕ) (h : ProgramHeader) (rest : List ProgramHeader) → is_good bytes n ≡ true → header_at bytes n ≡ h → IsRead bytes (n + 1) rest → IsRead bytes n (h ∷ rest)
IsRead-next bytes n h rest good header_is read =
    record {
      refused = ap (λ b. cond b (Some n) (find (λ k. not (is_good bytes k)) (range_with_len (n + 1) (length rest)))) (not_true (is_good bytes n) good) ∙ read.refused;
      segments = ap (λ x. segment_by bytes x ∷ map (segment_at bytes) (range_with_len (n + 1) (length rest))) header_is ∙ ap (λ xs. segment_by bytes h ∷ xs) read.segments;
    }

next_place : (n : ℕ) → header_place (n + 1) ≡ header_place n + 56
next_place n = omega arith

-- the header at n is in the file where it was written there
header_within : (bytes : List ℕ) (n : ℕ) (h : ProgramHeader) (tail : List ℕ) → drop (header_place n) bytes ≡ program_header h ++ tail → header_place (n + 1) ≤ length bytes
header_within bytes n h tail stands =
    let all : length bytes - header_place n ≡ length (program_header h) + length tail = sym (length-drop (header_place n) bytes) ∙ (ap length stands ∙ length-append (program_header h) tail) in
    let long : length (program_header h) ≡ 56 = refl in
    omega (arith, all, long)

pub IsRead-written : (bytes : List ℕ) (n : ℕ) (headers : List ProgramHeader) (more : List ℕ) → drop (header_place n) bytes ≡ flat_map program_header headers ++ more → AreLaid (length bytes) (end_before bytes n) headers → IsRead bytes n headers
IsRead-written bytes n [] more stands laid = record { refused = refl; segments = refl }
IsRead-written bytes n (h ∷ rest) more stands laid =
    let tail = flat_map program_header rest ++ more in
    let here : drop (header_place n) bytes ≡ program_header h ++ tail = stands ∙ append_assoc (program_header h) (flat_map program_header rest) more in
    let header_is : header_at bytes n ≡ h = ap read_header here ∙ read_header-program_header h tail laid.1 in
    let good : is_good bytes n ≡ true =
    and_true (nat_le (header_place (n + 1)) (length bytes)) _ (test_le (header_place (n + 1)) (length bytes) (header_within bytes n h tail here))
    (subst (λ (x : ProgramHeader). is_good_header (length bytes) (end_before bytes n) x ≡ true) (sym header_is) laid.0) in
    let next : drop (header_place (n + 1)) bytes ≡ tail = ap (λ k. drop k bytes) (next_place n) ∙ (sym (drop-drop 56 (header_place n) bytes) ∙ (ap (drop 56) here ∙ drop-program_header h tail)) in
    let next_laid = subst (λ (e : ℕ). AreLaid (length bytes) e rest) (sym (end_before-next bytes n ∙ ap end_of header_is)) laid.2 in
    IsRead-next bytes n h rest good header_is (IsRead-written bytes (n + 1) rest more next next_laid)

-- The file of a code and its sizes loads to the image of the code and its sizes.
use Rattle.std.proofs.Common.{◌≡◌, ℕ, ◌≤◌, List, ◌++◌, length, drop, map, find, flat_map, not, true, None, Ok, refl, sym, ap, subst, ◌∙◌, arith, length-append}
use Rattle.std.specs.List.{range_with_len, list_any}
use Rattle.elf_image.specs.declared.header.ProgramHeader.{ProgramHeader}
use Rattle.elf_image.specs.Fields.{program_header, xword_at}
use Rattle.elf_image.specs.Layout.{file_header, file_with}
use Rattle.elf_image.specs.Load.{is_elf, is_kind, header_count, is_good, segment_by, segment_at, refused_segment, image_at, can_run, entered, loaded}
use Rattle.elf_image.proofs.LoadedLemmas.{loaded-entered, entered-somewhere, image_with}
use Rattle.elf_image.proofs.Laid.{AreLaid, IsRead, IsRead-written}
use Rattle.elf_image.proofs.Parts.{is_elf-header, header_count-header, is_kind-header, entry-header, drop-header, tail_of, file-by_parts}

-- what the header of a file says
record IsHeaded (bytes : List ℕ) (n : ℕ) (more : List ℕ) : Type 0 where
  long : 64 ≤ length bytes
  elf : is_elf bytes ≡ true
  kind : is_kind bytes ≡ true
  count : header_count bytes ≡ n
  entry : xword_at bytes 24 ≡ 0x40_0000
  behind : drop 64 bytes ≡ more

headed : (n : ℕ) (more : List ℕ) → 1 ≤ n → n ≤ 8 → IsHeaded (file_header n ++ more) n more
headed n more some few =
    let long : length (file_header n) ≡ 64 = refl in
    record {
      long = omega (arith, length-append (file_header n) more, long);
      elf = is_elf-header n more;
      kind = is_kind-header n more some few;
      count = header_count-header n more few;
      entry = entry-header n more;
      behind = drop-header n more;
    }

-- a file whose program headers can be loaded, the first executable segment with the entry among them, loads to their segments
pub loaded-file_with : (headers : List ProgramHeader) (code : List ℕ) (place : ℕ) (content : List ℕ) → 1 ≤ length headers → length headers ≤ 8
    → AreLaid (length (file_with headers code place content)) 0 headers
    → list_any (can_run 0x40_0000) (map (segment_by (file_with headers code place content)) headers) ≡ true
    → loaded (file_with headers code place content) ≡ Ok (image_with 0x40_0000 (map (segment_by (file_with headers code place content)) headers))
loaded-file_with headers code place content some few laid runs =
    let file = file_with headers code place content in
    let n = length headers in
    let more = flat_map program_header headers ++ tail_of headers code place content in
    let is_headed : IsHeaded file n more = subst (λ (bs : List ℕ). IsHeaded bs n more) (sym (file-by_parts headers code place content)) (headed n more some few) in
    let read : IsRead file 0 headers = IsRead-written file 0 headers (tail_of headers code place content) is_headed.behind laid in
    let refused : refused_segment file ≡ None = ap (λ k. find (λ i. not (is_good file i)) (range_with_len 0 k)) is_headed.count ∙ read.refused in
    let segments : (image_at file).segments ≡ map (segment_by file) headers = ap (λ k. map (segment_at file) (range_with_len 0 k)) is_headed.count ∙ read.segments in
    let image : image_at file ≡ image_with 0x40_0000 (map (segment_by file) headers) = ap (λ e. image_with e (image_at file).segments) is_headed.entry ∙ ap (λ s. image_with 0x40_0000 s) segments in
    loaded-entered file is_headed.long is_headed.elf is_headed.kind refused ∙ (ap entered image ∙ entered-somewhere (image_with 0x40_0000 (map (segment_by file) headers)) runs)

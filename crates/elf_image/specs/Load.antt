-- How an executable file is loaded, after the ELF-64 object file format, "File header" and "Program header table": the first test that fails, or else the image.
use Rattle.std.specs.Prelude.{◌≡◌, ℕ, zero, suc, ◌+◌, ◌^◌, ◌%◌, Bool, true, false, not, ◌&&◌, ◌==◌, nat_lt, nat_le, nat_eq, if◌then◌else◌, List, [], ◌∷◌, length, take, drop, map, find, slice_index, Option, Some, None, Result, Ok, Err}
use Rattle.std.specs.List.{range_with_len, list_any, starts_with}
use Rattle.x64_table.specs.declared.image.Image.{Image}
use Rattle.x64_table.specs.declared.image.Segment.{Segment}
use Rattle.elf_image.specs.declared.error.ImageErr.{ImageErr}
use Rattle.elf_image.specs.declared.error.ImageErr.TheVariants.{Short, Magic, Kind, Segment as RefusedSegment, Entry}
use Rattle.elf_image.specs.declared.header.ProgramHeader.{ProgramHeader}
use Rattle.elf_image.specs.Fields.{half_at, word_at, xword_at, header_place, header_at}

abbrev pub is_elf : List ℕ → Bool
is_elf bytes = starts_with nat_eq bytes (0x7f ∷ 0x45 ∷ 0x4c ∷ 0x46 ∷ [])

-- e_ident: 64 bits, little endian, version 1
abbrev pub has_ident : List ℕ → Bool
has_ident bytes = slice_index bytes 4 == 2 && (slice_index bytes 5 == 1 && slice_index bytes 6 == 1)

-- e_type, e_machine, e_version: an executable for x86-64, version 1
abbrev pub has_machine : List ℕ → Bool
has_machine bytes = half_at bytes 16 == 2 && (half_at bytes 18 == 62 && word_at bytes 20 == 1)

-- e_phnum
abbrev pub header_count : List ℕ → ℕ
header_count bytes = half_at bytes 56

abbrev pub has_count : List ℕ → Bool
has_count bytes = nat_le 1 (header_count bytes) && nat_le (header_count bytes) 8

-- e_phoff, e_ehsize, e_phentsize, e_phnum
abbrev pub has_tables : List ℕ → Bool
has_tables bytes = xword_at bytes 32 == 64 && (half_at bytes 52 == 64 && (half_at bytes 54 == 56 && has_count bytes))

abbrev pub is_kind : List ℕ → Bool
is_kind bytes = has_ident bytes && (has_machine bytes && has_tables bytes)

-- the address behind a segment
abbrev pub end_of : ProgramHeader → ℕ
end_of h = h.address + h.memory_size

-- the address behind the segment before this one, or 0
abbrev pub end_before : List ℕ → ℕ → ℕ
end_before bytes zero = 0
end_before bytes (suc n) = end_of (header_at bytes n)

-- a segment to be loaded, whose bytes the file has
abbrev pub is_in_file : ℕ → ProgramHeader → Bool
is_in_file len h = nat_le (h.offset + h.file_size) len && h.kind == 1

-- readable, also writable, or also executable
abbrev pub has_flags : ProgramHeader → Bool
has_flags h = nat_le 4 h.flags && nat_le h.flags 6

-- its bytes fit its memory, which is at most 1 GiB
abbrev pub has_room : ProgramHeader → Bool
has_room h = nat_le h.file_size h.memory_size && nat_le h.memory_size (2 ^ 30)

-- it lies behind the segment before it, and below 2^47
abbrev pub is_behind : ℕ → ProgramHeader → Bool
is_behind end h = nat_le (end_of h) (2 ^ 47) && nat_le end h.address

-- a program header that can be loaded, in a file of `len` bytes, where the segment before ends at `end`
abbrev pub is_good_header : ℕ → ℕ → ProgramHeader → Bool
is_good_header len end h = is_in_file len h && (has_flags h && (has_room h && is_behind end h))

-- the program header of this number is in the file, and can be loaded
abbrev pub is_good : List ℕ → ℕ → Bool
is_good bytes n = nat_le (header_place (n + 1)) (length bytes) && is_good_header (length bytes) (end_before bytes n) (header_at bytes n)

-- the segment of a program header
abbrev pub segment_by : List ℕ → ProgramHeader → Segment
segment_by bytes h = record { at = h.address; size = h.memory_size; flags = h.flags; bytes = take h.file_size (drop h.offset bytes) }

abbrev pub segment_at : List ℕ → ℕ → Segment
segment_at bytes n = segment_by bytes (header_at bytes n)

-- the least number of a program header that cannot be loaded
abbrev pub refused_segment : List ℕ → Option ℕ
refused_segment bytes = find (λ n. not (is_good bytes n)) (range_with_len 0 (header_count bytes))

-- an executable segment that has this address; the flag to execute is the lowest bit
abbrev pub can_run : ℕ → Segment → Bool
can_run at s = s.flags % 2 == 1 && (nat_le s.at at && nat_lt at (s.at + s.size))

-- e_entry, with the segments in the order of their program headers
abbrev pub image_at : List ℕ → Image
image_at bytes = record { entry = xword_at bytes 24; segments = map (segment_at bytes) (range_with_len 0 (header_count bytes)) }

abbrev pub entered : Image → Result Image ImageErr
entered image = if list_any (can_run image.entry) image.segments then Ok image else Err Entry

abbrev pub loaded_unless : Option ℕ → List ℕ → Result Image ImageErr
loaded_unless None bytes = entered (image_at bytes)
loaded_unless (Some n) bytes = Err (RefusedSegment n)

-- the first test that fails, in this order; the image where none does
unfoldable pub loaded : List ℕ → Result Image ImageErr
loaded bytes =
    if nat_lt (length bytes) 64 then Err Short
    else (if not (is_elf bytes) then Err Magic
    else (if not (is_kind bytes) then Err Kind
    else loaded_unless (refused_segment bytes) bytes))

-- what the loader knows after each program header, and after all
abbrev pub IsGood : List ℕ → ℕ → Segment → Type 0
IsGood bytes n segment = (is_good bytes n ≡ true) × (segment ≡ segment_at bytes n)

abbrev pub IsBad : List ℕ → ℕ → ImageErr → Type 0
IsBad bytes n e = (is_good bytes n ≡ false) × (e ≡ RefusedSegment n)

abbrev pub IsAllGood : List ℕ → List Segment → Type 0
IsAllGood bytes segments = (refused_segment bytes ≡ None) × (segments ≡ (image_at bytes).segments)

abbrev pub IsFirstBad : List ℕ → ImageErr → Type 0
IsFirstBad bytes e = (n : ℕ) × (refused_segment bytes ≡ Some n) × (e ≡ RefusedSegment n)

-- What the compiler makes of its code: the image, that is the memory of a made program, and the file that holds it.
use Rattle.std.specs.Prelude.{ℕ, ◌+◌, ◌-◌, ◌*◌, ◌/◌, ◌≤◌, ◌==◌, if◌then◌else◌, List, [], ◌∷◌, ◌++◌, length, replicate, flat_map}
use Rattle.x64_table.specs.declared.image.Code.{Code}
use Rattle.x64_table.specs.declared.image.Image.{Image}
use Rattle.x64_table.specs.declared.image.Segment.{Segment}
use Rattle.x64_table.specs.declared.image.Sizes.{Sizes}
use Rattle.elf_image.specs.declared.header.ProgramHeader.{ProgramHeader}
use Rattle.elf_image.specs.Fields.{half, word, xword, padded, program_header}

-- the literals and top-level slots, at least 8 bytes
abbrev pub data_of : Code → List ℕ
data_of c = c.literals ++ replicate (8 - length c.literals) 0

-- a segment of this many words, zeros at the start; left out where there is none
abbrev pub words_segment : ℕ → ℕ → List Segment
words_segment at n = if n == 0 then [] else record { at = at; size = 8 * n; flags = 6; bytes = [] } ∷ []

-- the memory of a made program: its code, its literals and top-level slots, its area, its local stack and its call stack
abbrev pub segments_of : Code → Sizes → List Segment
segments_of c z =
    record { at = 0x40_0000; size = length c.bytes; flags = 5; bytes = c.bytes }
    ∷ record { at = 0x4000_0000; size = length (data_of c); flags = 6; bytes = data_of c }
    ∷ (words_segment 0x1_0000_0000 z.area ++ (words_segment 0x2_0000_0000 z.local ++ words_segment 0x3_0000_0000 z.stack))

-- the program starts at the first byte of its code
abbrev pub image_of : Code → Sizes → Image
image_of c z = record { entry = 0x40_0000; segments = segments_of c z }

-- where the file has the literals: the first multiple of 0x1000 at or past the end of the code, which begins at 0x1000
abbrev pub data_place : Code → ℕ
data_place c = (0x1000 + length c.bytes + 0xfff) / 0x1000 * 0x1000

-- the program header of a segment of this many words
abbrev pub words_header : ℕ → ℕ → List ProgramHeader
words_header at n = if n == 0 then [] else record { kind = 1; flags = 6; offset = 0; address = at; file_size = 0; memory_size = 8 * n } ∷ []

-- the program headers, one for each segment
abbrev pub headers_of : Code → Sizes → List ProgramHeader
headers_of c z =
    record { kind = 1; flags = 5; offset = 0x1000; address = 0x40_0000; file_size = length c.bytes; memory_size = length c.bytes }
    ∷ record { kind = 1; flags = 6; offset = data_place c; address = 0x4000_0000; file_size = length (data_of c); memory_size = length (data_of c) }
    ∷ (words_header 0x1_0000_0000 z.area ++ (words_header 0x2_0000_0000 z.local ++ words_header 0x3_0000_0000 z.stack))

-- Elf64_Ehdr of an executable with this many program headers. e_ident is the magic, class 64, little endian, version 1, zeros. Then e_type (executable), e_machine (x86-64), e_version, e_entry,
-- e_phoff, e_shoff (no section headers), e_flags, e_ehsize, e_phentsize, e_phnum, e_shentsize, e_shnum, e_shstrndx
abbrev pub file_header : ℕ → List ℕ
file_header count =
    (0x7f ∷ 0x45 ∷ 0x4c ∷ 0x46 ∷ 2 ∷ 1 ∷ 1 ∷ 0 ∷ 0 ∷ 0 ∷ 0 ∷ 0 ∷ 0 ∷ 0 ∷ 0 ∷ 0 ∷ [])
    ++ (half 2 ++ (half 62 ++ (word 1 ++ (xword 0x40_0000 ++ (xword 64 ++ (xword 0 ++ (word 0 ++ (half 64 ++ (half 56 ++ (half count ++ (half 0 ++ (half 0 ++ half 0))))))))))))

-- a file with these program headers, this code from 0x1000 on, and this data from `place` on
abbrev pub file_with : List ProgramHeader → List ℕ → ℕ → List ℕ → List ℕ
file_with headers code place bytes =
    padded place (padded 0x1000 (file_header (length headers) ++ flat_map program_header headers) ++ code) ++ bytes

-- the executable of a code with its sizes, byte for byte
unfoldable pub file_of : Code → Sizes → List ℕ
file_of c z = file_with (headers_of c z) c.bytes (data_place c) (data_of c)

-- what can be written: the code and the data stay below the next part of the memory
pub record IsWritable (c : Code) (z : Sizes) : Type 0 where
  pub starts : 1 ≤ length c.bytes
  pub code : length c.bytes ≤ 1_060_004_096
  pub literals : length c.literals ≤ 1_060_004_096
  pub area : z.area ≤ 134_217_728
  pub local : z.local ≤ 134_217_728
  pub stack : z.stack ≤ 134_217_728

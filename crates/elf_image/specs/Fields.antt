-- The fields of an ELF-64 file. Numbers stand with their low byte first (ELF-64 object file format, "Data representation").
use Rattle.std.specs.Prelude.{ℕ, ◌+◌, ◌-◌, ◌*◌, List, [], ◌∷◌, ◌++◌, length, drop, replicate, flat_map}
use Rattle.std.specs.Int.{w16, w32, w64, to_le_bytes, from_le_bytes}
use Rattle.elf_image.specs.declared.header.ProgramHeader.{ProgramHeader}

-- Elf64_Half, Elf64_Word and Elf64_Xword (also Elf64_Addr and Elf64_Off), written
abbrev pub half : ℕ → List ℕ
half n = to_le_bytes w16 n

abbrev pub word : ℕ → List ℕ
word n = to_le_bytes w32 n

abbrev pub xword : ℕ → List ℕ
xword n = to_le_bytes w64 n

-- the same, read at a place; a byte past the end counts as 0
abbrev pub half_at : List ℕ → ℕ → ℕ
half_at bytes place = from_le_bytes w16 (drop place bytes)

abbrev pub word_at : List ℕ → ℕ → ℕ
word_at bytes place = from_le_bytes w32 (drop place bytes)

abbrev pub xword_at : List ℕ → ℕ → ℕ
xword_at bytes place = from_le_bytes w64 (drop place bytes)

-- the bytes with zeros behind them, up to n bytes
unfoldable pub padded : ℕ → List ℕ → List ℕ
padded n bytes = bytes ++ replicate (n - length bytes) 0

-- where the program header of this number begins
abbrev pub header_place : ℕ → ℕ
header_place n = 64 + 56 * n

-- Elf64_Phdr, written: p_type, p_flags, p_offset, p_vaddr, p_paddr, p_filesz, p_memsz, p_align
abbrev pub program_header : ProgramHeader → List ℕ
program_header h =
    word h.kind ++ (word h.flags ++ flat_map xword (h.offset ∷ h.address ∷ h.address ∷ h.file_size ∷ h.memory_size ∷ 0x1000 ∷ []))

-- Elf64_Phdr, read from the front of the bytes
abbrev pub read_header : List ℕ → ProgramHeader
read_header bytes = record {
  kind = word_at bytes 0;
  flags = word_at bytes 4;
  offset = xword_at bytes 8;
  address = xword_at bytes 16;
  file_size = xword_at bytes 32;
  memory_size = xword_at bytes 40;
}

-- the program header of this number
abbrev pub header_at : List ℕ → ℕ → ProgramHeader
header_at bytes n = read_header (drop (header_place n) bytes)

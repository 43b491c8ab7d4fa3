use Rattle.std.proofs.Common.{◌≡◌, ◌++◌, take, flat_map}
use Rattle.elf_image.specs.Fields.{program_header}
use Rattle.elf_image.proofs.write.write_headers.Given as goal

abbrev pub invariant-loop-h : goal.invariant-loop-h
invariant-loop-h l = l.file.items ≡ l.initial.file.items ++ flat_map program_header (take l.h-index l.headers)

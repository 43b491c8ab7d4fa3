use Rattle.std.proofs.Common.{◌≡◌, ◌++◌, take, flat_map}
use Rattle.elf_image.specs.Fields.{xword}
use Rattle.elf_image.proofs.write.write_xwords.Given as goal

abbrev pub invariant-loop-n : goal.invariant-loop-n
invariant-loop-n l = l.file.items ≡ l.initial.file.items ++ flat_map xword (take l.n-index l.numbers)

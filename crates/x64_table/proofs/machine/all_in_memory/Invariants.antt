use Rattle.std.proofs.Common.{◌≡◌, map, take}
use Rattle.x64_table.specs.Machine.{in_memory}
use Rattle.x64_table.specs.View.{loaded}
use Rattle.x64_table.proofs.machine.all_in_memory.Given as goal

abbrev pub invariant-loop-s : goal.invariant-loop-s
invariant-loop-s l = loaded l.all.items ≡ map in_memory (take l.s-index l.segments)

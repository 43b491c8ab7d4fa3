use Rattle.std.proofs.Common.{◌≡◌, Some, length, take}
use Rattle.x64_table.specs.Machine.{each_byte, readable_byte}
use Rattle.x64_table.specs.View.{state}
use Rattle.x64_table.proofs.access.read_each.Given as goal

abbrev pub invariant-loop-i : goal.invariant-loop-i
invariant-loop-i l =
    (length l.part ≡ 8) × (each_byte (readable_byte (state l.cpu l.segments)) l.i l.a ≡ Some (take l.i l.part))

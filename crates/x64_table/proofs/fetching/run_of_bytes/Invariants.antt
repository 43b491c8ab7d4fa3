use Rattle.std.proofs.Common.{◌≡◌, ◌+◌, ◌-◌, ◌%◌, ◌^◌, ◌++◌, length, take}
use Rattle.x64_table.specs.Machine.{run_of_bytes, code_byte}
use Rattle.x64_table.specs.View.{loaded}
use Rattle.x64_table.proofs.fetching.run_of_bytes.Given as goal

abbrev pub invariant-loop-i : goal.invariant-loop-i
invariant-loop-i l =
    (length l.part ≡ 15) × (take l.i l.part ++ run_of_bytes (code_byte (loaded l.segments)) (15 - l.i) ((l.a + l.i) % 2 ^ 64) ≡ run_of_bytes (code_byte (loaded l.segments)) 15 l.a)

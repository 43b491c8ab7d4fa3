use Rattle.std.proofs.Common.{◌≡◌, true}
use Rattle.x64_table.specs.Machine.{each_place, has_readable}
use Rattle.x64_table.specs.View.{loaded}
use Rattle.x64_table.proofs.access.all_readable.Given as goal

abbrev pub invariant-loop-i : goal.invariant-loop-i
invariant-loop-i l = each_place (has_readable l.cpu (loaded l.segments) 1) l.i l.a ≡ true

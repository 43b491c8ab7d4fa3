use Rattle.std.proofs.Common.{◌≡◌, drop}
use Rattle.x64_table.specs.Machine.{stored_each}
use Rattle.x64_table.specs.View.{loaded}
use Rattle.x64_table.proofs.access.put_each.Given as goal

abbrev pub invariant-loop-b : goal.invariant-loop-b
invariant-loop-b l =
    stored_each l.cpu l.place (drop l.b-index l.bytes) (loaded l.segments) ≡ stored_each l.cpu l.a l.bytes (loaded l.fn.segments)

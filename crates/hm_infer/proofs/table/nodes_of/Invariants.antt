use Rattle.std.proofs.Common.{◌≤◌, nat_eq}
use Rattle.std.specs.HashMap.{get}
use Rattle.hm_infer.specs.Tables.{AreNoted}
use Rattle.hm_infer.proofs.table.nodes_of.Given as goal

abbrev pub invariant-loop-number : goal.invariant-loop-number
invariant-loop-number l = record { noted : AreNoted (get nat_eq l.nodes) l.number-counter l.ids; below : l.number-counter ≤ l.count }

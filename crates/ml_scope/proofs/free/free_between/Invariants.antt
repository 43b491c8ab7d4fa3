use Rattle.std.proofs.Common.{◌≡◌, ◌-◌, map}
use Rattle.std.specs.List.{range_with_len}
use Rattle.ml_scope.specs.Journal.{each}
use Rattle.ml_scope.specs.FreeNames.{free_at, free_names}
use Rattle.ml_scope.proofs.free.free_between.Given as goal

abbrev pub invariant-loop-node : goal.invariant-loop-node
invariant-loop-node l = each (map (free_at l.s.refs (range_with_len l.low (l.high - l.low))) (range_with_len l.node (l.high - l.node))) l.names.keys ≡ free_names l.s.refs (range_with_len l.low (l.high - l.low))

use Rattle.std.proofs.Common.{◌≡◌, map, drop}
use Rattle.ml_numbers.specs.Steps.{each}
use Rattle.ml_numbers.specs.Numbered.{numbered_item}
use Rattle.ml_numbers.proofs.Lists.{onto}
use Rattle.ml_numbers.proofs.program.number_items.Given as goal

abbrev pub invariant-loop-one : goal.invariant-loop-one
invariant-loop-one l = onto l.done (each (map numbered_item (drop l.one-index l.list)) l.next) ≡ each (map numbered_item l.list) l.fn.next

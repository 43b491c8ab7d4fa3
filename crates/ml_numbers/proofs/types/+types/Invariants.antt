use Rattle.std.proofs.Common.{◌≡◌, map, drop}
use Rattle.ml_numbers.specs.Steps.{each}
use Rattle.ml_numbers.specs.Numbered.{numbered_type}
use Rattle.ml_numbers.proofs.Lists.{onto}
use Rattle.ml_numbers.proofs.types.+types.Given as goal

abbrev pub invariant-number_types-loop-one : goal.invariant-number_types-loop-one
invariant-number_types-loop-one l = onto l.done (each (map numbered_type (drop l.one-index l.list)) l.next) ≡ each (map numbered_type l.list) l.fn.next

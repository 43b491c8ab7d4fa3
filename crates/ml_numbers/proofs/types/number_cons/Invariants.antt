use Rattle.std.proofs.Common.{◌≡◌, map, drop}
use Rattle.ml_numbers.specs.Steps.{each}
use Rattle.ml_numbers.specs.Numbered.{numbered_con}
use Rattle.ml_numbers.proofs.Lists.{onto}
use Rattle.ml_numbers.proofs.types.number_cons.Given as goal

abbrev pub invariant-loop-one : goal.invariant-loop-one
invariant-loop-one l = onto l.done (each (map numbered_con (drop l.one-index l.list)) l.next) ≡ each (map numbered_con l.list) l.fn.next

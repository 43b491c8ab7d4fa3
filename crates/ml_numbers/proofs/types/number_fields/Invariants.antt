use Rattle.std.proofs.Common.{◌≡◌, map, drop}
use Rattle.ml_numbers.specs.Steps.{each}
use Rattle.ml_numbers.specs.Numbered.{numbered_field_decl}
use Rattle.ml_numbers.proofs.Lists.{onto}
use Rattle.ml_numbers.proofs.types.number_fields.Given as goal

abbrev pub invariant-loop-one : goal.invariant-loop-one
invariant-loop-one l = onto l.done (each (map numbered_field_decl (drop l.one-index l.list)) l.next) ≡ each (map numbered_field_decl l.list) l.fn.next

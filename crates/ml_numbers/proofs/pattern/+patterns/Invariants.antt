use Rattle.std.proofs.Common.{◌≡◌, map, drop}
use Rattle.ml_numbers.specs.Steps.{each}
use Rattle.ml_numbers.specs.Numbered.{numbered_field_pattern, numbered_pattern}
use Rattle.ml_numbers.proofs.Lists.{onto}
use Rattle.ml_numbers.proofs.pattern.+patterns.Given as goal

abbrev pub invariant-number_patterns-loop-one : goal.invariant-number_patterns-loop-one
invariant-number_patterns-loop-one l = onto l.done (each (map numbered_pattern (drop l.one-index l.list)) l.next) ≡ each (map numbered_pattern l.list) l.fn.next

abbrev pub invariant-number_fields-loop-one : goal.invariant-number_fields-loop-one
invariant-number_fields-loop-one l = onto l.done (each (map numbered_field_pattern (drop l.one-index l.list)) l.next) ≡ each (map numbered_field_pattern l.list) l.fn.next

use Rattle.std.proofs.Common.{◌≡◌, ◌++◌, map, drop}
use Rattle.ml_typing.specs.Steps.{binders, joined}
use Rattle.hm_steps.specs.Blocks.{binders_of_field}
use Rattle.hm_steps.proofs.binders.+binders.Given as goal

abbrev pub invariant-part_binders-loop-q : goal.invariant-part_binders-loop-q
invariant-part_binders-loop-q l = l.numbers ++ joined (map binders (drop l.q-index l.list)) ≡ l.fn.numbers ++ joined (map binders l.list)

abbrev pub invariant-field_binders-loop-field : goal.invariant-field_binders-loop-field
invariant-field_binders-loop-field l = l.numbers ++ joined (map binders_of_field (drop l.field-index l.list)) ≡ l.fn.numbers ++ joined (map binders_of_field l.list)

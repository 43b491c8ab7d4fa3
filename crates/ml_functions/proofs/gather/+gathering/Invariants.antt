use Rattle.ml_meaning.specs.Captures.{binders, binders_of_arm, uses, uses_of_arm}
use Rattle.ml_words.specs.Named.{targets}
use Rattle.ml_functions.specs.Used.{binders_of_field, binders_of_bind, uses_of_field, uses_of_bind}
use Rattle.ml_functions.proofs.Grows.{Grows}
use Rattle.ml_functions.proofs.gather.+gathering.Given as goal

abbrev pub invariant-exprs-loop-one : goal.invariant-exprs-loop-one
invariant-exprs-loop-one l =
    Grows (uses (targets l.s)) l.list l.one-index l.initial.found.uses.items l.found.uses.items
    × Grows binders l.list l.one-index l.initial.found.binders.items l.found.binders.items

abbrev pub invariant-fields-loop-one : goal.invariant-fields-loop-one
invariant-fields-loop-one l =
    Grows (uses_of_field (targets l.s)) l.list l.one-index l.initial.found.uses.items l.found.uses.items
    × Grows binders_of_field l.list l.one-index l.initial.found.binders.items l.found.binders.items

abbrev pub invariant-arms-loop-one : goal.invariant-arms-loop-one
invariant-arms-loop-one l =
    Grows (uses_of_arm (targets l.s)) l.list l.one-index l.initial.found.uses.items l.found.uses.items
    × Grows binders_of_arm l.list l.one-index l.initial.found.binders.items l.found.binders.items

abbrev pub invariant-binds-loop-one : goal.invariant-binds-loop-one
invariant-binds-loop-one l =
    Grows (uses_of_bind (targets l.s)) l.list l.one-index l.initial.found.uses.items l.found.uses.items
    × Grows binders_of_bind l.list l.one-index l.initial.found.binders.items l.found.binders.items

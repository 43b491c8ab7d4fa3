use Rattle.std.proofs.Common.{◌≡◌}
use Rattle.ml_meaning.specs.Captures.{bound_names}
use Rattle.ml_functions.specs.Used.{bound_names_of_field}
use Rattle.ml_functions.proofs.Grows.{Grows}
use Rattle.ml_functions.proofs.gather.+patterns.Given as goal

abbrev pub invariant-patterns-loop-one : goal.invariant-patterns-loop-one
invariant-patterns-loop-one l = (l.found.uses.items ≡ l.initial.found.uses.items) × Grows bound_names l.list l.one-index l.initial.found.binders.items l.found.binders.items

abbrev pub invariant-field_patterns-loop-one : goal.invariant-field_patterns-loop-one
invariant-field_patterns-loop-one l = (l.found.uses.items ≡ l.initial.found.uses.items) × Grows bound_names_of_field l.list l.one-index l.initial.found.binders.items l.found.binders.items

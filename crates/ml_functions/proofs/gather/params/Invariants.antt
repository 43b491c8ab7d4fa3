use Rattle.std.proofs.Common.{◌≡◌}
use Rattle.ml_functions.proofs.Grows.{Grows, bound_of_param}
use Rattle.ml_functions.proofs.gather.params.Given as goal

abbrev pub invariant-loop-one : goal.invariant-loop-one
invariant-loop-one l = (l.found.uses.items ≡ l.initial.found.uses.items) × Grows bound_of_param l.list l.one-index l.initial.found.binders.items l.found.binders.items

use Rattle.std.proofs.Common.{length}
use Rattle.ml_values.specs.Shown.{values_list}
use Rattle.ml_values.proofs.Walks.{Counted}
use Rattle.ml_values.proofs.value.count.Given as goal

abbrev pub invariant-loop-rest : goal.invariant-loop-rest
invariant-loop-rest l = Counted l.total l.rest (length (values_list l.words))

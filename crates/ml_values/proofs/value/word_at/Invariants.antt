use Rattle.std.proofs.Common.{slice_get}
use Rattle.ml_values.specs.Shown.{values_list}
use Rattle.ml_values.proofs.Walks.{Sought}
use Rattle.ml_values.proofs.value.word_at.Given as goal

abbrev pub invariant-loop-rest : goal.invariant-loop-rest
invariant-loop-rest l = Sought l.rest l.left (slice_get (values_list l.words) l.at)

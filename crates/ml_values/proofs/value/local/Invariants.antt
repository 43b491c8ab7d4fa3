use Rattle.ml_meaning.specs.Names.{lookup}
use Rattle.ml_values.specs.Shown.{names}
use Rattle.ml_values.proofs.Walks.{Named}
use Rattle.ml_values.proofs.value.local.Given as goal

abbrev pub invariant-loop-rest : goal.invariant-loop-rest
invariant-loop-rest l = Named l.name l.rest (lookup l.name (names l.env))

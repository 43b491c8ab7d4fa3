use Rattle.ml_values.specs.Shown.{values_list}
use Rattle.ml_steps.proofs.Lists.{Takes}
use Rattle.ml_steps.proofs.calls.append.Given as goal

abbrev pub invariant-loop-rest : goal.invariant-loop-rest
invariant-loop-rest l = Takes l.list.items l.rest (values_list l.first)

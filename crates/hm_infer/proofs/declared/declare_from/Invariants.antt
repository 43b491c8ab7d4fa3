use Rattle.hm_terms.specs.Stores.{store}
use Rattle.hm_infer.specs.Declaring.{DeclaresMore}
use Rattle.hm_infer.proofs.declared.declare_from.Given as goal

abbrev pub invariant-loop-step : goal.invariant-loop-step
invariant-loop-step l = DeclaresMore l.d.types l.table.nodes (store l.initial.solver) (store l.solver)

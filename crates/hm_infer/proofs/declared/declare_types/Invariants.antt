use Rattle.hm_terms.specs.Stores.{store}
use Rattle.hm_infer.specs.Declaring.{DeclaresMore}
use Rattle.hm_infer.proofs.declared.declare_types.Given as goal

abbrev pub invariant-loop-number : goal.invariant-loop-number
invariant-loop-number l = DeclaresMore l.d.types l.table.nodes (store l.initial.solver) (store l.solver)

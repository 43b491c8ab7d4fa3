use Rattle.hm_terms.specs.Stores.{store, IsReady, Grows}
use Rattle.hm_infer.proofs.declared.add_variables.Given as goal

abbrev pub invariant-loop-number : goal.invariant-loop-number
invariant-loop-number l = IsReady (store l.initial.solver) → Grows (store l.initial.solver) (store l.solver)

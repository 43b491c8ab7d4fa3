use Rattle.std.proofs.Common.{take, nat_eq}
use Rattle.std.specs.HashMap.{get}
use Rattle.hm_terms.specs.Stores.{store}
use Rattle.hm_infer.specs.Closing.{Notes}
use Rattle.hm_infer.proofs.schemes.note_nodes.Given as goal

abbrev pub invariant-loop-step : goal.invariant-loop-step
invariant-loop-step l = Notes (store l.solver) (take l.step-index l.steps) (get nat_eq l.initial.nodes) (get nat_eq l.nodes)

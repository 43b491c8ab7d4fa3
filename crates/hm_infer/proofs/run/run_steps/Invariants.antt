use Rattle.std.proofs.Common.{[], take}
use Rattle.ml_typing.specs.Terms.{Context}
use Rattle.ml_typing.specs.Typing.{pairs}
use Rattle.hm_terms.specs.Stores.{store}
use Rattle.hm_terms.specs.Contexts.{IsRead}
use Rattle.hm_infer.specs.Running.{Agrees, Knowing, Keeps}
use Rattle.hm_infer.specs.Spelled.{StepsRun}
use Rattle.hm_infer.proofs.run.run_steps.Given as goal

abbrev pub invariant-loop-number : goal.invariant-loop-number
invariant-loop-number l = (c : Context) → IsRead (store l.initial.solver) l.d.types c → Agrees (store l.initial.solver) [] → Knowing (store l.solver) l.d.types c (pairs c (take l.number l.steps)) × Keeps (store l.initial.solver) (store l.solver) × StepsRun l.d.types (store l.initial.solver) l.initial.solver.slots (take l.number l.steps) (store l.solver) l.solver.slots

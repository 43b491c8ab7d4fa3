use Rattle.std.proofs.Common.{take}
use Rattle.ml_typing.specs.Terms.{Context}
use Rattle.ml_typing.specs.Typing.{pairs}
use Rattle.hm_terms.specs.Stores.{store}
use Rattle.hm_terms.specs.Contexts.{IsRead}
use Rattle.hm_infer.specs.Running.{LowersPairs}
use Rattle.hm_infer.proofs.rules.all_pairs.Given as goal

-- the pairs of the steps so far are lowered
abbrev pub invariant-loop-step : goal.invariant-loop-step
invariant-loop-step l = (c : Context) → IsRead (store l.initial.solver) l.d.types c → LowersPairs (store l.initial.solver) (store l.solver) (pairs c (take l.step-index l.steps)) l.all.items

use Rattle.std.proofs.Common.{take}
use Rattle.ml_typing.specs.Terms.{Context}
use Rattle.ml_typing.specs.Refusals.{Fits}
use Rattle.hm_terms.specs.Stores.{store}
use Rattle.hm_terms.specs.Contexts.{IsRead}
use Rattle.hm_infer.specs.Running.{HasNoIds}
use Rattle.hm_infer.proofs.Narrowing.{Narrowing}
use Rattle.hm_infer.proofs.limit.narrowed.Given as goal

abbrev pub invariant-loop-number : goal.invariant-loop-number
invariant-loop-number l = (c : Context) → IsRead (store l.initial.solver) l.d.types c → HasNoIds (store l.initial.solver) → Fits c (take l.low l.steps) → Narrowing (store l.solver) l.d.types c l.steps l.small l.number

use Rattle.std.proofs.Common.{take}
use Rattle.ml_typing.specs.Typing.{Assignment}
use Rattle.ml_typing.specs.Refusals.{Compares}
use Rattle.hm_terms.specs.Stores.{store}
use Rattle.hm_infer.specs.Running.{IsShown}
use Rattle.hm_infer.proofs.comparisons.bad_comparison.Given as goal

abbrev pub invariant-loop-step : goal.invariant-loop-step
invariant-loop-step l = (a : Assignment) → IsShown (store l.solver) a → Compares (take l.step-index l.steps) a

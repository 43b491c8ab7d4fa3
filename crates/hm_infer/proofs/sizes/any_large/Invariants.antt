use Rattle.ml_typing.specs.Typing.{Assignment}
use Rattle.hm_terms.specs.Stores.{store}
use Rattle.hm_infer.specs.Running.{IsShown}
use Rattle.hm_infer.proofs.Larges.{SmallStepsBefore}
use Rattle.hm_infer.proofs.sizes.any_large.Given as goal

abbrev pub invariant-loop-step : goal.invariant-loop-step
invariant-loop-step l = (a : Assignment) → IsShown (store l.solver) a → SmallStepsBefore l.steps a l.step-index

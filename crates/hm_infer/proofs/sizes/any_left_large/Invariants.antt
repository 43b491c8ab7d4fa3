use Rattle.ml_typing.specs.Typing.{Assignment}
use Rattle.hm_terms.specs.Stores.{store}
use Rattle.hm_infer.specs.Running.{IsShown}
use Rattle.hm_infer.proofs.Larges.{SmallLeftsBefore}
use Rattle.hm_infer.proofs.sizes.any_left_large.Given as goal

abbrev pub invariant-loop-equation : goal.invariant-loop-equation
invariant-loop-equation l = (a : Assignment) → IsShown (store l.solver) a → SmallLeftsBefore l.equations a l.equation-index

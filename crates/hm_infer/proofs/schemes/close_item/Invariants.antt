use Rattle.std.proofs.Common.{◌≡◌, take}
use Rattle.hm_terms.specs.Stores.{store}
use Rattle.hm_infer.proofs.Leaving.{Closing}
use Rattle.hm_infer.proofs.schemes.close_item.Given as goal

abbrev pub invariant-loop-binder : goal.invariant-loop-binder
invariant-loop-binder l = record {
  closing : Closing (store l.initial.solver) (store l.solver) (take l.binder-index l.binders);
  slots : l.solver.slots ≡ l.initial.solver.slots;
}

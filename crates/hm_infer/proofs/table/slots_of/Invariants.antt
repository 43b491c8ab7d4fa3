use Rattle.std.proofs.Common.{◌≡◌, ℕ, ◌<◌, Some}
use Rattle.std.specs.List.{slice_get}
use Rattle.ml_types.specs.declared.node.TyId.{TyId}
use Rattle.ml_types.specs.declared.node.TyNode.TheVariants.{Arrow}
use Rattle.hm_infer.proofs.table.slots_of.Given as goal

abbrev pub invariant-loop-at : goal.invariant-loop-at
invariant-loop-at l = (i : ℕ) → i < l.at → (slot : ℕ) (from to : TyId) → slice_get l.nodes i ≡ Some (Arrow slot from to) → slot < l.slots

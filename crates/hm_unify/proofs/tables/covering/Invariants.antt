use Rattle.std.proofs.Common.{◌≡◌, ℕ, ◌<◌, length, Some, None, get_or}
use Rattle.std.specs.List.{slice_get}
use Rattle.ml_types.specs.declared.node.TyNode.{TyNode}
use Rattle.hm_unify.specs.Solutions.{variable_of}
use Rattle.hm_unify.proofs.tables.covering.Given as goal

abbrev pub invariant-loop-at : goal.invariant-loop-at
invariant-loop-at l = record {
  free : (n : ℕ) → get_or l.bound.items n None ≡ None;
  covers : (i : ℕ) (k : TyNode) (n : ℕ) → i < l.at → slice_get l.nodes i ≡ Some k → variable_of k ≡ Some n → n < length l.bound.items;
}

use Rattle.std.proofs.Common.{◌≡◌, ℕ, ◌<◌, Some}
use Rattle.std.specs.List.{slice_get}
use Rattle.ml_types.specs.declared.node.TyId.{TyId}
use Rattle.hm_terms.proofs.nodes.pairs_within.Given as goal

abbrev pub invariant-loop-pair : goal.invariant-loop-pair
invariant-loop-pair l = (i : ℕ) → i < l.pair-index → (p : TyId × TyId) → slice_get l.pairs i ≡ Some p → (p.0.0 < l.count) × (p.1.0 < l.count)

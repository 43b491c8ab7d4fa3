-- Pairs of ids that lie in a table.
use Rattle.std.proofs.Common.{◌≡◌, ℕ, zero, suc, ◌<◌, [], ◌∷◌, Some, slice_get, refl}
use Rattle.ml_types.specs.declared.node.TyId.{TyId}
use Rattle.hm_unify.specs.Solutions.{Pairs}
use Rattle.hm_unify.specs.Closing.{PairsWithin}

pub pairs_each : (n : ℕ) (ps : Pairs) → ((i : ℕ) (p : TyId × TyId) → slice_get ps i ≡ Some p → (p.0.0 < n) × (p.1.0 < n)) → PairsWithin n ps
pairs_each n [] h = tt
pairs_each n (p ∷ ps) h = ((h zero p refl).0, (h zero p refl).1, pairs_each n ps (λ i q e. h (suc i) q e))

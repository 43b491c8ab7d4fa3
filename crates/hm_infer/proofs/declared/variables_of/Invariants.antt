use Rattle.std.proofs.Common.{◌≡◌, ◌<◌, ℕ, Some}
use Rattle.std.specs.List.{slice_get}
use Rattle.ml_types.specs.declared.node.TyNode.TheVariants.{Var}
use Rattle.hm_infer.proofs.declared.variables_of.Given as goal

abbrev pub invariant-loop-at : goal.invariant-loop-at
invariant-loop-at l = (i v : ℕ) → i < l.at → slice_get l.nodes i ≡ Some (Var v) → v < l.count

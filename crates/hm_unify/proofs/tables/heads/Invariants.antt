use Rattle.std.proofs.Common.{◌≡◌, length, Some}
use Rattle.ml_types.specs.declared.node.TyId.{TyId}
use Rattle.ml_types.specs.declared.node.TyNode.{TyNode}
use Rattle.hm_unify.specs.Solutions.{node_at}
use Rattle.hm_unify.specs.States.{IsHead}
use Rattle.hm_unify.proofs.tables.heads.Given as goal

abbrev pub invariant-loop-at : goal.invariant-loop-at
invariant-loop-at l = record {
  count : length l.table ≡ l.at;
  heads : (x : TyId) (n : TyNode) → node_at l.table x ≡ Some n → IsHead (record { nodes = l.nodes; bound = l.bound }) x n;
}

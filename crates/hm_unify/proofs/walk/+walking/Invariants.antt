use Rattle.std.proofs.Common.{◌≡◌, ◌+◌, ◌*◌, ◌≤◌, length, take}
use Rattle.ml_types.specs.declared.node.TyId.{TyId}
use Rattle.ml_types.specs.Types.{Tree, trees, parts_of}
use Rattle.hm_unify.specs.Solutions.{Solves}
use Rattle.hm_unify.specs.States.{IsTabled}
use Rattle.hm_unify.specs.Walks.{WalkAll}
use Rattle.hm_unify.proofs.walk.+walking.Given as goal

abbrev pub decreases-walk : goal.decreases-walk
decreases-walk l = 2 * l.most + 1

abbrev pub decreases-walk_parts : goal.decreases-walk_parts
decreases-walk_parts l = 2 * l.most

abbrev pub invariant-walk_parts-loop-at : goal.invariant-walk_parts-loop-at
invariant-walk_parts-loop-at l = record {
  tabled : IsTabled l.nodes l.bound;
  walk : WalkAll l.nodes l.initial.bound (take l.at (parts_of l.left)) (take l.at (parts_of l.right)) l.bound;
  solved : (t : TyId → Tree) → Solves l.nodes l.initial.bound t → trees t (parts_of l.left) ≡ trees t (parts_of l.right) → Solves l.nodes l.bound t;
  below : l.at ≤ length (parts_of l.left);
}

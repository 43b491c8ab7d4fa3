use Rattle.std.proofs.Common.{take}
use Rattle.ml_types.specs.declared.node.TyId.{TyId}
use Rattle.ml_types.specs.Types.{Tree}
use Rattle.hm_unify.specs.Solutions.{Solves, Equates}
use Rattle.hm_unify.specs.States.{IsTabled}
use Rattle.hm_unify.specs.Walks.{WalkPairs}
use Rattle.hm_unify.proofs.walk.walk_pairs.Given as goal

abbrev pub invariant-loop-pair : goal.invariant-loop-pair
invariant-loop-pair l = record {
  tabled : IsTabled l.nodes l.bound;
  walk : WalkPairs l.nodes l.initial.bound (take l.pair-index l.pairs) l.bound;
  solved : (t : TyId → Tree) → Solves l.nodes l.initial.bound t → Equates t l.pairs → Solves l.nodes l.bound t;
}

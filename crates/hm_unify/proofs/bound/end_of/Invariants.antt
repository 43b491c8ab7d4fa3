use Rattle.std.proofs.Common.{◌<◌, length}
use Rattle.ml_types.specs.declared.node.TyId.{TyId}
use Rattle.hm_unify.specs.Solutions.{Ends}
use Rattle.hm_unify.proofs.Ends.{steps}
use Rattle.hm_unify.proofs.bound.end_of.Given as goal

abbrev pub invariant-loop-further : goal.invariant-loop-further
invariant-loop-further l = record {
  inside : l.at.0 < length l.nodes;
  leads : (e : TyId) → Ends l.nodes l.bound l.at e → Ends l.nodes l.bound l.fn.id e;
}

abbrev pub decreases-loop-further : goal.decreases-loop-further
decreases-loop-further l = steps l.nodes l.at

use Rattle.std.proofs.Common.{◌≡◌, ◌<◌, Some, below_more, subst, arith}
use Rattle.std.specs.List.{slice_get}
use Rattle.std.proofs.lemmas.Option.{get_or_from_slice_get, slice_get_within}
use Rattle.ml_types.specs.declared.node.TyId.{TyId}
use Rattle.hm_terms.proofs.nodes.all_within.Goals as goal

pub loop-part-preserved : goal.loop-part-preserved
loop-part-preserved c =
    below_more (λ i. (p : TyId) → slice_get c.args.parts.now i ≡ Some p → p.0 < c.args.count) c.loop-part.part-index c.loop-part.invariant
    (λ p h. subst (λ (v : TyId). v.0 < c.args.count) (get_or_from_slice_get c.args.parts.now c.loop-part.part-index p (record { 0 = 0 }) h) (omega arith))

pub returns : goal.returns
returns c = λ t i p h.
    let w = slice_get_within c.args.parts.now i p h in
    c.loop-part.invariant i (omega (arith, w)) p h

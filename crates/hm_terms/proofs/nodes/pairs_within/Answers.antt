use Rattle.std.proofs.Common.{◌≡◌, ◌<◌, Some, below_more, subst, arith}
use Rattle.std.specs.List.{slice_get}
use Rattle.std.proofs.lemmas.Option.{get_or_from_slice_get, slice_get_within}
use Rattle.ml_types.specs.declared.node.TyId.{TyId}
use Rattle.hm_terms.proofs.Tables.{pairs_each}
use Rattle.hm_terms.proofs.nodes.pairs_within.Goals as goal

abbrev none : TyId × TyId
none = (record { 0 = 0 }, record { 0 = 0 })

pub loop-pair-preserved : goal.loop-pair-preserved
loop-pair-preserved c =
    below_more (λ i. (p : TyId × TyId) → slice_get c.args.pairs.now i ≡ Some p → (p.0.0 < c.args.count) × (p.1.0 < c.args.count)) c.loop-pair.pair-index c.loop-pair.invariant
    (λ p h. subst (λ (v : TyId × TyId). (v.0.0 < c.args.count) × (v.1.0 < c.args.count)) (get_or_from_slice_get c.args.pairs.now c.loop-pair.pair-index p none h) (omega arith, omega arith))

pub returns : goal.returns
returns c = λ t. pairs_each c.args.count c.args.pairs.now
    (λ i p h. let w = slice_get_within c.args.pairs.now i p h in c.loop-pair.invariant i (omega (arith, w)) p h)

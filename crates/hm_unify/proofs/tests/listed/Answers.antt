use Rattle.std.proofs.Common.{◌≡◌, ◌<◌, Some, below_more, subst, sym, ap, ◌∙◌, arith}
use Rattle.std.specs.List.{slice_get}
use Rattle.std.proofs.lemmas.Option.{get_or_from_slice_get, slice_get_within}
use Rattle.ml_types.specs.declared.node.TyId.{TyId}
use Rattle.hm_unify.proofs.tests.listed.Goals as goal

pub loop-at-preserved : goal.loop-at-preserved
loop-at-preserved c =
    below_more (λ i. (p : TyId) → slice_get c.args.parts.now i ≡ Some p → p.0 < c.args.count) c.loop-at.at c.loop-at.invariant
    (λ p h. subst (λ (v : TyId). v.0 < c.args.count) (get_or_from_slice_get c.args.parts.now c.loop-at.at p (record { 0 = 0 }) h) (omega arith))

pub returns : goal.returns
returns c = λ i p h.
    let g : slice_get c.args.parts.now i ≡ Some p = ap (λ xs. slice_get xs i) (sym c.in_ok-from_slice.ensures) ∙ h in
    let w = slice_get_within c.args.parts.now i p g in
    c.loop-at.invariant i (omega (arith, w)) p g

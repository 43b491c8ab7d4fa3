use Rattle.std.proofs.Common.{◌∷◌, ◌++◌, [], map, refl, sym, ap, ◌∙◌}
use Rattle.ml_typing.specs.declared.equation.Unknown.TheVariants.{Node}
use Rattle.ml_typing.specs.declared.equation.Term.TheVariants.{Of, Tuple}
use Rattle.ml_typing.specs.Rows.{pattern, type_of}
use Rattle.hm_steps.proofs.Lists.{block_step, block_end}
use Rattle.hm_steps.proofs.PatternLayers.{whole_id}
use Rattle.hm_steps.proofs.pattern_rows.product.Goals as goal

pub loop-q-preserved : goal.loop-q-preserved
loop-q-preserved c = λ names.
    block_step (λ q. type_of (pattern names q) ∷ []) (λ qs. map type_of (map (pattern names) qs)) c.args.list.now c.loop-q.q-index _ _ _ _ (λ y ys. refl) c.loop-q-test.true c.q-item.is
    (c.in_ok-push.ensures.ok ∙ ap (λ z. c.loop-q.terms ++ z ∷ []) (c.node.ensures ∙ ap (λ n. Of (Node n)) (sym (whole_id names c.q-item.result)))) (c.loop-q.invariant names)

pub returns : goal.returns
returns c = λ names. ap Tuple (block_end (λ qs. map type_of (map (pattern names) qs)) c.args.list.now c.loop-q.q-index _ _ refl c.loop-q-test.false (c.loop-q.invariant names))

use Rattle.std.proofs.Common.{◌∷◌, ◌++◌, [], map, refl, sym, ap, ◌∙◌}
use Rattle.ml_typing.specs.declared.equation.Unknown.TheVariants.{Node}
use Rattle.ml_typing.specs.declared.equation.Term.TheVariants.{Of, Tuple}
use Rattle.ml_typing.specs.Rows.{type_of}
use Rattle.ml_typing.specs.Steps.{expression}
use Rattle.hm_steps.proofs.Lists.{block_step, block_end}
use Rattle.hm_steps.proofs.ExpressionLayers.{whole_id}
use Rattle.hm_steps.proofs.expression_rows.product.Goals as goal

pub loop-e-preserved : goal.loop-e-preserved
loop-e-preserved c = λ names.
    block_step (λ q. type_of (expression names q) ∷ []) (λ qs. map type_of (map (expression names) qs)) c.args.list.now c.loop-e.e-index _ _ _ _ (λ y ys. refl) c.loop-e-test.true c.e-item.is
    (c.in_ok-push.ensures.ok ∙ ap (λ z. c.loop-e.terms ++ z ∷ []) (c.node.ensures ∙ ap (λ n. Of (Node n)) (sym (whole_id names c.e-item.result)))) (c.loop-e.invariant names)

pub returns : goal.returns
returns c = λ names. ap Tuple (block_end (λ qs. map type_of (map (expression names) qs)) c.args.list.now c.loop-e.e-index _ _ refl c.loop-e-test.false (c.loop-e.invariant names))

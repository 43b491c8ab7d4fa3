use Rattle.std.proofs.Common.{◌∷◌, ◌++◌, [], map, refl, ap, ◌∙◌}
use Rattle.ml_typing.specs.Rows.{node_is, each_is, at}
use Rattle.ml_typing.specs.Steps.{expression}
use Rattle.hm_steps.proofs.Lists.{block_step, block_end}
use Rattle.hm_steps.proofs.ExpressionLayers.{is_node}
use Rattle.hm_steps.proofs.expression_rows.elements.Goals as goal

pub loop-e-preserved : goal.loop-e-preserved
loop-e-preserved c = λ names.
    block_step (λ q. node_is (expression names q) (at c.args.n 0) ∷ []) (λ qs. each_is (at c.args.n 0) (map (expression names) qs)) c.args.parts.now c.loop-e.e-index _ _ _ _ (λ y ys. refl) c.loop-e-test.true c.e-item.is
    (c.in_ok-all.ensures ∙ ap (λ e. c.loop-e.all ++ e ∷ []) (is_node names c.e-item.result c.fresh.result ∙ ap (node_is (expression names c.e-item.result)) c.fresh.ensures)) (c.loop-e.invariant names)

pub returns : goal.returns
returns c = λ names.
    block_end (λ qs. each_is (at c.args.n 0) (map (expression names) qs)) c.args.parts.now c.loop-e.e-index _ _ refl c.loop-e-test.false (c.loop-e.invariant names)

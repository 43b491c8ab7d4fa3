use Rattle.std.proofs.Common.{◌∷◌, ◌++◌, [], map, refl, ap, ◌∙◌}
use Rattle.ml_typing.specs.Rows.{pattern, node_is, each_is, at}
use Rattle.hm_steps.proofs.Lists.{block_step, block_end}
use Rattle.hm_steps.proofs.PatternLayers.{is_node}
use Rattle.hm_steps.proofs.pattern_rows.elements.Goals as goal

pub loop-q-preserved : goal.loop-q-preserved
loop-q-preserved c = λ names.
    block_step (λ q. node_is (pattern names q) (at c.args.n 0) ∷ []) (λ qs. each_is (at c.args.n 0) (map (pattern names) qs)) c.args.parts.now c.loop-q.q-index _ _ _ _ (λ y ys. refl) c.loop-q-test.true c.q-item.is
    (c.in_ok-all.ensures ∙ ap (λ e. c.loop-q.all ++ e ∷ []) (is_node names c.q-item.result c.fresh.result ∙ ap (node_is (pattern names c.q-item.result)) c.fresh.ensures)) (c.loop-q.invariant names)

pub returns : goal.returns
returns c = λ names.
    block_end (λ qs. each_is (at c.args.n 0) (map (pattern names) qs)) c.args.parts.now c.loop-q.q-index _ _ refl c.loop-q-test.false (c.loop-q.invariant names)

use Rattle.std.proofs.Common.{◌∷◌, ◌++◌, [], map, refl, sym, ap, ◌∙◌}
use Rattle.ml_typing.specs.declared.equation.Unknown.TheVariants.{Node}
use Rattle.ml_typing.specs.declared.equation.Term.TheVariants.{Of}
use Rattle.ml_tree.specs.declared.pattern.Param.{Param}
use Rattle.ml_typing.specs.Rows.{pattern, type_of}
use Rattle.ml_typing.specs.Steps.{param_parts}
use Rattle.hm_steps.proofs.Lists.{block_step, block_end}
use Rattle.hm_steps.proofs.PatternLayers.{whole_id}
use Rattle.hm_steps.proofs.pattern_rows.types_of.Goals as goal

pub loop-param-preserved : goal.loop-param-preserved
loop-param-preserved c = λ names.
    block_step (λ (q : Param). type_of (pattern names q.pat) ∷ []) (λ qs. map type_of (param_parts names qs)) c.args.list.now c.loop-param.param-index _ _ _ _ (λ y ys. refl) c.loop-param-test.true c.param-item.is
    (c.in_ok-push.ensures.ok ∙ ap (λ z. c.loop-param.terms ++ z ∷ []) (c.node.ensures ∙ ap (λ n. Of (Node n)) (sym (whole_id names c.param-item.result.pat)))) (c.loop-param.invariant names)

pub returns : goal.returns
returns c = λ names. block_end (λ qs. map type_of (param_parts names qs)) c.args.list.now c.loop-param.param-index _ _ refl c.loop-param-test.false (c.loop-param.invariant names)

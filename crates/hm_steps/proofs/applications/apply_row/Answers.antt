use Rattle.std.proofs.Common.{map, ◌∙◌}
use Rattle.ml_typing.specs.declared.equation.Unknown.TheVariants.{Node}
use Rattle.ml_typing.specs.declared.equation.Term.TheVariants.{Of, Function}
use Rattle.ml_typing.specs.Steps.{expression, ats}
use Rattle.hm_steps.proofs.RowParts.{if_ok_each, application, function_is, begun}
use Rattle.hm_steps.proofs.applications.apply_row.Goals as goal

pub returns : goal.returns
returns c = if_ok_each _ (λ es names h.
    application names c.args.function.now _ (Function (ats c.args.n 0 (map (expression names) c.args.args.now)) (Of (Node c.args.n))) _ es _
    (function_is _ _ _ _ (c.in_ok-types.ensures names) (c.in_ok-new.ensures ∙ c.node.ensures))
    (c.in_ok-first.ensures ∙ begun _ _ c.new-2.ensures) (h names)) c.arg_types.ensures

use Rattle.std.proofs.Common.{map, refl, ap, ◌∙◌}
use Rattle.ml_typing.specs.Rows.{type_of}
use Rattle.ml_typing.specs.Steps.{param_parts}
use Rattle.ml_typing.specs.Typing.{names_of}
use Rattle.hm_steps.proofs.RowParts.{if_ok, bind_first, bind_plain, bind_annotated}
use Rattle.hm_steps.proofs.bind_rows.bind_row.Goals as goal

pub returns-in_ok-right-in-Some : goal.returns-in_ok-right-in-Some
returns-in_ok-right-in-Some c =
    let names = names_of c.args.s.now.refs c.args.s.now.types c.args.item in
    let one = bind_first names c.args.binding.now _ _ _ _ (c.value_span.ensures names) (c.in_ok-params.ensures names ∙ ap (λ z. map type_of (param_parts names z)) c.as_slice.ensures) (c.in_ok-new.ensures ∙ c.node-body.ensures) c.in_ok-value.ensures in
    if_ok _ (λ es h. bind_annotated names c.args.binding.now _ _ _ _ es one c.in-Some.is refl c.in_ok-right-in-Some.ensures h) c.and.ensures

pub returns-in-None : goal.returns-in-None
returns-in-None c =
    let names = names_of c.args.s.now.refs c.args.s.now.types c.args.item in
    bind_plain names c.args.binding.now _ (bind_first names c.args.binding.now _ _ _ _ (c.value_span.ensures names) (c.in_ok-params.ensures names ∙ ap (λ z. map type_of (param_parts names z)) c.as_slice.ensures) (c.in_ok-new.ensures ∙ c.node-body.ensures) c.in_ok-value.ensures) c.in-None.is

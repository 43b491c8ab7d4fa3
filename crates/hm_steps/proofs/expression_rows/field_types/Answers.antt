use Rattle.std.proofs.Common.{◌∷◌, [], map, refl}
use Rattle.ml_typing.specs.Rows.{fields_are}
use Rattle.ml_typing.specs.Steps.{field_expr}
use Rattle.ml_typing.specs.Typing.{names_of}
use Rattle.hm_steps.specs.Blocks.{field_is}
use Rattle.hm_steps.proofs.Lists.{block_step, block_end}
use Rattle.hm_steps.proofs.ExpressionLayers.{is_field}
use Rattle.hm_steps.proofs.expression_rows.field_types.Goals as goal

pub loop-field-preserved : goal.loop-field-preserved
loop-field-preserved c = let names = names_of c.args.s.now.refs c.args.s.now.types c.args.item in
    block_step (λ f. field_is names c.args.n (field_expr names f) ∷ []) (λ fs. fields_are names c.args.n (map (field_expr names) fs)) c.args.fields.now c.loop-field.field-index _ _ _ _ (λ y ys. refl) c.loop-field-test.true c.field-item.is
    (is_field names c.args.n c.field-item.result _ c.loop-field.all _ c.field_term.ensures c.in_ok-all.ensures) c.loop-field.invariant

pub returns : goal.returns
returns c = let names = names_of c.args.s.now.refs c.args.s.now.types c.args.item in
    block_end (λ fs. fields_are names c.args.n (map (field_expr names) fs)) c.args.fields.now c.loop-field.field-index _ _ refl c.loop-field-test.false c.loop-field.invariant

use Rattle.std.proofs.Common.{◌∷◌, ◌++◌, [], map, refl, sym, ap, ◌∙◌}
use Rattle.ml_typing.specs.Steps.{binders, joined}
use Rattle.hm_steps.specs.Blocks.{binders_of_field}
use Rattle.hm_steps.proofs.Lists.{block_step, block_end}
use Rattle.hm_steps.proofs.Walks.{two, nothing}
use Rattle.hm_steps.proofs.BinderLayers as B
use Rattle.hm_steps.proofs.binders.+binders.Goals as goal

pub part_binders-loop-q-preserved : goal.part_binders-loop-q-preserved
part_binders-loop-q-preserved t c = block_step binders (λ qs. joined (map binders qs)) c.args.list.now c.loop-q.q-index _ _ _ _ (λ y ys. refl) c.loop-q-test.true c.q-item.is c.in_ok-binders.ensures c.loop-q.invariant

pub part_binders-returns : goal.part_binders-returns
part_binders-returns t c = block_end (λ qs. joined (map binders qs)) c.args.list.now c.loop-q.q-index _ _ refl c.loop-q-test.false c.loop-q.invariant

pub field_binders-loop-field-preserved : goal.field_binders-loop-field-preserved
field_binders-loop-field-preserved t c = block_step binders_of_field (λ fs. joined (map binders_of_field fs)) c.args.list.now c.loop-field.field-index _ _ _ _ (λ y ys. refl) c.loop-field-test.true c.field-item.is (c.in_ok-binders.ensures ∙ ap (λ z. c.loop-field.numbers ++ z) (sym (B.of_field c.field-item.result))) c.loop-field.invariant

pub field_binders-returns : goal.field_binders-returns
field_binders-returns t c = block_end (λ fs. joined (map binders_of_field fs)) c.args.list.now c.loop-field.field-index _ _ refl c.loop-field-test.false c.loop-field.invariant

pub binders-returns-in_ok-push-in-Name : goal.binders-returns-in_ok-push-in-Name
binders-returns-in_ok-push-in-Name t c = c.in_ok-push-in-Name.ensures.ok ∙ ap (λ z. c.args.numbers.now ++ z) (sym (B.by_kind c.args.q.now _ _ c.in-Name.is (B.name _ _)))

pub binders-returns-in_ok-argument_binders-in-Con : goal.binders-returns-in_ok-argument_binders-in-Con
binders-returns-in_ok-argument_binders-in-Con t c = c.in_ok-argument_binders-in-Con.ensures ∙ ap (λ z. c.args.numbers.now ++ z) (sym (B.of_con c.args.q.now _ _ c.in-Con.is))

pub binders-returns-in_ok-binders-in-Cons-2 : goal.binders-returns-in_ok-binders-in-Cons-2
binders-returns-in_ok-binders-in-Cons-2 t c = two _ _ _ _ _ (c.in_ok-binders-in-Cons.ensures ∙ ap (λ z. c.args.numbers.now ++ binders z) c.get.ensures) (c.in_ok-binders-in-Cons-2.ensures ∙ ap (λ z. c.binders.new.numbers ++ binders z) c.get-in-Cons.ensures) ∙ ap (λ z. c.args.numbers.now ++ z) (sym (B.by_kind c.args.q.now _ _ c.in-Cons.is (B.cons _ _)))

pub binders-returns-in_ok-binders-in-Or-2 : goal.binders-returns-in_ok-binders-in-Or-2
binders-returns-in_ok-binders-in-Or-2 t c = two _ _ _ _ _ (c.in_ok-binders-in-Or.ensures ∙ ap (λ z. c.args.numbers.now ++ binders z) c.get-in-Or.ensures) (c.in_ok-binders-in-Or-2.ensures ∙ ap (λ z. c.binders-in-Or.new.numbers ++ binders z) c.get-in-Or-2.ensures) ∙ ap (λ z. c.args.numbers.now ++ z) (sym (B.by_kind c.args.q.now _ _ c.in-Or.is (B.either _ _)))

pub binders-returns-in_ok-part_binders-in-Tuple : goal.binders-returns-in_ok-part_binders-in-Tuple
binders-returns-in_ok-part_binders-in-Tuple t c = c.in_ok-part_binders-in-Tuple.ensures ∙ (ap (λ z. c.args.numbers.now ++ joined (map binders z)) c.as_slice.ensures ∙ ap (λ z. c.args.numbers.now ++ z) (sym (B.by_kind c.args.q.now _ _ c.in-Tuple.is (B.tuple _))))

pub binders-returns-in_ok-part_binders-in-List : goal.binders-returns-in_ok-part_binders-in-List
binders-returns-in_ok-part_binders-in-List t c = c.in_ok-part_binders-in-List.ensures ∙ (ap (λ z. c.args.numbers.now ++ joined (map binders z)) c.as_slice-in-List.ensures ∙ ap (λ z. c.args.numbers.now ++ z) (sym (B.by_kind c.args.q.now _ _ c.in-List.is (B.list _))))

pub binders-returns-in_ok-field_binders-in-Fields : goal.binders-returns-in_ok-field_binders-in-Fields
binders-returns-in_ok-field_binders-in-Fields t c = c.in_ok-field_binders-in-Fields.ensures ∙ (ap (λ z. c.args.numbers.now ++ joined (map binders_of_field z)) c.as_slice-in-Fields.ensures ∙ ap (λ z. c.args.numbers.now ++ z) (sym (B.by_kind c.args.q.now _ _ c.in-Fields.is (B.fields _ _))))

pub binders-returns-in_ok-binders-in-Named : goal.binders-returns-in_ok-binders-in-Named
binders-returns-in_ok-binders-in-Named t c = two _ _ _ (_ ∷ []) _ c.in_ok-push-in-Named.ensures.ok (c.in_ok-binders-in-Named.ensures ∙ ap (λ z. c.push-in-Named.new.self ++ binders z) c.get-in-Named.ensures) ∙ ap (λ z. c.args.numbers.now ++ z) (sym (B.by_kind c.args.q.now _ _ c.in-Named.is (B.named _ _)))

pub binders-returns-in_ok-binders-in-Typed : goal.binders-returns-in_ok-binders-in-Typed
binders-returns-in_ok-binders-in-Typed t c = c.in_ok-binders-in-Typed.ensures ∙ (ap (λ z. c.args.numbers.now ++ binders z) c.get-in-Typed.ensures ∙ ap (λ z. c.args.numbers.now ++ z) (sym (B.by_kind c.args.q.now _ _ c.in-Typed.is (B.typed _ _))))

pub binders-returns-in_ok-binders-in-Paren : goal.binders-returns-in_ok-binders-in-Paren
binders-returns-in_ok-binders-in-Paren t c = c.in_ok-binders-in-Paren.ensures ∙ (ap (λ z. c.args.numbers.now ++ binders z) c.get-in-Paren.ensures ∙ ap (λ z. c.args.numbers.now ++ z) (sym (B.by_kind c.args.q.now _ _ c.in-Paren.is (B.paren _))))

pub binders-returns-in-Any : goal.binders-returns-in-Any
binders-returns-in-Any t c = nothing c.args.numbers.now ∙ ap (λ z. c.args.numbers.now ++ z) (sym (B.by_kind c.args.q.now _ _ c.in-Any.is (B.any)))

pub binders-returns-in-Int : goal.binders-returns-in-Int
binders-returns-in-Int t c = nothing c.args.numbers.now ∙ ap (λ z. c.args.numbers.now ++ z) (sym (B.by_kind c.args.q.now _ _ c.in-Int.is (B.int_value _)))

pub binders-returns-in-Char : goal.binders-returns-in-Char
binders-returns-in-Char t c = nothing c.args.numbers.now ∙ ap (λ z. c.args.numbers.now ++ z) (sym (B.by_kind c.args.q.now _ _ c.in-Char.is (B.char_value _)))

pub binders-returns-in-Text : goal.binders-returns-in-Text
binders-returns-in-Text t c = nothing c.args.numbers.now ∙ ap (λ z. c.args.numbers.now ++ z) (sym (B.by_kind c.args.q.now _ _ c.in-Text.is (B.text_value _)))

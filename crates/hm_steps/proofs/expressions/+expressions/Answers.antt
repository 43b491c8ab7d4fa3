use Rattle.std.proofs.Common.{◌++◌, map, refl, sym, ap, ◌∙◌}
use Rattle.std.specs.Option.{option_map}
use Rattle.ml_typing.specs.declared.equation.Term.TheVariants.{Of}
use Rattle.ml_typing.specs.Rows.{field_parts, all_steps, steps_of, steps_of_any}
use Rattle.ml_typing.specs.Steps.{expression, field_expr, arm, bind, arms_steps, bind_steps, binds_steps, param_parts}
use Rattle.ml_typing.specs.Typing.{names_of}
use Rattle.hm_steps.proofs.ExpressionParts as E
use Rattle.hm_steps.proofs.Walks.{expression_walk, field_expr_walk, arm_walk, bind_walk, nothing}
use Rattle.hm_steps.specs.Blocks.{arm_steps}
use Rattle.hm_steps.proofs.Lists.{block_step, block_end}
use Rattle.hm_steps.proofs.expressions.+expressions.Goals as goal

pub expressions-loop-e-preserved : goal.expressions-loop-e-preserved
expressions-loop-e-preserved t c =
    let names = names_of c.args.s.now.refs c.args.s.now.types c.args.item in
    block_step (λ q. steps_of (expression names q)) (λ qs. all_steps (map (expression names) qs)) c.args.list.now c.loop-e.e-index _ _ _ _ (λ y ys. refl) c.loop-e-test.true c.e-item.is c.in_ok-expression.ensures c.loop-e.invariant

pub expressions-returns : goal.expressions-returns
expressions-returns t c =
    let names = names_of c.args.s.now.refs c.args.s.now.types c.args.item in
    block_end (λ qs. all_steps (map (expression names) qs)) c.args.list.now c.loop-e.e-index _ _ refl c.loop-e-test.false c.loop-e.invariant

pub fields-loop-one-preserved : goal.fields-loop-one-preserved
fields-loop-one-preserved t c =
    let names = names_of c.args.s.now.refs c.args.s.now.types c.args.item in
    block_step (λ q. steps_of (field_expr names q).part) (λ qs. all_steps (field_parts (map (field_expr names) qs))) c.args.list.now c.loop-one.one-index _ _ _ _ (λ y ys. refl) c.loop-one-test.true c.one-item.is c.in_ok-field.ensures c.loop-one.invariant

pub fields-returns : goal.fields-returns
fields-returns t c =
    let names = names_of c.args.s.now.refs c.args.s.now.types c.args.item in
    block_end (λ qs. all_steps (field_parts (map (field_expr names) qs))) c.args.list.now c.loop-one.one-index _ _ refl c.loop-one-test.false c.loop-one.invariant

pub arms-loop-one-preserved : goal.arms-loop-one-preserved
arms-loop-one-preserved t c =
    let names = names_of c.args.s.now.refs c.args.s.now.types c.args.item in
    block_step (λ q. arm_steps (Of c.args.scrutinee) (arm names q)) (λ qs. arms_steps (Of c.args.scrutinee) (map (arm names) qs)) c.args.list.now c.loop-one.one-index _ _ _ _ (λ y ys. refl) c.loop-one-test.true c.one-item.is c.in_ok-arm.ensures c.loop-one.invariant

pub arms-returns : goal.arms-returns
arms-returns t c =
    let names = names_of c.args.s.now.refs c.args.s.now.types c.args.item in
    block_end (λ qs. arms_steps (Of c.args.scrutinee) (map (arm names) qs)) c.args.list.now c.loop-one.one-index _ _ refl c.loop-one-test.false c.loop-one.invariant

pub binds-loop-one-preserved : goal.binds-loop-one-preserved
binds-loop-one-preserved t c =
    let names = names_of c.args.s.now.refs c.args.s.now.types c.args.item in
    block_step (λ q. bind_steps (bind names q)) (λ qs. binds_steps (map (bind names) qs)) c.args.list.now c.loop-one.one-index _ _ _ _ (λ y ys. refl) c.loop-one-test.true c.one-item.is c.in_ok-bind.ensures c.loop-one.invariant

pub binds-returns : goal.binds-returns
binds-returns t c =
    let names = names_of c.args.s.now.refs c.args.s.now.types c.args.item in
    block_end (λ qs. binds_steps (map (bind names) qs)) c.args.list.now c.loop-one.one-index _ _ refl c.loop-one-test.false c.loop-one.invariant

pub expression-returns : goal.expression-returns
expression-returns t c =
    let names = names_of c.args.s.now.refs c.args.s.now.types c.args.item in
    expression_walk names c.args.e.now _ _ _ _ _ c.in_ok-parts.ensures c.in_ok-equations.ensures (c.compared.ensures names) c.in_ok-push.ensures.ok

pub field-returns : goal.field-returns
field-returns t c = field_expr_walk (names_of c.args.s.now.refs c.args.s.now.types c.args.item) c.args.one.now _ _ _ c.in_ok-expression.ensures c.in_ok-field_step.ensures

pub arm-returns : goal.arm-returns
arm-returns t c = arm_walk (names_of c.args.s.now.refs c.args.s.now.types c.args.item) c.args.one.now (Of c.args.scrutinee) _ _ _ _ c.in_ok-pattern.ensures c.in_ok-guard.ensures c.in_ok-expression.ensures

pub guard-returns-in_ok-expression-in-Some : goal.guard-returns-in_ok-expression-in-Some
guard-returns-in_ok-expression-in-Some t c =
    let names = names_of c.args.s.now.refs c.args.s.now.types c.args.item in
    c.in_ok-expression-in-Some.ensures ∙ ap (λ z. c.args.steps.now ++ steps_of_any (option_map (expression names) z)) (sym c.in-Some.is)

pub guard-returns-in-None : goal.guard-returns-in-None
guard-returns-in-None t c =
    let names = names_of c.args.s.now.refs c.args.s.now.types c.args.item in
    nothing c.args.steps.now ∙ ap (λ z. c.args.steps.now ++ steps_of_any (option_map (expression names) z)) (sym c.in-None.is)

pub bind-returns : goal.bind-returns
bind-returns t c =
    let names = names_of c.args.s.now.refs c.args.s.now.types c.args.item in
    bind_walk names c.args.one.now _ _ _ _ _ _ c.in_ok-pattern.ensures (c.in_ok-params.ensures ∙ ap (λ z. c.pattern.new.steps ++ all_steps (param_parts names z)) c.as_slice.ensures) c.in_ok-expression.ensures c.in_ok-equations.ensures c.in_ok-push.ensures

pub parts-returns-in_ok-optional-in-Con : goal.parts-returns-in_ok-optional-in-Con
parts-returns-in_ok-optional-in-Con t c = E.con (names_of c.args.s.now.refs c.args.s.now.types c.args.item) c.args.kind.now _ _ c.args.n _ _ c.in-Con.is c.in_ok-optional-in-Con.ensures

pub parts-returns-in_ok-optional-in-If : goal.parts-returns-in_ok-optional-in-If
parts-returns-in_ok-optional-in-If t c = E.conditional (names_of c.args.s.now.refs c.args.s.now.types c.args.item) c.args.kind.now _ _ _ _ _ c.args.n _ _ _ _ c.in-If.is c.get-in-If.ensures c.get-in-If-2.ensures c.in_ok-expression-in-If.ensures c.in_ok-expression-in-If-2.ensures c.in_ok-optional-in-If.ensures

pub parts-returns-in_ok-expression-in-Cons-2 : goal.parts-returns-in_ok-expression-in-Cons-2
parts-returns-in_ok-expression-in-Cons-2 t c = E.cons (names_of c.args.s.now.refs c.args.s.now.types c.args.item) c.args.kind.now _ _ _ _ c.args.n _ _ _ c.in-Cons.is c.get.ensures c.get-in-Cons.ensures c.in_ok-expression-in-Cons.ensures c.in_ok-expression-in-Cons-2.ensures

pub parts-returns-in_ok-expression-in-Index-2 : goal.parts-returns-in_ok-expression-in-Index-2
parts-returns-in_ok-expression-in-Index-2 t c = E.index (names_of c.args.s.now.refs c.args.s.now.types c.args.item) c.args.kind.now _ _ _ _ c.args.n _ _ _ c.in-Index.is c.get-in-Index.ensures c.get-in-Index-2.ensures c.in_ok-expression-in-Index.ensures c.in_ok-expression-in-Index-2.ensures

pub parts-returns-in_ok-expression-in-Binary-2 : goal.parts-returns-in_ok-expression-in-Binary-2
parts-returns-in_ok-expression-in-Binary-2 t c = E.binary (names_of c.args.s.now.refs c.args.s.now.types c.args.item) c.args.kind.now _ _ _ _ _ c.args.n _ _ _ c.in-Binary.is c.get-in-Binary.ensures c.get-in-Binary-2.ensures c.in_ok-expression-in-Binary.ensures c.in_ok-expression-in-Binary-2.ensures

pub parts-returns-in_ok-expressions-in-Tuple : goal.parts-returns-in_ok-expressions-in-Tuple
parts-returns-in_ok-expressions-in-Tuple t c = E.tuple (names_of c.args.s.now.refs c.args.s.now.types c.args.item) c.args.kind.now _ _ c.args.n _ _ c.in-Tuple.is c.as_slice.ensures c.in_ok-expressions-in-Tuple.ensures

pub parts-returns-in_ok-expressions-in-List : goal.parts-returns-in_ok-expressions-in-List
parts-returns-in_ok-expressions-in-List t c = E.list (names_of c.args.s.now.refs c.args.s.now.types c.args.item) c.args.kind.now _ _ c.args.n _ _ c.in-List.is c.as_slice-in-List.ensures c.in_ok-expressions-in-List.ensures

pub parts-returns-in_ok-expressions-in-Seq : goal.parts-returns-in_ok-expressions-in-Seq
parts-returns-in_ok-expressions-in-Seq t c = E.sequence (names_of c.args.s.now.refs c.args.s.now.types c.args.item) c.args.kind.now _ _ c.args.n _ _ c.in-Seq.is c.as_slice-in-Seq.ensures c.in_ok-expressions-in-Seq.ensures

pub parts-returns-in_ok-fields-in-Fields : goal.parts-returns-in_ok-fields-in-Fields
parts-returns-in_ok-fields-in-Fields t c = E.fields (names_of c.args.s.now.refs c.args.s.now.types c.args.item) c.args.kind.now _ _ c.args.n _ _ c.in-Fields.is c.as_slice-in-Fields.ensures c.in_ok-fields-in-Fields.ensures

pub parts-returns-in_ok-expressions-in-Apply : goal.parts-returns-in_ok-expressions-in-Apply
parts-returns-in_ok-expressions-in-Apply t c = E.apply (names_of c.args.s.now.refs c.args.s.now.types c.args.item) c.args.kind.now _ _ _ _ c.args.n _ _ _ c.in-Apply.is c.get-in-Apply.ensures c.as_slice-in-Apply.ensures c.in_ok-expression-in-Apply.ensures c.in_ok-expressions-in-Apply.ensures

pub parts-returns-in_ok-expression-in-Let : goal.parts-returns-in_ok-expression-in-Let
parts-returns-in_ok-expression-in-Let t c = E.binding (names_of c.args.s.now.refs c.args.s.now.types c.args.item) c.args.kind.now _ _ _ _ _ c.args.n _ _ _ c.in-Let.is c.as_slice-in-Let.ensures c.get-in-Let.ensures c.in_ok-binds-in-Let.ensures c.in_ok-expression-in-Let.ensures

pub parts-returns-in_ok-arms-in-Match : goal.parts-returns-in_ok-arms-in-Match
parts-returns-in_ok-arms-in-Match t c = E.cases (names_of c.args.s.now.refs c.args.s.now.types c.args.item) c.args.kind.now _ _ _ _ c.args.n _ _ _ c.in-Match.is c.get-inner.ensures c.as_slice-in-Match.ensures c.in_ok-expression-in-Match.ensures c.in_ok-arms-in-Match.ensures

pub parts-returns-in_ok-expression-in-Fun : goal.parts-returns-in_ok-expression-in-Fun
parts-returns-in_ok-expression-in-Fun t c = E.function (names_of c.args.s.now.refs c.args.s.now.types c.args.item) c.args.kind.now _ _ _ _ c.args.n _ _ _ c.in-Fun.is c.as_slice-in-Fun.ensures c.get-in-Fun.ensures c.in_ok-params-in-Fun.ensures c.in_ok-expression-in-Fun.ensures

pub parts-returns-in_ok-arms-in-Function : goal.parts-returns-in_ok-arms-in-Function
parts-returns-in_ok-arms-in-Function t c = E.matching (names_of c.args.s.now.refs c.args.s.now.types c.args.item) c.args.kind.now _ _ c.args.n _ _ c.in-Function.is c.as_slice-in-Function.ensures c.in_ok-arms-in-Function.ensures

pub parts-returns-in_ok-expression-in-Field : goal.parts-returns-in_ok-expression-in-Field
parts-returns-in_ok-expression-in-Field t c = E.field (names_of c.args.s.now.refs c.args.s.now.types c.args.item) c.args.kind.now _ _ _ c.args.n _ _ c.in-Field.is c.get-in-Field.ensures c.in_ok-expression-in-Field.ensures

pub parts-returns-in_ok-expression-in-Minus : goal.parts-returns-in_ok-expression-in-Minus
parts-returns-in_ok-expression-in-Minus t c = E.minus (names_of c.args.s.now.refs c.args.s.now.types c.args.item) c.args.kind.now _ _ c.args.n _ _ c.in-Minus.is c.get-in-Minus.ensures c.in_ok-expression-in-Minus.ensures

pub parts-returns-in_ok-expression-in-Paren : goal.parts-returns-in_ok-expression-in-Paren
parts-returns-in_ok-expression-in-Paren t c = E.paren (names_of c.args.s.now.refs c.args.s.now.types c.args.item) c.args.kind.now _ _ c.args.n _ _ c.in-Paren.is c.get-in-Paren.ensures c.in_ok-expression-in-Paren.ensures

pub parts-returns-in_ok-expression-in-Typed : goal.parts-returns-in_ok-expression-in-Typed
parts-returns-in_ok-expression-in-Typed t c = E.typed (names_of c.args.s.now.refs c.args.s.now.types c.args.item) c.args.kind.now _ _ _ c.args.n _ _ c.in-Typed.is c.get-in-Typed.ensures c.in_ok-expression-in-Typed.ensures

pub parts-returns-in_ok-expression-in-Worded : goal.parts-returns-in_ok-expression-in-Worded
parts-returns-in_ok-expression-in-Worded t c = E.worded (names_of c.args.s.now.refs c.args.s.now.types c.args.item) c.args.kind.now _ _ _ c.args.n _ _ c.in-Worded.is c.get-in-Worded.ensures c.in_ok-expression-in-Worded.ensures

pub parts-returns-in_ok-expression-in-Exclave : goal.parts-returns-in_ok-expression-in-Exclave
parts-returns-in_ok-expression-in-Exclave t c = E.exclave (names_of c.args.s.now.refs c.args.s.now.types c.args.item) c.args.kind.now _ _ c.args.n _ _ c.in-Exclave.is c.get-in-Exclave.ensures c.in_ok-expression-in-Exclave.ensures

pub parts-returns-in_ok-expression-in-Borrow : goal.parts-returns-in_ok-expression-in-Borrow
parts-returns-in_ok-expression-in-Borrow t c = E.borrow (names_of c.args.s.now.refs c.args.s.now.types c.args.item) c.args.kind.now _ _ _ _ c.args.n _ _ c.in-Borrow.is c.get-in-Borrow.ensures c.in_ok-expression-in-Borrow.ensures

pub parts-returns-in_ok-expression-in-Overwrite : goal.parts-returns-in_ok-expression-in-Overwrite
parts-returns-in_ok-expression-in-Overwrite t c = E.overwrite (names_of c.args.s.now.refs c.args.s.now.types c.args.item) c.args.kind.now _ _ _ c.args.n _ _ c.in-Overwrite.is c.get-in-Overwrite.ensures c.in_ok-expression-in-Overwrite.ensures

pub parts-returns-in-Int : goal.parts-returns-in-Int
parts-returns-in-Int t c = E.int_value (names_of c.args.s.now.refs c.args.s.now.types c.args.item) c.args.kind.now _ c.args.n _ c.in-Int.is

pub parts-returns-in-Char : goal.parts-returns-in-Char
parts-returns-in-Char t c = E.char_value (names_of c.args.s.now.refs c.args.s.now.types c.args.item) c.args.kind.now _ c.args.n _ c.in-Char.is

pub parts-returns-in-Text : goal.parts-returns-in-Text
parts-returns-in-Text t c = E.text_value (names_of c.args.s.now.refs c.args.s.now.types c.args.item) c.args.kind.now _ c.args.n _ c.in-Text.is

pub parts-returns-in-Name : goal.parts-returns-in-Name
parts-returns-in-Name t c = E.name (names_of c.args.s.now.refs c.args.s.now.types c.args.item) c.args.kind.now _ c.args.n _ c.in-Name.is

pub parts-returns-in-Path : goal.parts-returns-in-Path
parts-returns-in-Path t c = E.path (names_of c.args.s.now.refs c.args.s.now.types c.args.item) c.args.kind.now _ _ c.args.n _ c.in-Path.is

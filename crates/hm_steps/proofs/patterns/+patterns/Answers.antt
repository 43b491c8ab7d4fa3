use Rattle.std.proofs.Common.{map, refl}
use Rattle.ml_typing.specs.Rows.{pattern, field_pattern, field_parts, all_steps, steps_of}
use Rattle.ml_typing.specs.Typing.{names_of}
use Rattle.hm_steps.proofs.PatternParts as P
use Rattle.hm_steps.proofs.Walks.{pattern_walk, field_pattern_walk}
use Rattle.hm_steps.proofs.Lists.{block_step, block_end}
use Rattle.hm_steps.proofs.patterns.+patterns.Goals as goal

pub patterns-loop-q-preserved : goal.patterns-loop-q-preserved
patterns-loop-q-preserved t c =
    let names = names_of c.args.s.now.refs c.args.s.now.types c.args.item in
    block_step (λ q. steps_of (pattern names q)) (λ qs. all_steps (map (pattern names) qs)) c.args.list.now c.loop-q.q-index _ _ _ _ (λ y ys. refl) c.loop-q-test.true c.q-item.is c.in_ok-pattern.ensures c.loop-q.invariant

pub patterns-returns : goal.patterns-returns
patterns-returns t c =
    let names = names_of c.args.s.now.refs c.args.s.now.types c.args.item in
    block_end (λ qs. all_steps (map (pattern names) qs)) c.args.list.now c.loop-q.q-index _ _ refl c.loop-q-test.false c.loop-q.invariant

pub fields-loop-one-preserved : goal.fields-loop-one-preserved
fields-loop-one-preserved t c =
    let names = names_of c.args.s.now.refs c.args.s.now.types c.args.item in
    block_step (λ q. steps_of (field_pattern names q).part) (λ qs. all_steps (field_parts (map (field_pattern names) qs))) c.args.list.now c.loop-one.one-index _ _ _ _ (λ y ys. refl) c.loop-one-test.true c.one-item.is c.in_ok-field.ensures c.loop-one.invariant

pub fields-returns : goal.fields-returns
fields-returns t c =
    let names = names_of c.args.s.now.refs c.args.s.now.types c.args.item in
    block_end (λ qs. all_steps (field_parts (map (field_pattern names) qs))) c.args.list.now c.loop-one.one-index _ _ refl c.loop-one-test.false c.loop-one.invariant

pub pattern-returns : goal.pattern-returns
pattern-returns t c =
    let names = names_of c.args.s.now.refs c.args.s.now.types c.args.item in
    pattern_walk names c.args.q.now _ _ _ _ _ _ (c.in_ok-parts.ensures _) c.in_ok-own.ensures (c.in_ok-equations.ensures names) c.in_ok-push.ensures

pub field-returns : goal.field-returns
field-returns t c = field_pattern_walk (names_of c.args.s.now.refs c.args.s.now.types c.args.item) c.args.one.now _ _ _ c.in_ok-pattern.ensures c.in_ok-field_step.ensures

pub parts-returns-in_ok-argument-in-Con : goal.parts-returns-in_ok-argument-in-Con
parts-returns-in_ok-argument-in-Con t c = λ n. P.con (names_of c.args.s.now.refs c.args.s.now.types c.args.item) c.args.kind.now _ _ n _ _ c.in-Con.is c.in_ok-argument-in-Con.ensures

pub parts-returns-in_ok-pattern-in-Cons-2 : goal.parts-returns-in_ok-pattern-in-Cons-2
parts-returns-in_ok-pattern-in-Cons-2 t c = λ n. P.cons (names_of c.args.s.now.refs c.args.s.now.types c.args.item) c.args.kind.now _ _ _ _ n _ _ _ c.in-Cons.is c.get.ensures c.get-in-Cons.ensures c.in_ok-pattern-in-Cons.ensures c.in_ok-pattern-in-Cons-2.ensures

pub parts-returns-in_ok-pattern-in-Or-2 : goal.parts-returns-in_ok-pattern-in-Or-2
parts-returns-in_ok-pattern-in-Or-2 t c = λ n. P.either (names_of c.args.s.now.refs c.args.s.now.types c.args.item) c.args.kind.now _ _ _ _ n _ _ _ c.in-Or.is c.get-in-Or.ensures c.get-in-Or-2.ensures c.in_ok-pattern-in-Or.ensures c.in_ok-pattern-in-Or-2.ensures

pub parts-returns-in_ok-patterns-in-Tuple : goal.parts-returns-in_ok-patterns-in-Tuple
parts-returns-in_ok-patterns-in-Tuple t c = λ n. P.tuple (names_of c.args.s.now.refs c.args.s.now.types c.args.item) c.args.kind.now _ _ n _ _ c.in-Tuple.is c.as_slice.ensures c.in_ok-patterns-in-Tuple.ensures

pub parts-returns-in_ok-patterns-in-List : goal.parts-returns-in_ok-patterns-in-List
parts-returns-in_ok-patterns-in-List t c = λ n. P.list (names_of c.args.s.now.refs c.args.s.now.types c.args.item) c.args.kind.now _ _ n _ _ c.in-List.is c.as_slice-in-List.ensures c.in_ok-patterns-in-List.ensures

pub parts-returns-in_ok-fields-in-Fields : goal.parts-returns-in_ok-fields-in-Fields
parts-returns-in_ok-fields-in-Fields t c = λ n. P.fields (names_of c.args.s.now.refs c.args.s.now.types c.args.item) c.args.kind.now _ _ _ n _ _ c.in-Fields.is c.as_slice-in-Fields.ensures c.in_ok-fields-in-Fields.ensures

pub parts-returns-in_ok-pattern-in-Named : goal.parts-returns-in_ok-pattern-in-Named
parts-returns-in_ok-pattern-in-Named t c = λ n. P.named (names_of c.args.s.now.refs c.args.s.now.types c.args.item) c.args.kind.now _ _ _ n _ _ c.in-Named.is c.get-in-Named.ensures c.in_ok-pattern-in-Named.ensures

pub parts-returns-in_ok-pattern-in-Typed : goal.parts-returns-in_ok-pattern-in-Typed
parts-returns-in_ok-pattern-in-Typed t c = λ n. P.typed (names_of c.args.s.now.refs c.args.s.now.types c.args.item) c.args.kind.now _ _ _ n _ _ c.in-Typed.is c.get-in-Typed.ensures c.in_ok-pattern-in-Typed.ensures

pub parts-returns-in_ok-pattern-in-Paren : goal.parts-returns-in_ok-pattern-in-Paren
parts-returns-in_ok-pattern-in-Paren t c = λ n. P.paren (names_of c.args.s.now.refs c.args.s.now.types c.args.item) c.args.kind.now _ _ n _ _ c.in-Paren.is c.get-in-Paren.ensures c.in_ok-pattern-in-Paren.ensures

pub parts-returns-in-Any : goal.parts-returns-in-Any
parts-returns-in-Any t c = λ n. P.any (names_of c.args.s.now.refs c.args.s.now.types c.args.item) c.args.kind.now n _ c.in-Any.is

pub parts-returns-in-Name : goal.parts-returns-in-Name
parts-returns-in-Name t c = λ n. P.name (names_of c.args.s.now.refs c.args.s.now.types c.args.item) c.args.kind.now _ _ n _ c.in-Name.is

pub parts-returns-in-Int : goal.parts-returns-in-Int
parts-returns-in-Int t c = λ n. P.int_value (names_of c.args.s.now.refs c.args.s.now.types c.args.item) c.args.kind.now _ n _ c.in-Int.is

pub parts-returns-in-Char : goal.parts-returns-in-Char
parts-returns-in-Char t c = λ n. P.char_value (names_of c.args.s.now.refs c.args.s.now.types c.args.item) c.args.kind.now _ n _ c.in-Char.is

pub parts-returns-in-Text : goal.parts-returns-in-Text
parts-returns-in-Text t c = λ n. P.text_value (names_of c.args.s.now.refs c.args.s.now.types c.args.item) c.args.kind.now _ n _ c.in-Text.is

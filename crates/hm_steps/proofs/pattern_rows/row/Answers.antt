use Rattle.std.proofs.Common.{[], ◌∷◌, map, refl, ap, ◌∙◌}
use Rattle.ml_typing.specs.declared.equation.Term.TheVariants.{Tuple}
use Rattle.ml_typing.specs.Rows.{pattern, pattern_kind, field_pattern, type_of, at, list_of, each_is, fields_are}
use Rattle.ml_typing.specs.Typing.{names_of}
use Rattle.hm_steps.proofs.PatternLayers as L
use Rattle.hm_steps.proofs.Walks.{row_of_kind}
use Rattle.hm_steps.proofs.RowParts.{if_ok, first, more, alone, first_then, term_is, pattern_is}
use Rattle.hm_steps.proofs.pattern_rows.row.Goals as goal

pub returns-in-Any : goal.returns-in-Any
returns-in-Any c =
    let names = names_of c.args.s.now.refs c.args.s.now.types c.args.item in
    row_of_kind (pattern_kind names) c.args.kind.now _ _ c.args.n c.args.span _ c.in-Any.is (L.any names) (c.new.ensures)

pub returns-in-Name : goal.returns-in-Name
returns-in-Name c =
    let names = names_of c.args.s.now.refs c.args.s.now.types c.args.item in
    if_ok _ (λ es h. row_of_kind (pattern_kind names) c.args.kind.now _ _ c.args.n c.args.span es c.in-Name.is (L.name names _ _) (h)) c.one.ensures

pub returns-in-Int : goal.returns-in-Int
returns-in-Int c =
    let names = names_of c.args.s.now.refs c.args.s.now.types c.args.item in
    if_ok _ (λ es h. row_of_kind (pattern_kind names) c.args.kind.now _ _ c.args.n c.args.span es c.in-Int.is (L.int_value names _) (first _ _ _ h (term_is _ _ _ _ c.int.ensures))) c.one-in-Int.ensures

pub returns-in-Char : goal.returns-in-Char
returns-in-Char c =
    let names = names_of c.args.s.now.refs c.args.s.now.types c.args.item in
    if_ok _ (λ es h. row_of_kind (pattern_kind names) c.args.kind.now _ _ c.args.n c.args.span es c.in-Char.is (L.char_value names _) (first _ _ _ h (term_is _ _ _ _ c.char.ensures))) c.one-in-Char.ensures

pub returns-in-Text : goal.returns-in-Text
returns-in-Text c =
    let names = names_of c.args.s.now.refs c.args.s.now.types c.args.item in
    if_ok _ (λ es h. row_of_kind (pattern_kind names) c.args.kind.now _ _ c.args.n c.args.span es c.in-Text.is (L.text_value names _) (first _ _ _ h (term_is _ _ _ _ c.string.ensures))) c.one-in-Text.ensures

pub returns-in_ok-first-in-Con : goal.returns-in_ok-first-in-Con
returns-in_ok-first-in-Con c =
    let names = names_of c.args.s.now.refs c.args.s.now.types c.args.item in
    if_ok _ (λ es h. row_of_kind (pattern_kind names) c.args.kind.now _ _ c.args.n c.args.span es c.in-Con.is (L.con names _ _) (first_then _ es _ _ _ _ c.in_ok-first-in-Con.ensures (term_is _ _ _ _ (c.in_ok-con_term-in-Con.ensures c.args.item)) (h c.args.item) refl)) c.argument_is.ensures

pub returns-in_ok-list_of-in-Cons-2 : goal.returns-in_ok-list_of-in-Cons-2
returns-in_ok-list_of-in-Cons-2 c =
    let names = names_of c.args.s.now.refs c.args.s.now.types c.args.item in
    if_ok _ (λ es h. row_of_kind (pattern_kind names) c.args.kind.now _ _ c.args.n c.args.span es c.in-Cons.is (L.cons names _ _) (more _ es _ _ _ (more _ _ _ _ _ (first _ _ _ c.in_ok-list-in-Cons.ensures (term_is _ _ _ _ (c.in_ok-list_of-in-Cons.ensures ∙ ap list_of c.fresh.ensures))) c.in_ok-element-in-Cons.ensures (pattern_is names _ _ _ _ c.get.ensures c.fresh-in-Cons.ensures)) h (pattern_is names _ _ _ _ c.get-in-Cons.ensures (c.in_ok-list_of-in-Cons-2.ensures ∙ ap list_of c.fresh-in-Cons-2.ensures)))) c.part_is-in-Cons.ensures

pub returns-in_ok-product-in-Tuple : goal.returns-in_ok-product-in-Tuple
returns-in_ok-product-in-Tuple c =
    let names = names_of c.args.s.now.refs c.args.s.now.types c.args.item in
    if_ok _ (λ es h. row_of_kind (pattern_kind names) c.args.kind.now _ _ c.args.n c.args.span es c.in-Tuple.is (L.tuple names _) (first _ _ _ h (term_is _ _ _ _ (c.in_ok-product-in-Tuple.ensures names ∙ ap (λ z. Tuple (map type_of (map (pattern names) z))) c.as_slice.ensures)))) c.one-in-Tuple.ensures

pub returns-in_ok-first-in-List : goal.returns-in_ok-first-in-List
returns-in_ok-first-in-List c =
    let names = names_of c.args.s.now.refs c.args.s.now.types c.args.item in
    if_ok _ (λ es h. row_of_kind (pattern_kind names) c.args.kind.now _ _ c.args.n c.args.span es c.in-List.is (L.list names _) (first_then _ es _ _ _ _ c.in_ok-first-in-List.ensures (term_is _ _ _ _ (c.in_ok-list_of-in-List.ensures ∙ ap list_of c.fresh-in-List.ensures)) (h names) (ap (λ z. each_is (at c.args.n 0) (map (pattern names) z)) c.as_slice-in-List.ensures))) c.elements.ensures

pub returns-in_ok-first-in-Fields : goal.returns-in_ok-first-in-Fields
returns-in_ok-first-in-Fields c =
    let names = names_of c.args.s.now.refs c.args.s.now.types c.args.item in
    if_ok _ (λ es h. row_of_kind (pattern_kind names) c.args.kind.now _ _ c.args.n c.args.span es c.in-Fields.is (L.fields names _ _) (first_then _ es _ _ _ _ c.in_ok-first-in-Fields.ensures (term_is _ _ _ _ c.record_term.ensures) h (ap (λ z. fields_are names c.args.n (map (field_pattern names) z)) c.as_slice-in-Fields.ensures))) c.field_types.ensures

pub returns-in_ok-first-in-Or : goal.returns-in_ok-first-in-Or
returns-in_ok-first-in-Or c =
    let names = names_of c.args.s.now.refs c.args.s.now.types c.args.item in
    if_ok _ (λ es h. row_of_kind (pattern_kind names) c.args.kind.now _ _ c.args.n c.args.span es c.in-Or.is (L.either names _ _) (more _ es (_ ∷ []) _ _ (alone _ _ _ _ c.new-in-Or.ensures c.in_ok-first-in-Or.ensures (pattern_is names _ _ _ _ c.get-in-Or.ensures c.node.ensures)) h (pattern_is names _ _ _ _ c.get-in-Or-2.ensures c.node-in-Or.ensures))) c.part_is-in-Or-2.ensures

pub returns-in_ok-first-in-Named : goal.returns-in_ok-first-in-Named
returns-in_ok-first-in-Named c =
    let names = names_of c.args.s.now.refs c.args.s.now.types c.args.item in
    if_ok _ (λ es h. row_of_kind (pattern_kind names) c.args.kind.now _ _ c.args.n c.args.span es c.in-Named.is (L.named names _ _) (more _ es (_ ∷ []) _ _ c.in_ok-first-in-Named.ensures h (pattern_is names _ _ _ _ c.get-in-Named.ensures c.node-in-Named.ensures))) c.part_is-in-Named.ensures

pub returns-in_ok-first-in-Typed : goal.returns-in_ok-first-in-Typed
returns-in_ok-first-in-Typed c =
    let names = names_of c.args.s.now.refs c.args.s.now.types c.args.item in
    if_ok _ (λ es h. row_of_kind (pattern_kind names) c.args.kind.now _ _ c.args.n c.args.span es c.in-Typed.is (L.typed names _ _) (more _ es _ _ _ (first _ _ _ c.in_ok-first-in-Typed.ensures (term_is _ _ _ _ c.in_ok-written-in-Typed.ensures)) h (pattern_is names _ _ _ _ c.get-in-Typed.ensures c.node-in-Typed.ensures))) c.part_is-in-Typed.ensures

pub returns-in-Paren : goal.returns-in-Paren
returns-in-Paren c =
    let names = names_of c.args.s.now.refs c.args.s.now.types c.args.item in
    if_ok _ (λ es h. row_of_kind (pattern_kind names) c.args.kind.now _ _ c.args.n c.args.span es c.in-Paren.is (L.paren names _) (alone _ es _ _ c.new-in-Paren.ensures h (pattern_is names _ _ _ _ c.get-in-Paren.ensures c.node-in-Paren.ensures))) c.part_is-in-Paren.ensures

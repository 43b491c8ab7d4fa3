use Rattle.std.proofs.Common.{[], ◌∷◌, map, refl, sym, ap, ◌∙◌}
use Rattle.ml_typing.specs.declared.equation.Unknown.TheVariants.{Node}
use Rattle.ml_typing.specs.declared.equation.Term.TheVariants.{Of, Tuple, Function}
use Rattle.ml_typing.specs.Rows.{equation, node_is, type_of, at, list_of, each_is, fields_are}
use Rattle.ml_typing.specs.Steps.{expression, expr_kind, field_expr, arm, arms_are, last_is, ats, args_are, param_parts}
use Rattle.ml_typing.specs.Typing.{names_of}
use Rattle.hm_steps.proofs.ExpressionLayers as L
use Rattle.hm_steps.proofs.Walks.{row_of_kind}
use Rattle.hm_steps.proofs.RowParts.{if_ok, first, more, alone, first_then, followed, after_none, parts_of_three, term_is, function_is, expression_is}
use Rattle.hm_steps.proofs.expression_rows.row.Goals as goal

pub returns-in-Int : goal.returns-in-Int
returns-in-Int c =
    let names = names_of c.args.s.now.refs c.args.s.now.types c.args.item in
    if_ok _ (λ es h. row_of_kind (expr_kind names) c.args.kind.now _ _ c.args.n c.args.span es c.in-Int.is (L.int_value names _) (first _ _ _ h (term_is _ _ _ _ c.int.ensures))) c.one.ensures

pub returns-in-Char : goal.returns-in-Char
returns-in-Char c =
    let names = names_of c.args.s.now.refs c.args.s.now.types c.args.item in
    if_ok _ (λ es h. row_of_kind (expr_kind names) c.args.kind.now _ _ c.args.n c.args.span es c.in-Char.is (L.char_value names _) (first _ _ _ h (term_is _ _ _ _ c.char.ensures))) c.one-in-Char.ensures

pub returns-in-Text : goal.returns-in-Text
returns-in-Text c =
    let names = names_of c.args.s.now.refs c.args.s.now.types c.args.item in
    if_ok _ (λ es h. row_of_kind (expr_kind names) c.args.kind.now _ _ c.args.n c.args.span es c.in-Text.is (L.text_value names _) (first _ _ _ h (term_is _ _ _ _ c.string.ensures))) c.one-in-Text.ensures

pub returns-in-Name : goal.returns-in-Name
returns-in-Name c =
    let names = names_of c.args.s.now.refs c.args.s.now.types c.args.item in
    if_ok _ (λ es h. row_of_kind (expr_kind names) c.args.kind.now _ _ c.args.n c.args.span es c.in-Name.is (L.name names _) (first _ _ _ h (term_is _ _ _ _ c.name_term.ensures))) c.one-in-Name.ensures

pub returns-in-Path : goal.returns-in-Path
returns-in-Path c =
    let names = names_of c.args.s.now.refs c.args.s.now.types c.args.item in
    if_ok _ (λ es h. row_of_kind (expr_kind names) c.args.kind.now _ _ c.args.n c.args.span es c.in-Path.is (L.path names _ _) (first _ _ _ h (term_is _ _ _ _ c.name_term-in-Path.ensures))) c.one-in-Path.ensures

pub returns-in_ok-first-in-Con : goal.returns-in_ok-first-in-Con
returns-in_ok-first-in-Con c =
    let names = names_of c.args.s.now.refs c.args.s.now.types c.args.item in
    if_ok _ (λ es h. row_of_kind (expr_kind names) c.args.kind.now _ _ c.args.n c.args.span es c.in-Con.is (L.con names _ _) (first_then _ es _ _ _ _ c.in_ok-first-in-Con.ensures (term_is _ _ _ _ (c.in_ok-con_term-in-Con.ensures c.args.item)) (h c.args.item) refl)) c.argument_is.ensures

pub returns-in_ok-list_of-in-Cons-2 : goal.returns-in_ok-list_of-in-Cons-2
returns-in_ok-list_of-in-Cons-2 c =
    let names = names_of c.args.s.now.refs c.args.s.now.types c.args.item in
    if_ok _ (λ es h. row_of_kind (expr_kind names) c.args.kind.now _ _ c.args.n c.args.span es c.in-Cons.is (L.cons names _ _) (more _ es _ _ _ (more _ _ _ _ _ (first _ _ _ c.in_ok-list-in-Cons.ensures (term_is _ _ _ _ (c.in_ok-list_of-in-Cons.ensures ∙ ap list_of c.fresh.ensures))) c.in_ok-element-in-Cons.ensures (expression_is names _ _ _ _ c.get.ensures c.fresh-in-Cons.ensures)) h (expression_is names _ _ _ _ c.get-in-Cons.ensures (c.in_ok-list_of-in-Cons-2.ensures ∙ ap list_of c.fresh-in-Cons-2.ensures)))) c.part_is-in-Cons.ensures

pub returns-in_ok-product-in-Tuple : goal.returns-in_ok-product-in-Tuple
returns-in_ok-product-in-Tuple c =
    let names = names_of c.args.s.now.refs c.args.s.now.types c.args.item in
    if_ok _ (λ es h. row_of_kind (expr_kind names) c.args.kind.now _ _ c.args.n c.args.span es c.in-Tuple.is (L.tuple names _) (first _ _ _ h (term_is _ _ _ _ (c.in_ok-product-in-Tuple.ensures names ∙ ap (λ z. Tuple (map type_of (map (expression names) z))) c.as_slice.ensures)))) c.one-in-Tuple.ensures

pub returns-in_ok-first-in-List : goal.returns-in_ok-first-in-List
returns-in_ok-first-in-List c =
    let names = names_of c.args.s.now.refs c.args.s.now.types c.args.item in
    if_ok _ (λ es h. row_of_kind (expr_kind names) c.args.kind.now _ _ c.args.n c.args.span es c.in-List.is (L.list names _) (first_then _ es _ _ _ _ c.in_ok-first-in-List.ensures (term_is _ _ _ _ (c.in_ok-list_of-in-List.ensures ∙ ap list_of c.fresh-in-List.ensures)) (h names) (ap (λ z. each_is (at c.args.n 0) (map (expression names) z)) c.as_slice-in-List.ensures))) c.elements.ensures

pub returns-in_ok-first-in-Fields : goal.returns-in_ok-first-in-Fields
returns-in_ok-first-in-Fields c =
    let names = names_of c.args.s.now.refs c.args.s.now.types c.args.item in
    if_ok _ (λ es h. row_of_kind (expr_kind names) c.args.kind.now _ _ c.args.n c.args.span es c.in-Fields.is (L.fields names _) (first_then _ es _ _ _ _ c.in_ok-first-in-Fields.ensures (term_is _ _ _ _ c.record_term.ensures) h (ap (λ z. fields_are names c.args.n (map (field_expr names) z)) c.as_slice-in-Fields.ensures))) c.field_types.ensures

pub returns-in_ok-first-in-Field : goal.returns-in_ok-first-in-Field
returns-in_ok-first-in-Field c =
    let names = names_of c.args.s.now.refs c.args.s.now.types c.args.item in
    if_ok _ (λ es h. row_of_kind (expr_kind names) c.args.kind.now _ _ c.args.n c.args.span es c.in-Field.is (L.field names _ _) (more _ es _ _ _ (first _ _ _ c.in_ok-first-in-Field.ensures (term_is _ _ _ _ c.field_term.ensures)) h (expression_is names _ _ _ _ c.get-in-Field.ensures c.record_term-in-Field.ensures))) c.part_is-in-Field.ensures

pub returns-in_ok-second-in-Index : goal.returns-in_ok-second-in-Index
returns-in_ok-second-in-Index c =
    let names = names_of c.args.s.now.refs c.args.s.now.types c.args.item in
    if_ok _ (λ es h. row_of_kind (expr_kind names) c.args.kind.now _ _ c.args.n c.args.span es c.in-Index.is (L.index names _ _) (more _ es _ _ _ (more _ _ _ _ _ (first _ _ _ c.in_ok-first-in-Index.ensures (term_is _ _ _ _ c.char-in-Index.ensures)) c.in_ok-second-in-Index.ensures (expression_is names _ _ _ _ c.get-in-Index.ensures c.string-in-Index.ensures)) h (expression_is names _ _ _ _ c.get-in-Index-2.ensures c.int-in-Index.ensures))) c.part_is-in-Index-2.ensures

pub returns-in-Apply : goal.returns-in-Apply
returns-in-Apply c =
    let names = names_of c.args.s.now.refs c.args.s.now.types c.args.item in
    if_ok _ (λ es h. row_of_kind (expr_kind names) c.args.kind.now _ _ c.args.n c.args.span es c.in-Apply.is (L.apply names _ _) (h names ∙ (ap (λ z. node_is (expression names z) (Function (ats c.args.n 0 (map (expression names) c.as_slice-in-Apply.result.now)) (Of (Node c.args.n))) ∷ args_are c.args.n 0 (map (expression names) c.as_slice-in-Apply.result.now)) c.get-in-Apply.ensures ∙ ap (λ z. node_is (expression names c.in-Apply.function) (Function (ats c.args.n 0 (map (expression names) z)) (Of (Node c.args.n))) ∷ args_are c.args.n 0 (map (expression names) z)) c.as_slice-in-Apply.ensures))) c.apply_row.ensures

pub returns-in-Binary : goal.returns-in-Binary
returns-in-Binary c =
    let names = names_of c.args.s.now.refs c.args.s.now.types c.args.item in
    if_ok _ (λ es h. row_of_kind (expr_kind names) c.args.kind.now _ _ c.args.n c.args.span es c.in-Binary.is (L.binary names _ _ _) (parts_of_three es _ _ _ _ _ h (expression_is names _ _ _ _ c.get-in-Binary.ensures refl) (expression_is names _ _ _ _ c.get-in-Binary-2.ensures refl))) c.binary_row.ensures

pub returns-in_ok-first-in-Minus : goal.returns-in_ok-first-in-Minus
returns-in_ok-first-in-Minus c =
    let names = names_of c.args.s.now.refs c.args.s.now.types c.args.item in
    if_ok _ (λ es h. row_of_kind (expr_kind names) c.args.kind.now _ _ c.args.n c.args.span es c.in-Minus.is (L.minus names _) (more _ es _ _ _ (first _ _ _ c.in_ok-first-in-Minus.ensures (term_is _ _ _ _ c.int-in-Minus.ensures)) h (expression_is names _ _ _ _ c.get-in-Minus.ensures c.int-in-Minus-2.ensures))) c.part_is-in-Minus.ensures

pub returns-in_ok-second-in-If : goal.returns-in_ok-second-in-If
returns-in_ok-second-in-If c =
    let names = names_of c.args.s.now.refs c.args.s.now.types c.args.item in
    if_ok _ (λ es h. row_of_kind (expr_kind names) c.args.kind.now _ _ c.args.n c.args.span es c.in-If.is (L.conditional names _ _ _) (followed _ es (_ ∷ _ ∷ []) _ _ (more _ _ (_ ∷ []) _ _ (alone _ _ _ _ c.new.ensures c.in_ok-first-in-If.ensures (expression_is names _ _ _ _ c.get-in-If.ensures c.bool.ensures)) c.in_ok-second-in-If.ensures (expression_is names _ _ _ _ c.get-in-If-2.ensures c.node.ensures)) (h names) refl)) c.branch_is.ensures

pub returns-in-Seq : goal.returns-in-Seq
returns-in-Seq c =
    let names = names_of c.args.s.now.refs c.args.s.now.types c.args.item in
    if_ok _ (λ es h. row_of_kind (expr_kind names) c.args.kind.now _ _ c.args.n c.args.span es c.in-Seq.is (L.sequence names _) (h names ∙ ap (λ z. last_is c.args.n (map (expression names) z)) c.as_slice-in-Seq.ensures)) c.last_is.ensures

pub returns-in-Match : goal.returns-in-Match
returns-in-Match c =
    let names = names_of c.args.s.now.refs c.args.s.now.types c.args.item in
    if_ok _ (λ es h. row_of_kind (expr_kind names) c.args.kind.now _ _ c.args.n c.args.span es c.in-Match.is (L.cases names _ _) (after_none _ es _ _ c.new-in-Match.ensures (h names) (ap (λ z. arms_are (Of (Node c.args.n)) (map (arm names) z)) c.as_slice-in-Match.ensures))) c.arms_are.ensures

pub returns-in_ok-result-in-Fun : goal.returns-in_ok-result-in-Fun
returns-in_ok-result-in-Fun c =
    let names = names_of c.args.s.now.refs c.args.s.now.types c.args.item in
    if_ok _ (λ es h. row_of_kind (expr_kind names) c.args.kind.now _ _ c.args.n c.args.span es c.in-Fun.is (L.function names _ _) (first _ _ _ h (term_is _ _ _ _ (function_is _ _ _ _ (c.in_ok-types-in-Fun.ensures names ∙ ap (λ z. map type_of (param_parts names z)) c.as_slice-in-Fun.ensures) (c.in_ok-result-in-Fun.ensures ∙ (c.node-in-Fun.ensures ∙ (ap (λ z. Of (Node z)) (sym (L.whole_id names _)) ∙ ap (λ z. type_of (expression names z)) c.get-in-Fun.ensures))))))) c.one-in-Fun.ensures

pub returns-in-Function : goal.returns-in-Function
returns-in-Function c =
    let names = names_of c.args.s.now.refs c.args.s.now.types c.args.item in
    if_ok _ (λ es h. row_of_kind (expr_kind names) c.args.kind.now _ _ c.args.n c.args.span es c.in-Function.is (L.matching names _) (h names ∙ ap (λ z. equation c.args.span (Node c.args.n) (Function (at c.args.n 0 ∷ []) (at c.args.n 1)) ∷ arms_are (at c.args.n 1) (map (arm names) z)) c.as_slice-in-Function.ensures)) c.function_row.ensures

pub returns-in_ok-first-in-Typed : goal.returns-in_ok-first-in-Typed
returns-in_ok-first-in-Typed c =
    let names = names_of c.args.s.now.refs c.args.s.now.types c.args.item in
    if_ok _ (λ es h. row_of_kind (expr_kind names) c.args.kind.now _ _ c.args.n c.args.span es c.in-Typed.is (L.typed names _ _) (more _ es _ _ _ (first _ _ _ c.in_ok-first-in-Typed.ensures (term_is _ _ _ _ c.in_ok-written-in-Typed.ensures)) h (expression_is names _ _ _ _ c.get-in-Typed.ensures c.node-in-Typed.ensures))) c.part_is-in-Typed.ensures

pub returns-in_ok-first-in-Borrow : goal.returns-in_ok-first-in-Borrow
returns-in_ok-first-in-Borrow c =
    let names = names_of c.args.s.now.refs c.args.s.now.types c.args.item in
    if_ok _ (λ es h. row_of_kind (expr_kind names) c.args.kind.now _ _ c.args.n c.args.span es c.in-Borrow.is (L.borrow names _ _ _) (more _ es _ _ _ (first _ _ _ c.in_ok-first-in-Borrow.ensures (term_is _ _ _ _ c.name_term-in-Borrow.ensures)) h (expression_is names _ _ _ _ c.get-in-Borrow.ensures c.node-in-Borrow.ensures))) c.part_is-in-Borrow.ensures

pub returns-in-Let : goal.returns-in-Let
returns-in-Let c =
    let names = names_of c.args.s.now.refs c.args.s.now.types c.args.item in
    if_ok _ (λ es h. row_of_kind (expr_kind names) c.args.kind.now _ _ c.args.n c.args.span es c.in-Let.is (L.binding names _ _ _) (alone _ es _ _ c.new-in-Let.ensures h (expression_is names _ _ _ _ c.get-in-Let.ensures c.node-in-Let.ensures))) c.part_is-in-Let.ensures

pub returns-in-Paren : goal.returns-in-Paren
returns-in-Paren c =
    let names = names_of c.args.s.now.refs c.args.s.now.types c.args.item in
    if_ok _ (λ es h. row_of_kind (expr_kind names) c.args.kind.now _ _ c.args.n c.args.span es c.in-Paren.is (L.paren names _) (alone _ es _ _ c.new-in-Paren.ensures h (expression_is names _ _ _ _ c.get-in-Paren.ensures c.node-in-Paren.ensures))) c.part_is-in-Paren.ensures

pub returns-in-Worded : goal.returns-in-Worded
returns-in-Worded c =
    let names = names_of c.args.s.now.refs c.args.s.now.types c.args.item in
    if_ok _ (λ es h. row_of_kind (expr_kind names) c.args.kind.now _ _ c.args.n c.args.span es c.in-Worded.is (L.worded names _ _) (alone _ es _ _ c.new-in-Worded.ensures h (expression_is names _ _ _ _ c.get-in-Worded.ensures c.node-in-Worded.ensures))) c.part_is-in-Worded.ensures

pub returns-in-Exclave : goal.returns-in-Exclave
returns-in-Exclave c =
    let names = names_of c.args.s.now.refs c.args.s.now.types c.args.item in
    if_ok _ (λ es h. row_of_kind (expr_kind names) c.args.kind.now _ _ c.args.n c.args.span es c.in-Exclave.is (L.exclave names _) (alone _ es _ _ c.new-in-Exclave.ensures h (expression_is names _ _ _ _ c.get-in-Exclave.ensures c.node-in-Exclave.ensures))) c.part_is-in-Exclave.ensures

pub returns-in-Overwrite : goal.returns-in-Overwrite
returns-in-Overwrite c =
    let names = names_of c.args.s.now.refs c.args.s.now.types c.args.item in
    if_ok _ (λ es h. row_of_kind (expr_kind names) c.args.kind.now _ _ c.args.n c.args.span es c.in-Overwrite.is (L.overwrite names _ _) (alone _ es _ _ c.new-in-Overwrite.ensures h (expression_is names _ _ _ _ c.get-in-Overwrite.ensures c.node-in-Overwrite.ensures))) c.part_is-in-Overwrite.ensures

use Rattle.std.proofs.Common.{◌≡◌, ◌∷◌, Some, None, sym, ap, ap₂, ◌∙◌}
use Rattle.std.specs.List.{flat_map}
use Rattle.ml_tree.specs.declared.expr.ExprKind.TheVariants as E
use Rattle.ml_words.specs.Named.{targets}
use Rattle.ml_meaning.specs.Functions.{bare_name, own_name, with_arms, with_params}
use Rattle.ml_functions.specs.Table.{functions_of_arm, functions_of_expr}
use Rattle.ml_functions.proofs.Opening.{expr_opens, field_opens}
use Rattle.ml_functions.proofs.Forms.{pair_is, parts_are, inner_is, of_fun, of_function, of_paren, of_construction, of_constant, of_fields, of_apply, of_if, of_if_alone, of_let, of_match, of_pair, of_parts, of_inner, of_leaf, of_guarded_arm, of_plain_arm, of_value, of_bound_function}
use Rattle.ml_functions.proofs.Parts.{no_part, one_part, two_parts, three_parts, two_parts_alone}
use Rattle.ml_functions.proofs.collect.Collector.+collecting.Goals as goal

pub arm-returns-in_ok-expr-in-Some-clause-list : goal.arm-returns-in_ok-expr-in-Some-clause-list
arm-returns-in_ok-expr-in-Some-clause-list t c =
    two_parts c.expr-in-Some.result _ _ _ _ _ _ c.in_ok-expr-in-Some.ensures.list c.expr-in-Some.ensures.list (of_guarded_arm (targets c.args.place.scoped.now) c.args.arm.now c.in-Some.guard c.in-Some.is)

pub arm-returns-in-None-clause-list : goal.arm-returns-in-None-clause-list
arm-returns-in-None-clause-list t c =
    one_part c.expr-in-None.result _ _ _ _ c.expr-in-None.ensures.list (of_plain_arm (targets c.args.place.scoped.now) c.args.arm.now c.in-None.is)

pub bind-returns-then-len-eq0-clause-list : goal.bind-returns-then-len-eq0-clause-list
bind-returns-then-len-eq0-clause-list t c =
    let own : own_name (targets c.args.place.scoped.now) c.args.recursive (bare_name c.args.bind.now.pat) ≡ c.own_name.result = ap (own_name (targets c.args.place.scoped.now) c.args.recursive) (sym c.bare_name.ensures) ∙ sym (c.own_name.ensures (targets c.args.place.scoped.now)) in
    one_part c.expr.result _ _ _ _ c.expr.ensures.list
    (of_value (targets c.args.place.scoped.now) c.args.bind.now c.args.recursive (sym c.len.ensures ∙ c.if-len-eq0.true) ∙ ap (functions_of_expr (targets c.args.place.scoped.now) c.args.bind.now.body) own)

pub bind-returns-clause-list : goal.bind-returns-clause-list
bind-returns-clause-list t c =
    let own : own_name (targets c.args.place.scoped.now) c.args.recursive (Some c.args.bind.now.pat.id) ≡ c.own_name-own.result = sym (c.own_name-own.ensures (targets c.args.place.scoped.now)) in
    two_parts c.expr-2.result _ _ _ _ _ _ c.in_ok-with_params.ensures.list c.expr-2.ensures.list
    (of_bound_function (targets c.args.place.scoped.now) c.args.bind.now c.args.recursive (λ none. c.if-len-eq0.false (c.len.ensures ∙ none))
    ∙ ap₂ (λ o ps. (c.args.bind.now.pat.id, with_params (targets c.args.place.scoped.now) o ps c.args.bind.now.body) ∷ functions_of_expr (targets c.args.place.scoped.now) c.args.bind.now.body None) own (sym c.as_slice.ensures))

pub expr-returns-clause-list : goal.expr-returns-clause-list
expr-returns-clause-list t c =
    one_part c.kind.result _ _ _ _ c.kind.ensures.list (expr_opens (targets c.args.place.scoped.now) c.args.e.now c.args.own)

pub field-returns-clause-list : goal.field-returns-clause-list
field-returns-clause-list t c =
    one_part c.expr.result _ _ _ _ c.expr.ensures.list (field_opens (targets c.args.place.scoped.now) c.args.field.now)

pub kind-returns-in_ok-with_params-in-Fun-clause-list : goal.kind-returns-in_ok-with_params-in-Fun-clause-list
kind-returns-in_ok-with_params-in-Fun-clause-list t c =
    let h = c.in_ok-with_params-in-Fun.ensures.list in
    two_parts c.expr.result _ _ _ _ _ _ c.in_ok-with_params-in-Fun.ensures.list c.expr.ensures.list
    (of_fun (targets c.args.place.scoped.now) c.args.kind.now c.args.node c.args.own c.as_slice.result.now c.get.result.now (c.in-Fun.is ∙ ap₂ E.Fun (sym c.as_slice.ensures) (sym c.get.ensures)) ∙ ap (λ x. (c.args.node, with_params (targets c.args.place.scoped.now) c.args.own c.as_slice.result.now c.get.result.now) ∷ functions_of_expr (targets c.args.place.scoped.now) x None) (c.get.ensures ∙ sym c.get-in-Fun.ensures))

pub kind-returns-in_ok-with_arms-in-Function-clause-list : goal.kind-returns-in_ok-with_arms-in-Function-clause-list
kind-returns-in_ok-with_arms-in-Function-clause-list t c =
    two_parts c.arms.result _ _ _ _ _ _ c.in_ok-with_arms-in-Function.ensures.list c.arms.ensures.list
    (of_function (targets c.args.place.scoped.now) c.args.kind.now c.args.node c.args.own c.as_slice-in-Function.result.now (c.in-Function.is ∙ ap E.Function (sym c.as_slice-in-Function.ensures)) ∙ ap (λ xs. (c.args.node, with_arms (targets c.args.place.scoped.now) c.args.own c.as_slice-in-Function.result.now) ∷ flat_map (functions_of_arm (targets c.args.place.scoped.now)) xs) (c.as_slice-in-Function.ensures ∙ sym c.as_slice-in-Function-2.ensures))

pub kind-returns-in-Paren-clause-list : goal.kind-returns-in-Paren-clause-list
kind-returns-in-Paren-clause-list t c =
    one_part c.expr-in-Paren.result _ _ _ _ c.expr-in-Paren.ensures.list (of_paren (targets c.args.place.scoped.now) c.args.kind.now c.args.node c.args.own c.get-in-Paren.result.now (c.in-Paren.is ∙ ap E.Paren (sym c.get-in-Paren.ensures)))

pub kind-returns-in-Some-clause-list : goal.kind-returns-in-Some-clause-list
kind-returns-in-Some-clause-list t c =
    one_part c.expr-in-Some.result _ _ _ _ c.expr-in-Some.ensures.list (of_construction (targets c.args.place.scoped.now) c.args.kind.now c.args.node c.args.own c.in-Con.name c.get-in-Some.result.now (c.in-Con.is ∙ ap (E.Con c.in-Con.name) (c.in-Some.is ∙ ap (λ x. Some x) (sym c.get-in-Some.ensures))))

pub kind-returns-in-None-clause-list : goal.kind-returns-in-None-clause-list
kind-returns-in-None-clause-list t c =
    no_part _ _ (of_constant (targets c.args.place.scoped.now) c.args.kind.now c.args.node c.args.own c.in-Con.name (c.in-Con.is ∙ ap (E.Con c.in-Con.name) c.in-None.is))

pub kind-returns-in-Fields-clause-list : goal.kind-returns-in-Fields-clause-list
kind-returns-in-Fields-clause-list t c =
    one_part c.fields.result _ _ _ _ c.fields.ensures.list (of_fields (targets c.args.place.scoped.now) c.args.kind.now c.args.node c.args.own c.as_slice-in-Fields.result.now (c.in-Fields.is ∙ ap E.Fields (sym c.as_slice-in-Fields.ensures)))

pub kind-returns-in_ok-expr-in-Apply-clause-list : goal.kind-returns-in_ok-expr-in-Apply-clause-list
kind-returns-in_ok-expr-in-Apply-clause-list t c =
    two_parts c.exprs.result _ _ _ _ _ _ c.in_ok-expr-in-Apply.ensures.list c.exprs.ensures.list
    (of_apply (targets c.args.place.scoped.now) c.args.kind.now c.args.node c.args.own c.get-in-Apply.result.now c.as_slice-in-Apply.result.now (c.in-Apply.is ∙ ap₂ E.Apply (sym c.get-in-Apply.ensures) (sym c.as_slice-in-Apply.ensures)))

pub kind-returns-in-Some-other-clause-list : goal.kind-returns-in-Some-other-clause-list
kind-returns-in-Some-other-clause-list t c =
    three_parts c.expr-in-Some-other.result _ _ _ _ _ _ _ _ c.in_ok-expr-in-If.ensures.list c.in_ok-expr-in-If-2.ensures.list c.expr-in-Some-other.ensures.list
    (of_if (targets c.args.place.scoped.now) c.args.kind.now c.args.node c.args.own c.get-in-If.result.now c.get-in-If-2.result.now c.get-in-Some-other.result.now (c.in-If.is ∙ (ap₂ (λ x y. E.If x y c.in-If.other) (sym c.get-in-If.ensures) (sym c.get-in-If-2.ensures) ∙ ap (E.If c.get-in-If.result.now c.get-in-If-2.result.now) (c.in-Some-other.is ∙ ap (λ x. Some x) (sym c.get-in-Some-other.ensures)))))

pub kind-returns-in-None-other-clause-list : goal.kind-returns-in-None-other-clause-list
kind-returns-in-None-other-clause-list t c =
    two_parts_alone _ _ _ _ _ _ c.in_ok-expr-in-If.ensures.list c.in_ok-expr-in-If-2.ensures.list
    (of_if_alone (targets c.args.place.scoped.now) c.args.kind.now c.args.node c.args.own c.get-in-If.result.now c.get-in-If-2.result.now (c.in-If.is ∙ (ap₂ (λ x y. E.If x y c.in-If.other) (sym c.get-in-If.ensures) (sym c.get-in-If-2.ensures) ∙ ap (E.If c.get-in-If.result.now c.get-in-If-2.result.now) c.in-None-other.is)))

pub kind-returns-in_ok-binds-in-Let-clause-list : goal.kind-returns-in_ok-binds-in-Let-clause-list
kind-returns-in_ok-binds-in-Let-clause-list t c =
    two_parts c.expr-in-Let.result _ _ _ _ _ _ c.in_ok-binds-in-Let.ensures.list c.expr-in-Let.ensures.list
    (of_let (targets c.args.place.scoped.now) c.args.kind.now c.args.node c.args.own c.in-Let.recursive c.as_slice-in-Let.result.now c.get-in-Let.result.now (c.in-Let.is ∙ ap₂ (E.Let c.in-Let.recursive) (sym c.as_slice-in-Let.ensures) (sym c.get-in-Let.ensures)))

pub kind-returns-in_ok-expr-in-Match-clause-list : goal.kind-returns-in_ok-expr-in-Match-clause-list
kind-returns-in_ok-expr-in-Match-clause-list t c =
    two_parts c.arms-in-Match.result _ _ _ _ _ _ c.in_ok-expr-in-Match.ensures.list c.arms-in-Match.ensures.list
    (of_match (targets c.args.place.scoped.now) c.args.kind.now c.args.node c.args.own c.get-in-Match.result.now c.as_slice-in-Match.result.now (c.in-Match.is ∙ ap₂ E.Match (sym c.get-in-Match.ensures) (sym c.as_slice-in-Match.ensures)))

pub kind-returns-in-Int-clause-list : goal.kind-returns-in-Int-clause-list
kind-returns-in-Int-clause-list t c =
    no_part _ _ (of_leaf (targets c.args.place.scoped.now) c.args.kind.now c.args.node c.args.own c.in-Int.is)

pub kind-returns-in-Field-clause-list : goal.kind-returns-in-Field-clause-list
kind-returns-in-Field-clause-list t c =
    one_part c.expr-in-Field.result _ _ _ _ c.expr-in-Field.ensures.list (of_inner (targets c.args.place.scoped.now) c.args.kind.now c.args.node c.args.own c.get-in-Field.result.now (inner_is c.args.kind.now _ _ c.in-Field.is c.get-in-Field.ensures))

pub kind-returns-in-Tuple-clause-list : goal.kind-returns-in-Tuple-clause-list
kind-returns-in-Tuple-clause-list t c =
    one_part c.exprs-in-Tuple.result _ _ _ _ c.exprs-in-Tuple.ensures.list (of_parts (targets c.args.place.scoped.now) c.args.kind.now c.args.node c.args.own c.as_slice-in-Tuple.result.now (parts_are c.args.kind.now _ _ c.in-Tuple.is c.as_slice-in-Tuple.ensures))

pub kind-returns-in_ok-expr-in-Cons-clause-list : goal.kind-returns-in_ok-expr-in-Cons-clause-list
kind-returns-in_ok-expr-in-Cons-clause-list t c =
    two_parts c.expr-in-Cons-2.result _ _ _ _ _ _ c.in_ok-expr-in-Cons.ensures.list c.expr-in-Cons-2.ensures.list
    (of_pair (targets c.args.place.scoped.now) c.args.kind.now c.args.node c.args.own c.get-in-Cons.result.now c.get-in-Cons-2.result.now (pair_is c.args.kind.now _ _ _ _ c.in-Cons.is c.get-in-Cons.ensures c.get-in-Cons-2.ensures))

pub kind-returns-in-Int-2-clause-list : goal.kind-returns-in-Int-2-clause-list
kind-returns-in-Int-2-clause-list t c =
    no_part _ _ (of_leaf (targets c.args.place.scoped.now) c.args.kind.now c.args.node c.args.own c.in-Int.is)

pub kind-returns-in-Int-3-clause-list : goal.kind-returns-in-Int-3-clause-list
kind-returns-in-Int-3-clause-list t c =
    no_part _ _ (of_leaf (targets c.args.place.scoped.now) c.args.kind.now c.args.node c.args.own c.in-Int.is)

pub kind-returns-in-Int-4-clause-list : goal.kind-returns-in-Int-4-clause-list
kind-returns-in-Int-4-clause-list t c =
    no_part _ _ (of_leaf (targets c.args.place.scoped.now) c.args.kind.now c.args.node c.args.own c.in-Int.is)

pub kind-returns-in-Int-5-clause-list : goal.kind-returns-in-Int-5-clause-list
kind-returns-in-Int-5-clause-list t c =
    no_part _ _ (of_leaf (targets c.args.place.scoped.now) c.args.kind.now c.args.node c.args.own c.in-Int.is)

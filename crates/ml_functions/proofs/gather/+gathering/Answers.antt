use Rattle.std.proofs.Common.{Some, sym, ap, ap₂, ◌∙◌}
use Rattle.ml_tree.specs.declared.expr.ExprKind.TheVariants as E
use Rattle.ml_words.specs.Named.{targets}
use Rattle.ml_functions.proofs.Forms.{pair_is, parts_are}
use Rattle.ml_functions.proofs.Folded.{binds_pair, binds_parts, binds_apply, binds_if, binds_if_alone, binds_let, binds_match, binds_fun, binds_borrow, uses_pair, uses_apply, uses_if, uses_if_alone, uses_let, uses_match, uses_borrow, uses_overwrite}
use Rattle.ml_functions.proofs.Parts.{one_part, two_parts, three_parts, two_parts_alone}
use Rattle.ml_functions.proofs.gather.+gathering.Goals as goal

pub kind-returns-in_ok-expr-in-Apply-clause-uses : goal.kind-returns-in_ok-expr-in-Apply-clause-uses
kind-returns-in_ok-expr-in-Apply-clause-uses t c =
    two_parts c.exprs.result _ _ _ _ _ _ c.in_ok-expr-in-Apply.ensures.uses c.exprs.ensures.uses
    (uses_apply (targets c.args.s.now) c.args.kind.now c.args.node c.get-in-Apply.result.now c.as_slice-in-Apply.result.now (c.in-Apply.is ∙ ap₂ E.Apply (sym c.get-in-Apply.ensures) (sym c.as_slice-in-Apply.ensures)))

pub kind-returns-in_ok-binds-in-Let-clause-uses : goal.kind-returns-in_ok-binds-in-Let-clause-uses
kind-returns-in_ok-binds-in-Let-clause-uses t c =
    two_parts c.expr-in-Let.result _ _ _ _ _ _ c.in_ok-binds-in-Let.ensures.uses c.expr-in-Let.ensures.uses
    (uses_let (targets c.args.s.now) c.args.kind.now c.args.node c.in-Let.recursive c.as_slice-in-Let.result.now c.get-in-Let.result.now (c.in-Let.is ∙ ap₂ (E.Let c.in-Let.recursive) (sym c.as_slice-in-Let.ensures) (sym c.get-in-Let.ensures)))

pub kind-returns-in_ok-expr-in-Match-clause-uses : goal.kind-returns-in_ok-expr-in-Match-clause-uses
kind-returns-in_ok-expr-in-Match-clause-uses t c =
    two_parts c.arms.result _ _ _ _ _ _ c.in_ok-expr-in-Match.ensures.uses c.arms.ensures.uses
    (uses_match (targets c.args.s.now) c.args.kind.now c.args.node c.get-in-Match.result.now c.as_slice-in-Match.result.now (c.in-Match.is ∙ ap₂ E.Match (sym c.get-in-Match.ensures) (sym c.as_slice-in-Match.ensures)))

pub kind-returns-in_ok-expr-in-Cons-clause-uses : goal.kind-returns-in_ok-expr-in-Cons-clause-uses
kind-returns-in_ok-expr-in-Cons-clause-uses t c =
    two_parts c.expr-in-Cons-2.result _ _ _ _ _ _ c.in_ok-expr-in-Cons.ensures.uses c.expr-in-Cons-2.ensures.uses
    (uses_pair (targets c.args.s.now) c.args.kind.now c.args.node c.get-in-Cons.result.now c.get-in-Cons-2.result.now (pair_is c.args.kind.now _ _ _ _ c.in-Cons.is c.get-in-Cons.ensures c.get-in-Cons-2.ensures))

pub kind-returns-in-Some-other-clause-uses : goal.kind-returns-in-Some-other-clause-uses
kind-returns-in-Some-other-clause-uses t c =
    three_parts c.expr-in-Some-other.result _ _ _ _ _ _ _ _ c.in_ok-expr-in-If.ensures.uses c.in_ok-expr-in-If-2.ensures.uses c.expr-in-Some-other.ensures.uses
    (uses_if (targets c.args.s.now) c.args.kind.now c.args.node c.get-in-If.result.now c.get-in-If-2.result.now c.get-in-Some-other.result.now (c.in-If.is ∙ (ap₂ (λ x y. E.If x y c.in-If.other) (sym c.get-in-If.ensures) (sym c.get-in-If-2.ensures) ∙ ap (E.If c.get-in-If.result.now c.get-in-If-2.result.now) (c.in-Some-other.is ∙ ap (λ x. Some x) (sym c.get-in-Some-other.ensures)))))

pub kind-returns-in-None-other-clause-uses : goal.kind-returns-in-None-other-clause-uses
kind-returns-in-None-other-clause-uses t c =
    two_parts_alone _ _ _ _ _ _ c.in_ok-expr-in-If.ensures.uses c.in_ok-expr-in-If-2.ensures.uses
    (uses_if_alone (targets c.args.s.now) c.args.kind.now c.args.node c.get-in-If.result.now c.get-in-If-2.result.now (c.in-If.is ∙ (ap₂ (λ x y. E.If x y c.in-If.other) (sym c.get-in-If.ensures) (sym c.get-in-If-2.ensures) ∙ ap (E.If c.get-in-If.result.now c.get-in-If-2.result.now) c.in-None-other.is)))

pub kind-returns-in_ok-use_at-in-Borrow-clause-uses : goal.kind-returns-in_ok-use_at-in-Borrow-clause-uses
kind-returns-in_ok-use_at-in-Borrow-clause-uses t c =
    two_parts c.expr-in-Borrow.result _ _ _ _ _ _ c.in_ok-use_at-in-Borrow.ensures.uses c.expr-in-Borrow.ensures.uses
    (uses_borrow (targets c.args.s.now) c.args.kind.now c.args.node c.in-Borrow.name c.in-Borrow.of c.get-in-Borrow.result.now (c.in-Borrow.is ∙ ap (E.Borrow c.in-Borrow.name c.in-Borrow.of) (sym c.get-in-Borrow.ensures)))

pub kind-returns-in_ok-use_at-in-Overwrite-clause-uses : goal.kind-returns-in_ok-use_at-in-Overwrite-clause-uses
kind-returns-in_ok-use_at-in-Overwrite-clause-uses t c =
    two_parts c.expr-in-Overwrite.result _ _ _ _ _ _ c.in_ok-use_at-in-Overwrite.ensures.uses c.expr-in-Overwrite.ensures.uses
    (uses_overwrite (targets c.args.s.now) c.args.kind.now c.args.node c.in-Overwrite.name c.get-in-Overwrite.result.now (c.in-Overwrite.is ∙ ap (E.Overwrite c.in-Overwrite.name) (sym c.get-in-Overwrite.ensures)))

pub kind-returns-in_ok-expr-in-Apply-clause-binders : goal.kind-returns-in_ok-expr-in-Apply-clause-binders
kind-returns-in_ok-expr-in-Apply-clause-binders t c =
    two_parts c.exprs.result _ _ _ _ _ _ c.in_ok-expr-in-Apply.ensures.binders c.exprs.ensures.binders
    (binds_apply c.args.kind.now c.args.node c.get-in-Apply.result.now c.as_slice-in-Apply.result.now (c.in-Apply.is ∙ ap₂ E.Apply (sym c.get-in-Apply.ensures) (sym c.as_slice-in-Apply.ensures)))

pub kind-returns-in_ok-binds-in-Let-clause-binders : goal.kind-returns-in_ok-binds-in-Let-clause-binders
kind-returns-in_ok-binds-in-Let-clause-binders t c =
    two_parts c.expr-in-Let.result _ _ _ _ _ _ c.in_ok-binds-in-Let.ensures.binders c.expr-in-Let.ensures.binders
    (binds_let c.args.kind.now c.args.node c.in-Let.recursive c.as_slice-in-Let.result.now c.get-in-Let.result.now (c.in-Let.is ∙ ap₂ (E.Let c.in-Let.recursive) (sym c.as_slice-in-Let.ensures) (sym c.get-in-Let.ensures)))

pub kind-returns-in_ok-expr-in-Match-clause-binders : goal.kind-returns-in_ok-expr-in-Match-clause-binders
kind-returns-in_ok-expr-in-Match-clause-binders t c =
    two_parts c.arms.result _ _ _ _ _ _ c.in_ok-expr-in-Match.ensures.binders c.arms.ensures.binders
    (binds_match c.args.kind.now c.args.node c.get-in-Match.result.now c.as_slice-in-Match.result.now (c.in-Match.is ∙ ap₂ E.Match (sym c.get-in-Match.ensures) (sym c.as_slice-in-Match.ensures)))

pub kind-returns-in_ok-expr-in-Cons-clause-binders : goal.kind-returns-in_ok-expr-in-Cons-clause-binders
kind-returns-in_ok-expr-in-Cons-clause-binders t c =
    two_parts c.expr-in-Cons-2.result _ _ _ _ _ _ c.in_ok-expr-in-Cons.ensures.binders c.expr-in-Cons-2.ensures.binders
    (binds_pair c.args.kind.now c.args.node c.get-in-Cons.result.now c.get-in-Cons-2.result.now (pair_is c.args.kind.now _ _ _ _ c.in-Cons.is c.get-in-Cons.ensures c.get-in-Cons-2.ensures))

pub kind-returns-in-Some-other-clause-binders : goal.kind-returns-in-Some-other-clause-binders
kind-returns-in-Some-other-clause-binders t c =
    three_parts c.expr-in-Some-other.result _ _ _ _ _ _ _ _ c.in_ok-expr-in-If.ensures.binders c.in_ok-expr-in-If-2.ensures.binders c.expr-in-Some-other.ensures.binders
    (binds_if c.args.kind.now c.args.node c.get-in-If.result.now c.get-in-If-2.result.now c.get-in-Some-other.result.now (c.in-If.is ∙ (ap₂ (λ x y. E.If x y c.in-If.other) (sym c.get-in-If.ensures) (sym c.get-in-If-2.ensures) ∙ ap (E.If c.get-in-If.result.now c.get-in-If-2.result.now) (c.in-Some-other.is ∙ ap (λ x. Some x) (sym c.get-in-Some-other.ensures)))))

pub kind-returns-in-None-other-clause-binders : goal.kind-returns-in-None-other-clause-binders
kind-returns-in-None-other-clause-binders t c =
    two_parts_alone _ _ _ _ _ _ c.in_ok-expr-in-If.ensures.binders c.in_ok-expr-in-If-2.ensures.binders
    (binds_if_alone c.args.kind.now c.args.node c.get-in-If.result.now c.get-in-If-2.result.now (c.in-If.is ∙ (ap₂ (λ x y. E.If x y c.in-If.other) (sym c.get-in-If.ensures) (sym c.get-in-If-2.ensures) ∙ ap (E.If c.get-in-If.result.now c.get-in-If-2.result.now) c.in-None-other.is)))

pub kind-returns-in_ok-params-in-Fun-clause-binders : goal.kind-returns-in_ok-params-in-Fun-clause-binders
kind-returns-in_ok-params-in-Fun-clause-binders t c =
    two_parts c.expr-in-Fun.result _ _ _ _ _ _ c.in_ok-params-in-Fun.ensures.binders c.expr-in-Fun.ensures.binders
    (binds_fun c.args.kind.now c.args.node c.as_slice-in-Fun.result.now c.get-in-Fun.result.now (c.in-Fun.is ∙ ap₂ E.Fun (sym c.as_slice-in-Fun.ensures) (sym c.get-in-Fun.ensures)))

pub kind-returns-in_ok-use_at-in-Borrow-clause-binders : goal.kind-returns-in_ok-use_at-in-Borrow-clause-binders
kind-returns-in_ok-use_at-in-Borrow-clause-binders t c =
    two_parts c.expr-in-Borrow.result _ _ _ _ _ _ (c.in_ok-use_at-in-Borrow.ensures.binders ∙ c.in_ok-push-in-Borrow.ensures.items) c.expr-in-Borrow.ensures.binders
    (binds_borrow c.args.kind.now c.args.node c.in-Borrow.name c.in-Borrow.of c.get-in-Borrow.result.now (c.in-Borrow.is ∙ ap (E.Borrow c.in-Borrow.name c.in-Borrow.of) (sym c.get-in-Borrow.ensures)))

pub kind-returns-in-Tuple-clause-binders : goal.kind-returns-in-Tuple-clause-binders
kind-returns-in-Tuple-clause-binders t c =
    one_part c.exprs-in-Tuple.result _ _ _ _ c.exprs-in-Tuple.ensures.binders
    (binds_parts c.args.kind.now c.args.node c.as_slice-in-Tuple.result.now (parts_are c.args.kind.now _ _ c.in-Tuple.is c.as_slice-in-Tuple.ensures))

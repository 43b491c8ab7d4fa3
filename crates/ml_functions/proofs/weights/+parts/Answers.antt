use Rattle.std.proofs.Common.{sym, ap₂, ◌∙◌}
use Rattle.ml_tree.specs.declared.expr.ExprKind.TheVariants as E
use Rattle.ml_meaning.specs.Weights.{expressions_of, expressions_of_arm, expressions_of_bind}
use Rattle.ml_functions.specs.Parts.{expressions_of_field}
use Rattle.ml_functions.proofs.Counts.{counts_end, counts_both}
use Rattle.ml_functions.proofs.Folded.{counts_apply, counts_let, counts_match}
use Rattle.ml_functions.proofs.weights.+parts.Goals as goal

pub of_arms-returns : goal.of_arms-returns
of_arms-returns t c = counts_end expressions_of_arm c.args.list.now c.loop-one.one-index c.loop-one.total c.loop-one-test.false c.loop-one.invariant.0 c.loop-one.invariant.1

pub of_binds-returns : goal.of_binds-returns
of_binds-returns t c = counts_end expressions_of_bind c.args.list.now c.loop-one.one-index c.loop-one.total c.loop-one-test.false c.loop-one.invariant.0 c.loop-one.invariant.1

pub of_exprs-returns : goal.of_exprs-returns
of_exprs-returns t c = counts_end expressions_of c.args.list.now c.loop-one.one-index c.loop-one.total c.loop-one-test.false c.loop-one.invariant.0 c.loop-one.invariant.1

pub of_fields-returns : goal.of_fields-returns
of_fields-returns t c = counts_end expressions_of_field c.args.list.now c.loop-one.one-index c.loop-one.total c.loop-one-test.false c.loop-one.invariant.0 c.loop-one.invariant.1

pub of_kind-returns-in-Apply : goal.of_kind-returns-in-Apply
of_kind-returns-in-Apply t c =
    counts_both _ _ _ _ _ _ (counts_apply c.args.kind.now c.get-in-Apply.result.now c.as_slice-in-Apply.result.now (c.in-Apply.is ∙ ap₂ E.Apply (sym c.get-in-Apply.ensures) (sym c.as_slice-in-Apply.ensures)))
    c.of_expr-in-Apply.ensures c.of_exprs.ensures c.saturating_add.ensures

pub of_kind-returns-in-Let : goal.of_kind-returns-in-Let
of_kind-returns-in-Let t c =
    counts_both _ _ _ _ _ _ (counts_let c.args.kind.now c.in-Let.recursive c.as_slice-in-Let.result.now c.get-in-Let.result.now (c.in-Let.is ∙ ap₂ (E.Let c.in-Let.recursive) (sym c.as_slice-in-Let.ensures) (sym c.get-in-Let.ensures)))
    c.of_binds.ensures c.of_expr-in-Let.ensures c.saturating_add-in-Let.ensures

pub of_kind-returns-in-Match : goal.of_kind-returns-in-Match
of_kind-returns-in-Match t c =
    counts_both _ _ _ _ _ _ (counts_match c.args.kind.now c.get-in-Match.result.now c.as_slice-in-Match.result.now (c.in-Match.is ∙ ap₂ E.Match (sym c.get-in-Match.ensures) (sym c.as_slice-in-Match.ensures)))
    c.of_expr-in-Match.ensures c.of_arms.ensures c.saturating_add-in-Match.ensures

use Rattle.ml_tree.specs.declared.expr.ExprKind.TheVariants.{Tuple, List, Seq, Fields, Function, Apply, Match, Let}
use Rattle.ml_numbers.specs.Numbered.{numbered_expr, numbered_kind, numbered_field, numbered_arm, numbered_bind}
use Rattle.ml_numbers.proofs.Forms.{of_list, with_list, behind_list, tuple, list, seq, fields, function, apply, cases, bindings}
use Rattle.ml_numbers.proofs.Lists.{each_step, each_end}
use Rattle.ml_numbers.proofs.expr.+expressions.Goals as goal

pub number_kind-returns-in_ok-number_exprs-in-Tuple : goal.number_kind-returns-in_ok-number_exprs-in-Tuple
number_kind-returns-in_ok-number_exprs-in-Tuple t c = of_list numbered_kind numbered_expr Tuple c.args.kind.now _ _ _ _ _ tuple c.in-Tuple.is c.as_slice.ensures c.in_ok-number_exprs-in-Tuple.ensures

pub number_kind-returns-in_ok-number_exprs-in-List : goal.number_kind-returns-in_ok-number_exprs-in-List
number_kind-returns-in_ok-number_exprs-in-List t c = of_list numbered_kind numbered_expr List c.args.kind.now _ _ _ _ _ list c.in-List.is c.as_slice-in-List.ensures c.in_ok-number_exprs-in-List.ensures

pub number_kind-returns-in_ok-number_fields-in-Fields : goal.number_kind-returns-in_ok-number_fields-in-Fields
number_kind-returns-in_ok-number_fields-in-Fields t c = of_list numbered_kind numbered_field Fields c.args.kind.now _ _ _ _ _ fields c.in-Fields.is c.as_slice-in-Fields.ensures c.in_ok-number_fields-in-Fields.ensures

pub number_kind-returns-in_ok-number_exprs-in-Seq : goal.number_kind-returns-in_ok-number_exprs-in-Seq
number_kind-returns-in_ok-number_exprs-in-Seq t c = of_list numbered_kind numbered_expr Seq c.args.kind.now _ _ _ _ _ seq c.in-Seq.is c.as_slice-in-Seq.ensures c.in_ok-number_exprs-in-Seq.ensures

pub number_kind-returns-in_ok-number_arms-in-Function : goal.number_kind-returns-in_ok-number_arms-in-Function
number_kind-returns-in_ok-number_arms-in-Function t c = of_list numbered_kind numbered_arm Function c.args.kind.now _ _ _ _ _ function c.in-Function.is c.as_slice-in-Function.ensures c.in_ok-number_arms-in-Function.ensures

pub number_kind-returns-in_ok-args-in-Apply : goal.number_kind-returns-in_ok-args-in-Apply
number_kind-returns-in_ok-args-in-Apply t c = with_list numbered_kind numbered_expr numbered_expr Apply c.args.kind.now _ _ _ _ _ _ _ _ apply c.in-Apply.is c.in_ok-function-in-Apply.ensures c.as_slice-in-Apply.ensures c.in_ok-args-in-Apply.ensures

pub number_kind-returns-in_ok-arms-in-Match : goal.number_kind-returns-in_ok-arms-in-Match
number_kind-returns-in_ok-arms-in-Match t c = with_list numbered_kind numbered_expr numbered_arm Match c.args.kind.now _ _ _ _ _ _ _ _ cases c.in-Match.is c.in_ok-scrutinee-in-Match.ensures c.as_slice-in-Match.ensures c.in_ok-arms-in-Match.ensures

pub number_kind-returns-in_ok-body-in-Let : goal.number_kind-returns-in_ok-body-in-Let
number_kind-returns-in_ok-body-in-Let t c = behind_list numbered_kind numbered_bind numbered_expr (Let c.in-Let.recursive) c.args.kind.now _ _ _ _ _ _ _ _ (bindings c.in-Let.recursive) c.in-Let.is c.as_slice-in-Let.ensures c.in_ok-binds-in-Let.ensures c.in_ok-body-in-Let.ensures

pub number_exprs-loop-one-preserved : goal.number_exprs-loop-one-preserved
number_exprs-loop-one-preserved t c = each_step numbered_expr c.args.list.now c.loop-one.one-index _ _ _ _ _ _ _ c.loop-one-test.true c.one-item.is c.in_ok-number_expr.ensures c.in_ok-push.ensures.ok c.loop-one.invariant

pub number_exprs-returns : goal.number_exprs-returns
number_exprs-returns t c = each_end numbered_expr c.args.list.now c.loop-one.one-index _ _ _ c.loop-one-test.false c.loop-one.invariant

pub number_fields-loop-one-preserved : goal.number_fields-loop-one-preserved
number_fields-loop-one-preserved t c = each_step numbered_field c.args.list.now c.loop-one.one-index _ _ _ _ _ _ _ c.loop-one-test.true c.one-item.is c.in_ok-number_field.ensures c.in_ok-push.ensures.ok c.loop-one.invariant

pub number_fields-returns : goal.number_fields-returns
number_fields-returns t c = each_end numbered_field c.args.list.now c.loop-one.one-index _ _ _ c.loop-one-test.false c.loop-one.invariant

pub number_arms-loop-one-preserved : goal.number_arms-loop-one-preserved
number_arms-loop-one-preserved t c = each_step numbered_arm c.args.list.now c.loop-one.one-index _ _ _ _ _ _ _ c.loop-one-test.true c.one-item.is c.in_ok-number_arm.ensures c.in_ok-push.ensures.ok c.loop-one.invariant

pub number_arms-returns : goal.number_arms-returns
number_arms-returns t c = each_end numbered_arm c.args.list.now c.loop-one.one-index _ _ _ c.loop-one-test.false c.loop-one.invariant

pub number_binds-loop-one-preserved : goal.number_binds-loop-one-preserved
number_binds-loop-one-preserved t c = each_step numbered_bind c.args.list.now c.loop-one.one-index _ _ _ _ _ _ _ c.loop-one-test.true c.one-item.is c.in_ok-number_bind.ensures c.in_ok-push.ensures.ok c.loop-one.invariant

pub number_binds-returns : goal.number_binds-returns
number_binds-returns t c = each_end numbered_bind c.args.list.now c.loop-one.one-index _ _ _ c.loop-one-test.false c.loop-one.invariant

use Rattle.std.proofs.Common.{List, map, Option, refl}
use Rattle.std.specs.Option.{option_map}
use Rattle.ml_tree.specs.declared.pattern.Param.{Param}
use Rattle.ml_tree.specs.declared.expr.Expr.{Expr}
use Rattle.ml_tree.specs.declared.expr.Arm.{Arm}
use Rattle.ml_tree.specs.declared.expr.Bind.{Bind}
use Rattle.ml_mentions.specs.Lists.{all}
use Rattle.ml_mentions.specs.Mentions.{mentions}
use Rattle.ml_mentions.proofs.Appends.{all_step, all_end}
use Rattle.ml_mentions.proofs.Forms.{on_two, on_three, by_two, by_three, apply, binary, conditional, matching, local, fun, typed}
use Rattle.ml_mentions.specs.Written.{perhaps, in_param, in_expr, in_arm, in_bind, in_field}
use Rattle.ml_mentions.proofs.written.+expressions.Goals as goal

pub expression_kind-returns-in_ok-expression-in-Apply : goal.expression_kind-returns-in_ok-expression-in-Apply
expression_kind-returns-in_ok-expression-in-Apply t c = on_two c.expressions-in-Apply.result _ _ _ _ _ _ c.in_ok-expression-in-Apply.ensures c.expressions-in-Apply.ensures (by_two in_expr (λ (ys : List Expr). all (map in_expr ys)) c.args.kind.now _ _ _ _ _ c.in-Apply.is (apply c.in-Apply.function c.in-Apply.args) c.get-in-Apply.ensures c.as_slice-in-Apply.ensures)

pub expression_kind-returns-in_ok-expression-in-Binary : goal.expression_kind-returns-in_ok-expression-in-Binary
expression_kind-returns-in_ok-expression-in-Binary t c = on_two c.expression-in-Binary-2.result _ _ _ _ _ _ c.in_ok-expression-in-Binary.ensures c.expression-in-Binary-2.ensures (by_two in_expr in_expr c.args.kind.now _ _ _ _ _ c.in-Binary.is (binary c.in-Binary.field-0 c.in-Binary.one c.in-Binary.other) c.get-in-Binary.ensures c.get-in-Binary-2.ensures)

pub expression_kind-returns-in_ok-expression-in-If-2 : goal.expression_kind-returns-in_ok-expression-in-If-2
expression_kind-returns-in_ok-expression-in-If-2 t c = on_three c.operand.result _ _ _ _ _ _ _ _ c.in_ok-expression-in-If.ensures c.in_ok-expression-in-If-2.ensures c.operand.ensures (by_three in_expr in_expr (λ (o : Option Expr). perhaps (option_map in_expr o)) c.args.kind.now _ _ _ _ _ _ c.in-If.is (conditional c.in-If.condition c.in-If.branch c.in-If.other) c.get-in-If.ensures c.get-in-If-2.ensures)

pub expression_kind-returns-in_ok-bindings-in-Let : goal.expression_kind-returns-in_ok-bindings-in-Let
expression_kind-returns-in_ok-bindings-in-Let t c = on_two c.expression-in-Let.result _ _ _ _ _ _ c.in_ok-bindings-in-Let.ensures c.expression-in-Let.ensures (by_two (λ (ys : List Bind). all (map in_bind ys)) in_expr c.args.kind.now _ _ _ _ _ c.in-Let.is (local c.in-Let.recursive c.in-Let.binds c.in-Let.body) c.as_slice-in-Let.ensures c.get-in-Let.ensures)

pub expression_kind-returns-in_ok-expression-in-Match : goal.expression_kind-returns-in_ok-expression-in-Match
expression_kind-returns-in_ok-expression-in-Match t c = on_two c.arms.result _ _ _ _ _ _ c.in_ok-expression-in-Match.ensures c.arms.ensures (by_two in_expr (λ (ys : List Arm). all (map in_arm ys)) c.args.kind.now _ _ _ _ _ c.in-Match.is (matching c.in-Match.scrutinee c.in-Match.list) c.get-in-Match.ensures c.as_slice-in-Match.ensures)

pub expression_kind-returns-in_ok-params-in-Fun : goal.expression_kind-returns-in_ok-params-in-Fun
expression_kind-returns-in_ok-params-in-Fun t c = on_two c.expression-in-Fun.result _ _ _ _ _ _ c.in_ok-params-in-Fun.ensures c.expression-in-Fun.ensures (by_two (λ (ps : List Param). all (map in_param ps)) in_expr c.args.kind.now _ _ _ _ _ c.in-Fun.is (fun c.in-Fun.list c.in-Fun.body) c.as_slice-in-Fun.ensures c.get-in-Fun.ensures)

pub expression_kind-returns-in_ok-expression-in-Typed : goal.expression_kind-returns-in_ok-expression-in-Typed
expression_kind-returns-in_ok-expression-in-Typed t c = on_two c.push_mentions.result _ _ _ _ _ _ c.in_ok-expression-in-Typed.ensures c.push_mentions.ensures (by_two in_expr mentions c.args.kind.now _ _ _ _ _ c.in-Typed.is (typed c.in-Typed.inner c.in-Typed.ty) c.get-in-Typed.ensures refl)

pub expressions-loop-one-preserved : goal.expressions-loop-one-preserved
expressions-loop-one-preserved t c = all_step in_expr c.args.list.now c.loop-one.one-index _ _ _ _ c.loop-one-test.true c.one-item.is c.in_ok-expression.ensures c.loop-one.invariant

pub expressions-returns : goal.expressions-returns
expressions-returns t c = all_end in_expr c.args.list.now c.loop-one.one-index _ _ c.loop-one-test.false c.loop-one.invariant

pub fields-loop-one-preserved : goal.fields-loop-one-preserved
fields-loop-one-preserved t c = all_step in_field c.args.list.now c.loop-one.one-index _ _ _ _ c.loop-one-test.true c.one-item.is c.in_ok-field.ensures c.loop-one.invariant

pub fields-returns : goal.fields-returns
fields-returns t c = all_end in_field c.args.list.now c.loop-one.one-index _ _ c.loop-one-test.false c.loop-one.invariant

pub arms-loop-one-preserved : goal.arms-loop-one-preserved
arms-loop-one-preserved t c = all_step in_arm c.args.list.now c.loop-one.one-index _ _ _ _ c.loop-one-test.true c.one-item.is c.in_ok-arm.ensures c.loop-one.invariant

pub arms-returns : goal.arms-returns
arms-returns t c = all_end in_arm c.args.list.now c.loop-one.one-index _ _ c.loop-one-test.false c.loop-one.invariant

pub bindings-loop-one-preserved : goal.bindings-loop-one-preserved
bindings-loop-one-preserved t c = all_step in_bind c.args.list.now c.loop-one.one-index _ _ _ _ c.loop-one-test.true c.one-item.is c.in_ok-binding.ensures c.loop-one.invariant

pub bindings-returns : goal.bindings-returns
bindings-returns t c = all_end in_bind c.args.list.now c.loop-one.one-index _ _ c.loop-one-test.false c.loop-one.invariant

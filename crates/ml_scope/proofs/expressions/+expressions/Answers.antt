use Rattle.std.proofs.Common.{◌≡◌, ◌-◌, sym, subst, OnOk, map, false, drop, length}
use Rattle.ml_scope.specs.Journal.{each}
use Rattle.ml_scope.specs.Expressions.{expr_seen, kind_seen, bind_seen, field_seen, bind_names}
use Rattle.ml_scope.proofs.ExpressionLayers.{record_look, let_look, function_look}
use Rattle.ml_scope.proofs.Leaving.{bound_left}
use Rattle.ml_scope.proofs.expressions.+expressions.Goals as goal

pub expression_kind-returns-in_ok-record_expression-in-Fields-clause-journal :
    goal.expression_kind-returns-in_ok-record_expression-in-Fields-clause-journal
expression_kind-returns-in_ok-record_expression-in-Fields-clause-journal t c =
    let same : each (map (λ f. f.look c.args.scope.now) (map (field_seen c.args.known.now) c.as_slice-in-Fields.result.now)) c.record_expression.new.journal ≡ (kind_seen c.args.known.now c.args.kind.now).look c.args.id c.args.span c.args.scope.now c.args.journal.now =
    rw (c.in-Fields.is, c.as_slice-in-Fields.ensures, c.in_ok-record_expression-in-Fields.ensures, c.as_slice.ensures) (sym (record_look c.args.known.now c.args.id c.args.span c.in-Fields.list c.args.scope.now c.args.journal.now)) in
    subst (λ x. OnOk c.fields.result (c.fields.new.journal ≡ x)) same c.fields.ensures.journal

pub expression_kind-returns-in_ok-group-in-Let-clause-scope :
    goal.expression_kind-returns-in_ok-group-in-Let-clause-scope
expression_kind-returns-in_ok-group-in-Let-clause-scope t c =
    let same : drop (length c.group.new.scope - c.len-outer.result) c.group.new.scope ≡ c.args.scope.now =
    rw (c.in_ok-group-in-Let.ensures.scope, c.len-outer.ensures) (bound_left c.args.known.now false (bind_names c.args.known.now (map (bind_seen c.args.known.now) c.as_slice-in-Let.result.now)) c.args.scope.now) in
    subst (λ x. OnOk c.let_body.result (c.let_body.new.scope ≡ x)) same c.let_body.ensures.scope

pub expression_kind-returns-in_ok-group-in-Let-clause-journal :
    goal.expression_kind-returns-in_ok-group-in-Let-clause-journal
expression_kind-returns-in_ok-group-in-Let-clause-journal t c =
    let same : (expr_seen c.args.known.now c.get-in-Let.result.now).look c.group.new.scope c.group.new.journal ≡ (kind_seen c.args.known.now c.args.kind.now).look c.args.id c.args.span c.args.scope.now c.args.journal.now =
    rw (c.in_ok-group-in-Let.ensures.scope, c.in_ok-group-in-Let.ensures.journal, c.in-Let.is, c.get-in-Let.ensures, c.as_slice-in-Let.ensures, c.in_ok-offence_where-in-Let.ensures, c.both-left_out.ensures, c.len.ensures) (sym (let_look c.args.known.now c.args.id c.args.span c.in-Let.recursive c.in-Let.binds c.in-Let.body c.args.scope.now c.args.journal.now)) in
    subst (λ x. OnOk c.let_body.result (c.let_body.new.journal ≡ x)) same c.let_body.ensures.journal

pub expression_kind-returns-in_ok-push-in-Function-2-clause-journal :
    goal.expression_kind-returns-in_ok-push-in-Function-2-clause-journal
expression_kind-returns-in_ok-push-in-Function-2-clause-journal t c =
    rw (c.in_ok-push-in-Function-2.ensures.ok, c.in_ok-arms-in-Function.ensures.journal, c.in_ok-push-in-Function.ensures.ok, c.as_slice-in-Function.ensures, c.in-Function.is) (sym (function_look c.args.known.now c.args.id c.args.span c.in-Function.list c.args.scope.now c.args.journal.now))

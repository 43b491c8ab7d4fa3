use Rattle.std.proofs.Common.{◌≢◌, drop, refl, sym, ap, ◌∙◌}
use Rattle.ml_cursor.specs.declared.front.Front.TheVariants as Front
use Rattle.ml_cursor.specs.Fronts.{front}
use Rattle.ml_grammar.specs.Looks.{joins_operands}
use Rattle.ml_parse_forms.proofs.ListLooks.{other_stands, no_statement, behind_no_semi, statement_by, behind_joining, behind_trailing}
use Rattle.ml_parse_forms.proofs.lists.goes_on_statements.Goals as goal

pub returns-then-not-accept-clause-goes : goal.returns-then-not-accept-clause-goes
returns-then-not-accept-clause-goes c = no_statement (drop c.args.at.now c.args.source.now.tokens.now) (other_stands c.accept.ensures.stands c.if-not-accept.true)

pub returns-then-not-accept-clause-place : goal.returns-then-not-accept-clause-place
returns-then-not-accept-clause-place c =
    let other : front (drop c.args.at.now c.args.source.now.tokens.now) ≢ Front.Semi = other_stands c.accept.ensures.stands c.if-not-accept.true in
    behind_no_semi _ _ other (ap (λ k. drop k c.args.source.now.tokens.now) (c.accept.ensures.stays other))

pub returns-then-begins_expression-clause-goes : goal.returns-then-begins_expression-clause-goes
returns-then-begins_expression-clause-goes c =
    statement_by (drop c.args.at.now c.args.source.now.tokens.now) (drop c.accept.new.at c.args.source.now.tokens.now) (c.accept.ensures.stands.0 c.if-not-accept.false) (c.accept.ensures.passed c.if-not-accept.false) (sym c.if-begins_expression.true ∙ c.begins_expression.ensures)

pub returns-then-joins_operands-clause-goes : goal.returns-then-joins_operands-clause-goes
returns-then-joins_operands-clause-goes c =
    statement_by (drop c.args.at.now c.args.source.now.tokens.now) (drop c.accept.new.at c.args.source.now.tokens.now) (c.accept.ensures.stands.0 c.if-not-accept.false) (c.accept.ensures.passed c.if-not-accept.false) (sym c.if-begins_expression.false ∙ c.begins_expression.ensures)

pub returns-then-joins_operands-clause-place : goal.returns-then-joins_operands-clause-place
returns-then-joins_operands-clause-place c =
    behind_joining (drop c.args.at.now c.args.source.now.tokens.now) (drop c.accept.new.at c.args.source.now.tokens.now) _ (c.accept.ensures.stands.0 c.if-not-accept.false) (c.accept.ensures.passed c.if-not-accept.false) (sym c.if-joins_operands.true ∙ (c.joins_operands.ensures ∙ ap joins_operands c.front_at.ensures)) refl

pub returns-clause-goes : goal.returns-clause-goes
returns-clause-goes c =
    statement_by (drop c.args.at.now c.args.source.now.tokens.now) (drop c.accept.new.at c.args.source.now.tokens.now) (c.accept.ensures.stands.0 c.if-not-accept.false) (c.accept.ensures.passed c.if-not-accept.false) (sym c.if-begins_expression.false ∙ c.begins_expression.ensures)

pub returns-clause-place : goal.returns-clause-place
returns-clause-place c =
    behind_trailing (drop c.args.at.now c.args.source.now.tokens.now) (drop c.accept.new.at c.args.source.now.tokens.now) (c.accept.ensures.stands.0 c.if-not-accept.false) (c.accept.ensures.passed c.if-not-accept.false) (sym c.if-joins_operands.false ∙ (c.joins_operands.ensures ∙ ap joins_operands c.front_at.ensures))

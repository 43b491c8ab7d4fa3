use Rattle.std.proofs.Common.{◌≢◌, drop, ap}
use Rattle.ml_cursor.specs.declared.front.Front.TheVariants as Front
use Rattle.ml_cursor.specs.Fronts.{front}
use Rattle.ml_parse_forms.proofs.ListLooks.{other_stands, no_field, behind_field, field_by, behind_field_semi}
use Rattle.ml_parse_forms.proofs.lists.field_follows.Goals as goal

pub returns-then-not-accept-clause-goes : goal.returns-then-not-accept-clause-goes
returns-then-not-accept-clause-goes c = no_field (drop c.args.at.now c.args.tokens.now) (other_stands c.accept.ensures.stands c.if-not-accept.true)

pub returns-then-not-accept-clause-place : goal.returns-then-not-accept-clause-place
returns-then-not-accept-clause-place c =
    let other : front (drop c.args.at.now c.args.tokens.now) ≢ Front.Semi = other_stands c.accept.ensures.stands c.if-not-accept.true in
    behind_field _ _ other (ap (λ k. drop k c.args.tokens.now) (c.accept.ensures.stays other))

pub returns-clause-goes : goal.returns-clause-goes
returns-clause-goes c =
    field_by (drop c.args.at.now c.args.tokens.now) (drop c.accept.new.at c.args.tokens.now) (c.accept.ensures.stands.0 c.if-not-accept.false) (c.accept.ensures.passed c.if-not-accept.false) c.stands.ensures

pub returns-clause-place : goal.returns-clause-place
returns-clause-place c =
    behind_field_semi c.stands.result (drop c.args.at.now c.args.tokens.now) (drop c.accept.new.at c.args.tokens.now) (c.accept.ensures.stands.0 c.if-not-accept.false) (c.accept.ensures.passed c.if-not-accept.false)

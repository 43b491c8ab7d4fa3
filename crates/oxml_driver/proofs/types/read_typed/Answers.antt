use Rattle.oxml_driver.proofs.TypeLemmas.{is_well_typed, types_fail, types_pass}
use Rattle.oxml_driver.proofs.types.read_typed.Goals as goal

pub returns-in-Ok-clause-ok : goal.returns-in-Ok-clause-ok
returns-in-Ok-clause-ok c =
    let made = c.in_ok-scoped.field-0 in
    is_well_typed c.args.source.now made.scoped made.decls made.table c.in-Ok.field-0 c.in_ok-scoped.ensures.ok c.in-Ok.ensures.ok

-- a rule of types is violated
pub returns-in-Err-Refused-clause-err : goal.returns-in-Err-Refused-clause-err
returns-in-Err-Refused-clause-err c =
    let made = c.in_ok-scoped.field-0 in
    let why = rw c.in-Err-Refused.field-0-is at c.in-Err-Refused.ensures.err in
    types_fail c.args.source.now made.scoped made.decls made.table c.in-Err-Refused.refusal c.requires.short c.in_ok-scoped.ensures.ok why

-- a type is too large
pub returns-in-Err-Limit-clause-err : goal.returns-in-Err-Limit-clause-err
returns-in-Err-Limit-clause-err c =
    let made = c.in_ok-scoped.field-0 in
    let why = rw c.in-Err-Limit.field-0-is at c.in-Err-Limit.ensures.err in
    types_pass c.args.source.now made.scoped made.decls made.table c.in-Err-Limit.limit c.in-Err-Limit.span c.requires.short c.in_ok-scoped.ensures.ok why

use Rattle.oxml_driver.proofs.FrontLemmas.{is_scoped, names_fail, names_pass}
use Rattle.oxml_driver.proofs.names.read_scoped.Goals as goal

pub returns-in-Ok-clause-ok : goal.returns-in-Ok-clause-ok
returns-in-Ok-clause-ok c =
    is_scoped c.args.source.now c.args.text.now c.in_ok-program.program c.in-Ok.scoped c.requires.text c.in_ok-program.ensures.ok c.in-Ok.ensures.ok

-- a name violates a rule
pub returns-in-Err-Refused-clause-err : goal.returns-in-Err-Refused-clause-err
returns-in-Err-Refused-clause-err c =
    let why = rw c.in-Err-Refused.field-0-is at c.in-Err-Refused.ensures.err in
    names_fail c.args.source.now c.args.text.now c.in_ok-program.program c.in-Err-Refused.refusal c.requires.short c.requires.text c.in_ok-program.ensures.ok why

-- there are too many captures
pub returns-in-Err-Limit-clause-err : goal.returns-in-Err-Limit-clause-err
returns-in-Err-Limit-clause-err c =
    let why = rw c.in-Err-Limit.field-0-is at c.in-Err-Limit.ensures.err in
    names_pass c.args.source.now c.args.text.now c.in_ok-program.program c.in-Err-Limit.limit c.requires.short c.requires.text c.in_ok-program.ensures.ok why

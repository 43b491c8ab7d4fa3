use Rattle.oxml_driver.proofs.FrontLemmas.{declarations_fail, is_declared}
use Rattle.oxml_driver.proofs.declarations.read_declared.Goals as goal

pub returns-in-Ok-clause-ok : goal.returns-in-Ok-clause-ok
returns-in-Ok-clause-ok c = record {
  is_declared = is_declared c.args.source.now c.args.text.now c.in_ok-scoped.scoped c.requires.text c.in_ok-scoped.ensures.ok c.in-Ok.ensures.ok.sound;
  declares = c.in-Ok.ensures.ok.declares;
}

-- a declaration violates a rule
pub returns-in-Err-Refused-clause-err : goal.returns-in-Err-Refused-clause-err
returns-in-Err-Refused-clause-err c =
    let why = rw c.in-Err-Refused.field-0-is at c.in-Err-Refused.ensures.err in
    declarations_fail c.args.source.now c.args.text.now c.in_ok-scoped.scoped c.in-Err-Refused.refusal c.requires.short c.requires.text c.in_ok-scoped.ensures.ok why

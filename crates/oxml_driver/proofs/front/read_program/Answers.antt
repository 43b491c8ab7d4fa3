use Rattle.oxml_driver.proofs.FrontLemmas.{syntax_fails}
use Rattle.oxml_driver.proofs.front.read_program.Goals as goal

-- the tokens have no tree
pub returns-in-Err-Refused-clause-err : goal.returns-in-Err-Refused-clause-err
returns-in-Err-Refused-clause-err c =
    let why = rw (c.in-Err-Refused.field-0-is, c.as_slice.ensures) at c.in-Err-Refused.ensures.err in
    syntax_fails c.args.source.now c.args.text.now c.in_ok-tokens.tokens c.in-Err-Refused.refusal c.requires.short c.requires.text c.in_ok-tokens.ensures.ok why.0.rule_is why.1.none

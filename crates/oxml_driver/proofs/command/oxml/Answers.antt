use Rattle.oxml_driver.proofs.DecidedLemmas.{decided}
use Rattle.oxml_driver.proofs.command.oxml.Goals as goal

pub returns-clause-answers : goal.returns-clause-answers
returns-clause-answers g c = c.answer.ensures _

pub returns-clause-decided : goal.returns-clause-decided
returns-clause-decided g c = decided _ _ _ _ (c.answer.ensures _)

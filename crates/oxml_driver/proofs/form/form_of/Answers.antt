use Rattle.oxml_driver.specs.Form.{prints}
use Rattle.oxml_driver.proofs.form.form_of.Goals as goal

pub returns-in-Some : goal.returns-in-Some
returns-in-Some c = prints c.if-item-size.false c.in-Some.ensures.some

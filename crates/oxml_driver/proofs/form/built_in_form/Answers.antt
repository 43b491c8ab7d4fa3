use Rattle.oxml_driver.specs.Form.{built_in}
use Rattle.oxml_driver.proofs.form.built_in_form.Goals as goal

pub returns-then-binds_functions : goal.returns-then-binds_functions
returns-then-binds_functions c =
    built_in c.requires.behind (c.binds_functions.ensures.0 c.if-binds_functions.true)

use Rattle.oxml_driver.proofs.FormLemmas.{stands_for}
use Rattle.oxml_driver.proofs.form.is_print_string.Goals as goal

pub returns-in-Name : goal.returns-in-Name
returns-in-Name c =
    stands_for c.args.scoped.now c.args.e.now c.in-Name.field-0 c.target.result c.prints_string.result c.in-Name.is c.target.ensures c.prints_string.ensures

use Rattle.oxml_driver.proofs.FormLemmas.{item_none, item_some}
use Rattle.oxml_driver.proofs.form.printed.Goals as goal

pub returns-clause-some : goal.returns-clause-some
returns-clause-some c =
    item_some c.args.scoped.now c.args.item.now c.in_ok-bind.bind.now c.printed_by.result c.in_ok-bind.ensures.some (c.is_unit.ensures.0 c.if-not-is_unit.false) c.printed_by.ensures.some

pub returns-clause-none : goal.returns-clause-none
returns-clause-none c =
    item_none c.args.scoped.now c.args.item.now c.in_ok-bind.bind.now c.printed_by.result c.in_ok-bind.ensures.some c.printed_by.ensures.none

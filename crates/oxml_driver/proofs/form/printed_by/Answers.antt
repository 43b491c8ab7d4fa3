use Rattle.oxml_driver.proofs.FormLemmas.{prints_some}
use Rattle.oxml_driver.proofs.form.printed_by.Goals as goal

pub returns-in-len1-clause-some : goal.returns-in-len1-clause-some
returns-in-len1-clause-some c =
    let one = rw c.as_slice.ensures at c.in-len1.len_at_least in
    let few = rw c.as_slice.ensures at c.in-len1.len_below in
    let first = rw c.as_slice.ensures at c.argument-item.is in
    let is = rw c.get.ensures at (c.is_print_string.ensures.0 c.if-is_print_string.true) in
    prints_some c.args.scoped.now c.args.e.now _ c.argument-item.result _ c.literal_of.result c.in-Apply.is one few first is c.literal_of.ensures.some

-- Each item is told once its text is added.
use Rattle.std.proofs.lemmas.List.{drop_all}
use Rattle.oxml_driver.specs.Printer.{bytes_of}
use Rattle.oxml_driver.proofs.FormLemmas.{told_all, told_error, told_step}
use Rattle.oxml_driver.proofs.form.item_texts.Goals as goal

pub returns-in-Err-clause-err : goal.returns-in-Err-clause-err
returns-in-Err-clause-err c =
    told_error c.args.scoped.now c.args.size c.args.items.now c.item-item.result c.loop-item.item-index (bytes_of c.loop-item.texts) c.in-Err.error c.loop-item-test.true c.item-item.is c.in-Err.ensures.err c.loop-item.invariant

pub loop-item-preserved : goal.loop-item-preserved
loop-item-preserved c =
    told_step c.args.scoped.now c.args.size c.args.items.now c.item-item.result c.loop-item.item-index (bytes_of c.loop-item.texts) (bytes_of c.add_text.new.texts) c.loop-item-test.true c.item-item.is c.in_default.ensures.ok c.loop-item.invariant

pub returns-clause-ok : goal.returns-clause-ok
returns-clause-ok c =
    let all = drop_all c.loop-item.item-index c.args.items.now c.loop-item-test.false in
    told_all c.args.scoped.now c.args.size c.args.items.now (bytes_of c.loop-item.texts) (rw all at c.loop-item.invariant)

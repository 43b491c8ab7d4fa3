use Rattle.std.proofs.Common.{drop}
use Rattle.oxml_driver.specs.Printer.{bytes_of}
use Rattle.oxml_driver.proofs.FormLemmas.{Told}
use Rattle.oxml_driver.proofs.form.item_texts.Given as goal

abbrev pub invariant-loop-item : goal.invariant-loop-item
invariant-loop-item l =
    Told l.scoped l.size l.items (drop l.item-index l.items) (bytes_of l.texts)

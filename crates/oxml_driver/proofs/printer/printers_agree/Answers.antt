-- The law is a theorem over the definitions alone.
use Rattle.oxml_driver.proofs.PrinterTexts.{printer_agrees}
use Rattle.oxml_driver.proofs.printer.printers_agree.Goals as goal

pub returns : goal.returns
returns c = printer_agrees

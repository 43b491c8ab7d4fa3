use Rattle.oxml_driver.proofs.CompileLemmas.{are_printers}
use Rattle.oxml_driver.specs.Printer.{bytes_of}
use Rattle.oxml_driver.proofs.compile.build_printer.Goals as goal

-- what was written loads to the code of the texts
pub returns : goal.returns
returns c =
    are_printers (bytes_of c.args.texts.now) c.args.sizes c.in_ok-code.code (λ image. image.items) c.write_image.result c.in_ok-code.ensures c.write_image.ensures.loads

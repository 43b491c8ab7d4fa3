use Rattle.oxml_driver.specs.Build.{bytes}
use Rattle.oxml_driver.proofs.MeaningLemmas.{compiles}
use Rattle.oxml_driver.proofs.compile.compile.Goals as goal

pub returns-then-source-gt-MOST_BYTES-clause-err : goal.returns-then-source-gt-MOST_BYTES-clause-err
returns-then-source-gt-MOST_BYTES-clause-err c = bytes c.if-source-gt-MOST_BYTES.true

-- what prints the texts does what the program means
pub returns-in-Ok-clause-ok : goal.returns-in-Ok-clause-ok
returns-in-Ok-clause-ok c =
    let printer = rw c.as_slice.ensures at c.in-Ok.ensures in
    compiles c.args.source.now _ c.args.sizes c.in-Ok.image.items c.in_ok-texts.ensures.ok printer

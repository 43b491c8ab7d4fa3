use Rattle.std.proofs.Common.{refl}
use Rattle.oxml_driver.proofs.FrontLemmas.{form_fails}
use Rattle.oxml_driver.proofs.compile.texts_of.Goals as goal

pub returns-in-Ok-printed_texts-clause-ok : goal.returns-in-Ok-printed_texts-clause-ok
returns-in-Ok-printed_texts-clause-ok c = record {
  short = c.requires;
  scoped = c.in_ok-scoped.scoped;
  is_typed = c.in_ok-scoped.ensures.ok;
  print = c.in-Ok-printed_texts.ensures.ok;
}

-- an item of the file prints no text
pub returns-in-Err-LeftOut-clause-err : goal.returns-in-Err-LeftOut-clause-err
returns-in-Err-LeftOut-clause-err c =
    let left = rw c.in-Err-LeftOut.field-0-is at c.in-Err-LeftOut.ensures.err in
    form_fails c.args.source.now c.in_ok-scoped.scoped _ c.requires c.in_ok-scoped.ensures.ok refl left

use Rattle.std.proofs.Common.{refl}
use Rattle.oxml_driver.proofs.FrontLemmas.{file_err}
use Rattle.oxml_driver.proofs.front.file_tokens.Goals as goal

pub returns-clause-err : goal.returns-clause-err
returns-clause-err c =
    file_err c.args.source.now c.args.text.now _ c.tokens_of.result c.requires.short c.requires.text refl c.tokens_of.ensures.err

use Rattle.oxml_driver.proofs.FrontLemmas.{built_in_err, built_in_part_is}
use Rattle.oxml_driver.proofs.front.built_in_tokens.Goals as goal

pub returns-clause-err : goal.returns-clause-err
returns-clause-err c =
    built_in_err c.args.source.now c.args.text.now _ c.args._file.now c.tokens_of.result c.requires.short c.requires.text (built_in_part_is c.args.source.now c.args.text.now c.requires.text) c.requires.file c.tokens_of.ensures.err

use Rattle.std.proofs.Common.{◌∙◌}
use Rattle.oxml_driver.proofs.LineLemmas.{line_fits, column_fits}
use Rattle.oxml_driver.proofs.lines.place_of.Goals as goal

-- neither number stops at the greatest of 32 bits
pub returns-clause-line : goal.returns-clause-line
returns-clause-line c = c.line_col.ensures.line ∙ line_fits c.args.at c.args.source.now c.requires.short

pub returns-clause-column : goal.returns-clause-column
returns-clause-column c = c.line_col.ensures.column ∙ column_fits c.args.at c.args.source.now c.requires.short

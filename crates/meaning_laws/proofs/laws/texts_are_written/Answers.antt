use Rattle.meaning_laws.proofs.Printing.{program_ends, program_writes}
use Rattle.meaning_laws.proofs.laws.texts_are_written.Goals as goal

pub returns-clause-bytes : goal.returns-clause-bytes
returns-clause-bytes c s texts n print = program_writes s texts n print

pub returns-clause-ends : goal.returns-clause-ends
returns-clause-ends c s texts n print = program_ends s texts n print

-- What is read by guessing and comparing is what the clauses say of it.
use Rattle.x64_table.proofs.Rows.{reading}
use Rattle.x64_table.proofs.reading.decode.Goals as goal

pub returns-clause-value : goal.returns-clause-value
returns-clause-value c = (reading c.args.bytes.now c.read_row.result c.read_row.ensures).0

pub returns-clause-row : goal.returns-clause-row
returns-clause-row c = (reading c.args.bytes.now c.read_row.result c.read_row.ensures).1.0

pub returns-clause-none : goal.returns-clause-none
returns-clause-none c = (reading c.args.bytes.now c.read_row.result c.read_row.ensures).1.1

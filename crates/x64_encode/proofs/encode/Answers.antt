-- What is encoded reads back as itself.
use Rattle.x64_table.proofs.Rows.{decoded-encoding}
use Rattle.x64_encode.proofs.encode.Goals as goal

pub returns-clause-reads : goal.returns-clause-reads
returns-clause-reads c =
    λ rest. decoded-encoding c.args.i rest (c.form_of.ensures.row c.requires)

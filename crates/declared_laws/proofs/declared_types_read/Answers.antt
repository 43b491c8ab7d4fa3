use Rattle.declared_laws.proofs.Declared.{reads_declared}
use Rattle.declared_laws.proofs.declared_types_read.Goals as goal

pub returns : goal.returns
returns c text s decls table checked = reads_declared text s decls table checked

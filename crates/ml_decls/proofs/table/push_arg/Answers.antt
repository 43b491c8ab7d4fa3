use Rattle.std.proofs.Common.{refl}
use Rattle.ml_decls.proofs.table.push_arg.Goals as goal

pub returns-clause-says : goal.returns-clause-says
returns-clause-says c = record { words = refl; ty = c.in_ok-ty.ensures.ty }

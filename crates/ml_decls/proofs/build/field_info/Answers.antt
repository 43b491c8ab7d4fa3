use Rattle.std.proofs.Common.{refl}
use Rattle.ml_decls.proofs.build.field_info.Goals as goal

pub returns-clause-says : goal.returns-clause-says
returns-clause-says c = record { name = refl; arg = c.in_ok-arg.ensures.says }

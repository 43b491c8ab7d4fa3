use Rattle.std.proofs.Common.{refl}
use Rattle.ml_decls.proofs.build.con_info.Goals as goal

pub returns-clause-says : goal.returns-clause-says
returns-clause-says c = record { name = refl; args = rw c.as_slice.ensures at c.in_ok-args.ensures.say }

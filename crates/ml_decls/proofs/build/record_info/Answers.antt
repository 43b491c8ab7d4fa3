use Rattle.std.proofs.Common.{refl}
use Rattle.ml_decls.proofs.build.record_info.Goals as goal

pub returns-clause-says : goal.returns-clause-says
returns-clause-says c = record { name = refl; vars = refl; cons = rw c.new.ensures tt; fields = c.in_ok-fields.ensures.say; alias = tt }

use Rattle.std.proofs.Common.{refl}
use Rattle.ml_decls.proofs.build.variant_info.Goals as goal

pub returns-clause-says : goal.returns-clause-says
returns-clause-says c = record { name = refl; vars = refl; cons = c.in_ok-cons.ensures.say; fields = rw c.new.ensures tt; alias = tt }

use Rattle.std.proofs.Common.{refl}
use Rattle.ml_decls.proofs.build.alias_info.Goals as goal

pub returns-clause-says : goal.returns-clause-says
returns-clause-says c = record { name = refl; vars = refl; cons = rw c.new.ensures tt; fields = rw c.new-2.ensures tt; alias = c.in_ok-alias.ensures.ty }

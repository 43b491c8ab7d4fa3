use Rattle.ml_parse_types.proofs.Shorter.{type_rest, decls_rest}
use Rattle.ml_parse_types.proofs.laws.read_is_shorter.Goals as goal

pub returns-clause-types : goal.returns-clause-types
returns-clause-types c k ts o a = type_rest a

pub returns-clause-decls : goal.returns-clause-decls
returns-clause-decls c = decls_rest

use Rattle.ml_parse_types.proofs.TypeParts.{names_end}
use Rattle.ml_parse_types.proofs.types.read_names.Goals as goal

pub returns-clause-ok : goal.returns-clause-ok
returns-clause-ok c = names_end _ _ _ _ _ c.names.invariant.along c.is_name.ensures c.names-test.false c.names.invariant.small

use Rattle.ml_decls.proofs.Trees.{grows_push, type_var}
use Rattle.ml_decls.proofs.table.push_var.Goals as goal

pub returns-clause-grows : goal.returns-clause-grows
returns-clause-grows c = grows_push _ _ _ c.in_ok-id.ensures.nodes

pub returns-clause-ty : goal.returns-clause-ty
returns-clause-ty c = type_var _ _ c.args.number _ c.in_ok-id.ensures.id c.in_ok-id.ensures.nodes

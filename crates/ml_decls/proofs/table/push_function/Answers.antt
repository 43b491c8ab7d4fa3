use Rattle.ml_decls.proofs.Trees.{grows_push, type_arrow}
use Rattle.ml_decls.proofs.table.push_function.Goals as goal

pub returns-clause-grows : goal.returns-clause-grows
returns-clause-grows c = grows_push _ _ _ c.in_ok-id.ensures.nodes.1

pub returns-clause-ty : goal.returns-clause-ty
returns-clause-ty c = λ one other p q. type_arrow _ _ c.in_ok-id.ensures.nodes.0 c.args.from c.args.to _ one other c.in_ok-id.ensures.id c.in_ok-id.ensures.nodes.1 p q

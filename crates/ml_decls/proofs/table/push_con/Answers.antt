use Rattle.ml_decls.proofs.Trees.{grows_push, type_con}
use Rattle.ml_decls.proofs.table.push_con.Goals as goal

pub returns-clause-grows : goal.returns-clause-grows
returns-clause-grows c = grows_push _ _ _ c.in_ok-id.ensures.nodes

pub returns-clause-ty : goal.returns-clause-ty
returns-clause-ty c = λ ts h. type_con _ _ c.args.number c.args.args ts _ c.in_ok-id.ensures.id c.in_ok-id.ensures.nodes h

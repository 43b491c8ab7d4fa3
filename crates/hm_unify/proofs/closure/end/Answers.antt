use Rattle.std.proofs.Common.{sym}
use Rattle.hm_unify.proofs.Ends.{kind-end}
use Rattle.hm_unify.proofs.closure.end.Goals as goal

pub returns-in-None : goal.returns-in-None
returns-in-None c = sym (kind-end _ _ c.requires.tabled c.args.id c.end_of-last.result _ _ c.end_of-last.ensures.ends c.node.ensures c.in-None.ensures)

pub returns-in-Some : goal.returns-in-Some
returns-in-Some c = sym (kind-end _ _ c.requires.tabled c.args.id c.end_of-last.result _ _ c.end_of-last.ensures.ends c.node.ensures c.in-Some.ensures)

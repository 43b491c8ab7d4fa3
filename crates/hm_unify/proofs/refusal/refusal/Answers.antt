use Rattle.std.proofs.Common.{subst}
use Rattle.hm_unify.specs.Verdicts.{Judged}
use Rattle.hm_unify.proofs.Verdicts.{NoFinite-infinite}
use Rattle.hm_unify.proofs.refusal.refusal.Goals as goal

pub first_fault-requires-clause-fault : goal.first_fault-requires-clause-fault
first_fault-requires-clause-fault c = NoFinite-infinite c.args.nodes.now c.args.bound.now c.args.pairs.now (subst (Judged c.args.nodes.now c.args.bound.now c.args.pairs.now) c.in-Clash.is c.in-Ok.ensures)

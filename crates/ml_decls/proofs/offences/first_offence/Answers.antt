use Rattle.ml_decls.proofs.Firsts.{least_next, least_all, least_none, least_found, least_least}
use Rattle.ml_decls.proofs.Members.{same_at}
use Rattle.ml_decls.proofs.offences.first_offence.Goals as goal

pub loop-one-preserved : goal.loop-one-preserved
loop-one-preserved c = least_next _ c.loop-one.one-index _ _ _ c.loop-one-test.true (same_at c.args.offences.now c.loop-one.one-index _ c.loop-one-test.true) c.loop-one.invariant c.earlier.ensures.is c.earlier.ensures.earlier

pub returns-clause-none : goal.returns-clause-none
returns-clause-none c = least_none _ _ (least_all _ _ _ c.loop-one-test.false c.loop-one.invariant)

pub returns-clause-found : goal.returns-clause-found
returns-clause-found c = least_found _ _ (least_all _ _ _ c.loop-one-test.false c.loop-one.invariant)

pub returns-clause-least : goal.returns-clause-least
returns-clause-least c = least_least _ _ (least_all _ _ _ c.loop-one-test.false c.loop-one.invariant)

use Rattle.hm_unify.proofs.Equations.{PairsWithin-take}
use Rattle.hm_unify.proofs.judge.first_fault.Goals as goal

pub judge-requires-clause-within : goal.judge-requires-clause-within
judge-requires-clause-within c = PairsWithin-take _ c.args.pairs.now _ c.requires.within

use Rattle.hm_steps.proofs.RowParts.{if_ok_each, scrutinee_some, scrutinee_none}
use Rattle.hm_steps.proofs.patterns.with_scrutinee.Goals as goal

pub returns-in-Some : goal.returns-in-Some
returns-in-Some c = if_ok_each _ (λ es names h. scrutinee_some names c.args.q.now c.args.scrutinee _ _ es c.in-Some.is h) c.and.ensures

pub returns-in-None : goal.returns-in-None
returns-in-None c = λ names. scrutinee_none names c.args.q.now c.args.scrutinee c.args.own c.in-None.is

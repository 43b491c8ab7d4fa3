use Rattle.hm_steps.proofs.RowParts.{if_ok_each, guard_some, guard_none}
use Rattle.hm_steps.proofs.matches.guard_is.Goals as goal

pub returns-in-Some : goal.returns-in-Some
returns-in-Some c = if_ok_each _ (λ es names h. guard_some names c.args.guard.now _ _ _ es c.in-Some.is c.bool.ensures h) c.part_is.ensures

pub returns-in-None : goal.returns-in-None
returns-in-None c = λ names. guard_none names c.args.guard.now c.args.list c.in-None.is

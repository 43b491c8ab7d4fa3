use Rattle.hm_steps.proofs.Lookups.{find_is}
use Rattle.hm_steps.proofs.written.type_target.Goals as goal

pub returns : goal.returns
returns c = find_is _ _ _ c.args.s.now.types_rise c.type_target.ensures.some c.type_target.ensures.none

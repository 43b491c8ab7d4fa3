use Rattle.hm_steps.proofs.Lookups.{find_is}
use Rattle.hm_steps.proofs.rows.target.Goals as goal

pub returns : goal.returns
returns c = find_is _ _ _ c.args.s.now.refs_rise c.target.ensures.some c.target.ensures.none

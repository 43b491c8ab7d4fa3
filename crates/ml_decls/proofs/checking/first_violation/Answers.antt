use Rattle.ml_decls.proofs.Firsts.{none_or_first}
use Rattle.ml_decls.proofs.checking.first_violation.Goals as goal

pub returns : goal.returns
returns c = none_or_first c.args.text.now c.args.s.now.types c.args.items.now c.as_slice.result.now c.first_offence.result (rw c.as_slice.ensures c.in_ok-list.ensures) c.first_offence.ensures.none c.first_offence.ensures.found c.first_offence.ensures.least

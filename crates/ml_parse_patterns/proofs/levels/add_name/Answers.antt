use Rattle.ml_parse_patterns.proofs.Relays.{relay}
use Rattle.ml_parse_patterns.proofs.Chains.{no_room_for_name, no_name_behind}
use Rattle.ml_parse_patterns.proofs.levels.add_name.Goals as goal

pub returns-then-first-left-clause-err : goal.returns-then-first-left-clause-err
returns-then-first-left-clause-err c = (c.give_up.ensures, no_room_for_name _ _ _ _ c.requires c.if-first-left.true)

pub returns-in_err-name-clause-err : goal.returns-in_err-name-clause-err
returns-in_err-name-clause-err c = relay _ _ _ (no_name_behind _ _ _ _ c.args.first c.requires c.pass.ensures) c.in_err-name.ensures.err c.from_residual.ensures.1

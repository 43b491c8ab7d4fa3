use Rattle.ml_parse_patterns.proofs.Relays.{relay}
use Rattle.ml_parse_patterns.proofs.Founds.{no_type_behind, type_open}
use Rattle.ml_parse_patterns.proofs.simple.read_annotation.Goals as goal

pub returns-in_err-ty-clause-err : goal.returns-in_err-ty-clause-err
returns-in_err-ty-clause-err c = relay _ _ _ (no_type_behind _ _ c.pass.ensures) c.in_err-ty.ensures.err c.from_residual.ensures.1

pub returns-in_err-take-clause-err : goal.returns-in_err-take-clause-err
returns-in_err-take-clause-err c = relay _ _ _ (type_open _ _ _ _ c.pass.ensures c.in_ok-ty.ensures.ok) c.in_err-take.ensures.err c.from_residual-in_err-take.ensures.1

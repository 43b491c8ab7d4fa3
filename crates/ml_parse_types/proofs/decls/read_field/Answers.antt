use Rattle.ml_parse_types.proofs.Relays.{relay}
use Rattle.ml_parse_types.proofs.DeclParts.{field_read, field_no_name, field_no_colon, field_no_type}
use Rattle.ml_parse_types.proofs.decls.read_field.Goals as goal

pub returns-in_err-name-clause-err : goal.returns-in_err-name-clause-err
returns-in_err-name-clause-err c = relay c.args.tokens.now c.in_err-name.field-0.0 c.from_residual-in_err-name.result (field_no_name _ _ _ c.in_ok-words.ensures.ok) c.in_err-name.ensures.err c.from_residual-in_err-name.ensures.1

pub returns-in_err-take-clause-err : goal.returns-in_err-take-clause-err
returns-in_err-take-clause-err c = relay c.args.tokens.now c.in_err-take.field-0.0 c.from_residual-in_err-take.result (field_no_colon _ _ _ _ _ c.in_ok-words.ensures.ok c.in_ok-name.ensures.ok) c.in_err-take.ensures.err c.from_residual-in_err-take.ensures.1

pub returns-in_err-ty-clause-err : goal.returns-in_err-ty-clause-err
returns-in_err-ty-clause-err c = relay c.args.tokens.now c.in_err-ty.field-0.0 c.from_residual-in_err-ty.result (field_no_type _ _ _ _ _ _ _ c.in_ok-words.ensures.ok c.in_ok-name.ensures.ok c.in_ok-take.ensures.ok) c.in_err-ty.ensures.err c.from_residual-in_err-ty.ensures.1

pub returns-clause-ok : goal.returns-clause-ok
returns-clause-ok c = field_read _ _ _ _ _ _ _ _ _ _ c.in_ok-words.ensures.ok c.in_ok-name.ensures.ok c.in_ok-take.ensures.ok c.in_ok-ty.ensures.ok c.make_arg.ensures

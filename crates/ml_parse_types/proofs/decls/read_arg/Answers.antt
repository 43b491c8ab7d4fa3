use Rattle.ml_parse_types.proofs.Relays.{relay}
use Rattle.ml_parse_types.proofs.DeclParts.{arg_no_type}
use Rattle.ml_parse_types.proofs.decls.read_arg.Goals as goal

pub returns-in_err-ty-clause-err : goal.returns-in_err-ty-clause-err
returns-in_err-ty-clause-err c = relay c.args.tokens.now c.in_err-ty.field-0.0 c.from_residual-in_err-ty.result (arg_no_type _ _ _ c.in_ok-words.ensures.ok) c.in_err-ty.ensures.err c.from_residual-in_err-ty.ensures.1

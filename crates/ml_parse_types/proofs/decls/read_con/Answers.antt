use Rattle.ml_parse_types.proofs.Relays.{relay}
use Rattle.ml_parse_types.proofs.DeclParts.{con_read, con_no_name, con_no_args}
use Rattle.ml_parse_types.proofs.decls.read_con.Goals as goal

pub returns-in_err-name-clause-err : goal.returns-in_err-name-clause-err
returns-in_err-name-clause-err c = relay c.args.tokens.now c.in_err-name.field-0.0 c.from_residual.result (con_no_name _) c.in_err-name.ensures.err c.from_residual.ensures.1

pub returns-in_err-args-clause-err : goal.returns-in_err-args-clause-err
returns-in_err-args-clause-err c = relay c.args.tokens.now c.in_err-args.field-0.0 c.from_residual-in_err-args.result (con_no_args _ _ _ c.in_ok-name.ensures.ok) c.in_err-args.ensures.err c.from_residual-in_err-args.ensures.1

pub returns-clause-ok : goal.returns-clause-ok
returns-clause-ok c = con_read _ _ _ _ _ c.in_ok-name.ensures.ok c.in_ok-args.ensures.ok

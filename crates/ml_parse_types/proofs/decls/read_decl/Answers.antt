use Rattle.ml_parse_types.proofs.Relays.{relay}
use Rattle.ml_parse_types.proofs.DeclParts.{decl_read, decl_no_name, decl_no_equal, decl_no_body}
use Rattle.ml_parse_types.proofs.decls.read_decl.Goals as goal

pub returns-in_err-name-clause-err : goal.returns-in_err-name-clause-err
returns-in_err-name-clause-err c = relay c.args.tokens.now c.in_err-name.field-0.0 c.from_residual-in_err-name.result (decl_no_name _ _ _ c.in_ok-vars.ensures.ok) c.in_err-name.ensures.err c.from_residual-in_err-name.ensures.1

pub returns-in_err-take-clause-err : goal.returns-in_err-take-clause-err
returns-in_err-take-clause-err c = relay c.args.tokens.now c.in_err-take.field-0.0 c.from_residual-in_err-take.result (decl_no_equal _ _ _ _ _ c.in_ok-vars.ensures.ok c.in_ok-name.ensures.ok) c.in_err-take.ensures.err c.from_residual-in_err-take.ensures.1

pub returns-in_err-body-clause-err : goal.returns-in_err-body-clause-err
returns-in_err-body-clause-err c = relay c.args.tokens.now c.in_err-body.field-0.0 c.from_residual-in_err-body.result (decl_no_body _ _ _ _ _ _ _ c.in_ok-vars.ensures.ok c.in_ok-name.ensures.ok c.in_ok-take.ensures.ok) c.in_err-body.ensures.err c.from_residual-in_err-body.ensures.1

pub returns-clause-ok : goal.returns-clause-ok
returns-clause-ok c = decl_read _ _ _ _ _ _ _ _ _ c.in_ok-vars.ensures.ok c.in_ok-name.ensures.ok c.in_ok-take.ensures.ok c.in_ok-body.ensures.ok

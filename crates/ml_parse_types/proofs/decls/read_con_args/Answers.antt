use Rattle.ml_parse_types.proofs.Relays.{says, if_ok, if_err}
use Rattle.ml_parse_types.proofs.DeclParts.{args_many, args_bad}
use Rattle.ml_parse_types.proofs.decls.read_con_args.Goals as goal

pub returns-clause-ok : goal.returns-clause-ok
returns-clause-ok c = if_ok c.read_args.result (λ l n. args_many _ _ _ _ _ c.is_of.ensures c.if-not-is_of.false c.pass.ensures n) c.read_args.ensures.ok

pub returns-clause-err : goal.returns-clause-err
returns-clause-err c = if_err c.read_args.result (λ e s. says c.args.tokens.now e (args_bad _ _ _ c.is_of.ensures c.if-not-is_of.false c.pass.ensures) s) c.read_args.ensures.err

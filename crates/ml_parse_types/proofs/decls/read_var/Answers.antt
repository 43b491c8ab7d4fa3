use Rattle.ml_parse_types.proofs.Relays.{says, if_ok, if_err}
use Rattle.ml_parse_types.proofs.DeclParts.{var_taken, var_absent}
use Rattle.ml_parse_types.proofs.decls.read_var.Goals as goal

pub returns-clause-ok : goal.returns-clause-ok
returns-clause-ok c = if_ok c.take.result (λ v t. var_taken _ _ v t) c.take.ensures.ok

pub returns-clause-err : goal.returns-clause-err
returns-clause-err c = if_err c.take.result (λ e s. says c.args.tokens.now e (λ n. var_absent _ n) s) c.take.ensures.err

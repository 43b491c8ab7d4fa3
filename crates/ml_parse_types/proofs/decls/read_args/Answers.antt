use Rattle.ml_parse_types.proofs.Relays.{relay}
use Rattle.ml_parse_types.proofs.Unique.{same_arg}
use Rattle.ml_parse_types.proofs.ItemLists.{items_bad, items_fail}
use Rattle.ml_parse_types.proofs.decls.read_args.Goals as goal

pub returns-in_err-read_arg-clause-err : goal.returns-in_err-read_arg-clause-err
returns-in_err-read_arg-clause-err c = relay c.args.tokens.now c.in_err-read_arg.field-0.0 c.from_residual.result (items_bad _ _ _ _ _ c.more.invariant) c.in_err-read_arg.ensures.err c.from_residual.ensures.1

pub returns-in-Fails-clause-err : goal.returns-in-Fails-clause-err
returns-in-Fails-clause-err c = (c.refusal_at.ensures, items_fail _ _ _ _ _ _ _ _ same_arg c.more.invariant c.in_ok-read_arg.ensures.ok c.behind_factor.ensures c.in-Fails.is)

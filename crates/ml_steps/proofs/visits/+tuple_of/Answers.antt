use Rattle.std.proofs.Common.{sym, ap, ◌∙◌}
use Rattle.ml_tree.specs.declared.expr.ExprKind.TheVariants as E
use Rattle.ml_steps.proofs.KindRuns.{tuple_parts}
use Rattle.ml_steps.proofs.visits.+tuple_of.Goals as goal

pub returns-in-Tuple : goal.returns-in-Tuple
returns-in-Tuple t c = λ s. sym (tuple_parts s c.args.e.now c.as_slice.result.now (c.in-Tuple.is ∙ ap E.Tuple (sym c.as_slice.ensures)))

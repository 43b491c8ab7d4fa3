use Rattle.std.proofs.Common.{rules}
use Rattle.ml_tree.specs.declared.expr.ExprKind.TheViews.{the_lemmas}
use Rattle.ml_tree.proofs.Forms.{arguments_fit, binds_fit, arms_fit}
use Rattle.ml_tree.proofs.depths.+expressions_depth.Goals as goal

pub of_kind-of_expressions-requires : goal.of_kind-of_expressions-requires
of_kind-of_expressions-requires t c = (search (rules, the_lemmas), arguments_fit c.args.kind.now _ _ _ c.in-Apply.is c.as_slice-in-Apply.ensures c.requires)

pub of_kind-of_binds-requires : goal.of_kind-of_binds-requires
of_kind-of_binds-requires t c = (search (rules, the_lemmas), binds_fit c.args.kind.now _ _ _ _ c.in-Let.is c.as_slice-in-Let.ensures c.requires)

pub of_kind-of_arms-requires : goal.of_kind-of_arms-requires
of_kind-of_arms-requires t c = (search (rules, the_lemmas), arms_fit c.args.kind.now _ _ _ c.in-Match.is c.as_slice-in-Match.ensures c.requires)

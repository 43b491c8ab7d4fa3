-- What the parts of a tree use and bind.
use Rattle.std.specs.Prelude.{ℕ}
use Rattle.ml_tree.specs.declared.pattern.FieldPat.{FieldPat, fold-FieldPat}
use Rattle.ml_tree.specs.declared.pattern.PatKind.{PatKind, fold-PatKind}
use Rattle.ml_tree.specs.declared.expr.Bind.{Bind, fold-Bind}
use Rattle.ml_tree.specs.declared.expr.FieldExpr.{FieldExpr, fold-FieldExpr}
use Rattle.ml_tree.specs.declared.expr.ExprKind.{ExprKind, fold-ExprKind}
use Rattle.ml_meaning.specs.Names.{References}
use Rattle.ml_meaning.specs.Captures.{Numbers, bound_step, bound_part, bound_whole, binders_step, binders_arm, binders_bind, binders_expr, binders_field, uses_step, uses_arm, uses_bind, uses_expr, uses_field}

abbrev pub bound_names_of_kind : PatKind → ℕ → Numbers
bound_names_of_kind k node = fold-PatKind (ℕ → Numbers) Numbers Numbers bound_step bound_part bound_whole k node

abbrev pub bound_names_of_field : FieldPat → Numbers
bound_names_of_field f = fold-FieldPat (ℕ → Numbers) Numbers Numbers bound_step bound_part bound_whole f

abbrev pub binders_of_kind : ExprKind → ℕ → Numbers
binders_of_kind k node = fold-ExprKind (ℕ → Numbers) Numbers Numbers Numbers Numbers binders_step binders_arm binders_bind binders_expr binders_field k node

abbrev pub binders_of_bind : Bind → Numbers
binders_of_bind b = fold-Bind (ℕ → Numbers) Numbers Numbers Numbers Numbers binders_step binders_arm binders_bind binders_expr binders_field b

abbrev pub binders_of_field : FieldExpr → Numbers
binders_of_field f = fold-FieldExpr (ℕ → Numbers) Numbers Numbers Numbers Numbers binders_step binders_arm binders_bind binders_expr binders_field f

module _ (names : References) where
  abbrev pub uses_of_kind : ExprKind → ℕ → Numbers
  uses_of_kind k node = fold-ExprKind (ℕ → Numbers) Numbers Numbers Numbers Numbers (uses_step names) (uses_arm names) (uses_bind names) (uses_expr names) (uses_field names) k node

  abbrev pub uses_of_bind : Bind → Numbers
  uses_of_bind b = fold-Bind (ℕ → Numbers) Numbers Numbers Numbers Numbers (uses_step names) (uses_arm names) (uses_bind names) (uses_expr names) (uses_field names) b

  abbrev pub uses_of_field : FieldExpr → Numbers
  uses_of_field f = fold-FieldExpr (ℕ → Numbers) Numbers Numbers Numbers Numbers (uses_step names) (uses_arm names) (uses_bind names) (uses_expr names) (uses_field names) f

-- The functions below a part, from those of the parts below it.
use Rattle.std.proofs.Common.{◌≡◌, ℕ, Bool, Option, sym, ap, ◌∙◌}
use Rattle.ml_tree.specs.declared.expr.Expr.{Expr, map-Expr, out-Expr, roll-out-Expr, para-roll-Expr}
use Rattle.ml_tree.specs.declared.expr.Arm.{Arm, map-Arm, out-Arm, roll-out-Arm, para-roll-Arm}
use Rattle.ml_tree.specs.declared.expr.Bind.{Bind, map-Bind, out-Bind, roll-out-Bind, para-roll-Bind}
use Rattle.ml_tree.specs.declared.expr.FieldExpr.{FieldExpr, map-FieldExpr, out-FieldExpr, roll-out-FieldExpr, para-roll-FieldExpr}
use Rattle.ml_tree.specs.declared.expr.ExprKind.{ExprKind, map-ExprKind, out-ExprKind, roll-out-ExprKind, para-roll-ExprKind}
use Rattle.ml_meaning.specs.Names.{References}
use Rattle.ml_meaning.specs.Functions.{Functions, Below, functions_step, functions_arm, functions_bind, functions_expr, functions_field, functions_of_bind}
use Rattle.ml_functions.specs.Table.{functions_of_kind, functions_of_expr, functions_of_arm, functions_of_field}

module _ (names : References) where
  abbrev pub kind_pair : ExprKind → ExprKind × (ℕ → Below names)
  kind_pair k = (k, λ node own. functions_of_kind names k node own)

  abbrev pub arm_pair : Arm → Arm × Functions
  arm_pair a = (a, functions_of_arm names a)

  abbrev pub bind_pair : Bind → Bind × (Bool → Functions)
  bind_pair b = (b, λ recursive. functions_of_bind names recursive b)

  abbrev pub expr_pair : Expr → Expr × Below names
  expr_pair x = (x, λ own. functions_of_expr names x own)

  abbrev pub field_pair : FieldExpr → FieldExpr × Functions
  field_pair f = (f, functions_of_field names f)

  pub kind_opens : (k : ExprKind) (node : ℕ) (own : Option ℕ) → functions_of_kind names k node own ≡ functions_step names (map-ExprKind ExprKind Arm Bind Expr FieldExpr (ExprKind × (ℕ → Below names)) (Arm × Functions) (Bind × (Bool → Functions)) (Expr × Below names) (FieldExpr × Functions) kind_pair arm_pair bind_pair expr_pair field_pair (out-ExprKind k)) node own
  kind_opens k node own =
      ap (λ j. functions_of_kind names j node own) (sym (roll-out-ExprKind k))
      ∙ ap (λ h. h node own) (para-roll-ExprKind (ℕ → Below names) Functions (Bool → Functions) (Below names) Functions (functions_step names) (functions_arm names) (functions_bind names) (functions_expr names) (functions_field names) (out-ExprKind k))

  pub arm_opens : (a : Arm) → functions_of_arm names a ≡ functions_arm names (map-Arm ExprKind Arm Bind Expr FieldExpr (ExprKind × (ℕ → Below names)) (Arm × Functions) (Bind × (Bool → Functions)) (Expr × Below names) (FieldExpr × Functions) kind_pair arm_pair bind_pair expr_pair field_pair (out-Arm a))
  arm_opens a =
      ap (λ j. functions_of_arm names j) (sym (roll-out-Arm a))
      ∙ para-roll-Arm (ℕ → Below names) Functions (Bool → Functions) (Below names) Functions (functions_step names) (functions_arm names) (functions_bind names) (functions_expr names) (functions_field names) (out-Arm a)

  pub bind_opens : (b : Bind) (recursive : Bool) → functions_of_bind names recursive b ≡ functions_bind names (map-Bind ExprKind Arm Bind Expr FieldExpr (ExprKind × (ℕ → Below names)) (Arm × Functions) (Bind × (Bool → Functions)) (Expr × Below names) (FieldExpr × Functions) kind_pair arm_pair bind_pair expr_pair field_pair (out-Bind b)) recursive
  bind_opens b recursive =
      ap (λ j. functions_of_bind names recursive j) (sym (roll-out-Bind b))
      ∙ ap (λ h. h recursive) (para-roll-Bind (ℕ → Below names) Functions (Bool → Functions) (Below names) Functions (functions_step names) (functions_arm names) (functions_bind names) (functions_expr names) (functions_field names) (out-Bind b))

  pub expr_opens : (x : Expr) (own : Option ℕ) → functions_of_expr names x own ≡ functions_expr names (map-Expr ExprKind Arm Bind Expr FieldExpr (ExprKind × (ℕ → Below names)) (Arm × Functions) (Bind × (Bool → Functions)) (Expr × Below names) (FieldExpr × Functions) kind_pair arm_pair bind_pair expr_pair field_pair (out-Expr x)) own
  expr_opens x own =
      ap (λ j. functions_of_expr names j own) (sym (roll-out-Expr x))
      ∙ ap (λ h. h own) (para-roll-Expr (ℕ → Below names) Functions (Bool → Functions) (Below names) Functions (functions_step names) (functions_arm names) (functions_bind names) (functions_expr names) (functions_field names) (out-Expr x))

  pub field_opens : (f : FieldExpr) → functions_of_field names f ≡ functions_field names (map-FieldExpr ExprKind Arm Bind Expr FieldExpr (ExprKind × (ℕ → Below names)) (Arm × Functions) (Bind × (Bool → Functions)) (Expr × Below names) (FieldExpr × Functions) kind_pair arm_pair bind_pair expr_pair field_pair (out-FieldExpr f))
  field_opens f =
      ap (λ j. functions_of_field names j) (sym (roll-out-FieldExpr f))
      ∙ para-roll-FieldExpr (ℕ → Below names) Functions (Bool → Functions) (Below names) Functions (functions_step names) (functions_arm names) (functions_bind names) (functions_expr names) (functions_field names) (out-FieldExpr f)

-- What the layers of a tree mean, one by one.
use Rattle.std.proofs.Common.{◌≡◌, ℕ, List, map, sym, ap, ◌∙◌}
use Rattle.oxml_base.specs.declared.literal.Lit.{Lit}
use Rattle.oxml_base.specs.declared.span.Span.{Span}
use Rattle.ml_tree.specs.declared.words.Words.{Words}
use Rattle.ml_tree.specs.declared.expr.Arm.{Arm}
use Rattle.ml_tree.specs.declared.expr.Bind.{Bind, out-Bind, fold_out-Bind, map-Bind}
use Rattle.ml_tree.specs.declared.expr.Expr.{Expr, out-Expr, fold_out-Expr, map-Expr}
use Rattle.ml_tree.specs.declared.expr.ExprKind.{ExprKind, fold-ExprKind, fold-roll-ExprKind, map-ExprKind, roll-ExprKind}
use Rattle.ml_tree.specs.declared.expr.ExprKind.TheOpen as e
use Rattle.ml_tree.specs.declared.expr.ExprKind.TheOpen.{ExprKind-F, Arm-F, Bind-F, Expr-F, FieldExpr-F}
use Rattle.ml_tree.specs.declared.expr.ExprKind.TheVariants as E
use Rattle.ml_tree.specs.declared.expr.FieldExpr.{FieldExpr, fold-FieldExpr}
use Rattle.ml_tree.specs.declared.pattern.ConName.TheVariants.{Unit as UnitName}
use Rattle.ml_tree.specs.declared.pattern.FieldPat.{FieldPat, fold-FieldPat}
use Rattle.ml_tree.specs.declared.pattern.Pat.{Pat, fold-Pat, fold_out-Pat, map-Pat, out-Pat}
use Rattle.ml_tree.specs.declared.pattern.PatKind.{PatKind, fold-PatKind, fold-roll-PatKind, map-PatKind, roll-PatKind}
use Rattle.ml_tree.specs.declared.pattern.PatKind.TheOpen as p
use Rattle.ml_tree.specs.declared.pattern.PatKind.TheOpen.{PatKind-F, FieldPat-F, Pat-F}
use Rattle.ml_tree.specs.declared.pattern.PatKind.TheVariants as P
use Rattle.std.specs.Prelude.{None}
use Rattle.ml_meaning.specs.Evaluation.{ExprMeaning, ArmMeaning, BindMeaning, step}
use Rattle.ml_meaning.specs.Names.{References}
use Rattle.ml_meaning.specs.Patterns.{Fits, PatMeaning, fits, pattern_step, field_step as field_fits, pat_step}
use Rattle.ml_meaning.specs.Programs.{arm_step, bind_step, expr_step, field_step, expr_meaning, arm_meaning, bind_meaning}
use Rattle.ml_meaning.specs.Tellings.{Meaning, Setting}

module _ (T : Type 0) (s : Setting T) where
  abbrev pub kind_meaning : ExprKind → ℕ → ExprMeaning T
  kind_meaning k = fold-ExprKind (ℕ → ExprMeaning T) (ArmMeaning T) (BindMeaning T) (ExprMeaning T) (ℕ × Meaning T) (step T s) (arm_step T s) (bind_step T s) (expr_step T s) (field_step T s) k

  abbrev pub field_meaning : FieldExpr → ℕ × Meaning T
  field_meaning f = fold-FieldExpr (ℕ → ExprMeaning T) (ArmMeaning T) (BindMeaning T) (ExprMeaning T) (ℕ × Meaning T) (step T s) (arm_step T s) (bind_step T s) (expr_step T s) (field_step T s) f

  abbrev pub meant : ExprKind-F ExprKind Arm Bind Expr FieldExpr → ExprKind-F (ℕ → ExprMeaning T) (ArmMeaning T) (BindMeaning T) (ExprMeaning T) (ℕ × Meaning T)
  meant l = map-ExprKind ExprKind Arm Bind Expr FieldExpr (ℕ → ExprMeaning T) (ArmMeaning T) (BindMeaning T) (ExprMeaning T) (ℕ × Meaning T) kind_meaning (arm_meaning T s) (bind_meaning T s) (expr_meaning T s) field_meaning l

  abbrev pub meant_bind : Bind-F ExprKind Arm Bind Expr FieldExpr → Bind-F (ℕ → ExprMeaning T) (ArmMeaning T) (BindMeaning T) (ExprMeaning T) (ℕ × Meaning T)
  meant_bind l = map-Bind ExprKind Arm Bind Expr FieldExpr (ℕ → ExprMeaning T) (ArmMeaning T) (BindMeaning T) (ExprMeaning T) (ℕ × Meaning T) kind_meaning (arm_meaning T s) (bind_meaning T s) (expr_meaning T s) field_meaning l

  abbrev pub meant_expr : Expr-F ExprKind Arm Bind Expr FieldExpr → Expr-F (ℕ → ExprMeaning T) (ArmMeaning T) (BindMeaning T) (ExprMeaning T) (ℕ × Meaning T)
  meant_expr l = map-Expr ExprKind Arm Bind Expr FieldExpr (ℕ → ExprMeaning T) (ArmMeaning T) (BindMeaning T) (ExprMeaning T) (ℕ × Meaning T) kind_meaning (arm_meaning T s) (bind_meaning T s) (expr_meaning T s) field_meaning l

  kind_at : (l : ExprKind-F ExprKind Arm Bind Expr FieldExpr) (k : ExprKind) → roll-ExprKind l ≡ k → kind_meaning k ≡ step T s (meant l)
  kind_at l k is = ap kind_meaning (sym is) ∙ fold-roll-ExprKind (ℕ → ExprMeaning T) (ArmMeaning T) (BindMeaning T) (ExprMeaning T) (ℕ × Meaning T) (step T s) (arm_step T s) (bind_step T s) (expr_step T s) (field_step T s) l

  pub expr_is : (x : Expr) → expr_meaning T s x ≡ expr_step T s (meant_expr (out-Expr x))
  expr_is x = fold_out-Expr (ℕ → ExprMeaning T) (ArmMeaning T) (BindMeaning T) (ExprMeaning T) (ℕ × Meaning T) (step T s) (arm_step T s) (bind_step T s) (expr_step T s) (field_step T s) x

  pub bind_is : (b : Bind) → bind_meaning T s b ≡ bind_step T s (meant_bind (out-Bind b))
  bind_is b = fold_out-Bind (ℕ → ExprMeaning T) (ArmMeaning T) (BindMeaning T) (ExprMeaning T) (ℕ × Meaning T) (step T s) (arm_step T s) (bind_step T s) (expr_step T s) (field_step T s) b

  pub text_is : (lit : Lit) → kind_meaning (E.Text lit) ≡ step T s (e.Text lit)
  text_is lit = kind_at (e.Text lit) (E.Text lit) (E.rolls-Text lit)

  pub name_is : (name : Span) → kind_meaning (E.Name name) ≡ step T s (e.Name name)
  name_is name = kind_at (e.Name name) (E.Name name) (E.rolls-Name name)

  pub apply_is : (head : Expr) (args : List Expr) → kind_meaning (E.Apply head args) ≡ step T s (e.Apply (expr_meaning T s head) (map (expr_meaning T s) args))
  apply_is head args = kind_at (e.Apply head args) (E.Apply head args) (E.rolls-Apply head args)

module _ (names : References) where
  abbrev pub kind_fits : PatKind → ℕ → PatMeaning
  kind_fits k = fold-PatKind (ℕ → PatMeaning) (ℕ × Fits) PatMeaning (pattern_step names) (field_fits names) (pat_step names) k

  abbrev whole_fits : Pat → PatMeaning
  whole_fits q = fold-Pat (ℕ → PatMeaning) (ℕ × Fits) PatMeaning (pattern_step names) (field_fits names) (pat_step names) q

  abbrev part_fits : FieldPat → ℕ × Fits
  part_fits f = fold-FieldPat (ℕ → PatMeaning) (ℕ × Fits) PatMeaning (pattern_step names) (field_fits names) (pat_step names) f

  abbrev fitted : PatKind-F PatKind FieldPat Pat → PatKind-F (ℕ → PatMeaning) (ℕ × Fits) PatMeaning
  fitted l = map-PatKind PatKind FieldPat Pat (ℕ → PatMeaning) (ℕ × Fits) PatMeaning kind_fits part_fits whole_fits l

  abbrev fitted_pat : Pat-F PatKind FieldPat Pat → Pat-F (ℕ → PatMeaning) (ℕ × Fits) PatMeaning
  fitted_pat l = map-Pat PatKind FieldPat Pat (ℕ → PatMeaning) (ℕ × Fits) PatMeaning kind_fits part_fits whole_fits l

  pattern_at : (l : PatKind-F PatKind FieldPat Pat) (k : PatKind) → roll-PatKind l ≡ k → kind_fits k ≡ pattern_step names (fitted l)
  pattern_at l k is = ap kind_fits (sym is) ∙ fold-roll-PatKind (ℕ → PatMeaning) (ℕ × Fits) PatMeaning (pattern_step names) (field_fits names) (pat_step names) l

  pub pat_is : (q : Pat) → fits names q ≡ (pat_step names (fitted_pat (out-Pat q))).whole
  pat_is q = ap (λ m. m.whole) (fold_out-Pat (ℕ → PatMeaning) (ℕ × Fits) PatMeaning (pattern_step names) (field_fits names) (pat_step names) q)

  pub bound_is : (words : Words) (name : Span) → kind_fits (P.Name words name) ≡ pattern_step names (p.Name words name)
  bound_is words name = pattern_at (p.Name words name) (P.Name words name) (P.rolls-Name words name)

  pub unit_is : kind_fits (P.Con UnitName None) ≡ pattern_step names (p.Con UnitName None)
  unit_is = pattern_at (p.Con UnitName None) (P.Con UnitName None) (P.rolls-Con UnitName None)

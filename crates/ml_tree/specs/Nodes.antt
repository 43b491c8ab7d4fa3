-- How many nodes a tree has: its patterns and expressions, and the fields of its records.
use Rattle.std.specs.Prelude.{ℕ, ◌+◌, sum, map, Option, Some, None}
use Rattle.ml_tree.specs.declared.pattern.Pat.{Pat, fold-Pat}
use Rattle.ml_tree.specs.declared.pattern.FieldPat.{FieldPat, fold-FieldPat}
use Rattle.ml_tree.specs.declared.pattern.Param.{Param}
use Rattle.ml_tree.specs.declared.pattern.PatKind.{PatKind, fold-PatKind}
use Rattle.ml_tree.specs.declared.pattern.PatKind.TheOpen as p
use Rattle.ml_tree.specs.declared.pattern.PatKind.TheOpen.{PatKind-F, FieldPat-F, Pat-F}
use Rattle.ml_tree.specs.declared.expr.Expr.{Expr, fold-Expr}
use Rattle.ml_tree.specs.declared.expr.Arm.{Arm, fold-Arm}
use Rattle.ml_tree.specs.declared.expr.Bind.{Bind, fold-Bind}
use Rattle.ml_tree.specs.declared.expr.FieldExpr.{FieldExpr, fold-FieldExpr}
use Rattle.ml_tree.specs.declared.expr.ExprKind.{ExprKind, fold-ExprKind}
use Rattle.ml_tree.specs.declared.expr.ExprKind.TheOpen as e
use Rattle.ml_tree.specs.declared.expr.ExprKind.TheOpen.{ExprKind-F, Arm-F, Bind-F, Expr-F, FieldExpr-F}

abbrev pub zero_or : Option ℕ → ℕ
zero_or None = 0
zero_or (Some n) = n

abbrev pub pattern_step : PatKind-F ℕ ℕ ℕ → ℕ
pattern_step (p.Con name arg) = zero_or arg
pattern_step (p.Cons a b) = a + b
pattern_step (p.Tuple ps) = sum ps
pattern_step (p.List ps) = sum ps
pattern_step (p.Fields ps rest) = sum ps
pattern_step (p.Or a b) = a + b
pattern_step (p.Named q name) = q
pattern_step (p.Typed q ty) = q
pattern_step (p.Paren q) = q
pattern_step _ = 0

abbrev pub field_pattern_node : FieldPat-F ℕ ℕ ℕ → ℕ
field_pattern_node f = f.pat + 1

abbrev pub pattern_node : Pat-F ℕ ℕ ℕ → ℕ
pattern_node q = q.kind + 1

abbrev pub pattern_nodes : Pat → ℕ
pattern_nodes q = fold-Pat ℕ ℕ ℕ pattern_step field_pattern_node pattern_node q

abbrev pub pattern_kind_nodes : PatKind → ℕ
pattern_kind_nodes k = fold-PatKind ℕ ℕ ℕ pattern_step field_pattern_node pattern_node k

abbrev pub field_pattern_nodes : FieldPat → ℕ
field_pattern_nodes f = fold-FieldPat ℕ ℕ ℕ pattern_step field_pattern_node pattern_node f

abbrev pub param_nodes : Param → ℕ
param_nodes q = pattern_nodes q.pat

abbrev pub step : ExprKind-F ℕ ℕ ℕ ℕ ℕ → ℕ
step (e.Con name arg) = zero_or arg
step (e.Cons a b) = a + b
step (e.Tuple es) = sum es
step (e.List es) = sum es
step (e.Fields fs) = sum fs
step (e.Field a name) = a
step (e.Index a b) = a + b
step (e.Apply f es) = f + sum es
step (e.Binary op a b) = a + b
step (e.Minus a) = a
step (e.If a b c) = a + b + zero_or c
step (e.Let recursive binds body) = sum binds + body
step (e.Seq es) = sum es
step (e.Match a arms) = a + sum arms
step (e.Fun params body) = sum (map param_nodes params) + body
step (e.Function arms) = sum arms
step (e.Paren a) = a
step (e.Typed a ty) = a
step (e.Worded words a) = a
step (e.Exclave a) = a
step (e.Borrow name of body) = body
step (e.Overwrite name a) = a
step _ = 0

abbrev pub arm_node : Arm-F ℕ ℕ ℕ ℕ ℕ → ℕ
arm_node a = pattern_nodes a.pat + zero_or a.guard + a.body

abbrev pub bind_node : Bind-F ℕ ℕ ℕ ℕ ℕ → ℕ
bind_node b = pattern_nodes b.pat + sum (map param_nodes b.params) + b.body

abbrev pub expr_node : Expr-F ℕ ℕ ℕ ℕ ℕ → ℕ
expr_node x = x.kind + 1

abbrev pub field_node : FieldExpr-F ℕ ℕ ℕ ℕ ℕ → ℕ
field_node f = f.expr + 1

abbrev pub expr_nodes : Expr → ℕ
expr_nodes x = fold-Expr ℕ ℕ ℕ ℕ ℕ step arm_node bind_node expr_node field_node x

abbrev pub kind_nodes : ExprKind → ℕ
kind_nodes k = fold-ExprKind ℕ ℕ ℕ ℕ ℕ step arm_node bind_node expr_node field_node k

abbrev pub arm_nodes : Arm → ℕ
arm_nodes a = fold-Arm ℕ ℕ ℕ ℕ ℕ step arm_node bind_node expr_node field_node a

abbrev pub bind_nodes : Bind → ℕ
bind_nodes b = fold-Bind ℕ ℕ ℕ ℕ ℕ step arm_node bind_node expr_node field_node b

abbrev pub field_nodes : FieldExpr → ℕ
field_nodes f = fold-FieldExpr ℕ ℕ ℕ ℕ ℕ step arm_node bind_node expr_node field_node f

-- How deep a tree is: the greatest number of patterns and expressions on a path, the top one
-- included. Fields, bindings, arms and parameters count nothing.
use Rattle.std.specs.Prelude.{ℕ, ◌+◌, max, map, List, [], ◌∷◌, Option, Some, None}
use Rattle.ml_tree.specs.declared.pattern.Pat.{Pat, fold-Pat}
use Rattle.ml_tree.specs.declared.pattern.FieldPat.{FieldPat, fold-FieldPat}
use Rattle.ml_tree.specs.declared.pattern.Param.{Param}
use Rattle.ml_tree.specs.declared.pattern.PatKind.{PatKind, fold-PatKind}
use Rattle.ml_tree.specs.declared.pattern.PatKind.TheOpen as p
use Rattle.ml_tree.specs.declared.pattern.PatKind.TheOpen.{PatKind-F, FieldPat-F, Pat-F}
use Rattle.ml_tree.specs.declared.expr.Expr.{Expr, fold-Expr}
use Rattle.ml_tree.specs.declared.expr.Arm.{Arm, fold-Arm}
use Rattle.ml_tree.specs.declared.expr.Bind.{Bind, fold-Bind}
use Rattle.ml_tree.specs.declared.expr.FieldExpr.{FieldExpr, fold-FieldExpr}
use Rattle.ml_tree.specs.declared.expr.ExprKind.{ExprKind, fold-ExprKind}
use Rattle.ml_tree.specs.declared.expr.ExprKind.TheOpen as e
use Rattle.ml_tree.specs.declared.expr.ExprKind.TheOpen.{ExprKind-F, Arm-F, Bind-F, Expr-F, FieldExpr-F}

abbrev pub greatest : List ℕ → ℕ
greatest [] = 0
greatest (n ∷ ns) = max n (greatest ns)

abbrev pub zero_or : Option ℕ → ℕ
zero_or None = 0
zero_or (Some n) = n

abbrev pub pattern_step : PatKind-F ℕ ℕ ℕ → ℕ
pattern_step (p.Con name arg) = zero_or arg
pattern_step (p.Cons a b) = max a b
pattern_step (p.Tuple ps) = greatest ps
pattern_step (p.List ps) = greatest ps
pattern_step (p.Fields ps rest) = greatest ps
pattern_step (p.Or a b) = max a b
pattern_step (p.Named q name) = q
pattern_step (p.Typed q ty) = q
pattern_step (p.Paren q) = q
pattern_step _ = 0

abbrev pub pattern_node : Pat-F ℕ ℕ ℕ → ℕ
pattern_node q = q.kind + 1

abbrev pub field_pattern_step : FieldPat-F ℕ ℕ ℕ → ℕ
field_pattern_step f = f.pat

abbrev pub pattern_depth : Pat → ℕ
pattern_depth q = fold-Pat ℕ ℕ ℕ pattern_step field_pattern_step pattern_node q

abbrev pub pattern_kind_depth : PatKind → ℕ
pattern_kind_depth k = fold-PatKind ℕ ℕ ℕ pattern_step field_pattern_step pattern_node k

abbrev pub field_pattern_depth : FieldPat → ℕ
field_pattern_depth f = fold-FieldPat ℕ ℕ ℕ pattern_step field_pattern_step pattern_node f

abbrev pub param_depth : Param → ℕ
param_depth q = pattern_depth q.pat

abbrev pub step : ExprKind-F ℕ ℕ ℕ ℕ ℕ → ℕ
step (e.Con name arg) = zero_or arg
step (e.Cons a b) = max a b
step (e.Tuple es) = greatest es
step (e.List es) = greatest es
step (e.Fields fs) = greatest fs
step (e.Field a name) = a
step (e.Index a b) = max a b
step (e.Apply f es) = max f (greatest es)
step (e.Binary op a b) = max a b
step (e.Minus a) = a
step (e.If a b c) = max (max a b) (zero_or c)
step (e.Let recursive binds body) = max (greatest binds) body
step (e.Seq es) = greatest es
step (e.Match a arms) = max a (greatest arms)
step (e.Fun params body) = max (greatest (map param_depth params)) body
step (e.Function arms) = greatest arms
step (e.Paren a) = a
step (e.Typed a ty) = a
step (e.Worded words a) = a
step (e.Exclave a) = a
step (e.Borrow name of body) = body
step (e.Overwrite name a) = a
step _ = 0

abbrev pub arm_step : Arm-F ℕ ℕ ℕ ℕ ℕ → ℕ
arm_step a = max (max (pattern_depth a.pat) (zero_or a.guard)) a.body

abbrev pub bind_step : Bind-F ℕ ℕ ℕ ℕ ℕ → ℕ
bind_step b = max (max (pattern_depth b.pat) (greatest (map param_depth b.params))) b.body

abbrev pub expr_node : Expr-F ℕ ℕ ℕ ℕ ℕ → ℕ
expr_node x = x.kind + 1

abbrev pub field_step : FieldExpr-F ℕ ℕ ℕ ℕ ℕ → ℕ
field_step f = f.expr

abbrev pub expr_depth : Expr → ℕ
expr_depth x = fold-Expr ℕ ℕ ℕ ℕ ℕ step arm_step bind_step expr_node field_step x

abbrev pub kind_depth : ExprKind → ℕ
kind_depth k = fold-ExprKind ℕ ℕ ℕ ℕ ℕ step arm_step bind_step expr_node field_step k

abbrev pub arm_depth : Arm → ℕ
arm_depth a = fold-Arm ℕ ℕ ℕ ℕ ℕ step arm_step bind_step expr_node field_step a

abbrev pub bind_depth : Bind → ℕ
bind_depth b = fold-Bind ℕ ℕ ℕ ℕ ℕ step arm_step bind_step expr_node field_step b

abbrev pub field_depth : FieldExpr → ℕ
field_depth f = fold-FieldExpr ℕ ℕ ℕ ℕ ℕ step arm_step bind_step expr_node field_step f

-- The names and variables of the types that are written in patterns and expressions, in the order of
-- the source.
use Rattle.std.specs.Prelude.{List, [], ◌++◌, map, Option, Some, None}
use Rattle.ml_tree.specs.declared.types.TyExpr.{TyExpr}
use Rattle.ml_tree.specs.declared.pattern.Pat.{Pat, fold-Pat}
use Rattle.ml_tree.specs.declared.pattern.FieldPat.{FieldPat, fold-FieldPat}
use Rattle.ml_tree.specs.declared.pattern.Param.{Param}
use Rattle.ml_tree.specs.declared.pattern.PatKind.{PatKind, fold-PatKind}
use Rattle.ml_tree.specs.declared.pattern.PatKind.TheOpen as p
use Rattle.ml_tree.specs.declared.pattern.PatKind.TheOpen.{PatKind-F, FieldPat-F, Pat-F}
use Rattle.ml_tree.specs.declared.expr.Expr.{Expr, fold-Expr}
use Rattle.ml_tree.specs.declared.expr.Arm.{Arm, fold-Arm}
use Rattle.ml_tree.specs.declared.expr.Bind.{Bind, fold-Bind}
use Rattle.ml_tree.specs.declared.expr.FieldExpr.{FieldExpr, fold-FieldExpr}
use Rattle.ml_tree.specs.declared.expr.ExprKind.{ExprKind, fold-ExprKind}
use Rattle.ml_tree.specs.declared.expr.ExprKind.TheOpen as e
use Rattle.ml_tree.specs.declared.expr.ExprKind.TheOpen.{ExprKind-F, Arm-F, Bind-F, Expr-F, FieldExpr-F}
use Rattle.ml_mentions.specs.declared.mentions.Mention.{Mention}
use Rattle.ml_mentions.specs.Lists.{all}
use Rattle.ml_mentions.specs.Mentions.{mentions}

abbrev pub Found : Type 0
Found = List Mention

abbrev pub perhaps : Option Found → Found
perhaps None = []
perhaps (Some part) = part

abbrev pub pattern_step : PatKind-F Found Found Found → Found
pattern_step (p.Con name arg) = perhaps arg
pattern_step (p.Cons a b) = a ++ b
pattern_step (p.Tuple ps) = all ps
pattern_step (p.List ps) = all ps
pattern_step (p.Fields ps rest) = all ps
pattern_step (p.Or a b) = a ++ b
pattern_step (p.Named q name) = q
pattern_step (p.Typed q ty) = q ++ mentions ty
pattern_step (p.Paren q) = q
pattern_step _ = []

abbrev pub pattern_field : FieldPat-F Found Found Found → Found
pattern_field f = f.pat

abbrev pub pattern_node : Pat-F Found Found Found → Found
pattern_node q = q.kind

abbrev pub in_pattern : Pat → Found
in_pattern q = fold-Pat Found Found Found pattern_step pattern_field pattern_node q

abbrev pub in_pattern_kind : PatKind → Found
in_pattern_kind q = fold-PatKind Found Found Found pattern_step pattern_field pattern_node q

abbrev pub in_field_pattern : FieldPat → Found
in_field_pattern q = fold-FieldPat Found Found Found pattern_step pattern_field pattern_node q

abbrev pub in_param : Param → Found
in_param q = in_pattern q.pat

-- of the type of a result, where it is written
abbrev pub result_type : Option TyExpr → Found
result_type None = []
result_type (Some ty) = mentions ty

abbrev pub step : ExprKind-F Found Found Found Found Found → Found
step (e.Con name arg) = perhaps arg
step (e.Cons a b) = a ++ b
step (e.Tuple es) = all es
step (e.List es) = all es
step (e.Fields fs) = all fs
step (e.Field a name) = a
step (e.Index a b) = a ++ b
step (e.Apply f es) = f ++ all es
step (e.Binary op a b) = a ++ b
step (e.Minus a) = a
step (e.If a b c) = a ++ b ++ perhaps c
step (e.Let recursive binds body) = all binds ++ body
step (e.Seq es) = all es
step (e.Match a arms) = a ++ all arms
step (e.Fun params body) = all (map in_param params) ++ body
step (e.Function arms) = all arms
step (e.Paren a) = a
step (e.Typed a ty) = a ++ mentions ty
step (e.Worded words a) = a
step (e.Exclave a) = a
step (e.Borrow name of body) = body
step (e.Overwrite name a) = a
step _ = []

abbrev pub arm_step : Arm-F Found Found Found Found Found → Found
arm_step a = in_pattern a.pat ++ perhaps a.guard ++ a.body

abbrev pub bind_step : Bind-F Found Found Found Found Found → Found
bind_step b = in_pattern b.pat ++ all (map in_param b.params) ++ result_type b.result ++ b.body

abbrev pub expr_node : Expr-F Found Found Found Found Found → Found
expr_node x = x.kind

abbrev pub field_step : FieldExpr-F Found Found Found Found Found → Found
field_step f = f.expr

abbrev pub in_expr : Expr → Found
in_expr x = fold-Expr Found Found Found Found Found step arm_step bind_step expr_node field_step x

abbrev pub in_kind : ExprKind → Found
in_kind x = fold-ExprKind Found Found Found Found Found step arm_step bind_step expr_node field_step x

abbrev pub in_arm : Arm → Found
in_arm x = fold-Arm Found Found Found Found Found step arm_step bind_step expr_node field_step x

abbrev pub in_bind : Bind → Found
in_bind x = fold-Bind Found Found Found Found Found step arm_step bind_step expr_node field_step x

abbrev pub in_field : FieldExpr → Found
in_field x = fold-FieldExpr Found Found Found Found Found step arm_step bind_step expr_node field_step x

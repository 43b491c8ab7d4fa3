-- How many nodes of a tree are operators between two operands.
use Rattle.std.specs.Prelude.{ℕ, ◌+◌, sum, map}
use Rattle.ml_tree.specs.Nodes.{zero_or}
use Rattle.ml_tree.specs.declared.expr.Expr.{Expr, fold-Expr}
use Rattle.ml_tree.specs.declared.expr.Arm.{Arm, fold-Arm}
use Rattle.ml_tree.specs.declared.expr.Bind.{Bind, fold-Bind}
use Rattle.ml_tree.specs.declared.expr.FieldExpr.{FieldExpr, fold-FieldExpr}
use Rattle.ml_tree.specs.declared.expr.ExprKind.{ExprKind, fold-ExprKind}
use Rattle.ml_tree.specs.declared.expr.ExprKind.TheOpen as e
use Rattle.ml_tree.specs.declared.expr.ExprKind.TheOpen.{ExprKind-F, Arm-F, Bind-F, Expr-F, FieldExpr-F}
use Rattle.ml_tree.specs.declared.program.Item.{Item}
use Rattle.ml_tree.specs.declared.program.ItemKind.{ItemKind}
use Rattle.ml_tree.specs.declared.program.ItemKind.TheVariants as I

abbrev pub step : ExprKind-F ℕ ℕ ℕ ℕ ℕ → ℕ
step (e.Con name arg) = zero_or arg
step (e.Cons a b) = a + b
step (e.Tuple es) = sum es
step (e.List es) = sum es
step (e.Fields fs) = sum fs
step (e.Field a name) = a
step (e.Index a b) = a + b
step (e.Apply f es) = f + sum es
step (e.Binary op a b) = a + b + 1
step (e.Minus a) = a
step (e.If a b c) = a + b + zero_or c
step (e.Let recursive binds body) = sum binds + body
step (e.Seq es) = sum es
step (e.Match a arms) = a + sum arms
step (e.Fun params body) = body
step (e.Function arms) = sum arms
step (e.Paren a) = a
step (e.Typed a ty) = a
step (e.Worded words a) = a
step (e.Exclave a) = a
step (e.Borrow name of body) = body
step (e.Overwrite name a) = a
step _ = 0

abbrev pub arm_step : Arm-F ℕ ℕ ℕ ℕ ℕ → ℕ
arm_step a = zero_or a.guard + a.body

abbrev pub bind_step : Bind-F ℕ ℕ ℕ ℕ ℕ → ℕ
bind_step b = b.body

abbrev pub expr_step : Expr-F ℕ ℕ ℕ ℕ ℕ → ℕ
expr_step x = x.kind

abbrev pub field_step : FieldExpr-F ℕ ℕ ℕ ℕ ℕ → ℕ
field_step f = f.expr

abbrev pub operators : Expr → ℕ
operators x = fold-Expr ℕ ℕ ℕ ℕ ℕ step arm_step bind_step expr_step field_step x

abbrev pub kind_operators : ExprKind → ℕ
kind_operators k = fold-ExprKind ℕ ℕ ℕ ℕ ℕ step arm_step bind_step expr_step field_step k

abbrev pub arm_operators : Arm → ℕ
arm_operators a = fold-Arm ℕ ℕ ℕ ℕ ℕ step arm_step bind_step expr_step field_step a

abbrev pub bind_operators : Bind → ℕ
bind_operators b = fold-Bind ℕ ℕ ℕ ℕ ℕ step arm_step bind_step expr_step field_step b

abbrev pub field_operators : FieldExpr → ℕ
field_operators f = fold-FieldExpr ℕ ℕ ℕ ℕ ℕ step arm_step bind_step expr_step field_step f

abbrev pub item_kind_operators : ItemKind → ℕ
item_kind_operators (I.Types decls) = 0
item_kind_operators (I.Let recursive binds) = sum (map bind_operators binds)

abbrev pub item_operators : Item → ℕ
item_operators i = item_kind_operators i.kind

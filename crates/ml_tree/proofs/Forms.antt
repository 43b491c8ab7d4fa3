-- The depth of the forms that have parts beside a list.
use Rattle.std.proofs.Common.{◌≡◌, ℕ, ◌<◌, ◌^◌, max, arith, List, map, sym, ap, ◌∙◌, Bool}
use Rattle.ml_tree.specs.declared.expr.Expr.{Expr}
use Rattle.ml_tree.specs.declared.expr.Arm.{Arm}
use Rattle.ml_tree.specs.declared.expr.Bind.{Bind}
use Rattle.ml_tree.specs.declared.expr.ExprKind.{ExprKind, fold-roll-ExprKind}
use Rattle.ml_tree.specs.declared.expr.ExprKind.TheVariants.{Apply, Let, Match, rolls-Apply, rolls-Let, rolls-Match}
use Rattle.ml_tree.specs.declared.expr.ExprKind.TheOpen as e
use Rattle.ml_tree.specs.declared.expr.ExprKind.TheOpen.{ExprKind-F}
use Rattle.ml_tree.specs.Depth.{greatest, expr_depth, kind_depth, arm_depth, bind_depth, step, arm_step, bind_step, expr_node, field_step}

pub apply_depth : (f : Expr) (es : List Expr) → kind_depth (Apply f es) ≡ max (expr_depth f) (greatest (map expr_depth es))
apply_depth f es = ap kind_depth (sym (rolls-Apply f es)) ∙ fold-roll-ExprKind ℕ ℕ ℕ ℕ ℕ step arm_step bind_step expr_node field_step (e.Apply f es)

pub let_depth : (recursive : Bool) (binds : List Bind) (body : Expr) → kind_depth (Let recursive binds body) ≡ max (greatest (map bind_depth binds)) (expr_depth body)
let_depth r bs b = ap kind_depth (sym (rolls-Let r bs b)) ∙ fold-roll-ExprKind ℕ ℕ ℕ ℕ ℕ step arm_step bind_step expr_node field_step (e.Let r bs b)

pub match_depth : (a : Expr) (arms : List Arm) → kind_depth (Match a arms) ≡ max (expr_depth a) (greatest (map arm_depth arms))
match_depth a arms = ap kind_depth (sym (rolls-Match a arms)) ∙ fold-roll-ExprKind ℕ ℕ ℕ ℕ ℕ step arm_step bind_step expr_node field_step (e.Match a arms)

pub arguments_fit : (k : ExprKind) (f : Expr) (es list : List Expr) → k ≡ Apply f es → list ≡ es → kind_depth k < 2 ^ 32 → greatest (map expr_depth list) < 2 ^ 32
arguments_fit k f es list e same h = let d : kind_depth k ≡ max (expr_depth f) (greatest (map expr_depth es)) = ap kind_depth e ∙ apply_depth f es in rw same (omega (arith, d, h))

pub binds_fit : (k : ExprKind) (r : Bool) (bs : List Bind) (b : Expr) (list : List Bind) → k ≡ Let r bs b → list ≡ bs → kind_depth k < 2 ^ 32 → greatest (map bind_depth list) < 2 ^ 32
binds_fit k r bs b list e same h = let d : kind_depth k ≡ max (greatest (map bind_depth bs)) (expr_depth b) = ap kind_depth e ∙ let_depth r bs b in rw same (omega (arith, d, h))

pub arms_fit : (k : ExprKind) (a : Expr) (arms list : List Arm) → k ≡ Match a arms → list ≡ arms → kind_depth k < 2 ^ 32 → greatest (map arm_depth list) < 2 ^ 32
arms_fit k a arms list e same h = let d : kind_depth k ≡ max (expr_depth a) (greatest (map arm_depth arms)) = ap kind_depth e ∙ match_depth a arms in rw same (omega (arith, d, h))

-- The numbers of expressions.
use Rattle.std.proofs.Common.{◌≡◌, Option, Some, None, refl, sym, ap, ◌∙◌, subst}
use Rattle.ml_numbers.specs.Steps.{Step, node}
use Rattle.ml_numbers.specs.Ids.{Ids, no_ids, node_id, type_id, joined, all}
use Rattle.ml_numbers.specs.Ids as I
use Rattle.ml_tree.specs.declared.types.TyExpr.{TyExpr}
use Rattle.ml_tree.specs.declared.pattern.Pat.{Pat}
use Rattle.ml_tree.specs.declared.pattern.ConName.{ConName}
use Rattle.ml_tree.specs.declared.expr.Expr.{Expr, ind-Expr, fold-roll-Expr, map-Expr, roll-Expr}
use Rattle.ml_tree.specs.declared.expr.Arm.{Arm, fold-roll-Arm, map-Arm, roll-Arm}
use Rattle.ml_tree.specs.declared.expr.Bind.{Bind, ind-Bind, fold-roll-Bind, map-Bind, roll-Bind}
use Rattle.ml_tree.specs.declared.expr.FieldExpr.{FieldExpr, fold-roll-FieldExpr, map-FieldExpr, roll-FieldExpr}
use Rattle.ml_tree.specs.declared.expr.ExprKind.{ExprKind, fold-roll-ExprKind, map-ExprKind, roll-ExprKind}
use Rattle.ml_tree.specs.declared.expr.ExprKind.TheVariants as E
use Rattle.ml_tree.specs.declared.expr.ExprKind.TheOpen as e
use Rattle.ml_tree.specs.declared.expr.ExprKind.TheOpen.{ExprKind-F, Arm-F, Bind-F, Expr-F, FieldExpr-F}
use Rattle.ml_numbers.specs.Numbered.{step, arm_step, bind_step, expr_node, field_node, numbered_expr, numbered_kind, numbered_arm, numbered_bind, numbered_field, numbered_result}
use Rattle.ml_numbers.proofs.Runs.{Numbers, list_of, maybe_of, numbers_node, numbers_done, numbers_one, numbers_two, numbers_three, numbers_four, numbers_parts}
use Rattle.ml_numbers.proofs.TypeRuns.{type_numbers}
use Rattle.ml_numbers.proofs.PatternRuns.{pattern_numbers, params_numbers}

abbrev ExprKindPart : Type 0
ExprKindPart = (x : ExprKind) × Numbers I.kind_ids (numbered_kind x)

abbrev ArmPart : Type 0
ArmPart = (x : Arm) × Numbers I.arm_ids (numbered_arm x)

abbrev BindPart : Type 0
BindPart = (x : Bind) × Numbers I.bind_ids (numbered_bind x)

abbrev ExprPart : Type 0
ExprPart = (x : Expr) × Numbers I.expr_ids (numbered_expr x)

abbrev FieldExprPart : Type 0
FieldExprPart = (x : FieldExpr) × Numbers I.field_ids (numbered_field x)

abbrev layer_exprkind : ExprKind-F ExprKindPart ArmPart BindPart ExprPart FieldExprPart → ExprKind-F ExprKind Arm Bind Expr FieldExpr
layer_exprkind y = map-ExprKind ExprKindPart ArmPart BindPart ExprPart FieldExprPart ExprKind Arm Bind Expr FieldExpr (λ q. q.0) (λ q. q.0) (λ q. q.0) (λ q. q.0) (λ q. q.0) y

abbrev stepped_exprkind : ExprKind-F ExprKind Arm Bind Expr FieldExpr → ExprKind-F (Step ExprKind) (Step Arm) (Step Bind) (Step Expr) (Step FieldExpr)
stepped_exprkind l = map-ExprKind ExprKind Arm Bind Expr FieldExpr (Step ExprKind) (Step Arm) (Step Bind) (Step Expr) (Step FieldExpr) numbered_kind numbered_arm numbered_bind numbered_expr numbered_field l

abbrev layer_arm : Arm-F ExprKindPart ArmPart BindPart ExprPart FieldExprPart → Arm-F ExprKind Arm Bind Expr FieldExpr
layer_arm y = map-Arm ExprKindPart ArmPart BindPart ExprPart FieldExprPart ExprKind Arm Bind Expr FieldExpr (λ q. q.0) (λ q. q.0) (λ q. q.0) (λ q. q.0) (λ q. q.0) y

abbrev stepped_arm : Arm-F ExprKind Arm Bind Expr FieldExpr → Arm-F (Step ExprKind) (Step Arm) (Step Bind) (Step Expr) (Step FieldExpr)
stepped_arm l = map-Arm ExprKind Arm Bind Expr FieldExpr (Step ExprKind) (Step Arm) (Step Bind) (Step Expr) (Step FieldExpr) numbered_kind numbered_arm numbered_bind numbered_expr numbered_field l

abbrev layer_bind : Bind-F ExprKindPart ArmPart BindPart ExprPart FieldExprPart → Bind-F ExprKind Arm Bind Expr FieldExpr
layer_bind y = map-Bind ExprKindPart ArmPart BindPart ExprPart FieldExprPart ExprKind Arm Bind Expr FieldExpr (λ q. q.0) (λ q. q.0) (λ q. q.0) (λ q. q.0) (λ q. q.0) y

abbrev stepped_bind : Bind-F ExprKind Arm Bind Expr FieldExpr → Bind-F (Step ExprKind) (Step Arm) (Step Bind) (Step Expr) (Step FieldExpr)
stepped_bind l = map-Bind ExprKind Arm Bind Expr FieldExpr (Step ExprKind) (Step Arm) (Step Bind) (Step Expr) (Step FieldExpr) numbered_kind numbered_arm numbered_bind numbered_expr numbered_field l

abbrev layer_expr : Expr-F ExprKindPart ArmPart BindPart ExprPart FieldExprPart → Expr-F ExprKind Arm Bind Expr FieldExpr
layer_expr y = map-Expr ExprKindPart ArmPart BindPart ExprPart FieldExprPart ExprKind Arm Bind Expr FieldExpr (λ q. q.0) (λ q. q.0) (λ q. q.0) (λ q. q.0) (λ q. q.0) y

abbrev stepped_expr : Expr-F ExprKind Arm Bind Expr FieldExpr → Expr-F (Step ExprKind) (Step Arm) (Step Bind) (Step Expr) (Step FieldExpr)
stepped_expr l = map-Expr ExprKind Arm Bind Expr FieldExpr (Step ExprKind) (Step Arm) (Step Bind) (Step Expr) (Step FieldExpr) numbered_kind numbered_arm numbered_bind numbered_expr numbered_field l

abbrev layer_fieldexpr : FieldExpr-F ExprKindPart ArmPart BindPart ExprPart FieldExprPart → FieldExpr-F ExprKind Arm Bind Expr FieldExpr
layer_fieldexpr y = map-FieldExpr ExprKindPart ArmPart BindPart ExprPart FieldExprPart ExprKind Arm Bind Expr FieldExpr (λ q. q.0) (λ q. q.0) (λ q. q.0) (λ q. q.0) (λ q. q.0) y

abbrev stepped_fieldexpr : FieldExpr-F ExprKind Arm Bind Expr FieldExpr → FieldExpr-F (Step ExprKind) (Step Arm) (Step Bind) (Step Expr) (Step FieldExpr)
stepped_fieldexpr l = map-FieldExpr ExprKind Arm Bind Expr FieldExpr (Step ExprKind) (Step Arm) (Step Bind) (Step Expr) (Step FieldExpr) numbered_kind numbered_arm numbered_bind numbered_expr numbered_field l

kind_at : (l : ExprKind-F ExprKind Arm Bind Expr FieldExpr) (k : ExprKind) → roll-ExprKind l ≡ k → I.kind_ids k ≡ I.step (map-ExprKind ExprKind Arm Bind Expr FieldExpr Ids Ids Ids Ids Ids I.kind_ids I.arm_ids I.bind_ids I.expr_ids I.field_ids l)
kind_at l k e = ap I.kind_ids (sym e) ∙ fold-roll-ExprKind Ids Ids Ids Ids Ids I.step I.arm_step I.bind_step I.expr_node I.field_node l

con_law : (name : ConName) (arg : Option Expr) → I.kind_ids (E.Con name arg) ≡ maybe_of I.expr_ids arg
con_law name None = kind_at (e.Con name None) (E.Con name None) (E.rolls-Con name None)
con_law name (Some x) = kind_at (e.Con name (Some x)) (E.Con name (Some x)) (E.rolls-Con name (Some x))

if_law : (x y : Expr) (z : Option Expr) → I.kind_ids (E.If x y z) ≡ joined (I.expr_ids x) (joined (I.expr_ids y) (maybe_of I.expr_ids z))
if_law x y None = kind_at (e.If x y None) (E.If x y None) (E.rolls-If x y None)
if_law x y (Some z) = kind_at (e.If x y (Some z)) (E.If x y (Some z)) (E.rolls-If x y (Some z))

kind_numbers : (y : ExprKind-F ExprKindPart ArmPart BindPart ExprPart FieldExprPart) → Numbers I.kind_ids (step (stepped_exprkind (layer_exprkind y)))
kind_numbers (e.Int z) = numbers_done I.kind_ids (E.Int z) (kind_at (e.Int z) (E.Int z) (E.rolls-Int z))
kind_numbers (e.Char c) = numbers_done I.kind_ids (E.Char c) (kind_at (e.Char c) (E.Char c) (E.rolls-Char c))
kind_numbers (e.Text text) = numbers_done I.kind_ids (E.Text text) (kind_at (e.Text text) (E.Text text) (E.rolls-Text text))
kind_numbers (e.Name name) = numbers_done I.kind_ids (E.Name name) (kind_at (e.Name name) (E.Name name) (E.rolls-Name name))
kind_numbers (e.Path place name) = numbers_done I.kind_ids (E.Path place name) (kind_at (e.Path place name) (E.Path place name) (E.rolls-Path place name))
kind_numbers (e.Con name None) = numbers_one (maybe_of I.expr_ids) I.kind_ids _ (E.Con name) (con_law name) (numbers_done (maybe_of I.expr_ids) None refl)
kind_numbers (e.Con name (Some a)) = numbers_one (maybe_of I.expr_ids) I.kind_ids _ (E.Con name) (con_law name) (numbers_one I.expr_ids (maybe_of I.expr_ids) _ Some (λ x. refl) a.1)
kind_numbers (e.Cons a b) = numbers_two I.expr_ids I.expr_ids I.kind_ids _ _ E.Cons (λ x y. kind_at (e.Cons x y) (E.Cons x y) (E.rolls-Cons x y)) a.1 b.1
kind_numbers (e.Index a b) = numbers_two I.expr_ids I.expr_ids I.kind_ids _ _ E.Index (λ x y. kind_at (e.Index x y) (E.Index x y) (E.rolls-Index x y)) a.1 b.1
kind_numbers (e.Binary op a b) = numbers_two I.expr_ids I.expr_ids I.kind_ids _ _ (E.Binary op) (λ x y. kind_at (e.Binary op x y) (E.Binary op x y) (E.rolls-Binary op x y)) a.1 b.1
kind_numbers (e.Tuple es) = numbers_one (list_of I.expr_ids) I.kind_ids _ E.Tuple (λ xs. kind_at (e.Tuple xs) (E.Tuple xs) (E.rolls-Tuple xs)) (numbers_parts I.expr_ids numbered_expr es)
kind_numbers (e.List es) = numbers_one (list_of I.expr_ids) I.kind_ids _ E.List (λ xs. kind_at (e.List xs) (E.List xs) (E.rolls-List xs)) (numbers_parts I.expr_ids numbered_expr es)
kind_numbers (e.Seq es) = numbers_one (list_of I.expr_ids) I.kind_ids _ E.Seq (λ xs. kind_at (e.Seq xs) (E.Seq xs) (E.rolls-Seq xs)) (numbers_parts I.expr_ids numbered_expr es)
kind_numbers (e.Fields es) = numbers_one (list_of I.field_ids) I.kind_ids _ E.Fields (λ xs. kind_at (e.Fields xs) (E.Fields xs) (E.rolls-Fields xs)) (numbers_parts I.field_ids numbered_field es)
kind_numbers (e.Function es) = numbers_one (list_of I.arm_ids) I.kind_ids _ E.Function (λ xs. kind_at (e.Function xs) (E.Function xs) (E.rolls-Function xs)) (numbers_parts I.arm_ids numbered_arm es)
kind_numbers (e.Field a name) = numbers_one I.expr_ids I.kind_ids _ (λ inner. E.Field inner name) (λ x. kind_at (e.Field x name) (E.Field x name) (E.rolls-Field x name)) a.1
kind_numbers (e.Minus a) = numbers_one I.expr_ids I.kind_ids _ (λ inner. E.Minus inner) (λ x. kind_at (e.Minus x) (E.Minus x) (E.rolls-Minus x)) a.1
kind_numbers (e.Paren a) = numbers_one I.expr_ids I.kind_ids _ (λ inner. E.Paren inner) (λ x. kind_at (e.Paren x) (E.Paren x) (E.rolls-Paren x)) a.1
kind_numbers (e.Worded words a) = numbers_one I.expr_ids I.kind_ids _ (λ inner. E.Worded words inner) (λ x. kind_at (e.Worded words x) (E.Worded words x) (E.rolls-Worded words x)) a.1
kind_numbers (e.Exclave a) = numbers_one I.expr_ids I.kind_ids _ (λ inner. E.Exclave inner) (λ x. kind_at (e.Exclave x) (E.Exclave x) (E.rolls-Exclave x)) a.1
kind_numbers (e.Borrow name of a) = numbers_one I.expr_ids I.kind_ids _ (λ inner. E.Borrow name of inner) (λ x. kind_at (e.Borrow name of x) (E.Borrow name of x) (E.rolls-Borrow name of x)) a.1
kind_numbers (e.Overwrite name a) = numbers_one I.expr_ids I.kind_ids _ (λ inner. E.Overwrite name inner) (λ x. kind_at (e.Overwrite name x) (E.Overwrite name x) (E.rolls-Overwrite name x)) a.1
kind_numbers (e.Apply a es) = numbers_two I.expr_ids (list_of I.expr_ids) I.kind_ids _ _ E.Apply (λ x xs. kind_at (e.Apply x xs) (E.Apply x xs) (E.rolls-Apply x xs)) a.1 (numbers_parts I.expr_ids numbered_expr es)
kind_numbers (e.Match a es) = numbers_two I.expr_ids (list_of I.arm_ids) I.kind_ids _ _ E.Match (λ x xs. kind_at (e.Match x xs) (E.Match x xs) (E.rolls-Match x xs)) a.1 (numbers_parts I.arm_ids numbered_arm es)
kind_numbers (e.If a b None) = numbers_three I.expr_ids I.expr_ids (maybe_of I.expr_ids) I.kind_ids _ _ _ E.If if_law a.1 b.1 (numbers_done (maybe_of I.expr_ids) None refl)
kind_numbers (e.If a b (Some c)) = numbers_three I.expr_ids I.expr_ids (maybe_of I.expr_ids) I.kind_ids _ _ _ E.If if_law a.1 b.1 (numbers_one I.expr_ids (maybe_of I.expr_ids) _ Some (λ x. refl) c.1)
kind_numbers (e.Let recursive binds body) = numbers_two (list_of I.bind_ids) I.expr_ids I.kind_ids _ _ (E.Let recursive) (λ xs x. kind_at (e.Let recursive xs x) (E.Let recursive xs x) (E.rolls-Let recursive xs x)) (numbers_parts I.bind_ids numbered_bind binds) body.1
kind_numbers (e.Fun params body) = numbers_two (list_of I.param_ids) I.expr_ids I.kind_ids _ _ E.Fun (λ xs x. kind_at (e.Fun xs x) (E.Fun xs x) (E.rolls-Fun xs x)) (params_numbers params) body.1
kind_numbers (e.Typed a ty) = numbers_two I.expr_ids I.type_ids I.kind_ids _ _ E.Typed (λ x y. kind_at (e.Typed x y) (E.Typed x y) (E.rolls-Typed x y)) a.1 (type_numbers ty)

arm_law : (pat : Pat) (guard : Option Expr) (body : Expr) → I.arm_ids (roll-Arm (record { pat = pat; guard = guard; body = body })) ≡ joined (I.pattern_ids pat) (joined (maybe_of I.expr_ids guard) (I.expr_ids body))
arm_law pat None body = fold-roll-Arm Ids Ids Ids Ids Ids I.step I.arm_step I.bind_step I.expr_node I.field_node (record { pat = pat; guard = None; body = body })
arm_law pat (Some g) body = fold-roll-Arm Ids Ids Ids Ids Ids I.step I.arm_step I.bind_step I.expr_node I.field_node (record { pat = pat; guard = Some g; body = body })

arm_numbers_of : (pat : Pat) (guard : Option ExprPart) (body : ExprPart) → Numbers I.arm_ids (arm_step (stepped_arm (layer_arm (record { pat = pat; guard = guard; body = body }))))
arm_numbers_of pat None body = numbers_three I.pattern_ids (maybe_of I.expr_ids) I.expr_ids I.arm_ids _ _ _ (λ p g b. roll-Arm (record { pat = p; guard = g; body = b })) arm_law (pattern_numbers pat) (numbers_done (maybe_of I.expr_ids) None refl) body.1
arm_numbers_of pat (Some g) body = numbers_three I.pattern_ids (maybe_of I.expr_ids) I.expr_ids I.arm_ids _ _ _ (λ p g b. roll-Arm (record { pat = p; guard = g; body = b })) arm_law (pattern_numbers pat) (numbers_one I.expr_ids (maybe_of I.expr_ids) _ Some (λ x. refl) g.1) body.1

result_numbers : (r : Option TyExpr) → Numbers I.result_ids (numbered_result r)
result_numbers None = numbers_done I.result_ids None refl
result_numbers (Some ty) = numbers_one I.type_ids I.result_ids _ Some (λ x. refl) (type_numbers ty)

kind_case : (l : ExprKind-F ExprKind Arm Bind Expr FieldExpr) (y : ExprKind-F ExprKindPart ArmPart BindPart ExprPart FieldExprPart) → layer_exprkind y ≡ l → Numbers I.kind_ids (numbered_kind (roll-ExprKind l))
kind_case l y same = subst (Numbers I.kind_ids) (sym (fold-roll-ExprKind (Step ExprKind) (Step Arm) (Step Bind) (Step Expr) (Step FieldExpr) step arm_step bind_step expr_node field_node l)) (subst (λ l. Numbers I.kind_ids (step (stepped_exprkind l))) same (kind_numbers y))

arm_case : (l : Arm-F ExprKind Arm Bind Expr FieldExpr) (y : Arm-F ExprKindPart ArmPart BindPart ExprPart FieldExprPart) → layer_arm y ≡ l → Numbers I.arm_ids (numbered_arm (roll-Arm l))
arm_case l y same = subst (Numbers I.arm_ids) (sym (fold-roll-Arm (Step ExprKind) (Step Arm) (Step Bind) (Step Expr) (Step FieldExpr) step arm_step bind_step expr_node field_node l)) (subst (λ l. Numbers I.arm_ids (arm_step (stepped_arm l))) same (arm_numbers_of y.pat y.guard y.body))

bind_case : (l : Bind-F ExprKind Arm Bind Expr FieldExpr) (y : Bind-F ExprKindPart ArmPart BindPart ExprPart FieldExprPart) → layer_bind y ≡ l → Numbers I.bind_ids (numbered_bind (roll-Bind l))
bind_case l y same = subst (Numbers I.bind_ids) (sym (fold-roll-Bind (Step ExprKind) (Step Arm) (Step Bind) (Step Expr) (Step FieldExpr) step arm_step bind_step expr_node field_node l)) (subst (λ l. Numbers I.bind_ids (bind_step (stepped_bind l))) same (numbers_four I.pattern_ids (list_of I.param_ids) I.result_ids I.expr_ids I.bind_ids _ _ _ _ (λ pat params result body. roll-Bind (record { pat = pat; params = params; result = result; body = body })) (λ pat params result body. fold-roll-Bind Ids Ids Ids Ids Ids I.step I.arm_step I.bind_step I.expr_node I.field_node (record { pat = pat; params = params; result = result; body = body })) (pattern_numbers y.pat) (params_numbers y.params) (result_numbers y.result) y.body.1))

expr_case : (l : Expr-F ExprKind Arm Bind Expr FieldExpr) (y : Expr-F ExprKindPart ArmPart BindPart ExprPart FieldExprPart) → layer_expr y ≡ l → Numbers I.expr_ids (numbered_expr (roll-Expr l))
expr_case l y same = subst (Numbers I.expr_ids) (sym (fold-roll-Expr (Step ExprKind) (Step Arm) (Step Bind) (Step Expr) (Step FieldExpr) step arm_step bind_step expr_node field_node l)) (subst (λ l. Numbers I.expr_ids (expr_node (stepped_expr l))) same (numbers_two I.node_id I.kind_ids I.expr_ids node _ (λ id kind. roll-Expr (record { id = id; span = y.span; kind = kind })) (λ i x. fold-roll-Expr Ids Ids Ids Ids Ids I.step I.arm_step I.bind_step I.expr_node I.field_node (record { id = i; span = y.span; kind = x })) numbers_node y.kind.1))

fieldexpr_case : (l : FieldExpr-F ExprKind Arm Bind Expr FieldExpr) (y : FieldExpr-F ExprKindPart ArmPart BindPart ExprPart FieldExprPart) → layer_fieldexpr y ≡ l → Numbers I.field_ids (numbered_field (roll-FieldExpr l))
fieldexpr_case l y same = subst (Numbers I.field_ids) (sym (fold-roll-FieldExpr (Step ExprKind) (Step Arm) (Step Bind) (Step Expr) (Step FieldExpr) step arm_step bind_step expr_node field_node l)) (subst (λ l. Numbers I.field_ids (field_node (stepped_fieldexpr l))) same (numbers_two I.node_id I.expr_ids I.field_ids node _ (λ id expr. roll-FieldExpr (record { id = id; name = y.name; expr = expr })) (λ i x. fold-roll-FieldExpr Ids Ids Ids Ids Ids I.step I.arm_step I.bind_step I.expr_node I.field_node (record { id = i; name = y.name; expr = x })) numbers_node y.expr.1))

pub expr_numbers : (x : Expr) → Numbers I.expr_ids (numbered_expr x)
expr_numbers x = ind-Expr (λ x. Numbers I.kind_ids (numbered_kind x)) (λ x. Numbers I.arm_ids (numbered_arm x)) (λ x. Numbers I.bind_ids (numbered_bind x)) (λ x. Numbers I.expr_ids (numbered_expr x)) (λ x. Numbers I.field_ids (numbered_field x)) kind_case arm_case bind_case expr_case fieldexpr_case x

pub bind_numbers : (b : Bind) → Numbers I.bind_ids (numbered_bind b)
bind_numbers b = ind-Bind (λ x. Numbers I.kind_ids (numbered_kind x)) (λ x. Numbers I.arm_ids (numbered_arm x)) (λ x. Numbers I.bind_ids (numbered_bind x)) (λ x. Numbers I.expr_ids (numbered_expr x)) (λ x. Numbers I.field_ids (numbered_field x)) kind_case arm_case bind_case expr_case fieldexpr_case b

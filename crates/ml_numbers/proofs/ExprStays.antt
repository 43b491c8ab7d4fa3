-- Numbering leaves expressions as they are, but for the numbers.
use Rattle.std.proofs.Common.{◌≡◌, map, Option, Some, None, refl, sym, ap, ◌∙◌, subst}
use Rattle.std.specs.Option.{option_map}
use Rattle.ml_numbers.specs.Steps.{Step, node}
use Rattle.ml_numbers.specs.Bare as I
use Rattle.ml_tree.specs.declared.types.TyExpr.{TyExpr}
use Rattle.ml_tree.specs.declared.pattern.Pat.{Pat}
use Rattle.ml_tree.specs.declared.pattern.ConName.{ConName}
use Rattle.ml_tree.specs.declared.expr.Expr.{Expr, fold-roll-Expr, map-Expr, roll-Expr}
use Rattle.ml_tree.specs.declared.expr.Arm.{Arm, fold-roll-Arm, map-Arm, roll-Arm}
use Rattle.ml_tree.specs.declared.expr.Bind.{Bind, ind-Bind, fold-roll-Bind, map-Bind, roll-Bind}
use Rattle.ml_tree.specs.declared.expr.FieldExpr.{FieldExpr, fold-roll-FieldExpr, map-FieldExpr, roll-FieldExpr}
use Rattle.ml_tree.specs.declared.expr.ExprKind.{ExprKind, fold-roll-ExprKind, map-ExprKind, roll-ExprKind}
use Rattle.ml_tree.specs.declared.expr.ExprKind.TheVariants as E
use Rattle.ml_tree.specs.declared.expr.ExprKind.TheOpen as e
use Rattle.ml_tree.specs.declared.expr.ExprKind.TheOpen.{ExprKind-F, Arm-F, Bind-F, Expr-F, FieldExpr-F}
use Rattle.ml_numbers.specs.Numbered.{step, arm_step, bind_step, expr_node, field_node, numbered_expr, numbered_kind, numbered_arm, numbered_bind, numbered_field, numbered_result}
use Rattle.ml_numbers.proofs.Stays.{Stays, stays_done, stays_one, stays_two, stays_behind, stays_three, stays_four, stays_parts}
use Rattle.ml_numbers.proofs.TypeStays.{type_stays}
use Rattle.ml_numbers.proofs.PatternStays.{pattern_stays, params_stay}

abbrev ExprKindPart : Type 0
ExprKindPart = (x : ExprKind) × Stays I.bare_kind (I.bare_kind x) (numbered_kind x)

abbrev ArmPart : Type 0
ArmPart = (x : Arm) × Stays I.bare_arm (I.bare_arm x) (numbered_arm x)

abbrev BindPart : Type 0
BindPart = (x : Bind) × Stays I.bare_bind (I.bare_bind x) (numbered_bind x)

abbrev ExprPart : Type 0
ExprPart = (x : Expr) × Stays I.bare_expr (I.bare_expr x) (numbered_expr x)

abbrev FieldExprPart : Type 0
FieldExprPart = (x : FieldExpr) × Stays I.bare_field (I.bare_field x) (numbered_field x)

abbrev layer_exprkind : ExprKind-F ExprKindPart ArmPart BindPart ExprPart FieldExprPart → ExprKind-F ExprKind Arm Bind Expr FieldExpr
layer_exprkind y = map-ExprKind ExprKindPart ArmPart BindPart ExprPart FieldExprPart ExprKind Arm Bind Expr FieldExpr (λ q. q.0) (λ q. q.0) (λ q. q.0) (λ q. q.0) (λ q. q.0) y

abbrev stepped_exprkind : ExprKind-F ExprKind Arm Bind Expr FieldExpr → ExprKind-F (Step ExprKind) (Step Arm) (Step Bind) (Step Expr) (Step FieldExpr)
stepped_exprkind l = map-ExprKind ExprKind Arm Bind Expr FieldExpr (Step ExprKind) (Step Arm) (Step Bind) (Step Expr) (Step FieldExpr) numbered_kind numbered_arm numbered_bind numbered_expr numbered_field l

abbrev bared_exprkind : ExprKind-F ExprKind Arm Bind Expr FieldExpr → ExprKind-F ExprKind Arm Bind Expr FieldExpr
bared_exprkind l = map-ExprKind ExprKind Arm Bind Expr FieldExpr ExprKind Arm Bind Expr FieldExpr I.bare_kind I.bare_arm I.bare_bind I.bare_expr I.bare_field l

abbrev layer_arm : Arm-F ExprKindPart ArmPart BindPart ExprPart FieldExprPart → Arm-F ExprKind Arm Bind Expr FieldExpr
layer_arm y = map-Arm ExprKindPart ArmPart BindPart ExprPart FieldExprPart ExprKind Arm Bind Expr FieldExpr (λ q. q.0) (λ q. q.0) (λ q. q.0) (λ q. q.0) (λ q. q.0) y

abbrev stepped_arm : Arm-F ExprKind Arm Bind Expr FieldExpr → Arm-F (Step ExprKind) (Step Arm) (Step Bind) (Step Expr) (Step FieldExpr)
stepped_arm l = map-Arm ExprKind Arm Bind Expr FieldExpr (Step ExprKind) (Step Arm) (Step Bind) (Step Expr) (Step FieldExpr) numbered_kind numbered_arm numbered_bind numbered_expr numbered_field l

abbrev bared_arm : Arm-F ExprKind Arm Bind Expr FieldExpr → Arm-F ExprKind Arm Bind Expr FieldExpr
bared_arm l = map-Arm ExprKind Arm Bind Expr FieldExpr ExprKind Arm Bind Expr FieldExpr I.bare_kind I.bare_arm I.bare_bind I.bare_expr I.bare_field l

abbrev layer_bind : Bind-F ExprKindPart ArmPart BindPart ExprPart FieldExprPart → Bind-F ExprKind Arm Bind Expr FieldExpr
layer_bind y = map-Bind ExprKindPart ArmPart BindPart ExprPart FieldExprPart ExprKind Arm Bind Expr FieldExpr (λ q. q.0) (λ q. q.0) (λ q. q.0) (λ q. q.0) (λ q. q.0) y

abbrev stepped_bind : Bind-F ExprKind Arm Bind Expr FieldExpr → Bind-F (Step ExprKind) (Step Arm) (Step Bind) (Step Expr) (Step FieldExpr)
stepped_bind l = map-Bind ExprKind Arm Bind Expr FieldExpr (Step ExprKind) (Step Arm) (Step Bind) (Step Expr) (Step FieldExpr) numbered_kind numbered_arm numbered_bind numbered_expr numbered_field l

abbrev bared_bind : Bind-F ExprKind Arm Bind Expr FieldExpr → Bind-F ExprKind Arm Bind Expr FieldExpr
bared_bind l = map-Bind ExprKind Arm Bind Expr FieldExpr ExprKind Arm Bind Expr FieldExpr I.bare_kind I.bare_arm I.bare_bind I.bare_expr I.bare_field l

abbrev layer_expr : Expr-F ExprKindPart ArmPart BindPart ExprPart FieldExprPart → Expr-F ExprKind Arm Bind Expr FieldExpr
layer_expr y = map-Expr ExprKindPart ArmPart BindPart ExprPart FieldExprPart ExprKind Arm Bind Expr FieldExpr (λ q. q.0) (λ q. q.0) (λ q. q.0) (λ q. q.0) (λ q. q.0) y

abbrev stepped_expr : Expr-F ExprKind Arm Bind Expr FieldExpr → Expr-F (Step ExprKind) (Step Arm) (Step Bind) (Step Expr) (Step FieldExpr)
stepped_expr l = map-Expr ExprKind Arm Bind Expr FieldExpr (Step ExprKind) (Step Arm) (Step Bind) (Step Expr) (Step FieldExpr) numbered_kind numbered_arm numbered_bind numbered_expr numbered_field l

abbrev bared_expr : Expr-F ExprKind Arm Bind Expr FieldExpr → Expr-F ExprKind Arm Bind Expr FieldExpr
bared_expr l = map-Expr ExprKind Arm Bind Expr FieldExpr ExprKind Arm Bind Expr FieldExpr I.bare_kind I.bare_arm I.bare_bind I.bare_expr I.bare_field l

abbrev layer_fieldexpr : FieldExpr-F ExprKindPart ArmPart BindPart ExprPart FieldExprPart → FieldExpr-F ExprKind Arm Bind Expr FieldExpr
layer_fieldexpr y = map-FieldExpr ExprKindPart ArmPart BindPart ExprPart FieldExprPart ExprKind Arm Bind Expr FieldExpr (λ q. q.0) (λ q. q.0) (λ q. q.0) (λ q. q.0) (λ q. q.0) y

abbrev stepped_fieldexpr : FieldExpr-F ExprKind Arm Bind Expr FieldExpr → FieldExpr-F (Step ExprKind) (Step Arm) (Step Bind) (Step Expr) (Step FieldExpr)
stepped_fieldexpr l = map-FieldExpr ExprKind Arm Bind Expr FieldExpr (Step ExprKind) (Step Arm) (Step Bind) (Step Expr) (Step FieldExpr) numbered_kind numbered_arm numbered_bind numbered_expr numbered_field l

abbrev bared_fieldexpr : FieldExpr-F ExprKind Arm Bind Expr FieldExpr → FieldExpr-F ExprKind Arm Bind Expr FieldExpr
bared_fieldexpr l = map-FieldExpr ExprKind Arm Bind Expr FieldExpr ExprKind Arm Bind Expr FieldExpr I.bare_kind I.bare_arm I.bare_bind I.bare_expr I.bare_field l

kind_at : (l : ExprKind-F ExprKind Arm Bind Expr FieldExpr) (k : ExprKind) → roll-ExprKind l ≡ k → I.bare_kind k ≡ I.step (bared_exprkind l)
kind_at l k e = ap I.bare_kind (sym e) ∙ fold-roll-ExprKind ExprKind Arm Bind Expr FieldExpr I.step I.arm_step I.bind_step I.expr_node I.field_node l

con_law : (name : ConName) (arg : Option Expr) → I.bare_kind (E.Con name arg) ≡ roll-ExprKind (e.Con name (option_map I.bare_expr arg))
con_law name None = kind_at (e.Con name None) (E.Con name None) (E.rolls-Con name None)
con_law name (Some x) = kind_at (e.Con name (Some x)) (E.Con name (Some x)) (E.rolls-Con name (Some x))

if_law : (x y : Expr) (z : Option Expr) → I.bare_kind (E.If x y z) ≡ roll-ExprKind (e.If (I.bare_expr x) (I.bare_expr y) (option_map I.bare_expr z))
if_law x y None = kind_at (e.If x y None) (E.If x y None) (E.rolls-If x y None)
if_law x y (Some z) = kind_at (e.If x y (Some z)) (E.If x y (Some z)) (E.rolls-If x y (Some z))

kind_stays : (y : ExprKind-F ExprKindPart ArmPart BindPart ExprPart FieldExprPart) → Stays I.bare_kind (I.step (bared_exprkind (layer_exprkind y))) (step (stepped_exprkind (layer_exprkind y)))
kind_stays (e.Int z) = stays_done I.bare_kind (E.Int z) _ (kind_at (e.Int z) (E.Int z) (E.rolls-Int z))
kind_stays (e.Char c) = stays_done I.bare_kind (E.Char c) _ (kind_at (e.Char c) (E.Char c) (E.rolls-Char c))
kind_stays (e.Text text) = stays_done I.bare_kind (E.Text text) _ (kind_at (e.Text text) (E.Text text) (E.rolls-Text text))
kind_stays (e.Name name) = stays_done I.bare_kind (E.Name name) _ (kind_at (e.Name name) (E.Name name) (E.rolls-Name name))
kind_stays (e.Path place name) = stays_done I.bare_kind (E.Path place name) _ (kind_at (e.Path place name) (E.Path place name) (E.rolls-Path place name))
kind_stays (e.Con name None) = stays_one (option_map I.bare_expr) I.bare_kind None _ (E.Con name) (λ arg. roll-ExprKind (e.Con name arg)) (con_law name) (stays_done (option_map I.bare_expr) None None refl)
kind_stays (e.Con name (Some a)) = stays_one (option_map I.bare_expr) I.bare_kind _ _ (E.Con name) (λ arg. roll-ExprKind (e.Con name arg)) (con_law name) (stays_one I.bare_expr (option_map I.bare_expr) _ _ Some Some (λ x. refl) a.1)
kind_stays (e.Cons a b) = stays_two I.bare_expr I.bare_expr I.bare_kind _ _ _ _ E.Cons (λ x y. roll-ExprKind (e.Cons x y)) (λ x y. kind_at (e.Cons x y) (E.Cons x y) (E.rolls-Cons x y)) a.1 b.1
kind_stays (e.Index a b) = stays_two I.bare_expr I.bare_expr I.bare_kind _ _ _ _ E.Index (λ x y. roll-ExprKind (e.Index x y)) (λ x y. kind_at (e.Index x y) (E.Index x y) (E.rolls-Index x y)) a.1 b.1
kind_stays (e.Binary op a b) = stays_two I.bare_expr I.bare_expr I.bare_kind _ _ _ _ (E.Binary op) (λ x y. roll-ExprKind (e.Binary op x y)) (λ x y. kind_at (e.Binary op x y) (E.Binary op x y) (E.rolls-Binary op x y)) a.1 b.1
kind_stays (e.Tuple es) = stays_one (map I.bare_expr) I.bare_kind _ _ E.Tuple (λ xs. roll-ExprKind (e.Tuple xs)) (λ xs. kind_at (e.Tuple xs) (E.Tuple xs) (E.rolls-Tuple xs)) (stays_parts I.bare_expr numbered_expr es)
kind_stays (e.List es) = stays_one (map I.bare_expr) I.bare_kind _ _ E.List (λ xs. roll-ExprKind (e.List xs)) (λ xs. kind_at (e.List xs) (E.List xs) (E.rolls-List xs)) (stays_parts I.bare_expr numbered_expr es)
kind_stays (e.Seq es) = stays_one (map I.bare_expr) I.bare_kind _ _ E.Seq (λ xs. roll-ExprKind (e.Seq xs)) (λ xs. kind_at (e.Seq xs) (E.Seq xs) (E.rolls-Seq xs)) (stays_parts I.bare_expr numbered_expr es)
kind_stays (e.Fields es) = stays_one (map I.bare_field) I.bare_kind _ _ E.Fields (λ xs. roll-ExprKind (e.Fields xs)) (λ xs. kind_at (e.Fields xs) (E.Fields xs) (E.rolls-Fields xs)) (stays_parts I.bare_field numbered_field es)
kind_stays (e.Function es) = stays_one (map I.bare_arm) I.bare_kind _ _ E.Function (λ xs. roll-ExprKind (e.Function xs)) (λ xs. kind_at (e.Function xs) (E.Function xs) (E.rolls-Function xs)) (stays_parts I.bare_arm numbered_arm es)
kind_stays (e.Field a name) = stays_one I.bare_expr I.bare_kind _ _ (λ inner. E.Field inner name) (λ x. roll-ExprKind (e.Field x name)) (λ x. kind_at (e.Field x name) (E.Field x name) (E.rolls-Field x name)) a.1
kind_stays (e.Minus a) = stays_one I.bare_expr I.bare_kind _ _ (λ inner. E.Minus inner) (λ x. roll-ExprKind (e.Minus x)) (λ x. kind_at (e.Minus x) (E.Minus x) (E.rolls-Minus x)) a.1
kind_stays (e.Paren a) = stays_one I.bare_expr I.bare_kind _ _ (λ inner. E.Paren inner) (λ x. roll-ExprKind (e.Paren x)) (λ x. kind_at (e.Paren x) (E.Paren x) (E.rolls-Paren x)) a.1
kind_stays (e.Worded words a) = stays_one I.bare_expr I.bare_kind _ _ (λ inner. E.Worded words inner) (λ x. roll-ExprKind (e.Worded words x)) (λ x. kind_at (e.Worded words x) (E.Worded words x) (E.rolls-Worded words x)) a.1
kind_stays (e.Exclave a) = stays_one I.bare_expr I.bare_kind _ _ (λ inner. E.Exclave inner) (λ x. roll-ExprKind (e.Exclave x)) (λ x. kind_at (e.Exclave x) (E.Exclave x) (E.rolls-Exclave x)) a.1
kind_stays (e.Borrow name of a) = stays_one I.bare_expr I.bare_kind _ _ (λ inner. E.Borrow name of inner) (λ x. roll-ExprKind (e.Borrow name of x)) (λ x. kind_at (e.Borrow name of x) (E.Borrow name of x) (E.rolls-Borrow name of x)) a.1
kind_stays (e.Overwrite name a) = stays_one I.bare_expr I.bare_kind _ _ (λ inner. E.Overwrite name inner) (λ x. roll-ExprKind (e.Overwrite name x)) (λ x. kind_at (e.Overwrite name x) (E.Overwrite name x) (E.rolls-Overwrite name x)) a.1
kind_stays (e.Apply a es) = stays_two I.bare_expr (map I.bare_expr) I.bare_kind _ _ _ _ E.Apply (λ x xs. roll-ExprKind (e.Apply x xs)) (λ x xs. kind_at (e.Apply x xs) (E.Apply x xs) (E.rolls-Apply x xs)) a.1 (stays_parts I.bare_expr numbered_expr es)
kind_stays (e.Match a es) = stays_two I.bare_expr (map I.bare_arm) I.bare_kind _ _ _ _ E.Match (λ x xs. roll-ExprKind (e.Match x xs)) (λ x xs. kind_at (e.Match x xs) (E.Match x xs) (E.rolls-Match x xs)) a.1 (stays_parts I.bare_arm numbered_arm es)
kind_stays (e.If a b None) = stays_three I.bare_expr I.bare_expr (option_map I.bare_expr) I.bare_kind _ _ None _ _ _ E.If (λ x y z. roll-ExprKind (e.If x y z)) if_law a.1 b.1 (stays_done (option_map I.bare_expr) None None refl)
kind_stays (e.If a b (Some c)) = stays_three I.bare_expr I.bare_expr (option_map I.bare_expr) I.bare_kind _ _ _ _ _ _ E.If (λ x y z. roll-ExprKind (e.If x y z)) if_law a.1 b.1 (stays_one I.bare_expr (option_map I.bare_expr) _ _ Some Some (λ x. refl) c.1)
kind_stays (e.Let recursive binds body) = stays_two (map I.bare_bind) I.bare_expr I.bare_kind _ _ _ _ (E.Let recursive) (λ xs x. roll-ExprKind (e.Let recursive xs x)) (λ xs x. kind_at (e.Let recursive xs x) (E.Let recursive xs x) (E.rolls-Let recursive xs x)) (stays_parts I.bare_bind numbered_bind binds) body.1
kind_stays (e.Fun params body) = stays_two (map I.bare_param) I.bare_expr I.bare_kind _ _ _ _ E.Fun E.Fun (λ xs x. kind_at (e.Fun xs x) (E.Fun xs x) (E.rolls-Fun xs x)) (params_stay params) body.1
kind_stays (e.Typed a ty) = stays_two I.bare_expr I.bare_type I.bare_kind _ _ _ _ E.Typed E.Typed (λ x y. kind_at (e.Typed x y) (E.Typed x y) (E.rolls-Typed x y)) a.1 (type_stays ty)

arm_law : (pat : Pat) (guard : Option Expr) (body : Expr) → I.bare_arm (roll-Arm (record { pat = pat; guard = guard; body = body })) ≡ roll-Arm (record { pat = I.bare_pattern pat; guard = option_map I.bare_expr guard; body = I.bare_expr body })
arm_law pat None body = fold-roll-Arm ExprKind Arm Bind Expr FieldExpr I.step I.arm_step I.bind_step I.expr_node I.field_node (record { pat = pat; guard = None; body = body })
arm_law pat (Some g) body = fold-roll-Arm ExprKind Arm Bind Expr FieldExpr I.step I.arm_step I.bind_step I.expr_node I.field_node (record { pat = pat; guard = Some g; body = body })

arm_stays_of : (pat : Pat) (guard : Option ExprPart) (body : ExprPart) → Stays I.bare_arm (I.arm_step (bared_arm (layer_arm (record { pat = pat; guard = guard; body = body })))) (arm_step (stepped_arm (layer_arm (record { pat = pat; guard = guard; body = body }))))
arm_stays_of pat None body = stays_three I.bare_pattern (option_map I.bare_expr) I.bare_expr I.bare_arm _ None _ _ _ _ (λ p g b. roll-Arm (record { pat = p; guard = g; body = b })) (λ p g b. roll-Arm (record { pat = p; guard = g; body = b })) arm_law (pattern_stays pat) (stays_done (option_map I.bare_expr) None None refl) body.1
arm_stays_of pat (Some g) body = stays_three I.bare_pattern (option_map I.bare_expr) I.bare_expr I.bare_arm _ _ _ _ _ _ (λ p g b. roll-Arm (record { pat = p; guard = g; body = b })) (λ p g b. roll-Arm (record { pat = p; guard = g; body = b })) arm_law (pattern_stays pat) (stays_one I.bare_expr (option_map I.bare_expr) _ _ Some Some (λ x. refl) g.1) body.1

result_stays : (r : Option TyExpr) → Stays (option_map I.bare_type) (option_map I.bare_type r) (numbered_result r)
result_stays None = stays_done (option_map I.bare_type) None None refl
result_stays (Some ty) = stays_one I.bare_type (option_map I.bare_type) _ _ Some Some (λ x. refl) (type_stays ty)

kind_case : (l : ExprKind-F ExprKind Arm Bind Expr FieldExpr) (y : ExprKind-F ExprKindPart ArmPart BindPart ExprPart FieldExprPart) → layer_exprkind y ≡ l → Stays I.bare_kind (I.bare_kind (roll-ExprKind l)) (numbered_kind (roll-ExprKind l))
kind_case l y same = subst (λ s. Stays I.bare_kind (I.bare_kind (roll-ExprKind l)) s) (sym (fold-roll-ExprKind (Step ExprKind) (Step Arm) (Step Bind) (Step Expr) (Step FieldExpr) step arm_step bind_step expr_node field_node l)) (subst (λ v. Stays I.bare_kind v (step (stepped_exprkind l))) (sym (fold-roll-ExprKind ExprKind Arm Bind Expr FieldExpr I.step I.arm_step I.bind_step I.expr_node I.field_node l)) (subst (λ l. Stays I.bare_kind (I.step (bared_exprkind l)) (step (stepped_exprkind l))) same (kind_stays y)))

arm_case : (l : Arm-F ExprKind Arm Bind Expr FieldExpr) (y : Arm-F ExprKindPart ArmPart BindPart ExprPart FieldExprPart) → layer_arm y ≡ l → Stays I.bare_arm (I.bare_arm (roll-Arm l)) (numbered_arm (roll-Arm l))
arm_case l y same = subst (λ s. Stays I.bare_arm (I.bare_arm (roll-Arm l)) s) (sym (fold-roll-Arm (Step ExprKind) (Step Arm) (Step Bind) (Step Expr) (Step FieldExpr) step arm_step bind_step expr_node field_node l)) (subst (λ v. Stays I.bare_arm v (arm_step (stepped_arm l))) (sym (fold-roll-Arm ExprKind Arm Bind Expr FieldExpr I.step I.arm_step I.bind_step I.expr_node I.field_node l)) (subst (λ l. Stays I.bare_arm (I.arm_step (bared_arm l)) (arm_step (stepped_arm l))) same (arm_stays_of y.pat y.guard y.body)))

bind_case : (l : Bind-F ExprKind Arm Bind Expr FieldExpr) (y : Bind-F ExprKindPart ArmPart BindPart ExprPart FieldExprPart) → layer_bind y ≡ l → Stays I.bare_bind (I.bare_bind (roll-Bind l)) (numbered_bind (roll-Bind l))
bind_case l y same = subst (λ s. Stays I.bare_bind (I.bare_bind (roll-Bind l)) s) (sym (fold-roll-Bind (Step ExprKind) (Step Arm) (Step Bind) (Step Expr) (Step FieldExpr) step arm_step bind_step expr_node field_node l)) (subst (λ v. Stays I.bare_bind v (bind_step (stepped_bind l))) (sym (fold-roll-Bind ExprKind Arm Bind Expr FieldExpr I.step I.arm_step I.bind_step I.expr_node I.field_node l)) (subst (λ l. Stays I.bare_bind (I.bind_step (bared_bind l)) (bind_step (stepped_bind l))) same (stays_four I.bare_pattern (map I.bare_param) (option_map I.bare_type) I.bare_expr I.bare_bind _ _ _ _ _ _ _ _ (λ pat params result body. roll-Bind (record { pat = pat; params = params; result = result; body = body })) (λ pat params result body. roll-Bind (record { pat = pat; params = params; result = result; body = body })) (λ pat params result body. fold-roll-Bind ExprKind Arm Bind Expr FieldExpr I.step I.arm_step I.bind_step I.expr_node I.field_node (record { pat = pat; params = params; result = result; body = body })) (pattern_stays y.pat) (params_stay y.params) (result_stays y.result) y.body.1)))

expr_case : (l : Expr-F ExprKind Arm Bind Expr FieldExpr) (y : Expr-F ExprKindPart ArmPart BindPart ExprPart FieldExprPart) → layer_expr y ≡ l → Stays I.bare_expr (I.bare_expr (roll-Expr l)) (numbered_expr (roll-Expr l))
expr_case l y same = subst (λ s. Stays I.bare_expr (I.bare_expr (roll-Expr l)) s) (sym (fold-roll-Expr (Step ExprKind) (Step Arm) (Step Bind) (Step Expr) (Step FieldExpr) step arm_step bind_step expr_node field_node l)) (subst (λ v. Stays I.bare_expr v (expr_node (stepped_expr l))) (sym (fold-roll-Expr ExprKind Arm Bind Expr FieldExpr I.step I.arm_step I.bind_step I.expr_node I.field_node l)) (subst (λ l. Stays I.bare_expr (I.expr_node (bared_expr l)) (expr_node (stepped_expr l))) same (stays_behind I.bare_kind I.bare_expr _ node _ (λ id kind. roll-Expr (record { id = id; span = y.span; kind = kind })) (λ kind. roll-Expr (record { id = 0; span = y.span; kind = kind })) (λ i x. fold-roll-Expr ExprKind Arm Bind Expr FieldExpr I.step I.arm_step I.bind_step I.expr_node I.field_node (record { id = i; span = y.span; kind = x })) y.kind.1)))

fieldexpr_case : (l : FieldExpr-F ExprKind Arm Bind Expr FieldExpr) (y : FieldExpr-F ExprKindPart ArmPart BindPart ExprPart FieldExprPart) → layer_fieldexpr y ≡ l → Stays I.bare_field (I.bare_field (roll-FieldExpr l)) (numbered_field (roll-FieldExpr l))
fieldexpr_case l y same = subst (λ s. Stays I.bare_field (I.bare_field (roll-FieldExpr l)) s) (sym (fold-roll-FieldExpr (Step ExprKind) (Step Arm) (Step Bind) (Step Expr) (Step FieldExpr) step arm_step bind_step expr_node field_node l)) (subst (λ v. Stays I.bare_field v (field_node (stepped_fieldexpr l))) (sym (fold-roll-FieldExpr ExprKind Arm Bind Expr FieldExpr I.step I.arm_step I.bind_step I.expr_node I.field_node l)) (subst (λ l. Stays I.bare_field (I.field_node (bared_fieldexpr l)) (field_node (stepped_fieldexpr l))) same (stays_behind I.bare_expr I.bare_field _ node _ (λ id expr. roll-FieldExpr (record { id = id; name = y.name; expr = expr })) (λ expr. roll-FieldExpr (record { id = 0; name = y.name; expr = expr })) (λ i x. fold-roll-FieldExpr ExprKind Arm Bind Expr FieldExpr I.step I.arm_step I.bind_step I.expr_node I.field_node (record { id = i; name = y.name; expr = x })) y.expr.1)))

pub bind_stays : (b : Bind) → Stays I.bare_bind (I.bare_bind b) (numbered_bind b)
bind_stays b = ind-Bind (λ x. Stays I.bare_kind (I.bare_kind x) (numbered_kind x)) (λ x. Stays I.bare_arm (I.bare_arm x) (numbered_arm x)) (λ x. Stays I.bare_bind (I.bare_bind x) (numbered_bind x)) (λ x. Stays I.bare_expr (I.bare_expr x) (numbered_expr x)) (λ x. Stays I.bare_field (I.bare_field x) (numbered_field x)) kind_case arm_case bind_case expr_case fieldexpr_case b

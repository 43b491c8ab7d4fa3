-- The rows of single kinds of expressions.
use Rattle.std.proofs.Common.{◌≡◌, ℕ, ℤ, Bool, List, [], ◌∷◌, ◌++◌, Option, Some, None, map, refl, sym, ap, ◌∙◌}
use Rattle.std.specs.Option.{option_map}
use Rattle.oxml_base.specs.declared.span.Span.{Span}
use Rattle.oxml_base.specs.declared.literal.Lit.{Lit}
use Rattle.ml_tree.specs.declared.words.Words.{Words}
use Rattle.ml_tree.specs.declared.types.TyExpr.{TyExpr}
use Rattle.ml_tree.specs.declared.pattern.ConName.{ConName}
use Rattle.ml_tree.specs.declared.pattern.Param.{Param}
use Rattle.ml_tree.specs.declared.pattern.Pat.{Pat}
use Rattle.ml_tree.specs.declared.expr.BinOp.{BinOp}
use Rattle.ml_tree.specs.declared.expr.Arm.{Arm, out-Arm, map-Arm, fold_out-Arm}
use Rattle.ml_tree.specs.declared.expr.Bind.{Bind, out-Bind, fold_out-Bind}
use Rattle.ml_tree.specs.declared.expr.FieldExpr.{FieldExpr, out-FieldExpr, fold_out-FieldExpr}
use Rattle.ml_tree.specs.declared.expr.Expr.{Expr, out-Expr, fold_out-Expr}
use Rattle.ml_tree.specs.declared.expr.ExprKind.{ExprKind, fold-roll-ExprKind}
use Rattle.ml_tree.specs.declared.expr.ExprKind.TheVariants as E
use Rattle.ml_tree.specs.declared.expr.ExprKind.TheOpen as e
use Rattle.ml_typing.specs.declared.equation.Unknown.TheVariants.{Node}
use Rattle.ml_typing.specs.declared.equation.Term.{Term}
use Rattle.ml_typing.specs.declared.equation.Equation.{Equation}
use Rattle.ml_typing.specs.Written.{Names}
use Rattle.hm_steps.specs.Blocks.{field_is}
use Rattle.ml_typing.specs.Rows.{Part, Row, FieldPart, equation, node_is, declared_field, pattern, part_of, field_part}
use Rattle.ml_typing.specs.Steps.{param_parts, result_term, ArmPart, BindPart, expression, expr_kind, arm, bind, field_expr, expr_row, arm_part, bind_part, expr_whole, expr_field}

pub con : (names : Names) (name : ConName) (arg : Option Expr) → expr_kind names (E.Con name arg) ≡ expr_row names (e.Con name (option_map (expression names) arg))
con names name None = ap (expr_kind names) (sym (E.rolls-Con name None)) ∙ fold-roll-ExprKind Row ArmPart BindPart Part FieldPart (expr_row names) (arm_part names) (bind_part names) expr_whole expr_field (e.Con name None)
con names name (Some x) = ap (expr_kind names) (sym (E.rolls-Con name (Some x))) ∙ fold-roll-ExprKind Row ArmPart BindPart Part FieldPart (expr_row names) (arm_part names) (bind_part names) expr_whole expr_field (e.Con name (Some x))

pub conditional : (names : Names) (x y : Expr) (other : Option Expr) → expr_kind names (E.If x y other) ≡ expr_row names (e.If (expression names x) (expression names y) (option_map (expression names) other))
conditional names x y None = ap (expr_kind names) (sym (E.rolls-If x y None)) ∙ fold-roll-ExprKind Row ArmPart BindPart Part FieldPart (expr_row names) (arm_part names) (bind_part names) expr_whole expr_field (e.If x y None)
conditional names x y (Some z) = ap (expr_kind names) (sym (E.rolls-If x y (Some z))) ∙ fold-roll-ExprKind Row ArmPart BindPart Part FieldPart (expr_row names) (arm_part names) (bind_part names) expr_whole expr_field (e.If x y (Some z))

pub cons : (names : Names) (x y : Expr) → expr_kind names (E.Cons x y) ≡ expr_row names (e.Cons (expression names x) (expression names y))
cons names x y = ap (expr_kind names) (sym (E.rolls-Cons x y)) ∙ fold-roll-ExprKind Row ArmPart BindPart Part FieldPart (expr_row names) (arm_part names) (bind_part names) expr_whole expr_field (e.Cons x y)

pub tuple : (names : Names) (xs : List Expr) → expr_kind names (E.Tuple xs) ≡ expr_row names (e.Tuple (map (expression names) xs))
tuple names xs = ap (expr_kind names) (sym (E.rolls-Tuple xs)) ∙ fold-roll-ExprKind Row ArmPart BindPart Part FieldPart (expr_row names) (arm_part names) (bind_part names) expr_whole expr_field (e.Tuple xs)

pub list : (names : Names) (xs : List Expr) → expr_kind names (E.List xs) ≡ expr_row names (e.List (map (expression names) xs))
list names xs = ap (expr_kind names) (sym (E.rolls-List xs)) ∙ fold-roll-ExprKind Row ArmPart BindPart Part FieldPart (expr_row names) (arm_part names) (bind_part names) expr_whole expr_field (e.List xs)

pub fields : (names : Names) (fs : List FieldExpr) → expr_kind names (E.Fields fs) ≡ expr_row names (e.Fields (map (field_expr names) fs))
fields names fs = ap (expr_kind names) (sym (E.rolls-Fields fs)) ∙ fold-roll-ExprKind Row ArmPart BindPart Part FieldPart (expr_row names) (arm_part names) (bind_part names) expr_whole expr_field (e.Fields fs)

pub field : (names : Names) (x : Expr) (name : Span) → expr_kind names (E.Field x name) ≡ expr_row names (e.Field (expression names x) name)
field names x name = ap (expr_kind names) (sym (E.rolls-Field x name)) ∙ fold-roll-ExprKind Row ArmPart BindPart Part FieldPart (expr_row names) (arm_part names) (bind_part names) expr_whole expr_field (e.Field x name)

pub index : (names : Names) (x y : Expr) → expr_kind names (E.Index x y) ≡ expr_row names (e.Index (expression names x) (expression names y))
index names x y = ap (expr_kind names) (sym (E.rolls-Index x y)) ∙ fold-roll-ExprKind Row ArmPart BindPart Part FieldPart (expr_row names) (arm_part names) (bind_part names) expr_whole expr_field (e.Index x y)

pub apply : (names : Names) (x : Expr) (xs : List Expr) → expr_kind names (E.Apply x xs) ≡ expr_row names (e.Apply (expression names x) (map (expression names) xs))
apply names x xs = ap (expr_kind names) (sym (E.rolls-Apply x xs)) ∙ fold-roll-ExprKind Row ArmPart BindPart Part FieldPart (expr_row names) (arm_part names) (bind_part names) expr_whole expr_field (e.Apply x xs)

pub binary : (names : Names) (op : BinOp) (x y : Expr) → expr_kind names (E.Binary op x y) ≡ expr_row names (e.Binary op (expression names x) (expression names y))
binary names op x y = ap (expr_kind names) (sym (E.rolls-Binary op x y)) ∙ fold-roll-ExprKind Row ArmPart BindPart Part FieldPart (expr_row names) (arm_part names) (bind_part names) expr_whole expr_field (e.Binary op x y)

pub minus : (names : Names) (x : Expr) → expr_kind names (E.Minus x) ≡ expr_row names (e.Minus (expression names x))
minus names x = ap (expr_kind names) (sym (E.rolls-Minus x)) ∙ fold-roll-ExprKind Row ArmPart BindPart Part FieldPart (expr_row names) (arm_part names) (bind_part names) expr_whole expr_field (e.Minus x)

pub binding : (names : Names) (recursive : Bool) (bs : List Bind) (x : Expr) → expr_kind names (E.Let recursive bs x) ≡ expr_row names (e.Let recursive (map (bind names) bs) (expression names x))
binding names recursive bs x = ap (expr_kind names) (sym (E.rolls-Let recursive bs x)) ∙ fold-roll-ExprKind Row ArmPart BindPart Part FieldPart (expr_row names) (arm_part names) (bind_part names) expr_whole expr_field (e.Let recursive bs x)

pub sequence : (names : Names) (xs : List Expr) → expr_kind names (E.Seq xs) ≡ expr_row names (e.Seq (map (expression names) xs))
sequence names xs = ap (expr_kind names) (sym (E.rolls-Seq xs)) ∙ fold-roll-ExprKind Row ArmPart BindPart Part FieldPart (expr_row names) (arm_part names) (bind_part names) expr_whole expr_field (e.Seq xs)

pub cases : (names : Names) (x : Expr) (arms : List Arm) → expr_kind names (E.Match x arms) ≡ expr_row names (e.Match (expression names x) (map (arm names) arms))
cases names x arms = ap (expr_kind names) (sym (E.rolls-Match x arms)) ∙ fold-roll-ExprKind Row ArmPart BindPart Part FieldPart (expr_row names) (arm_part names) (bind_part names) expr_whole expr_field (e.Match x arms)

pub function : (names : Names) (params : List Param) (x : Expr) → expr_kind names (E.Fun params x) ≡ expr_row names (e.Fun params (expression names x))
function names params x = ap (expr_kind names) (sym (E.rolls-Fun params x)) ∙ fold-roll-ExprKind Row ArmPart BindPart Part FieldPart (expr_row names) (arm_part names) (bind_part names) expr_whole expr_field (e.Fun params x)

pub matching : (names : Names) (arms : List Arm) → expr_kind names (E.Function arms) ≡ expr_row names (e.Function (map (arm names) arms))
matching names arms = ap (expr_kind names) (sym (E.rolls-Function arms)) ∙ fold-roll-ExprKind Row ArmPart BindPart Part FieldPart (expr_row names) (arm_part names) (bind_part names) expr_whole expr_field (e.Function arms)

pub paren : (names : Names) (x : Expr) → expr_kind names (E.Paren x) ≡ expr_row names (e.Paren (expression names x))
paren names x = ap (expr_kind names) (sym (E.rolls-Paren x)) ∙ fold-roll-ExprKind Row ArmPart BindPart Part FieldPart (expr_row names) (arm_part names) (bind_part names) expr_whole expr_field (e.Paren x)

pub typed : (names : Names) (x : Expr) (ty : TyExpr) → expr_kind names (E.Typed x ty) ≡ expr_row names (e.Typed (expression names x) ty)
typed names x ty = ap (expr_kind names) (sym (E.rolls-Typed x ty)) ∙ fold-roll-ExprKind Row ArmPart BindPart Part FieldPart (expr_row names) (arm_part names) (bind_part names) expr_whole expr_field (e.Typed x ty)

pub worded : (names : Names) (words : Words) (x : Expr) → expr_kind names (E.Worded words x) ≡ expr_row names (e.Worded words (expression names x))
worded names words x = ap (expr_kind names) (sym (E.rolls-Worded words x)) ∙ fold-roll-ExprKind Row ArmPart BindPart Part FieldPart (expr_row names) (arm_part names) (bind_part names) expr_whole expr_field (e.Worded words x)

pub exclave : (names : Names) (x : Expr) → expr_kind names (E.Exclave x) ≡ expr_row names (e.Exclave (expression names x))
exclave names x = ap (expr_kind names) (sym (E.rolls-Exclave x)) ∙ fold-roll-ExprKind Row ArmPart BindPart Part FieldPart (expr_row names) (arm_part names) (bind_part names) expr_whole expr_field (e.Exclave x)

pub borrow : (names : Names) (name lent : Span) (x : Expr) → expr_kind names (E.Borrow name lent x) ≡ expr_row names (e.Borrow name lent (expression names x))
borrow names name lent x = ap (expr_kind names) (sym (E.rolls-Borrow name lent x)) ∙ fold-roll-ExprKind Row ArmPart BindPart Part FieldPart (expr_row names) (arm_part names) (bind_part names) expr_whole expr_field (e.Borrow name lent x)

pub overwrite : (names : Names) (name : Span) (x : Expr) → expr_kind names (E.Overwrite name x) ≡ expr_row names (e.Overwrite name (expression names x))
overwrite names name x = ap (expr_kind names) (sym (E.rolls-Overwrite name x)) ∙ fold-roll-ExprKind Row ArmPart BindPart Part FieldPart (expr_row names) (arm_part names) (bind_part names) expr_whole expr_field (e.Overwrite name x)

pub int_value : (names : Names) (value : ℤ) → expr_kind names (E.Int value) ≡ expr_row names (e.Int value)
int_value names value = ap (expr_kind names) (sym (E.rolls-Int value)) ∙ fold-roll-ExprKind Row ArmPart BindPart Part FieldPart (expr_row names) (arm_part names) (bind_part names) expr_whole expr_field (e.Int value)

pub char_value : (names : Names) (value : ℕ) → expr_kind names (E.Char value) ≡ expr_row names (e.Char value)
char_value names value = ap (expr_kind names) (sym (E.rolls-Char value)) ∙ fold-roll-ExprKind Row ArmPart BindPart Part FieldPart (expr_row names) (arm_part names) (bind_part names) expr_whole expr_field (e.Char value)

pub text_value : (names : Names) (value : Lit) → expr_kind names (E.Text value) ≡ expr_row names (e.Text value)
text_value names value = ap (expr_kind names) (sym (E.rolls-Text value)) ∙ fold-roll-ExprKind Row ArmPart BindPart Part FieldPart (expr_row names) (arm_part names) (bind_part names) expr_whole expr_field (e.Text value)

pub name : (names : Names) (span : Span) → expr_kind names (E.Name span) ≡ expr_row names (e.Name span)
name names span = ap (expr_kind names) (sym (E.rolls-Name span)) ∙ fold-roll-ExprKind Row ArmPart BindPart Part FieldPart (expr_row names) (arm_part names) (bind_part names) expr_whole expr_field (e.Name span)

pub path : (names : Names) (place span : Span) → expr_kind names (E.Path place span) ≡ expr_row names (e.Path place span)
path names place span = ap (expr_kind names) (sym (E.rolls-Path place span)) ∙ fold-roll-ExprKind Row ArmPart BindPart Part FieldPart (expr_row names) (arm_part names) (bind_part names) expr_whole expr_field (e.Path place span)

-- an expression's node
pub whole : (names : Names) (x : Expr) → expression names x ≡ part_of (out-Expr x).id (out-Expr x).span (expr_kind names (out-Expr x).kind)
whole names x = fold_out-Expr Row ArmPart BindPart Part FieldPart (expr_row names) (arm_part names) (bind_part names) expr_whole expr_field x

pub whole_id : (names : Names) (x : Expr) → (expression names x).id ≡ (out-Expr x).id
whole_id names x = ap (λ (q : Part). q.id) (whole names x)

pub whole_span : (names : Names) (x : Expr) → (expression names x).span ≡ (out-Expr x).span
whole_span names x = ap (λ (q : Part). q.span) (whole names x)

-- an equation that a part has a type
pub is_node : (names : Names) (x : Expr) (right : Term) → equation (out-Expr x).span (Node (out-Expr x).id) right ≡ node_is (expression names x) right
is_node names x right = ap (λ (z : Part). equation z.span (Node z.id) right) (sym (whole names x))

pub of_field : (names : Names) (f : FieldExpr) → field_expr names f ≡ field_part (out-FieldExpr f).id (out-FieldExpr f).name (expression names (out-FieldExpr f).expr)
of_field names f = fold_out-FieldExpr Row ArmPart BindPart Part FieldPart (expr_row names) (arm_part names) (bind_part names) expr_whole expr_field f

pub is_field : (names : Names) (n : ℕ) (f : FieldExpr) (right : Term) (old new : List Equation) → right ≡ declared_field n (names.target (out-FieldExpr f).id) → new ≡ old ++ equation (out-Expr (out-FieldExpr f).expr).span (Node (out-Expr (out-FieldExpr f).expr).id) right ∷ [] → new ≡ old ++ field_is names n (field_expr names f) ∷ []
is_field names n f right old new e h =
    let x = (out-FieldExpr f).expr in
    h ∙ ap (λ z. old ++ z ∷ []) (is_node names x right ∙ (ap (node_is (expression names x)) e ∙ ap (field_is names n) (sym (of_field names f))))

arm_parts : (names : Names) (pat : Pat) (guard : Option Expr) (body : Expr) → arm_part names (map-Arm ExprKind Arm Bind Expr FieldExpr Row ArmPart BindPart Part FieldPart (expr_kind names) (arm names) (bind names) (expression names) (field_expr names) (record { pat = pat; guard = guard; body = body })) ≡ record { pat = pattern names pat; guard = option_map (expression names) guard; body = expression names body }
arm_parts names pat None body = refl
arm_parts names pat (Some x) body = refl

pub of_arm : (names : Names) (a : Arm) → arm names a ≡ record { pat = pattern names (out-Arm a).pat; guard = option_map (expression names) (out-Arm a).guard; body = expression names (out-Arm a).body }
of_arm names a = fold_out-Arm Row ArmPart BindPart Part FieldPart (expr_row names) (arm_part names) (bind_part names) expr_whole expr_field a ∙ arm_parts names (out-Arm a).pat (out-Arm a).guard (out-Arm a).body

pub of_bind : (names : Names) (b : Bind) → bind names b ≡ record { pat = pattern names (out-Bind b).pat; params = param_parts names (out-Bind b).params; result = result_term names (out-Bind b).result; body = expression names (out-Bind b).body }
of_bind names b = fold_out-Bind Row ArmPart BindPart Part FieldPart (expr_row names) (arm_part names) (bind_part names) expr_whole expr_field b

-- neither is a comparison, whatever its last part
pub con_compares : (names : Names) (name : ConName) (arg : Option Expr) (n : ℕ) → (expr_kind names (E.Con name arg)).compared n ≡ None
con_compares names name arg n = ap (λ (r : Row). r.compared n) (ap (expr_kind names) (sym (E.rolls-Con name arg)) ∙ fold-roll-ExprKind Row ArmPart BindPart Part FieldPart (expr_row names) (arm_part names) (bind_part names) expr_whole expr_field (e.Con name arg))

pub if_compares : (names : Names) (x y : Expr) (arg : Option Expr) (n : ℕ) → (expr_kind names (E.If x y arg)).compared n ≡ None
if_compares names x y arg n = ap (λ (r : Row). r.compared n) (ap (expr_kind names) (sym (E.rolls-If x y arg)) ∙ fold-roll-ExprKind Row ArmPart BindPart Part FieldPart (expr_row names) (arm_part names) (bind_part names) expr_whole expr_field (e.If x y arg))

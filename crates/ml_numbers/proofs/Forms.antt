-- The forms that hold a list: their numbers from those of their parts.
use Rattle.std.proofs.Common.{◌≡◌, Bool, List, map, sym, ap, ◌∙◌}
use Rattle.oxml_base.specs.declared.span.Span.{Span}
use Rattle.ml_tree.specs.declared.types.TyExpr.{TyExpr}
use Rattle.ml_tree.specs.declared.types.TyKind.{TyKind, fold-roll-TyKind}
use Rattle.ml_tree.specs.declared.types.TyKind.TheVariants as T
use Rattle.ml_tree.specs.declared.types.TyKind.TheOpen as t
use Rattle.ml_tree.specs.declared.types.Arg.{Arg}
use Rattle.ml_tree.specs.declared.pattern.Pat.{Pat}
use Rattle.ml_tree.specs.declared.pattern.FieldPat.{FieldPat}
use Rattle.ml_tree.specs.declared.pattern.PatKind.{PatKind, fold-roll-PatKind}
use Rattle.ml_tree.specs.declared.pattern.PatKind.TheVariants as P
use Rattle.ml_tree.specs.declared.pattern.PatKind.TheOpen as p
use Rattle.ml_tree.specs.declared.expr.Expr.{Expr}
use Rattle.ml_tree.specs.declared.expr.Arm.{Arm}
use Rattle.ml_tree.specs.declared.expr.Bind.{Bind}
use Rattle.ml_tree.specs.declared.expr.FieldExpr.{FieldExpr}
use Rattle.ml_tree.specs.declared.expr.ExprKind.{ExprKind, fold-roll-ExprKind}
use Rattle.ml_tree.specs.declared.expr.ExprKind.TheVariants as E
use Rattle.ml_tree.specs.declared.expr.ExprKind.TheOpen as e
use Rattle.ml_numbers.specs.declared.next.Next.{Next}
use Rattle.ml_numbers.specs.Steps.{Step, one, two, each}
use Rattle.ml_numbers.specs.Numbered.{numbered_type, numbered_type_kind, type_step, arg_step, type_node, numbered_pattern, numbered_pattern_kind, numbered_field_pattern, pattern_step, field_pattern_node, pattern_node, numbered_expr, numbered_kind, numbered_arm, numbered_bind, numbered_field, step, arm_step, bind_step, expr_node, field_node}

along : {A : Type 0} (f : A → Step A) (xs list out : List A) (n m : Next) → list ≡ xs → each (map f list) n ≡ (out, m) → each (map f xs) n ≡ (out, m)
along f xs list out n m same h = ap (λ zs. each (map f zs) n) (sym same) ∙ h

-- a form that is a list
pub of_list : {K A : Type 0} (number : K → Step K) (f : A → Step A) (make : List A → K) (k : K) (xs list out : List A) (n m : Next) → ((ys : List A) → number (make ys) ≡ one (each (map f ys)) make) → k ≡ make xs → list ≡ xs → each (map f list) n ≡ (out, m) → number k n ≡ (make out, m)
of_list number f make k xs list out n m law is same h =
    ap (λ z. number z n) is ∙ (ap (λ s. s n) (law xs) ∙ ap (λ r. (make r.0, r.1)) (along f xs list out n m same h))

-- a part, and a list behind it
pub with_list : {K A B : Type 0} (number : K → Step K) (g : B → Step B) (f : A → Step A) (make : B → List A → K) (k : K) (x y : B) (xs list out : List A) (n l m : Next) → ((z : B) (ys : List A) → number (make z ys) ≡ two (g z) (each (map f ys)) make) → k ≡ make x xs → g x n ≡ (y, l) → list ≡ xs → each (map f list) l ≡ (out, m) → number k n ≡ (make y out, m)
with_list number g f make k x y xs list out n l m law is e same h =
    ap (λ z. number z n) is ∙ (ap (λ s. s n) (law x xs) ∙ (ap (λ r. (make r.0 (each (map f xs) r.1).0, (each (map f xs) r.1).1)) e ∙ ap (λ r. (make y r.0, r.1)) (along f xs list out l m same h)))

-- a list, and a part behind it
pub behind_list : {K A B : Type 0} (number : K → Step K) (f : A → Step A) (g : B → Step B) (make : List A → B → K) (k : K) (x y : B) (xs list out : List A) (n l m : Next) → ((ys : List A) (z : B) → number (make ys z) ≡ two (each (map f ys)) (g z) make) → k ≡ make xs x → list ≡ xs → each (map f list) n ≡ (out, l) → g x l ≡ (y, m) → number k n ≡ (make out y, m)
behind_list number f g make k x y xs list out n l m law is same h e =
    ap (λ z. number z n) is ∙ (ap (λ s. s n) (law xs x) ∙ (ap (λ r. (make r.0 (g x r.1).0, (g x r.1).1)) (along f xs list out n l same h) ∙ ap (λ r. (make out r.0, r.1)) e))

pub type_con : (name : Span) (ys : List TyExpr) → numbered_type_kind (T.Con name ys) ≡ one (each (map numbered_type ys)) (T.Con name)
type_con name ys = ap numbered_type_kind (sym (T.rolls-Con name ys)) ∙ fold-roll-TyKind (Step TyKind) (Step Arg) (Step TyExpr) type_step arg_step type_node (t.Con name ys)

pub type_tuple : (ys : List TyExpr) → numbered_type_kind (T.Tuple ys) ≡ one (each (map numbered_type ys)) T.Tuple
type_tuple ys = ap numbered_type_kind (sym (T.rolls-Tuple ys)) ∙ fold-roll-TyKind (Step TyKind) (Step Arg) (Step TyExpr) type_step arg_step type_node (t.Tuple ys)

pub pattern_tuple : (ys : List Pat) → numbered_pattern_kind (P.Tuple ys) ≡ one (each (map numbered_pattern ys)) P.Tuple
pattern_tuple ys = ap numbered_pattern_kind (sym (P.rolls-Tuple ys)) ∙ fold-roll-PatKind (Step PatKind) (Step FieldPat) (Step Pat) pattern_step field_pattern_node pattern_node (p.Tuple ys)

pub pattern_list : (ys : List Pat) → numbered_pattern_kind (P.List ys) ≡ one (each (map numbered_pattern ys)) P.List
pattern_list ys = ap numbered_pattern_kind (sym (P.rolls-List ys)) ∙ fold-roll-PatKind (Step PatKind) (Step FieldPat) (Step Pat) pattern_step field_pattern_node pattern_node (p.List ys)

pub pattern_fields : (rest : Bool) (ys : List FieldPat) → numbered_pattern_kind (P.Fields ys rest) ≡ one (each (map numbered_field_pattern ys)) (λ list. P.Fields list rest)
pattern_fields rest ys = ap numbered_pattern_kind (sym (P.rolls-Fields ys rest)) ∙ fold-roll-PatKind (Step PatKind) (Step FieldPat) (Step Pat) pattern_step field_pattern_node pattern_node (p.Fields ys rest)

pub tuple : (ys : List Expr) → numbered_kind (E.Tuple ys) ≡ one (each (map numbered_expr ys)) E.Tuple
tuple ys = ap numbered_kind (sym (E.rolls-Tuple ys)) ∙ fold-roll-ExprKind (Step ExprKind) (Step Arm) (Step Bind) (Step Expr) (Step FieldExpr) step arm_step bind_step expr_node field_node (e.Tuple ys)

pub list : (ys : List Expr) → numbered_kind (E.List ys) ≡ one (each (map numbered_expr ys)) E.List
list ys = ap numbered_kind (sym (E.rolls-List ys)) ∙ fold-roll-ExprKind (Step ExprKind) (Step Arm) (Step Bind) (Step Expr) (Step FieldExpr) step arm_step bind_step expr_node field_node (e.List ys)

pub seq : (ys : List Expr) → numbered_kind (E.Seq ys) ≡ one (each (map numbered_expr ys)) E.Seq
seq ys = ap numbered_kind (sym (E.rolls-Seq ys)) ∙ fold-roll-ExprKind (Step ExprKind) (Step Arm) (Step Bind) (Step Expr) (Step FieldExpr) step arm_step bind_step expr_node field_node (e.Seq ys)

pub fields : (ys : List FieldExpr) → numbered_kind (E.Fields ys) ≡ one (each (map numbered_field ys)) E.Fields
fields ys = ap numbered_kind (sym (E.rolls-Fields ys)) ∙ fold-roll-ExprKind (Step ExprKind) (Step Arm) (Step Bind) (Step Expr) (Step FieldExpr) step arm_step bind_step expr_node field_node (e.Fields ys)

pub function : (ys : List Arm) → numbered_kind (E.Function ys) ≡ one (each (map numbered_arm ys)) E.Function
function ys = ap numbered_kind (sym (E.rolls-Function ys)) ∙ fold-roll-ExprKind (Step ExprKind) (Step Arm) (Step Bind) (Step Expr) (Step FieldExpr) step arm_step bind_step expr_node field_node (e.Function ys)

pub apply : (z : Expr) (ys : List Expr) → numbered_kind (E.Apply z ys) ≡ two (numbered_expr z) (each (map numbered_expr ys)) E.Apply
apply z ys = ap numbered_kind (sym (E.rolls-Apply z ys)) ∙ fold-roll-ExprKind (Step ExprKind) (Step Arm) (Step Bind) (Step Expr) (Step FieldExpr) step arm_step bind_step expr_node field_node (e.Apply z ys)

pub cases : (z : Expr) (ys : List Arm) → numbered_kind (E.Match z ys) ≡ two (numbered_expr z) (each (map numbered_arm ys)) E.Match
cases z ys = ap numbered_kind (sym (E.rolls-Match z ys)) ∙ fold-roll-ExprKind (Step ExprKind) (Step Arm) (Step Bind) (Step Expr) (Step FieldExpr) step arm_step bind_step expr_node field_node (e.Match z ys)

pub bindings : (recursive : Bool) (ys : List Bind) (z : Expr) → numbered_kind (E.Let recursive ys z) ≡ two (each (map numbered_bind ys)) (numbered_expr z) (E.Let recursive)
bindings recursive ys z = ap numbered_kind (sym (E.rolls-Let recursive ys z)) ∙ fold-roll-ExprKind (Step ExprKind) (Step Arm) (Step Bind) (Step Expr) (Step FieldExpr) step arm_step bind_step expr_node field_node (e.Let recursive ys z)

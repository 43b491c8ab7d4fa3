-- What the forms with several parts mention, from what their parts do.
use Rattle.std.proofs.Common.{◌≡◌, Bool, List, ◌++◌, map, Option, Some, None, Result, Ok, Err, OnOk, sym, ap, ◌∙◌, append_assoc}
use Rattle.std.specs.Option.{option_map}
use Rattle.ml_tree.specs.declared.types.TyExpr.{TyExpr}
use Rattle.ml_tree.specs.declared.pattern.Param.{Param}
use Rattle.ml_tree.specs.declared.expr.BinOp.{BinOp}
use Rattle.ml_tree.specs.declared.expr.Expr.{Expr}
use Rattle.ml_tree.specs.declared.expr.Arm.{Arm}
use Rattle.ml_tree.specs.declared.expr.Bind.{Bind}
use Rattle.ml_tree.specs.declared.expr.ExprKind.{ExprKind, fold-roll-ExprKind}
use Rattle.ml_tree.specs.declared.expr.ExprKind.TheVariants as E
use Rattle.ml_tree.specs.declared.expr.ExprKind.TheOpen as e
use Rattle.ml_mentions.specs.declared.mentions.Mention.{Mention}
use Rattle.ml_mentions.specs.Lists.{all}
use Rattle.ml_mentions.specs.Mentions.{mentions}
use Rattle.ml_mentions.specs.Written.{Found, perhaps, in_param, in_expr, in_kind, in_arm, in_bind, step, arm_step, bind_step, expr_node, field_step}

-- one part was added, and then another
pub on_two : {A E : Type 0} → (r : Result A E) (before middle after one other whole : List Mention) → middle ≡ before ++ one → OnOk r (after ≡ middle ++ other) → whole ≡ one ++ other → OnOk r (after ≡ before ++ whole)
on_two (Ok v) before middle after one other whole p q w = q ∙ ap (λ (z : List Mention). z ++ other) p ∙ append_assoc before one other ∙ ap (λ (z : List Mention). before ++ z) (sym w)
on_two (Err x) before middle after one other whole p q w = tt

pub on_three : {A E : Type 0} → (r : Result A E) (before first second after one two three whole : List Mention) → first ≡ before ++ one → second ≡ first ++ two → OnOk r (after ≡ second ++ three) → whole ≡ one ++ two ++ three → OnOk r (after ≡ before ++ whole)
on_three r before first second after one two three whole p q s w = on_two r before second after (one ++ two) three whole (q ∙ ap (λ (z : List Mention). z ++ two) p ∙ append_assoc before one two) s w

-- the same of a form, where its parts were reached by other names
pub by_two : {A B : Type 0} → (g : A → Found) (h : B → Found) (k form : ExprKind) (x x' : A) (y y' : B) → k ≡ form → in_kind form ≡ g x ++ h y → x' ≡ x → y' ≡ y → in_kind k ≡ g x' ++ h y'
by_two g h k form x x' y y' is law p q = ap in_kind is ∙ law ∙ ap (λ z. g z ++ h y) (sym p) ∙ ap (λ z. g x' ++ h z) (sym q)

pub by_three : {A B C : Type 0} → (g : A → Found) (h : B → Found) (l : C → Found) (k form : ExprKind) (x x' : A) (y y' : B) (z : C) → k ≡ form → in_kind form ≡ g x ++ h y ++ l z → x' ≡ x → y' ≡ y → in_kind k ≡ g x' ++ h y' ++ l z
by_three g h l k form x x' y y' z is law p q = ap in_kind is ∙ law ∙ ap (λ u. g u ++ h y ++ l z) (sym p) ∙ ap (λ u. g x' ++ h u ++ l z) (sym q)

pub apply : (f : Expr) (ys : List Expr) → in_kind (E.Apply f ys) ≡ in_expr f ++ all (map in_expr ys)
apply f ys = ap in_kind (sym (E.rolls-Apply f ys)) ∙ fold-roll-ExprKind Found Found Found Found Found step arm_step bind_step expr_node field_step (e.Apply f ys)

pub binary : (op : BinOp) (a b : Expr) → in_kind (E.Binary op a b) ≡ in_expr a ++ in_expr b
binary op a b = ap in_kind (sym (E.rolls-Binary op a b)) ∙ fold-roll-ExprKind Found Found Found Found Found step arm_step bind_step expr_node field_step (e.Binary op a b)

pub conditional : (a b : Expr) (c : Option Expr) → in_kind (E.If a b c) ≡ in_expr a ++ in_expr b ++ perhaps (option_map in_expr c)
conditional a b None = ap in_kind (sym (E.rolls-If a b None)) ∙ fold-roll-ExprKind Found Found Found Found Found step arm_step bind_step expr_node field_step (e.If a b None)
conditional a b (Some c) = ap in_kind (sym (E.rolls-If a b (Some c))) ∙ fold-roll-ExprKind Found Found Found Found Found step arm_step bind_step expr_node field_step (e.If a b (Some c))

pub matching : (a : Expr) (ys : List Arm) → in_kind (E.Match a ys) ≡ in_expr a ++ all (map in_arm ys)
matching a ys = ap in_kind (sym (E.rolls-Match a ys)) ∙ fold-roll-ExprKind Found Found Found Found Found step arm_step bind_step expr_node field_step (e.Match a ys)

pub local : (recursive : Bool) (ys : List Bind) (body : Expr) → in_kind (E.Let recursive ys body) ≡ all (map in_bind ys) ++ in_expr body
local recursive ys body = ap in_kind (sym (E.rolls-Let recursive ys body)) ∙ fold-roll-ExprKind Found Found Found Found Found step arm_step bind_step expr_node field_step (e.Let recursive ys body)

pub fun : (ps : List Param) (body : Expr) → in_kind (E.Fun ps body) ≡ all (map in_param ps) ++ in_expr body
fun ps body = ap in_kind (sym (E.rolls-Fun ps body)) ∙ fold-roll-ExprKind Found Found Found Found Found step arm_step bind_step expr_node field_step (e.Fun ps body)

pub typed : (a : Expr) (ty : TyExpr) → in_kind (E.Typed a ty) ≡ in_expr a ++ mentions ty
typed a ty = ap in_kind (sym (E.rolls-Typed a ty)) ∙ fold-roll-ExprKind Found Found Found Found Found step arm_step bind_step expr_node field_step (e.Typed a ty)

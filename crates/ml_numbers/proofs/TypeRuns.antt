-- The numbers of type expressions.
use Rattle.std.proofs.Common.{◌≡◌, refl, sym, ap, ◌∙◌, subst}
use Rattle.ml_numbers.specs.Steps.{Step, of_type}
use Rattle.ml_numbers.specs.Ids.{Ids, no_ids, node_id, type_id, joined, all}
use Rattle.ml_numbers.specs.Ids as I
use Rattle.ml_tree.specs.declared.types.TyExpr.{TyExpr, ind-TyExpr, fold-roll-TyExpr, map-TyExpr, roll-TyExpr}
use Rattle.ml_tree.specs.declared.types.Arg.{Arg, ind-Arg, fold-roll-Arg, map-Arg, roll-Arg}
use Rattle.ml_tree.specs.declared.types.TyKind.{TyKind, fold-roll-TyKind, map-TyKind, roll-TyKind}
use Rattle.ml_tree.specs.declared.types.TyKind.TheVariants as T
use Rattle.ml_tree.specs.declared.types.TyKind.TheOpen as t
use Rattle.ml_tree.specs.declared.types.TyKind.TheOpen.{TyKind-F, Arg-F, TyExpr-F}
use Rattle.ml_tree.specs.declared.types.ConDecl.{ConDecl}
use Rattle.ml_tree.specs.declared.types.FieldDecl.{FieldDecl}
use Rattle.ml_tree.specs.declared.types.Decl.{Decl}
use Rattle.ml_tree.specs.declared.types.DeclBody.{DeclBody}
use Rattle.ml_tree.specs.declared.types.DeclBody.TheVariants as B
use Rattle.ml_numbers.specs.Numbered.{type_step, arg_step, type_node, numbered_type, numbered_type_kind, numbered_arg, numbered_con, numbered_field_decl, numbered_body, numbered_decl}
use Rattle.ml_numbers.proofs.Runs.{Numbers, list_of, numbers_of_type, numbers_done, numbers_one, numbers_two, numbers_each, numbers_parts}

abbrev TyKindPart : Type 0
TyKindPart = (x : TyKind) × Numbers I.type_kind_ids (numbered_type_kind x)

abbrev ArgPart : Type 0
ArgPart = (x : Arg) × Numbers I.arg_ids (numbered_arg x)

abbrev TyExprPart : Type 0
TyExprPart = (x : TyExpr) × Numbers I.type_ids (numbered_type x)

abbrev layer_tykind : TyKind-F TyKindPart ArgPart TyExprPart → TyKind-F TyKind Arg TyExpr
layer_tykind y = map-TyKind TyKindPart ArgPart TyExprPart TyKind Arg TyExpr (λ q. q.0) (λ q. q.0) (λ q. q.0) y

abbrev stepped_tykind : TyKind-F TyKind Arg TyExpr → TyKind-F (Step TyKind) (Step Arg) (Step TyExpr)
stepped_tykind l = map-TyKind TyKind Arg TyExpr (Step TyKind) (Step Arg) (Step TyExpr) numbered_type_kind numbered_arg numbered_type l

abbrev layer_arg : Arg-F TyKindPart ArgPart TyExprPart → Arg-F TyKind Arg TyExpr
layer_arg y = map-Arg TyKindPart ArgPart TyExprPart TyKind Arg TyExpr (λ q. q.0) (λ q. q.0) (λ q. q.0) y

abbrev stepped_arg : Arg-F TyKind Arg TyExpr → Arg-F (Step TyKind) (Step Arg) (Step TyExpr)
stepped_arg l = map-Arg TyKind Arg TyExpr (Step TyKind) (Step Arg) (Step TyExpr) numbered_type_kind numbered_arg numbered_type l

abbrev layer_tyexpr : TyExpr-F TyKindPart ArgPart TyExprPart → TyExpr-F TyKind Arg TyExpr
layer_tyexpr y = map-TyExpr TyKindPart ArgPart TyExprPart TyKind Arg TyExpr (λ q. q.0) (λ q. q.0) (λ q. q.0) y

abbrev stepped_tyexpr : TyExpr-F TyKind Arg TyExpr → TyExpr-F (Step TyKind) (Step Arg) (Step TyExpr)
stepped_tyexpr l = map-TyExpr TyKind Arg TyExpr (Step TyKind) (Step Arg) (Step TyExpr) numbered_type_kind numbered_arg numbered_type l

kind_at : (l : TyKind-F TyKind Arg TyExpr) (k : TyKind) → roll-TyKind l ≡ k → I.type_kind_ids k ≡ I.type_step (map-TyKind TyKind Arg TyExpr Ids Ids Ids I.type_kind_ids I.arg_ids I.type_ids l)
kind_at l k e = ap I.type_kind_ids (sym e) ∙ fold-roll-TyKind Ids Ids Ids I.type_step I.arg_step I.type_node l

kind_numbers : (y : TyKind-F TyKindPart ArgPart TyExprPart) → Numbers I.type_kind_ids (type_step (stepped_tykind (layer_tykind y)))
kind_numbers (t.Var span) = numbers_done I.type_kind_ids (T.Var span) (kind_at (t.Var span) (T.Var span) (T.rolls-Var span))
kind_numbers (t.Con name args) = numbers_one (list_of I.type_ids) I.type_kind_ids _ (T.Con name) (λ xs. kind_at (t.Con name xs) (T.Con name xs) (T.rolls-Con name xs)) (numbers_parts I.type_ids numbered_type args)
kind_numbers (t.Tuple parts) = numbers_one (list_of I.type_ids) I.type_kind_ids _ T.Tuple (λ xs. kind_at (t.Tuple xs) (T.Tuple xs) (T.rolls-Tuple xs)) (numbers_parts I.type_ids numbered_type parts)
kind_numbers (t.Arrow from to) = numbers_two I.arg_ids I.arg_ids I.type_kind_ids _ _ T.Arrow (λ x y. kind_at (t.Arrow x y) (T.Arrow x y) (T.rolls-Arrow x y)) from.1 to.1

kind_case : (l : TyKind-F TyKind Arg TyExpr) (y : TyKind-F TyKindPart ArgPart TyExprPart) → layer_tykind y ≡ l → Numbers I.type_kind_ids (numbered_type_kind (roll-TyKind l))
kind_case l y same = subst (Numbers I.type_kind_ids) (sym (fold-roll-TyKind (Step TyKind) (Step Arg) (Step TyExpr) type_step arg_step type_node l)) (subst (λ l. Numbers I.type_kind_ids (type_step (stepped_tykind l))) same (kind_numbers y))

arg_case : (l : Arg-F TyKind Arg TyExpr) (y : Arg-F TyKindPart ArgPart TyExprPart) → layer_arg y ≡ l → Numbers I.arg_ids (numbered_arg (roll-Arg l))
arg_case l y same = subst (Numbers I.arg_ids) (sym (fold-roll-Arg (Step TyKind) (Step Arg) (Step TyExpr) type_step arg_step type_node l)) (subst (λ l. Numbers I.arg_ids (arg_step (stepped_arg l))) same (numbers_one I.type_ids I.arg_ids _ (λ ty. roll-Arg (record { words = y.words; ty = ty })) (λ x. fold-roll-Arg Ids Ids Ids I.type_step I.arg_step I.type_node (record { words = y.words; ty = x })) y.ty.1))

tyexpr_case : (l : TyExpr-F TyKind Arg TyExpr) (y : TyExpr-F TyKindPart ArgPart TyExprPart) → layer_tyexpr y ≡ l → Numbers I.type_ids (numbered_type (roll-TyExpr l))
tyexpr_case l y same = subst (Numbers I.type_ids) (sym (fold-roll-TyExpr (Step TyKind) (Step Arg) (Step TyExpr) type_step arg_step type_node l)) (subst (λ l. Numbers I.type_ids (type_node (stepped_tyexpr l))) same (numbers_two I.type_id I.type_kind_ids I.type_ids of_type _ (λ id kind. roll-TyExpr (record { id = id; span = y.span; kind = kind })) (λ i x. fold-roll-TyExpr Ids Ids Ids I.type_step I.arg_step I.type_node (record { id = i; span = y.span; kind = x })) numbers_of_type y.kind.1))

pub type_numbers : (ty : TyExpr) → Numbers I.type_ids (numbered_type ty)
type_numbers ty = ind-TyExpr (λ x. Numbers I.type_kind_ids (numbered_type_kind x)) (λ x. Numbers I.arg_ids (numbered_arg x)) (λ x. Numbers I.type_ids (numbered_type x)) kind_case arg_case tyexpr_case ty

pub arg_numbers : (a : Arg) → Numbers I.arg_ids (numbered_arg a)
arg_numbers a = ind-Arg (λ x. Numbers I.type_kind_ids (numbered_type_kind x)) (λ x. Numbers I.arg_ids (numbered_arg x)) (λ x. Numbers I.type_ids (numbered_type x)) kind_case arg_case tyexpr_case a

con_numbers : (c : ConDecl) → Numbers I.con_ids (numbered_con c)
con_numbers c = numbers_one (list_of I.arg_ids) I.con_ids _ (λ args. record { name = c.name; args = args }) (λ x. refl) (numbers_each I.arg_ids numbered_arg arg_numbers c.args)

field_decl_numbers : (f : FieldDecl) → Numbers I.field_decl_ids (numbered_field_decl f)
field_decl_numbers f = numbers_one I.arg_ids I.field_decl_ids _ (λ arg. record { name = f.name; arg = arg }) (λ x. refl) (arg_numbers f.arg)

body_numbers : (b : DeclBody) → Numbers I.body_ids (numbered_body b)
body_numbers (B.Variant cons) = numbers_one (list_of I.con_ids) I.body_ids _ B.Variant (λ x. refl) (numbers_each I.con_ids numbered_con con_numbers cons)
body_numbers (B.Fields fields) = numbers_one (list_of I.field_decl_ids) I.body_ids _ B.Fields (λ x. refl) (numbers_each I.field_decl_ids numbered_field_decl field_decl_numbers fields)
body_numbers (B.Alias ty) = numbers_one I.type_ids I.body_ids _ B.Alias (λ x. refl) (type_numbers ty)

pub decl_numbers : (d : Decl) → Numbers I.decl_ids (numbered_decl d)
decl_numbers d = numbers_one I.body_ids I.decl_ids _ (λ body. record { name = d.name; vars = d.vars; body = body }) (λ x. refl) (body_numbers d.body)

-- Numbering leaves type expressions as they are, but for the numbers.
use Rattle.std.proofs.Common.{◌≡◌, map, refl, sym, ap, ◌∙◌, subst}
use Rattle.ml_numbers.specs.Steps.{Step, of_type}
use Rattle.ml_numbers.specs.Bare as I
use Rattle.ml_tree.specs.declared.types.TyExpr.{TyExpr, ind-TyExpr, fold-roll-TyExpr, map-TyExpr, roll-TyExpr}
use Rattle.ml_tree.specs.declared.types.Arg.{Arg, ind-Arg, fold-roll-Arg, map-Arg, roll-Arg}
use Rattle.ml_tree.specs.declared.types.TyKind.{TyKind, fold-roll-TyKind, map-TyKind, roll-TyKind}
use Rattle.ml_tree.specs.declared.types.TyKind.TheVariants as T
use Rattle.ml_tree.specs.declared.types.TyKind.TheOpen as t
use Rattle.ml_tree.specs.declared.types.TyKind.TheOpen.{TyKind-F, Arg-F, TyExpr-F}
use Rattle.ml_tree.specs.declared.types.ConDecl.{ConDecl}
use Rattle.ml_tree.specs.declared.types.FieldDecl.{FieldDecl}
use Rattle.ml_tree.specs.declared.types.Decl.{Decl}
use Rattle.ml_tree.specs.declared.types.DeclBody.{DeclBody}
use Rattle.ml_tree.specs.declared.types.DeclBody.TheVariants as B
use Rattle.ml_numbers.specs.Numbered.{type_step, arg_step, type_node, numbered_type, numbered_type_kind, numbered_arg, numbered_con, numbered_field_decl, numbered_body, numbered_decl}
use Rattle.ml_numbers.proofs.Stays.{Stays, stays_done, stays_one, stays_two, stays_behind, stays_each, stays_parts}

abbrev TyKindPart : Type 0
TyKindPart = (x : TyKind) × Stays I.bare_type_kind (I.bare_type_kind x) (numbered_type_kind x)

abbrev ArgPart : Type 0
ArgPart = (x : Arg) × Stays I.bare_arg (I.bare_arg x) (numbered_arg x)

abbrev TyExprPart : Type 0
TyExprPart = (x : TyExpr) × Stays I.bare_type (I.bare_type x) (numbered_type x)

abbrev layer_tykind : TyKind-F TyKindPart ArgPart TyExprPart → TyKind-F TyKind Arg TyExpr
layer_tykind y = map-TyKind TyKindPart ArgPart TyExprPart TyKind Arg TyExpr (λ q. q.0) (λ q. q.0) (λ q. q.0) y

abbrev stepped_tykind : TyKind-F TyKind Arg TyExpr → TyKind-F (Step TyKind) (Step Arg) (Step TyExpr)
stepped_tykind l = map-TyKind TyKind Arg TyExpr (Step TyKind) (Step Arg) (Step TyExpr) numbered_type_kind numbered_arg numbered_type l

abbrev bared_tykind : TyKind-F TyKind Arg TyExpr → TyKind-F TyKind Arg TyExpr
bared_tykind l = map-TyKind TyKind Arg TyExpr TyKind Arg TyExpr I.bare_type_kind I.bare_arg I.bare_type l

abbrev layer_arg : Arg-F TyKindPart ArgPart TyExprPart → Arg-F TyKind Arg TyExpr
layer_arg y = map-Arg TyKindPart ArgPart TyExprPart TyKind Arg TyExpr (λ q. q.0) (λ q. q.0) (λ q. q.0) y

abbrev stepped_arg : Arg-F TyKind Arg TyExpr → Arg-F (Step TyKind) (Step Arg) (Step TyExpr)
stepped_arg l = map-Arg TyKind Arg TyExpr (Step TyKind) (Step Arg) (Step TyExpr) numbered_type_kind numbered_arg numbered_type l

abbrev bared_arg : Arg-F TyKind Arg TyExpr → Arg-F TyKind Arg TyExpr
bared_arg l = map-Arg TyKind Arg TyExpr TyKind Arg TyExpr I.bare_type_kind I.bare_arg I.bare_type l

abbrev layer_tyexpr : TyExpr-F TyKindPart ArgPart TyExprPart → TyExpr-F TyKind Arg TyExpr
layer_tyexpr y = map-TyExpr TyKindPart ArgPart TyExprPart TyKind Arg TyExpr (λ q. q.0) (λ q. q.0) (λ q. q.0) y

abbrev stepped_tyexpr : TyExpr-F TyKind Arg TyExpr → TyExpr-F (Step TyKind) (Step Arg) (Step TyExpr)
stepped_tyexpr l = map-TyExpr TyKind Arg TyExpr (Step TyKind) (Step Arg) (Step TyExpr) numbered_type_kind numbered_arg numbered_type l

abbrev bared_tyexpr : TyExpr-F TyKind Arg TyExpr → TyExpr-F TyKind Arg TyExpr
bared_tyexpr l = map-TyExpr TyKind Arg TyExpr TyKind Arg TyExpr I.bare_type_kind I.bare_arg I.bare_type l

kind_at : (l : TyKind-F TyKind Arg TyExpr) (k : TyKind) → roll-TyKind l ≡ k → I.bare_type_kind k ≡ I.type_step (bared_tykind l)
kind_at l k e = ap I.bare_type_kind (sym e) ∙ fold-roll-TyKind TyKind Arg TyExpr I.type_step I.arg_step I.type_node l

kind_stays : (y : TyKind-F TyKindPart ArgPart TyExprPart) → Stays I.bare_type_kind (I.type_step (bared_tykind (layer_tykind y))) (type_step (stepped_tykind (layer_tykind y)))
kind_stays (t.Var span) = stays_done I.bare_type_kind (T.Var span) _ (kind_at (t.Var span) (T.Var span) (T.rolls-Var span))
kind_stays (t.Con name args) = stays_one (map I.bare_type) I.bare_type_kind _ _ (T.Con name) (λ xs. roll-TyKind (t.Con name xs)) (λ xs. kind_at (t.Con name xs) (T.Con name xs) (T.rolls-Con name xs)) (stays_parts I.bare_type numbered_type args)
kind_stays (t.Tuple parts) = stays_one (map I.bare_type) I.bare_type_kind _ _ T.Tuple (λ xs. roll-TyKind (t.Tuple xs)) (λ xs. kind_at (t.Tuple xs) (T.Tuple xs) (T.rolls-Tuple xs)) (stays_parts I.bare_type numbered_type parts)
kind_stays (t.Arrow from to) = stays_two I.bare_arg I.bare_arg I.bare_type_kind _ _ _ _ T.Arrow (λ x y. roll-TyKind (t.Arrow x y)) (λ x y. kind_at (t.Arrow x y) (T.Arrow x y) (T.rolls-Arrow x y)) from.1 to.1

kind_case : (l : TyKind-F TyKind Arg TyExpr) (y : TyKind-F TyKindPart ArgPart TyExprPart) → layer_tykind y ≡ l → Stays I.bare_type_kind (I.bare_type_kind (roll-TyKind l)) (numbered_type_kind (roll-TyKind l))
kind_case l y same = subst (λ s. Stays I.bare_type_kind (I.bare_type_kind (roll-TyKind l)) s) (sym (fold-roll-TyKind (Step TyKind) (Step Arg) (Step TyExpr) type_step arg_step type_node l)) (subst (λ v. Stays I.bare_type_kind v (type_step (stepped_tykind l))) (sym (fold-roll-TyKind TyKind Arg TyExpr I.type_step I.arg_step I.type_node l)) (subst (λ l. Stays I.bare_type_kind (I.type_step (bared_tykind l)) (type_step (stepped_tykind l))) same (kind_stays y)))

arg_case : (l : Arg-F TyKind Arg TyExpr) (y : Arg-F TyKindPart ArgPart TyExprPart) → layer_arg y ≡ l → Stays I.bare_arg (I.bare_arg (roll-Arg l)) (numbered_arg (roll-Arg l))
arg_case l y same = subst (λ s. Stays I.bare_arg (I.bare_arg (roll-Arg l)) s) (sym (fold-roll-Arg (Step TyKind) (Step Arg) (Step TyExpr) type_step arg_step type_node l)) (subst (λ v. Stays I.bare_arg v (arg_step (stepped_arg l))) (sym (fold-roll-Arg TyKind Arg TyExpr I.type_step I.arg_step I.type_node l)) (subst (λ l. Stays I.bare_arg (I.arg_step (bared_arg l)) (arg_step (stepped_arg l))) same (stays_one I.bare_type I.bare_arg _ _ (λ ty. roll-Arg (record { words = y.words; ty = ty })) (λ ty. roll-Arg (record { words = y.words; ty = ty })) (λ x. fold-roll-Arg TyKind Arg TyExpr I.type_step I.arg_step I.type_node (record { words = y.words; ty = x })) y.ty.1)))

tyexpr_case : (l : TyExpr-F TyKind Arg TyExpr) (y : TyExpr-F TyKindPart ArgPart TyExprPart) → layer_tyexpr y ≡ l → Stays I.bare_type (I.bare_type (roll-TyExpr l)) (numbered_type (roll-TyExpr l))
tyexpr_case l y same = subst (λ s. Stays I.bare_type (I.bare_type (roll-TyExpr l)) s) (sym (fold-roll-TyExpr (Step TyKind) (Step Arg) (Step TyExpr) type_step arg_step type_node l)) (subst (λ v. Stays I.bare_type v (type_node (stepped_tyexpr l))) (sym (fold-roll-TyExpr TyKind Arg TyExpr I.type_step I.arg_step I.type_node l)) (subst (λ l. Stays I.bare_type (I.type_node (bared_tyexpr l)) (type_node (stepped_tyexpr l))) same (stays_behind I.bare_type_kind I.bare_type _ of_type _ (λ id kind. roll-TyExpr (record { id = id; span = y.span; kind = kind })) (λ kind. roll-TyExpr (record { id = 0; span = y.span; kind = kind })) (λ i x. fold-roll-TyExpr TyKind Arg TyExpr I.type_step I.arg_step I.type_node (record { id = i; span = y.span; kind = x })) y.kind.1)))

pub type_stays : (ty : TyExpr) → Stays I.bare_type (I.bare_type ty) (numbered_type ty)
type_stays ty = ind-TyExpr (λ x. Stays I.bare_type_kind (I.bare_type_kind x) (numbered_type_kind x)) (λ x. Stays I.bare_arg (I.bare_arg x) (numbered_arg x)) (λ x. Stays I.bare_type (I.bare_type x) (numbered_type x)) kind_case arg_case tyexpr_case ty

arg_stays : (a : Arg) → Stays I.bare_arg (I.bare_arg a) (numbered_arg a)
arg_stays a = ind-Arg (λ x. Stays I.bare_type_kind (I.bare_type_kind x) (numbered_type_kind x)) (λ x. Stays I.bare_arg (I.bare_arg x) (numbered_arg x)) (λ x. Stays I.bare_type (I.bare_type x) (numbered_type x)) kind_case arg_case tyexpr_case a

con_stays : (c : ConDecl) → Stays I.bare_con (I.bare_con c) (numbered_con c)
con_stays c = stays_one (map I.bare_arg) I.bare_con _ _ (λ args. record { name = c.name; args = args }) (λ args. record { name = c.name; args = args }) (λ x. refl) (stays_each I.bare_arg numbered_arg arg_stays c.args)

field_decl_stays : (f : FieldDecl) → Stays I.bare_field_decl (I.bare_field_decl f) (numbered_field_decl f)
field_decl_stays f = stays_one I.bare_arg I.bare_field_decl _ _ (λ arg. record { name = f.name; arg = arg }) (λ arg. record { name = f.name; arg = arg }) (λ x. refl) (arg_stays f.arg)

body_stays : (b : DeclBody) → Stays I.bare_body (I.bare_body b) (numbered_body b)
body_stays (B.Variant cons) = stays_one (map I.bare_con) I.bare_body _ _ B.Variant B.Variant (λ x. refl) (stays_each I.bare_con numbered_con con_stays cons)
body_stays (B.Fields fields) = stays_one (map I.bare_field_decl) I.bare_body _ _ B.Fields B.Fields (λ x. refl) (stays_each I.bare_field_decl numbered_field_decl field_decl_stays fields)
body_stays (B.Alias ty) = stays_one I.bare_type I.bare_body _ _ B.Alias B.Alias (λ x. refl) (type_stays ty)

pub decl_stays : (d : Decl) → Stays I.bare_decl (I.bare_decl d) (numbered_decl d)
decl_stays d = stays_one I.bare_body I.bare_decl _ _ (λ body. record { name = d.name; vars = d.vars; body = body }) (λ body. record { name = d.name; vars = d.vars; body = body }) (λ x. refl) (body_stays d.body)

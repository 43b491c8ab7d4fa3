-- Numbering leaves the spans of types.
use Rattle.std.proofs.Common.{◌≡◌, List, map, Option, Some, None, refl, sym, ap, ◌∙◌, subst}
use Rattle.std.specs.Option.{option_map}
use Rattle.ml_tree.specs.declared.types.TyExpr.{TyExpr, ind-TyExpr, fold-roll-TyExpr, map-TyExpr, roll-TyExpr}
use Rattle.ml_tree.specs.declared.types.Arg.{Arg, ind-Arg, fold-roll-Arg, map-Arg, roll-Arg}
use Rattle.ml_tree.specs.declared.types.TyKind.{TyKind, fold-roll-TyKind, map-TyKind, roll-TyKind}
use Rattle.ml_tree.specs.declared.types.TyKind.TheOpen as t
use Rattle.ml_tree.specs.declared.types.TyKind.TheOpen.{TyKind-F, Arg-F, TyExpr-F}
use Rattle.ml_tree.specs.declared.types.ConDecl.{ConDecl}
use Rattle.ml_tree.specs.declared.types.Decl.{Decl}
use Rattle.ml_tree.specs.declared.types.DeclBody.{DeclBody}
use Rattle.ml_tree.specs.declared.types.DeclBody.TheVariants as B
use Rattle.ml_numbers.specs.Bare as I
use Rattle.tree_laws.specs.Spans.{Edges, both, all, node, type_step, arg_step, type_node, type_edges, type_kind_edges, arg_edges, con_edges, field_decl_edges, body_edges, decl_edges, result_edges}
use Rattle.tree_laws.proofs.BareFolds.{two_same, all_same, list_same}

abbrev TyKindPart : Type 0
TyKindPart = (y : TyKind) × (type_kind_edges (I.bare_type_kind y) ≡ type_kind_edges y)

abbrev ArgPart : Type 0
ArgPart = (y : Arg) × (arg_edges (I.bare_arg y) ≡ arg_edges y)

abbrev TyExprPart : Type 0
TyExprPart = (y : TyExpr) × (type_edges (I.bare_type y) ≡ type_edges y)

abbrev layer_tykind : TyKind-F TyKindPart ArgPart TyExprPart → TyKind-F TyKind Arg TyExpr
layer_tykind y = map-TyKind TyKindPart ArgPart TyExprPart TyKind Arg TyExpr (λ q. q.0) (λ q. q.0) (λ q. q.0) y

abbrev bared_tykind : TyKind-F TyKind Arg TyExpr → TyKind-F TyKind Arg TyExpr
bared_tykind l = map-TyKind TyKind Arg TyExpr TyKind Arg TyExpr I.bare_type_kind I.bare_arg I.bare_type l

abbrev viewed_tykind : TyKind-F TyKind Arg TyExpr → TyKind-F Edges Edges Edges
viewed_tykind l = map-TyKind TyKind Arg TyExpr Edges Edges Edges type_kind_edges arg_edges type_edges l

rolled_tykind : (l : TyKind-F TyKind Arg TyExpr) → type_kind_edges (roll-TyKind l) ≡ type_step (viewed_tykind l)
rolled_tykind l = fold-roll-TyKind Edges Edges Edges type_step arg_step type_node l

abbrev layer_arg : Arg-F TyKindPart ArgPart TyExprPart → Arg-F TyKind Arg TyExpr
layer_arg y = map-Arg TyKindPart ArgPart TyExprPart TyKind Arg TyExpr (λ q. q.0) (λ q. q.0) (λ q. q.0) y

abbrev bared_arg : Arg-F TyKind Arg TyExpr → Arg-F TyKind Arg TyExpr
bared_arg l = map-Arg TyKind Arg TyExpr TyKind Arg TyExpr I.bare_type_kind I.bare_arg I.bare_type l

abbrev viewed_arg : Arg-F TyKind Arg TyExpr → Arg-F Edges Edges Edges
viewed_arg l = map-Arg TyKind Arg TyExpr Edges Edges Edges type_kind_edges arg_edges type_edges l

rolled_arg : (l : Arg-F TyKind Arg TyExpr) → arg_edges (roll-Arg l) ≡ arg_step (viewed_arg l)
rolled_arg l = fold-roll-Arg Edges Edges Edges type_step arg_step type_node l

abbrev layer_tyexpr : TyExpr-F TyKindPart ArgPart TyExprPart → TyExpr-F TyKind Arg TyExpr
layer_tyexpr y = map-TyExpr TyKindPart ArgPart TyExprPart TyKind Arg TyExpr (λ q. q.0) (λ q. q.0) (λ q. q.0) y

abbrev bared_tyexpr : TyExpr-F TyKind Arg TyExpr → TyExpr-F TyKind Arg TyExpr
bared_tyexpr l = map-TyExpr TyKind Arg TyExpr TyKind Arg TyExpr I.bare_type_kind I.bare_arg I.bare_type l

abbrev viewed_tyexpr : TyExpr-F TyKind Arg TyExpr → TyExpr-F Edges Edges Edges
viewed_tyexpr l = map-TyExpr TyKind Arg TyExpr Edges Edges Edges type_kind_edges arg_edges type_edges l

rolled_tyexpr : (l : TyExpr-F TyKind Arg TyExpr) → type_edges (roll-TyExpr l) ≡ type_node (viewed_tyexpr l)
rolled_tyexpr l = fold-roll-TyExpr Edges Edges Edges type_step arg_step type_node l

tykind_law : (y : TyKind-F TyKindPart ArgPart TyExprPart) → type_kind_edges (I.type_step (bared_tykind (layer_tykind y))) ≡ type_step (viewed_tykind (layer_tykind y))
tykind_law (t.Var s) = rolled_tykind (t.Var s)
tykind_law (t.Con name args) = rolled_tykind (t.Con name (map I.bare_type (map (λ q. q.0) args))) ∙ ap all (all_same type_edges I.bare_type args)
tykind_law (t.Tuple parts) = rolled_tykind (t.Tuple (map I.bare_type (map (λ q. q.0) parts))) ∙ ap all (all_same type_edges I.bare_type parts)
tykind_law (t.Arrow from to) = rolled_tykind (t.Arrow (I.bare_arg from.0) (I.bare_arg to.0)) ∙ two_same both from.1 to.1

arg_law : (y : Arg-F TyKindPart ArgPart TyExprPart) → arg_edges (I.arg_step (bared_arg (layer_arg y))) ≡ arg_step (viewed_arg (layer_arg y))
arg_law y = rolled_arg (record { words = y.words; ty = I.bare_type y.ty.0 }) ∙ y.ty.1

tyexpr_law : (y : TyExpr-F TyKindPart ArgPart TyExprPart) → type_edges (I.type_node (bared_tyexpr (layer_tyexpr y))) ≡ type_node (viewed_tyexpr (layer_tyexpr y))
tyexpr_law y = rolled_tyexpr (record { id = 0; span = y.span; kind = I.bare_type_kind y.kind.0 }) ∙ ap (node y.span) y.kind.1

tykind_case : (l : TyKind-F TyKind Arg TyExpr) (y : TyKind-F TyKindPart ArgPart TyExprPart) → layer_tykind y ≡ l → type_kind_edges (I.bare_type_kind (roll-TyKind l)) ≡ type_kind_edges (roll-TyKind l)
tykind_case l y same = ap type_kind_edges (fold-roll-TyKind TyKind Arg TyExpr I.type_step I.arg_step I.type_node l) ∙ (subst (λ l. type_kind_edges (I.type_step (bared_tykind l)) ≡ type_step (viewed_tykind l)) same (tykind_law y) ∙ sym (rolled_tykind l))

arg_case : (l : Arg-F TyKind Arg TyExpr) (y : Arg-F TyKindPart ArgPart TyExprPart) → layer_arg y ≡ l → arg_edges (I.bare_arg (roll-Arg l)) ≡ arg_edges (roll-Arg l)
arg_case l y same = ap arg_edges (fold-roll-Arg TyKind Arg TyExpr I.type_step I.arg_step I.type_node l) ∙ (subst (λ l. arg_edges (I.arg_step (bared_arg l)) ≡ arg_step (viewed_arg l)) same (arg_law y) ∙ sym (rolled_arg l))

tyexpr_case : (l : TyExpr-F TyKind Arg TyExpr) (y : TyExpr-F TyKindPart ArgPart TyExprPart) → layer_tyexpr y ≡ l → type_edges (I.bare_type (roll-TyExpr l)) ≡ type_edges (roll-TyExpr l)
tyexpr_case l y same = ap type_edges (fold-roll-TyExpr TyKind Arg TyExpr I.type_step I.arg_step I.type_node l) ∙ (subst (λ l. type_edges (I.type_node (bared_tyexpr l)) ≡ type_node (viewed_tyexpr l)) same (tyexpr_law y) ∙ sym (rolled_tyexpr l))

pub type_same : (y : TyExpr) → type_edges (I.bare_type y) ≡ type_edges y
type_same y = ind-TyExpr (λ y. type_kind_edges (I.bare_type_kind y) ≡ type_kind_edges y) (λ y. arg_edges (I.bare_arg y) ≡ arg_edges y) (λ y. type_edges (I.bare_type y) ≡ type_edges y) tykind_case arg_case tyexpr_case y

arg_same : (y : Arg) → arg_edges (I.bare_arg y) ≡ arg_edges y
arg_same y = ind-Arg (λ y. type_kind_edges (I.bare_type_kind y) ≡ type_kind_edges y) (λ y. arg_edges (I.bare_arg y) ≡ arg_edges y) (λ y. type_edges (I.bare_type y) ≡ type_edges y) tykind_case arg_case tyexpr_case y

con_same : (c : ConDecl) → con_edges (I.bare_con c) ≡ con_edges c
con_same c = ap all (list_same arg_edges I.bare_arg arg_same c.args)

body_same : (b : DeclBody) → body_edges (I.bare_body b) ≡ body_edges b
body_same (B.Variant cons) = ap all (list_same con_edges I.bare_con con_same cons)
body_same (B.Fields fields) = ap all (list_same field_decl_edges I.bare_field_decl (λ f. arg_same f.arg) fields)
body_same (B.Alias ty) = type_same ty

pub decls_same : (ds : List Decl) → all (map decl_edges (map I.bare_decl ds)) ≡ all (map decl_edges ds)
decls_same ds = ap all (list_same decl_edges I.bare_decl (λ d. body_same d.body) ds)

pub result_same : (r : Option TyExpr) → result_edges (option_map I.bare_type r) ≡ result_edges r
result_same None = refl
result_same (Some ty) = type_same ty

-- A tree has as many numbers as it has nodes, and its type expressions have none of these.
use Rattle.std.proofs.Common.{◌≡◌, ℕ, ◌+◌, List, [], ◌∷◌, ◌++◌, map, length, sum, Option, Some, None, refl, sym, ap, ◌∙◌, subst, arith}
use Rattle.std.proofs.lemmas.List.{length-append}
use Rattle.std.proofs.lemmas.List.Sums.{sum_by-cons}
use Rattle.ml_tree.specs.Nodes as N
use Rattle.ml_numbers.specs.Ids.{Ids, no_ids, node_id, type_id, joined, all}
use Rattle.ml_numbers.specs.Ids as I
use Rattle.ml_tree.specs.declared.types.TyExpr.{TyExpr, ind-TyExpr, fold-roll-TyExpr, map-TyExpr, roll-TyExpr}
use Rattle.ml_tree.specs.declared.types.TyKind.{TyKind, fold-roll-TyKind, map-TyKind, roll-TyKind}
use Rattle.ml_tree.specs.declared.types.TyKind.TheOpen as t
use Rattle.ml_tree.specs.declared.types.TyKind.TheOpen.{TyKind-F, Arg-F, TyExpr-F}
use Rattle.ml_tree.specs.declared.types.Arg.{Arg, fold-roll-Arg, map-Arg, roll-Arg}
use Rattle.ml_tree.specs.declared.pattern.Pat.{Pat, ind-Pat, fold-roll-Pat, map-Pat, roll-Pat}
use Rattle.ml_tree.specs.declared.pattern.FieldPat.{FieldPat, fold-roll-FieldPat, map-FieldPat, roll-FieldPat}
use Rattle.ml_tree.specs.declared.pattern.PatKind.{PatKind, fold-roll-PatKind, map-PatKind, roll-PatKind}
use Rattle.ml_tree.specs.declared.pattern.PatKind.TheOpen as p
use Rattle.ml_tree.specs.declared.pattern.PatKind.TheOpen.{PatKind-F, FieldPat-F, Pat-F}
use Rattle.ml_tree.specs.declared.pattern.Param.{Param}
use Rattle.ml_tree.specs.declared.expr.Expr.{Expr, ind-Expr, fold-roll-Expr, map-Expr, roll-Expr}
use Rattle.ml_tree.specs.declared.expr.Arm.{Arm, fold-roll-Arm, map-Arm, roll-Arm}
use Rattle.ml_tree.specs.declared.expr.Bind.{Bind, fold-roll-Bind, map-Bind, roll-Bind}
use Rattle.ml_tree.specs.declared.expr.FieldExpr.{FieldExpr, fold-roll-FieldExpr, map-FieldExpr, roll-FieldExpr}
use Rattle.ml_tree.specs.declared.expr.ExprKind.{ExprKind, fold-roll-ExprKind, map-ExprKind, roll-ExprKind}
use Rattle.ml_tree.specs.declared.expr.ExprKind.TheOpen as e
use Rattle.ml_tree.specs.declared.expr.ExprKind.TheOpen.{ExprKind-F, Arm-F, Bind-F, Expr-F, FieldExpr-F}

-- as many numbers of nodes as this
abbrev Counts : Ids → ℕ → Type 0
Counts i n = length i.nodes ≡ n

-- no number of a node
abbrev NoNodes : Ids → Type 0
NoNodes i = i.nodes ≡ []

both_none : (i j : Ids) → NoNodes i → NoNodes j → NoNodes (joined i j)
both_none i j none also = ap (λ xs. xs ++ j.nodes) none ∙ also

parts_none : {A : Type 0} (ids : A → Ids) (xs : List ((x : A) × NoNodes (ids x))) → NoNodes (all (map ids (map (λ q. q.0) xs)))
parts_none ids [] = refl
parts_none ids (q ∷ qs) = both_none (ids q.0) (all (map ids (map (λ q. q.0) qs))) q.1 (parts_none ids qs)

count_joined : (i j : Ids) (n m : ℕ) → Counts i n → Counts j m → Counts (joined i j) (n + m)
count_joined i j n m this that = length-append i.nodes j.nodes ∙ (ap (λ k. k + length j.nodes) this ∙ ap (λ k. n + k) that)

count_node : (id : ℕ) (i : Ids) (n : ℕ) → Counts i n → Counts (joined (node_id id) i) (n + 1)
count_node id i n this = omega (arith, this)

count_less : (i j : Ids) (n : ℕ) → Counts i n → NoNodes j → Counts (joined i j) n
count_less i j n this none = let that : Counts j 0 = ap length none in let sum : Counts (joined i j) (n + 0) = count_joined i j n 0 this that in omega (arith, sum)

count_three : (i j k : Ids) (n m o : ℕ) → Counts i n → Counts j m → Counts k o → Counts (joined i (joined j k)) (n + m + o)
count_three i j k n m o this that last = let sum : Counts (joined i (joined j k)) (n + (m + o)) = count_joined i (joined j k) n (m + o) this (count_joined j k m o that last) in omega (arith, sum)

count_parts : {A : Type 0} (ids : A → Ids) (nodes : A → ℕ) (xs : List ((x : A) × Counts (ids x) (nodes x))) → Counts (all (map ids (map (λ q. q.0) xs))) (sum (map nodes (map (λ q. q.0) xs)))
count_parts ids nodes [] = refl
count_parts ids nodes (q ∷ qs) =
    count_joined (ids q.0) (all (map ids (map (λ q. q.0) qs))) (nodes q.0) (sum (map nodes (map (λ q. q.0) qs))) q.1 (count_parts ids nodes qs) ∙
    sym (sum_by-cons (λ n. n) (nodes q.0) (map nodes (map (λ q. q.0) qs)))

count_each : {A : Type 0} (ids : A → Ids) (nodes : A → ℕ) → ((x : A) → Counts (ids x) (nodes x)) → (xs : List A) → Counts (all (map ids xs)) (sum (map nodes xs))
count_each ids nodes law [] = refl
count_each ids nodes law (x ∷ xs) =
    count_joined (ids x) (all (map ids xs)) (nodes x) (sum (map nodes xs)) (law x) (count_each ids nodes law xs) ∙
    sym (sum_by-cons (λ n. n) (nodes x) (map nodes xs))

-- ---- type expressions have no node

abbrev TyKindPart : Type 0
TyKindPart = (x : TyKind) × NoNodes (I.type_kind_ids x)

abbrev ArgPart : Type 0
ArgPart = (x : Arg) × NoNodes (I.arg_ids x)

abbrev TyExprPart : Type 0
TyExprPart = (x : TyExpr) × NoNodes (I.type_ids x)

abbrev layer_tykind : TyKind-F TyKindPart ArgPart TyExprPart → TyKind-F TyKind Arg TyExpr
layer_tykind y = map-TyKind TyKindPart ArgPart TyExprPart TyKind Arg TyExpr (λ q. q.0) (λ q. q.0) (λ q. q.0) y

abbrev ids_of_tykind : TyKind-F TyKind Arg TyExpr → TyKind-F Ids Ids Ids
ids_of_tykind l = map-TyKind TyKind Arg TyExpr Ids Ids Ids I.type_kind_ids I.arg_ids I.type_ids l

abbrev layer_arg : Arg-F TyKindPart ArgPart TyExprPart → Arg-F TyKind Arg TyExpr
layer_arg y = map-Arg TyKindPart ArgPart TyExprPart TyKind Arg TyExpr (λ q. q.0) (λ q. q.0) (λ q. q.0) y

abbrev ids_of_arg : Arg-F TyKind Arg TyExpr → Arg-F Ids Ids Ids
ids_of_arg l = map-Arg TyKind Arg TyExpr Ids Ids Ids I.type_kind_ids I.arg_ids I.type_ids l

abbrev layer_tyexpr : TyExpr-F TyKindPart ArgPart TyExprPart → TyExpr-F TyKind Arg TyExpr
layer_tyexpr y = map-TyExpr TyKindPart ArgPart TyExprPart TyKind Arg TyExpr (λ q. q.0) (λ q. q.0) (λ q. q.0) y

abbrev ids_of_tyexpr : TyExpr-F TyKind Arg TyExpr → TyExpr-F Ids Ids Ids
ids_of_tyexpr l = map-TyExpr TyKind Arg TyExpr Ids Ids Ids I.type_kind_ids I.arg_ids I.type_ids l

tykind_none : (y : TyKind-F TyKindPart ArgPart TyExprPart) → NoNodes (I.type_step (ids_of_tykind (layer_tykind y)))
tykind_none (t.Var span) = refl
tykind_none (t.Con name args) = parts_none I.type_ids args
tykind_none (t.Tuple parts) = parts_none I.type_ids parts
tykind_none (t.Arrow from to) = both_none (I.arg_ids from.0) (I.arg_ids to.0) from.1 to.1

tykind_case : (l : TyKind-F TyKind Arg TyExpr) (y : TyKind-F TyKindPart ArgPart TyExprPart) → layer_tykind y ≡ l → NoNodes (I.type_kind_ids (roll-TyKind l))
tykind_case l y same = subst NoNodes (sym (fold-roll-TyKind Ids Ids Ids I.type_step I.arg_step I.type_node l)) (subst (λ l. NoNodes (I.type_step (ids_of_tykind l))) same (tykind_none y))

arg_case : (l : Arg-F TyKind Arg TyExpr) (y : Arg-F TyKindPart ArgPart TyExprPart) → layer_arg y ≡ l → NoNodes (I.arg_ids (roll-Arg l))
arg_case l y same = subst NoNodes (sym (fold-roll-Arg Ids Ids Ids I.type_step I.arg_step I.type_node l)) (subst (λ l. NoNodes (I.arg_step (ids_of_arg l))) same (y.ty.1))

tyexpr_case : (l : TyExpr-F TyKind Arg TyExpr) (y : TyExpr-F TyKindPart ArgPart TyExprPart) → layer_tyexpr y ≡ l → NoNodes (I.type_ids (roll-TyExpr l))
tyexpr_case l y same = subst NoNodes (sym (fold-roll-TyExpr Ids Ids Ids I.type_step I.arg_step I.type_node l)) (subst (λ l. NoNodes (I.type_node (ids_of_tyexpr l))) same (y.kind.1))

type_none : (ty : TyExpr) → NoNodes (I.type_ids ty)
type_none ty = ind-TyExpr (λ x. NoNodes (I.type_kind_ids x)) (λ x. NoNodes (I.arg_ids x)) (λ x. NoNodes (I.type_ids x)) tykind_case arg_case tyexpr_case ty

result_none : (r : Option TyExpr) → NoNodes (I.result_ids r)
result_none None = refl
result_none (Some ty) = type_none ty

-- ---- patterns

abbrev PatKindPart : Type 0
PatKindPart = (x : PatKind) × Counts (I.pattern_kind_ids x) (N.pattern_kind_nodes x)

abbrev FieldPatPart : Type 0
FieldPatPart = (x : FieldPat) × Counts (I.field_pattern_ids x) (N.field_pattern_nodes x)

abbrev PatPart : Type 0
PatPart = (x : Pat) × Counts (I.pattern_ids x) (N.pattern_nodes x)

abbrev layer_patkind : PatKind-F PatKindPart FieldPatPart PatPart → PatKind-F PatKind FieldPat Pat
layer_patkind y = map-PatKind PatKindPart FieldPatPart PatPart PatKind FieldPat Pat (λ q. q.0) (λ q. q.0) (λ q. q.0) y

abbrev ids_of_patkind : PatKind-F PatKind FieldPat Pat → PatKind-F Ids Ids Ids
ids_of_patkind l = map-PatKind PatKind FieldPat Pat Ids Ids Ids I.pattern_kind_ids I.field_pattern_ids I.pattern_ids l

abbrev nodes_of_patkind : PatKind-F PatKind FieldPat Pat → PatKind-F ℕ ℕ ℕ
nodes_of_patkind l = map-PatKind PatKind FieldPat Pat ℕ ℕ ℕ N.pattern_kind_nodes N.field_pattern_nodes N.pattern_nodes l

abbrev layer_fieldpat : FieldPat-F PatKindPart FieldPatPart PatPart → FieldPat-F PatKind FieldPat Pat
layer_fieldpat y = map-FieldPat PatKindPart FieldPatPart PatPart PatKind FieldPat Pat (λ q. q.0) (λ q. q.0) (λ q. q.0) y

abbrev ids_of_fieldpat : FieldPat-F PatKind FieldPat Pat → FieldPat-F Ids Ids Ids
ids_of_fieldpat l = map-FieldPat PatKind FieldPat Pat Ids Ids Ids I.pattern_kind_ids I.field_pattern_ids I.pattern_ids l

abbrev nodes_of_fieldpat : FieldPat-F PatKind FieldPat Pat → FieldPat-F ℕ ℕ ℕ
nodes_of_fieldpat l = map-FieldPat PatKind FieldPat Pat ℕ ℕ ℕ N.pattern_kind_nodes N.field_pattern_nodes N.pattern_nodes l

abbrev layer_pat : Pat-F PatKindPart FieldPatPart PatPart → Pat-F PatKind FieldPat Pat
layer_pat y = map-Pat PatKindPart FieldPatPart PatPart PatKind FieldPat Pat (λ q. q.0) (λ q. q.0) (λ q. q.0) y

abbrev ids_of_pat : Pat-F PatKind FieldPat Pat → Pat-F Ids Ids Ids
ids_of_pat l = map-Pat PatKind FieldPat Pat Ids Ids Ids I.pattern_kind_ids I.field_pattern_ids I.pattern_ids l

abbrev nodes_of_pat : Pat-F PatKind FieldPat Pat → Pat-F ℕ ℕ ℕ
nodes_of_pat l = map-Pat PatKind FieldPat Pat ℕ ℕ ℕ N.pattern_kind_nodes N.field_pattern_nodes N.pattern_nodes l

pattern_count : (y : PatKind-F PatKindPart FieldPatPart PatPart) → Counts (I.pattern_step (ids_of_patkind (layer_patkind y))) (N.pattern_step (nodes_of_patkind (layer_patkind y)))
pattern_count p.Any = refl
pattern_count (p.Name words span) = refl
pattern_count (p.Int z) = refl
pattern_count (p.Char c) = refl
pattern_count (p.Text text) = refl
pattern_count (p.Con name None) = refl
pattern_count (p.Con name (Some a)) = a.1
pattern_count (p.Cons a b) = count_joined (I.pattern_ids a.0) (I.pattern_ids b.0) (N.pattern_nodes a.0) (N.pattern_nodes b.0) a.1 b.1
pattern_count (p.Or a b) = count_joined (I.pattern_ids a.0) (I.pattern_ids b.0) (N.pattern_nodes a.0) (N.pattern_nodes b.0) a.1 b.1
pattern_count (p.Tuple ps) = count_parts I.pattern_ids N.pattern_nodes ps
pattern_count (p.List ps) = count_parts I.pattern_ids N.pattern_nodes ps
pattern_count (p.Fields ps rest) = count_parts I.field_pattern_ids N.field_pattern_nodes ps
pattern_count (p.Named q name) = q.1
pattern_count (p.Typed q ty) = count_less (I.pattern_ids q.0) (I.type_ids ty) (N.pattern_nodes q.0) q.1 (type_none ty)
pattern_count (p.Paren q) = q.1

patkind_case : (l : PatKind-F PatKind FieldPat Pat) (y : PatKind-F PatKindPart FieldPatPart PatPart) → layer_patkind y ≡ l → Counts (I.pattern_kind_ids (roll-PatKind l)) (N.pattern_kind_nodes (roll-PatKind l))
patkind_case l y same =
    let is = fold-roll-PatKind Ids Ids Ids I.pattern_step I.field_pattern_node I.pattern_node l in
    let ns = fold-roll-PatKind ℕ ℕ ℕ N.pattern_step N.field_pattern_node N.pattern_node l in
    let here : Counts (I.pattern_step (ids_of_patkind l)) (N.pattern_step (nodes_of_patkind l)) = subst (λ l. Counts (I.pattern_step (ids_of_patkind l)) (N.pattern_step (nodes_of_patkind l))) same (pattern_count y) in
    ap (λ (i : Ids). length i.nodes) is ∙ (here ∙ sym ns)

fieldpat_case : (l : FieldPat-F PatKind FieldPat Pat) (y : FieldPat-F PatKindPart FieldPatPart PatPart) → layer_fieldpat y ≡ l → Counts (I.field_pattern_ids (roll-FieldPat l)) (N.field_pattern_nodes (roll-FieldPat l))
fieldpat_case l y same =
    let is = fold-roll-FieldPat Ids Ids Ids I.pattern_step I.field_pattern_node I.pattern_node l in
    let ns = fold-roll-FieldPat ℕ ℕ ℕ N.pattern_step N.field_pattern_node N.pattern_node l in
    let here : Counts (I.field_pattern_node (ids_of_fieldpat l)) (N.field_pattern_node (nodes_of_fieldpat l)) = subst (λ l. Counts (I.field_pattern_node (ids_of_fieldpat l)) (N.field_pattern_node (nodes_of_fieldpat l))) same (count_node y.id (I.pattern_ids y.pat.0) (N.pattern_nodes y.pat.0) y.pat.1) in
    ap (λ (i : Ids). length i.nodes) is ∙ (here ∙ sym ns)

pat_case : (l : Pat-F PatKind FieldPat Pat) (y : Pat-F PatKindPart FieldPatPart PatPart) → layer_pat y ≡ l → Counts (I.pattern_ids (roll-Pat l)) (N.pattern_nodes (roll-Pat l))
pat_case l y same =
    let is = fold-roll-Pat Ids Ids Ids I.pattern_step I.field_pattern_node I.pattern_node l in
    let ns = fold-roll-Pat ℕ ℕ ℕ N.pattern_step N.field_pattern_node N.pattern_node l in
    let here : Counts (I.pattern_node (ids_of_pat l)) (N.pattern_node (nodes_of_pat l)) = subst (λ l. Counts (I.pattern_node (ids_of_pat l)) (N.pattern_node (nodes_of_pat l))) same (count_node y.id (I.pattern_kind_ids y.kind.0) (N.pattern_kind_nodes y.kind.0) y.kind.1) in
    ap (λ (i : Ids). length i.nodes) is ∙ (here ∙ sym ns)

pattern_counts : (q : Pat) → Counts (I.pattern_ids q) (N.pattern_nodes q)
pattern_counts q = ind-Pat (λ x. Counts (I.pattern_kind_ids x) (N.pattern_kind_nodes x)) (λ x. Counts (I.field_pattern_ids x) (N.field_pattern_nodes x)) (λ x. Counts (I.pattern_ids x) (N.pattern_nodes x)) patkind_case fieldpat_case pat_case q

params_count : (qs : List Param) → Counts (all (map I.param_ids qs)) (sum (map N.param_nodes qs))
params_count qs = count_each I.param_ids N.param_nodes (λ q. pattern_counts q.pat) qs

-- ---- expressions

abbrev ExprKindPart : Type 0
ExprKindPart = (x : ExprKind) × Counts (I.kind_ids x) (N.kind_nodes x)

abbrev ArmPart : Type 0
ArmPart = (x : Arm) × Counts (I.arm_ids x) (N.arm_nodes x)

abbrev BindPart : Type 0
BindPart = (x : Bind) × Counts (I.bind_ids x) (N.bind_nodes x)

abbrev ExprPart : Type 0
ExprPart = (x : Expr) × Counts (I.expr_ids x) (N.expr_nodes x)

abbrev FieldExprPart : Type 0
FieldExprPart = (x : FieldExpr) × Counts (I.field_ids x) (N.field_nodes x)

abbrev layer_exprkind : ExprKind-F ExprKindPart ArmPart BindPart ExprPart FieldExprPart → ExprKind-F ExprKind Arm Bind Expr FieldExpr
layer_exprkind y = map-ExprKind ExprKindPart ArmPart BindPart ExprPart FieldExprPart ExprKind Arm Bind Expr FieldExpr (λ q. q.0) (λ q. q.0) (λ q. q.0) (λ q. q.0) (λ q. q.0) y

abbrev ids_of_exprkind : ExprKind-F ExprKind Arm Bind Expr FieldExpr → ExprKind-F Ids Ids Ids Ids Ids
ids_of_exprkind l = map-ExprKind ExprKind Arm Bind Expr FieldExpr Ids Ids Ids Ids Ids I.kind_ids I.arm_ids I.bind_ids I.expr_ids I.field_ids l

abbrev nodes_of_exprkind : ExprKind-F ExprKind Arm Bind Expr FieldExpr → ExprKind-F ℕ ℕ ℕ ℕ ℕ
nodes_of_exprkind l = map-ExprKind ExprKind Arm Bind Expr FieldExpr ℕ ℕ ℕ ℕ ℕ N.kind_nodes N.arm_nodes N.bind_nodes N.expr_nodes N.field_nodes l

abbrev layer_arm : Arm-F ExprKindPart ArmPart BindPart ExprPart FieldExprPart → Arm-F ExprKind Arm Bind Expr FieldExpr
layer_arm y = map-Arm ExprKindPart ArmPart BindPart ExprPart FieldExprPart ExprKind Arm Bind Expr FieldExpr (λ q. q.0) (λ q. q.0) (λ q. q.0) (λ q. q.0) (λ q. q.0) y

abbrev ids_of_arm : Arm-F ExprKind Arm Bind Expr FieldExpr → Arm-F Ids Ids Ids Ids Ids
ids_of_arm l = map-Arm ExprKind Arm Bind Expr FieldExpr Ids Ids Ids Ids Ids I.kind_ids I.arm_ids I.bind_ids I.expr_ids I.field_ids l

abbrev nodes_of_arm : Arm-F ExprKind Arm Bind Expr FieldExpr → Arm-F ℕ ℕ ℕ ℕ ℕ
nodes_of_arm l = map-Arm ExprKind Arm Bind Expr FieldExpr ℕ ℕ ℕ ℕ ℕ N.kind_nodes N.arm_nodes N.bind_nodes N.expr_nodes N.field_nodes l

abbrev layer_bind : Bind-F ExprKindPart ArmPart BindPart ExprPart FieldExprPart → Bind-F ExprKind Arm Bind Expr FieldExpr
layer_bind y = map-Bind ExprKindPart ArmPart BindPart ExprPart FieldExprPart ExprKind Arm Bind Expr FieldExpr (λ q. q.0) (λ q. q.0) (λ q. q.0) (λ q. q.0) (λ q. q.0) y

abbrev ids_of_bind : Bind-F ExprKind Arm Bind Expr FieldExpr → Bind-F Ids Ids Ids Ids Ids
ids_of_bind l = map-Bind ExprKind Arm Bind Expr FieldExpr Ids Ids Ids Ids Ids I.kind_ids I.arm_ids I.bind_ids I.expr_ids I.field_ids l

abbrev nodes_of_bind : Bind-F ExprKind Arm Bind Expr FieldExpr → Bind-F ℕ ℕ ℕ ℕ ℕ
nodes_of_bind l = map-Bind ExprKind Arm Bind Expr FieldExpr ℕ ℕ ℕ ℕ ℕ N.kind_nodes N.arm_nodes N.bind_nodes N.expr_nodes N.field_nodes l

abbrev layer_expr : Expr-F ExprKindPart ArmPart BindPart ExprPart FieldExprPart → Expr-F ExprKind Arm Bind Expr FieldExpr
layer_expr y = map-Expr ExprKindPart ArmPart BindPart ExprPart FieldExprPart ExprKind Arm Bind Expr FieldExpr (λ q. q.0) (λ q. q.0) (λ q. q.0) (λ q. q.0) (λ q. q.0) y

abbrev ids_of_expr : Expr-F ExprKind Arm Bind Expr FieldExpr → Expr-F Ids Ids Ids Ids Ids
ids_of_expr l = map-Expr ExprKind Arm Bind Expr FieldExpr Ids Ids Ids Ids Ids I.kind_ids I.arm_ids I.bind_ids I.expr_ids I.field_ids l

abbrev nodes_of_expr : Expr-F ExprKind Arm Bind Expr FieldExpr → Expr-F ℕ ℕ ℕ ℕ ℕ
nodes_of_expr l = map-Expr ExprKind Arm Bind Expr FieldExpr ℕ ℕ ℕ ℕ ℕ N.kind_nodes N.arm_nodes N.bind_nodes N.expr_nodes N.field_nodes l

abbrev layer_fieldexpr : FieldExpr-F ExprKindPart ArmPart BindPart ExprPart FieldExprPart → FieldExpr-F ExprKind Arm Bind Expr FieldExpr
layer_fieldexpr y = map-FieldExpr ExprKindPart ArmPart BindPart ExprPart FieldExprPart ExprKind Arm Bind Expr FieldExpr (λ q. q.0) (λ q. q.0) (λ q. q.0) (λ q. q.0) (λ q. q.0) y

abbrev ids_of_fieldexpr : FieldExpr-F ExprKind Arm Bind Expr FieldExpr → FieldExpr-F Ids Ids Ids Ids Ids
ids_of_fieldexpr l = map-FieldExpr ExprKind Arm Bind Expr FieldExpr Ids Ids Ids Ids Ids I.kind_ids I.arm_ids I.bind_ids I.expr_ids I.field_ids l

abbrev nodes_of_fieldexpr : FieldExpr-F ExprKind Arm Bind Expr FieldExpr → FieldExpr-F ℕ ℕ ℕ ℕ ℕ
nodes_of_fieldexpr l = map-FieldExpr ExprKind Arm Bind Expr FieldExpr ℕ ℕ ℕ ℕ ℕ N.kind_nodes N.arm_nodes N.bind_nodes N.expr_nodes N.field_nodes l

kind_count : (y : ExprKind-F ExprKindPart ArmPart BindPart ExprPart FieldExprPart) → Counts (I.step (ids_of_exprkind (layer_exprkind y))) (N.step (nodes_of_exprkind (layer_exprkind y)))
kind_count (e.Int z) = refl
kind_count (e.Char c) = refl
kind_count (e.Text text) = refl
kind_count (e.Name name) = refl
kind_count (e.Path place name) = refl
kind_count (e.Con name None) = refl
kind_count (e.Con name (Some a)) = a.1
kind_count (e.Cons a b) = count_joined (I.expr_ids a.0) (I.expr_ids b.0) (N.expr_nodes a.0) (N.expr_nodes b.0) a.1 b.1
kind_count (e.Index a b) = count_joined (I.expr_ids a.0) (I.expr_ids b.0) (N.expr_nodes a.0) (N.expr_nodes b.0) a.1 b.1
kind_count (e.Binary op a b) = count_joined (I.expr_ids a.0) (I.expr_ids b.0) (N.expr_nodes a.0) (N.expr_nodes b.0) a.1 b.1
kind_count (e.Tuple es) = (count_parts I.expr_ids N.expr_nodes es)
kind_count (e.List es) = (count_parts I.expr_ids N.expr_nodes es)
kind_count (e.Seq es) = (count_parts I.expr_ids N.expr_nodes es)
kind_count (e.Fields es) = (count_parts I.field_ids N.field_nodes es)
kind_count (e.Function es) = (count_parts I.arm_ids N.arm_nodes es)
kind_count (e.Field a name) = a.1
kind_count (e.Minus a) = a.1
kind_count (e.Paren a) = a.1
kind_count (e.Worded words a) = a.1
kind_count (e.Exclave a) = a.1
kind_count (e.Borrow name of a) = a.1
kind_count (e.Overwrite name a) = a.1
kind_count (e.Apply a es) = count_joined (I.expr_ids a.0) (all (map I.expr_ids (map (λ q. q.0) es))) (N.expr_nodes a.0) (sum (map N.expr_nodes (map (λ q. q.0) es))) a.1 (count_parts I.expr_ids N.expr_nodes es)
kind_count (e.Match a es) = count_joined (I.expr_ids a.0) (all (map I.arm_ids (map (λ q. q.0) es))) (N.expr_nodes a.0) (sum (map N.arm_nodes (map (λ q. q.0) es))) a.1 (count_parts I.arm_ids N.arm_nodes es)
kind_count (e.If a b None) = count_three (I.expr_ids a.0) (I.expr_ids b.0) no_ids (N.expr_nodes a.0) (N.expr_nodes b.0) 0 a.1 b.1 refl
kind_count (e.If a b (Some c)) = count_three (I.expr_ids a.0) (I.expr_ids b.0) (I.expr_ids c.0) (N.expr_nodes a.0) (N.expr_nodes b.0) (N.expr_nodes c.0) a.1 b.1 c.1
kind_count (e.Let recursive binds body) = count_joined (all (map I.bind_ids (map (λ q. q.0) binds))) (I.expr_ids body.0) (sum (map N.bind_nodes (map (λ q. q.0) binds))) (N.expr_nodes body.0) (count_parts I.bind_ids N.bind_nodes binds) body.1
kind_count (e.Fun params body) = count_joined (all (map I.param_ids params)) (I.expr_ids body.0) (sum (map N.param_nodes params)) (N.expr_nodes body.0) (params_count params) body.1
kind_count (e.Typed a ty) = count_less (I.expr_ids a.0) (I.type_ids ty) (N.expr_nodes a.0) a.1 (type_none ty)

arm_count : (pat : Pat) (guard : Option ExprPart) (body : ExprPart) → Counts (I.arm_step (ids_of_arm (layer_arm (record { pat = pat; guard = guard; body = body })))) (N.arm_node (nodes_of_arm (layer_arm (record { pat = pat; guard = guard; body = body }))))
arm_count pat None body = count_three (I.pattern_ids pat) no_ids (I.expr_ids body.0) (N.pattern_nodes pat) 0 (N.expr_nodes body.0) (pattern_counts pat) refl body.1
arm_count pat (Some g) body = count_three (I.pattern_ids pat) (I.expr_ids g.0) (I.expr_ids body.0) (N.pattern_nodes pat) (N.expr_nodes g.0) (N.expr_nodes body.0) (pattern_counts pat) g.1 body.1

bind_count : (pat : Pat) (params : List Param) (result : Option TyExpr) (body : ExprPart) → Counts (I.bind_step (ids_of_bind (layer_bind (record { pat = pat; params = params; result = result; body = body })))) (N.bind_node (nodes_of_bind (layer_bind (record { pat = pat; params = params; result = result; body = body }))))
bind_count pat params result body =
    let rest : Counts (joined (I.result_ids result) (I.expr_ids body.0)) (N.expr_nodes body.0) = ap (λ xs. length (xs ++ (I.expr_ids body.0).nodes)) (result_none result) ∙ body.1 in
    count_three (I.pattern_ids pat) (all (map I.param_ids params)) (joined (I.result_ids result) (I.expr_ids body.0)) (N.pattern_nodes pat) (sum (map N.param_nodes params)) (N.expr_nodes body.0) (pattern_counts pat) (params_count params) rest

exprkind_case : (l : ExprKind-F ExprKind Arm Bind Expr FieldExpr) (y : ExprKind-F ExprKindPart ArmPart BindPart ExprPart FieldExprPart) → layer_exprkind y ≡ l → Counts (I.kind_ids (roll-ExprKind l)) (N.kind_nodes (roll-ExprKind l))
exprkind_case l y same =
    let is = fold-roll-ExprKind Ids Ids Ids Ids Ids I.step I.arm_step I.bind_step I.expr_node I.field_node l in
    let ns = fold-roll-ExprKind ℕ ℕ ℕ ℕ ℕ N.step N.arm_node N.bind_node N.expr_node N.field_node l in
    let here : Counts (I.step (ids_of_exprkind l)) (N.step (nodes_of_exprkind l)) = subst (λ l. Counts (I.step (ids_of_exprkind l)) (N.step (nodes_of_exprkind l))) same (kind_count y) in
    ap (λ (i : Ids). length i.nodes) is ∙ (here ∙ sym ns)

arm_case : (l : Arm-F ExprKind Arm Bind Expr FieldExpr) (y : Arm-F ExprKindPart ArmPart BindPart ExprPart FieldExprPart) → layer_arm y ≡ l → Counts (I.arm_ids (roll-Arm l)) (N.arm_nodes (roll-Arm l))
arm_case l y same =
    let is = fold-roll-Arm Ids Ids Ids Ids Ids I.step I.arm_step I.bind_step I.expr_node I.field_node l in
    let ns = fold-roll-Arm ℕ ℕ ℕ ℕ ℕ N.step N.arm_node N.bind_node N.expr_node N.field_node l in
    let here : Counts (I.arm_step (ids_of_arm l)) (N.arm_node (nodes_of_arm l)) = subst (λ l. Counts (I.arm_step (ids_of_arm l)) (N.arm_node (nodes_of_arm l))) same (arm_count y.pat y.guard y.body) in
    ap (λ (i : Ids). length i.nodes) is ∙ (here ∙ sym ns)

bind_case : (l : Bind-F ExprKind Arm Bind Expr FieldExpr) (y : Bind-F ExprKindPart ArmPart BindPart ExprPart FieldExprPart) → layer_bind y ≡ l → Counts (I.bind_ids (roll-Bind l)) (N.bind_nodes (roll-Bind l))
bind_case l y same =
    let is = fold-roll-Bind Ids Ids Ids Ids Ids I.step I.arm_step I.bind_step I.expr_node I.field_node l in
    let ns = fold-roll-Bind ℕ ℕ ℕ ℕ ℕ N.step N.arm_node N.bind_node N.expr_node N.field_node l in
    let here : Counts (I.bind_step (ids_of_bind l)) (N.bind_node (nodes_of_bind l)) = subst (λ l. Counts (I.bind_step (ids_of_bind l)) (N.bind_node (nodes_of_bind l))) same (bind_count y.pat y.params y.result y.body) in
    ap (λ (i : Ids). length i.nodes) is ∙ (here ∙ sym ns)

expr_case : (l : Expr-F ExprKind Arm Bind Expr FieldExpr) (y : Expr-F ExprKindPart ArmPart BindPart ExprPart FieldExprPart) → layer_expr y ≡ l → Counts (I.expr_ids (roll-Expr l)) (N.expr_nodes (roll-Expr l))
expr_case l y same =
    let is = fold-roll-Expr Ids Ids Ids Ids Ids I.step I.arm_step I.bind_step I.expr_node I.field_node l in
    let ns = fold-roll-Expr ℕ ℕ ℕ ℕ ℕ N.step N.arm_node N.bind_node N.expr_node N.field_node l in
    let here : Counts (I.expr_node (ids_of_expr l)) (N.expr_node (nodes_of_expr l)) = subst (λ l. Counts (I.expr_node (ids_of_expr l)) (N.expr_node (nodes_of_expr l))) same (count_node y.id (I.kind_ids y.kind.0) (N.kind_nodes y.kind.0) y.kind.1) in
    ap (λ (i : Ids). length i.nodes) is ∙ (here ∙ sym ns)

fieldexpr_case : (l : FieldExpr-F ExprKind Arm Bind Expr FieldExpr) (y : FieldExpr-F ExprKindPart ArmPart BindPart ExprPart FieldExprPart) → layer_fieldexpr y ≡ l → Counts (I.field_ids (roll-FieldExpr l)) (N.field_nodes (roll-FieldExpr l))
fieldexpr_case l y same =
    let is = fold-roll-FieldExpr Ids Ids Ids Ids Ids I.step I.arm_step I.bind_step I.expr_node I.field_node l in
    let ns = fold-roll-FieldExpr ℕ ℕ ℕ ℕ ℕ N.step N.arm_node N.bind_node N.expr_node N.field_node l in
    let here : Counts (I.field_node (ids_of_fieldexpr l)) (N.field_node (nodes_of_fieldexpr l)) = subst (λ l. Counts (I.field_node (ids_of_fieldexpr l)) (N.field_node (nodes_of_fieldexpr l))) same (count_node y.id (I.expr_ids y.expr.0) (N.expr_nodes y.expr.0) y.expr.1) in
    ap (λ (i : Ids). length i.nodes) is ∙ (here ∙ sym ns)

-- an expression has as many numbers as nodes
pub expr_counts : (x : Expr) → length (I.expr_ids x).nodes ≡ N.expr_nodes x
expr_counts x = ind-Expr (λ x. Counts (I.kind_ids x) (N.kind_nodes x)) (λ x. Counts (I.arm_ids x) (N.arm_nodes x)) (λ x. Counts (I.bind_ids x) (N.bind_nodes x)) (λ x. Counts (I.expr_ids x) (N.expr_nodes x)) (λ x. Counts (I.field_ids x) (N.field_nodes x)) exprkind_case arm_case bind_case expr_case fieldexpr_case x

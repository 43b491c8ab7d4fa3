-- Numbering counts the nodes of patterns, expressions and items.
use Rattle.std.proofs.Common.{◌≡◌, ℕ, List, map, Option, Some, None, sym, subst, arith}
use Rattle.std.specs.Prelude.{sum}
use Rattle.ml_tree.specs.Nodes as I
use Rattle.ml_tree.specs.declared.types.TyExpr.{TyExpr}
use Rattle.ml_tree.specs.declared.pattern.Pat.{Pat, ind-Pat, fold-roll-Pat, map-Pat, roll-Pat}
use Rattle.ml_tree.specs.declared.pattern.FieldPat.{FieldPat, fold-roll-FieldPat, map-FieldPat, roll-FieldPat}
use Rattle.ml_tree.specs.declared.pattern.PatKind.{PatKind, fold-roll-PatKind, map-PatKind, roll-PatKind}
use Rattle.ml_tree.specs.declared.pattern.PatKind.TheVariants as P
use Rattle.ml_tree.specs.declared.pattern.PatKind.TheOpen as p
use Rattle.ml_tree.specs.declared.pattern.PatKind.TheOpen.{PatKind-F, FieldPat-F, Pat-F}
use Rattle.ml_tree.specs.declared.pattern.Param.{Param}
use Rattle.ml_tree.specs.declared.expr.Expr.{Expr, fold-roll-Expr, map-Expr, roll-Expr}
use Rattle.ml_tree.specs.declared.expr.Arm.{Arm, fold-roll-Arm, map-Arm, roll-Arm}
use Rattle.ml_tree.specs.declared.expr.Bind.{Bind, ind-Bind, fold-roll-Bind, map-Bind, roll-Bind}
use Rattle.ml_tree.specs.declared.expr.FieldExpr.{FieldExpr, fold-roll-FieldExpr, map-FieldExpr, roll-FieldExpr}
use Rattle.ml_tree.specs.declared.expr.ExprKind.{ExprKind, fold-roll-ExprKind, map-ExprKind, roll-ExprKind}
use Rattle.ml_tree.specs.declared.expr.ExprKind.TheVariants as E
use Rattle.ml_tree.specs.declared.expr.ExprKind.TheOpen as e
use Rattle.ml_tree.specs.declared.expr.ExprKind.TheOpen.{ExprKind-F, Arm-F, Bind-F, Expr-F, FieldExpr-F}
use Rattle.ml_tree.specs.declared.program.Item.{Item}
use Rattle.ml_tree.specs.declared.program.ItemKind.{ItemKind}
use Rattle.ml_tree.specs.declared.program.ItemKind.TheVariants as K
use Rattle.ml_numbers.specs.Steps.{Step}
use Rattle.ml_numbers.specs.Numbered.{pattern_step, field_pattern_node, pattern_node, numbered_pattern, numbered_pattern_kind, numbered_field_pattern, numbered_param, numbered_params, numbered_result, step, arm_step, bind_step, expr_node, field_node, numbered_expr, numbered_kind, numbered_arm, numbered_bind, numbered_field, numbered_decl, numbered_item_kind, numbered_item, numbered}
use Rattle.tree_laws.specs.Counts.{item_kind_nodes, item_nodes}
use Rattle.tree_laws.proofs.NumberedCounts.{Counts, counts_done, counts_one, counts_two, counts_three, counts_before, counts_four, counts_node, counts_each, counts_parts, counts_none_each, type_counts, decl_counts}

abbrev PatKindPart : Type 0
PatKindPart = (x : PatKind) × Counts (I.pattern_kind_nodes x) (numbered_pattern_kind x)

abbrev FieldPatPart : Type 0
FieldPatPart = (x : FieldPat) × Counts (I.field_pattern_nodes x) (numbered_field_pattern x)

abbrev PatPart : Type 0
PatPart = (x : Pat) × Counts (I.pattern_nodes x) (numbered_pattern x)

abbrev layer_patkind : PatKind-F PatKindPart FieldPatPart PatPart → PatKind-F PatKind FieldPat Pat
layer_patkind y = map-PatKind PatKindPart FieldPatPart PatPart PatKind FieldPat Pat (λ q. q.0) (λ q. q.0) (λ q. q.0) y

abbrev stepped_patkind : PatKind-F PatKind FieldPat Pat → PatKind-F (Step PatKind) (Step FieldPat) (Step Pat)
stepped_patkind l = map-PatKind PatKind FieldPat Pat (Step PatKind) (Step FieldPat) (Step Pat) numbered_pattern_kind numbered_field_pattern numbered_pattern l

abbrev sized_patkind : PatKind-F PatKind FieldPat Pat → PatKind-F ℕ ℕ ℕ
sized_patkind l = map-PatKind PatKind FieldPat Pat ℕ ℕ ℕ I.pattern_kind_nodes I.field_pattern_nodes I.pattern_nodes l

abbrev layer_fieldpat : FieldPat-F PatKindPart FieldPatPart PatPart → FieldPat-F PatKind FieldPat Pat
layer_fieldpat y = map-FieldPat PatKindPart FieldPatPart PatPart PatKind FieldPat Pat (λ q. q.0) (λ q. q.0) (λ q. q.0) y

abbrev stepped_fieldpat : FieldPat-F PatKind FieldPat Pat → FieldPat-F (Step PatKind) (Step FieldPat) (Step Pat)
stepped_fieldpat l = map-FieldPat PatKind FieldPat Pat (Step PatKind) (Step FieldPat) (Step Pat) numbered_pattern_kind numbered_field_pattern numbered_pattern l

abbrev sized_fieldpat : FieldPat-F PatKind FieldPat Pat → FieldPat-F ℕ ℕ ℕ
sized_fieldpat l = map-FieldPat PatKind FieldPat Pat ℕ ℕ ℕ I.pattern_kind_nodes I.field_pattern_nodes I.pattern_nodes l

abbrev layer_pat : Pat-F PatKindPart FieldPatPart PatPart → Pat-F PatKind FieldPat Pat
layer_pat y = map-Pat PatKindPart FieldPatPart PatPart PatKind FieldPat Pat (λ q. q.0) (λ q. q.0) (λ q. q.0) y

abbrev stepped_pat : Pat-F PatKind FieldPat Pat → Pat-F (Step PatKind) (Step FieldPat) (Step Pat)
stepped_pat l = map-Pat PatKind FieldPat Pat (Step PatKind) (Step FieldPat) (Step Pat) numbered_pattern_kind numbered_field_pattern numbered_pattern l

abbrev sized_pat : Pat-F PatKind FieldPat Pat → Pat-F ℕ ℕ ℕ
sized_pat l = map-Pat PatKind FieldPat Pat ℕ ℕ ℕ I.pattern_kind_nodes I.field_pattern_nodes I.pattern_nodes l

pattern_kind_counts : (y : PatKind-F PatKindPart FieldPatPart PatPart) → Counts (I.pattern_step (sized_patkind (layer_patkind y))) (pattern_step (stepped_patkind (layer_patkind y)))
pattern_kind_counts p.Any = counts_done _
pattern_kind_counts (p.Name words span) = counts_done _
pattern_kind_counts (p.Int z) = counts_done _
pattern_kind_counts (p.Char c) = counts_done _
pattern_kind_counts (p.Text text) = counts_done _
pattern_kind_counts (p.Con name None) = counts_done _
pattern_kind_counts (p.Con name (Some a)) = counts_one _ _ (P.Con name) (counts_one _ _ Some a.1)
pattern_kind_counts (p.Cons a b) = counts_two _ _ _ _ P.Cons a.1 b.1
pattern_kind_counts (p.Or a b) = counts_two _ _ _ _ P.Or a.1 b.1
pattern_kind_counts (p.Tuple ps) = counts_one _ _ P.Tuple (counts_parts I.pattern_nodes numbered_pattern ps)
pattern_kind_counts (p.List ps) = counts_one _ _ P.List (counts_parts I.pattern_nodes numbered_pattern ps)
pattern_kind_counts (p.Fields ps rest) = counts_one _ _ (λ list. P.Fields list rest) (counts_parts I.field_pattern_nodes numbered_field_pattern ps)
pattern_kind_counts (p.Named q name) = counts_one _ _ (λ inner. P.Named inner name) q.1
pattern_kind_counts (p.Typed q ty) = counts_before _ _ _ P.Typed q.1 (type_counts ty)
pattern_kind_counts (p.Paren q) = counts_one _ _ P.Paren q.1

patkind_case : (l : PatKind-F PatKind FieldPat Pat) (y : PatKind-F PatKindPart FieldPatPart PatPart) → layer_patkind y ≡ l → Counts (I.pattern_kind_nodes (roll-PatKind l)) (numbered_pattern_kind (roll-PatKind l))
patkind_case l y same = subst (λ k. Counts k (numbered_pattern_kind (roll-PatKind l))) (sym (fold-roll-PatKind ℕ ℕ ℕ I.pattern_step I.field_pattern_node I.pattern_node l)) (subst (Counts (I.pattern_step (sized_patkind l))) (sym (fold-roll-PatKind (Step PatKind) (Step FieldPat) (Step Pat) pattern_step field_pattern_node pattern_node l)) (subst (λ l. Counts (I.pattern_step (sized_patkind l)) (pattern_step (stepped_patkind l))) same (pattern_kind_counts y)))

fieldpat_case : (l : FieldPat-F PatKind FieldPat Pat) (y : FieldPat-F PatKindPart FieldPatPart PatPart) → layer_fieldpat y ≡ l → Counts (I.field_pattern_nodes (roll-FieldPat l)) (numbered_field_pattern (roll-FieldPat l))
fieldpat_case l y same = subst (λ k. Counts k (numbered_field_pattern (roll-FieldPat l))) (sym (fold-roll-FieldPat ℕ ℕ ℕ I.pattern_step I.field_pattern_node I.pattern_node l)) (subst (Counts (I.field_pattern_node (sized_fieldpat l))) (sym (fold-roll-FieldPat (Step PatKind) (Step FieldPat) (Step Pat) pattern_step field_pattern_node pattern_node l)) (subst (λ l. Counts (I.field_pattern_node (sized_fieldpat l)) (field_pattern_node (stepped_fieldpat l))) same (counts_node _ _ (λ id pat. roll-FieldPat (record { id = id; name = y.name; pat = pat })) y.pat.1)))

pat_case : (l : Pat-F PatKind FieldPat Pat) (y : Pat-F PatKindPart FieldPatPart PatPart) → layer_pat y ≡ l → Counts (I.pattern_nodes (roll-Pat l)) (numbered_pattern (roll-Pat l))
pat_case l y same = subst (λ k. Counts k (numbered_pattern (roll-Pat l))) (sym (fold-roll-Pat ℕ ℕ ℕ I.pattern_step I.field_pattern_node I.pattern_node l)) (subst (Counts (I.pattern_node (sized_pat l))) (sym (fold-roll-Pat (Step PatKind) (Step FieldPat) (Step Pat) pattern_step field_pattern_node pattern_node l)) (subst (λ l. Counts (I.pattern_node (sized_pat l)) (pattern_node (stepped_pat l))) same (counts_node _ _ (λ id kind. roll-Pat (record { id = id; span = y.span; kind = kind })) y.kind.1)))

pub pattern_counts : (q : Pat) → Counts (I.pattern_nodes q) (numbered_pattern q)
pattern_counts q = ind-Pat (λ x. Counts (I.pattern_kind_nodes x) (numbered_pattern_kind x)) (λ x. Counts (I.field_pattern_nodes x) (numbered_field_pattern x)) (λ x. Counts (I.pattern_nodes x) (numbered_pattern x)) patkind_case fieldpat_case pat_case q

param_counts : (q : Param) → Counts (I.param_nodes q) (numbered_param q)
param_counts q = counts_one _ _ (λ pat. record { words = q.words; pat = pat }) (pattern_counts q.pat)

params_counts : (qs : List Param) → Counts (sum (map I.param_nodes qs)) (numbered_params qs)
params_counts qs = counts_each I.param_nodes numbered_param param_counts qs

abbrev ExprKindPart : Type 0
ExprKindPart = (x : ExprKind) × Counts (I.kind_nodes x) (numbered_kind x)

abbrev ArmPart : Type 0
ArmPart = (x : Arm) × Counts (I.arm_nodes x) (numbered_arm x)

abbrev BindPart : Type 0
BindPart = (x : Bind) × Counts (I.bind_nodes x) (numbered_bind x)

abbrev ExprPart : Type 0
ExprPart = (x : Expr) × Counts (I.expr_nodes x) (numbered_expr x)

abbrev FieldExprPart : Type 0
FieldExprPart = (x : FieldExpr) × Counts (I.field_nodes x) (numbered_field x)

abbrev layer_exprkind : ExprKind-F ExprKindPart ArmPart BindPart ExprPart FieldExprPart → ExprKind-F ExprKind Arm Bind Expr FieldExpr
layer_exprkind y = map-ExprKind ExprKindPart ArmPart BindPart ExprPart FieldExprPart ExprKind Arm Bind Expr FieldExpr (λ q. q.0) (λ q. q.0) (λ q. q.0) (λ q. q.0) (λ q. q.0) y

abbrev stepped_exprkind : ExprKind-F ExprKind Arm Bind Expr FieldExpr → ExprKind-F (Step ExprKind) (Step Arm) (Step Bind) (Step Expr) (Step FieldExpr)
stepped_exprkind l = map-ExprKind ExprKind Arm Bind Expr FieldExpr (Step ExprKind) (Step Arm) (Step Bind) (Step Expr) (Step FieldExpr) numbered_kind numbered_arm numbered_bind numbered_expr numbered_field l

abbrev sized_exprkind : ExprKind-F ExprKind Arm Bind Expr FieldExpr → ExprKind-F ℕ ℕ ℕ ℕ ℕ
sized_exprkind l = map-ExprKind ExprKind Arm Bind Expr FieldExpr ℕ ℕ ℕ ℕ ℕ I.kind_nodes I.arm_nodes I.bind_nodes I.expr_nodes I.field_nodes l

abbrev layer_arm : Arm-F ExprKindPart ArmPart BindPart ExprPart FieldExprPart → Arm-F ExprKind Arm Bind Expr FieldExpr
layer_arm y = map-Arm ExprKindPart ArmPart BindPart ExprPart FieldExprPart ExprKind Arm Bind Expr FieldExpr (λ q. q.0) (λ q. q.0) (λ q. q.0) (λ q. q.0) (λ q. q.0) y

abbrev stepped_arm : Arm-F ExprKind Arm Bind Expr FieldExpr → Arm-F (Step ExprKind) (Step Arm) (Step Bind) (Step Expr) (Step FieldExpr)
stepped_arm l = map-Arm ExprKind Arm Bind Expr FieldExpr (Step ExprKind) (Step Arm) (Step Bind) (Step Expr) (Step FieldExpr) numbered_kind numbered_arm numbered_bind numbered_expr numbered_field l

abbrev sized_arm : Arm-F ExprKind Arm Bind Expr FieldExpr → Arm-F ℕ ℕ ℕ ℕ ℕ
sized_arm l = map-Arm ExprKind Arm Bind Expr FieldExpr ℕ ℕ ℕ ℕ ℕ I.kind_nodes I.arm_nodes I.bind_nodes I.expr_nodes I.field_nodes l

abbrev layer_bind : Bind-F ExprKindPart ArmPart BindPart ExprPart FieldExprPart → Bind-F ExprKind Arm Bind Expr FieldExpr
layer_bind y = map-Bind ExprKindPart ArmPart BindPart ExprPart FieldExprPart ExprKind Arm Bind Expr FieldExpr (λ q. q.0) (λ q. q.0) (λ q. q.0) (λ q. q.0) (λ q. q.0) y

abbrev stepped_bind : Bind-F ExprKind Arm Bind Expr FieldExpr → Bind-F (Step ExprKind) (Step Arm) (Step Bind) (Step Expr) (Step FieldExpr)
stepped_bind l = map-Bind ExprKind Arm Bind Expr FieldExpr (Step ExprKind) (Step Arm) (Step Bind) (Step Expr) (Step FieldExpr) numbered_kind numbered_arm numbered_bind numbered_expr numbered_field l

abbrev sized_bind : Bind-F ExprKind Arm Bind Expr FieldExpr → Bind-F ℕ ℕ ℕ ℕ ℕ
sized_bind l = map-Bind ExprKind Arm Bind Expr FieldExpr ℕ ℕ ℕ ℕ ℕ I.kind_nodes I.arm_nodes I.bind_nodes I.expr_nodes I.field_nodes l

abbrev layer_expr : Expr-F ExprKindPart ArmPart BindPart ExprPart FieldExprPart → Expr-F ExprKind Arm Bind Expr FieldExpr
layer_expr y = map-Expr ExprKindPart ArmPart BindPart ExprPart FieldExprPart ExprKind Arm Bind Expr FieldExpr (λ q. q.0) (λ q. q.0) (λ q. q.0) (λ q. q.0) (λ q. q.0) y

abbrev stepped_expr : Expr-F ExprKind Arm Bind Expr FieldExpr → Expr-F (Step ExprKind) (Step Arm) (Step Bind) (Step Expr) (Step FieldExpr)
stepped_expr l = map-Expr ExprKind Arm Bind Expr FieldExpr (Step ExprKind) (Step Arm) (Step Bind) (Step Expr) (Step FieldExpr) numbered_kind numbered_arm numbered_bind numbered_expr numbered_field l

abbrev sized_expr : Expr-F ExprKind Arm Bind Expr FieldExpr → Expr-F ℕ ℕ ℕ ℕ ℕ
sized_expr l = map-Expr ExprKind Arm Bind Expr FieldExpr ℕ ℕ ℕ ℕ ℕ I.kind_nodes I.arm_nodes I.bind_nodes I.expr_nodes I.field_nodes l

abbrev layer_fieldexpr : FieldExpr-F ExprKindPart ArmPart BindPart ExprPart FieldExprPart → FieldExpr-F ExprKind Arm Bind Expr FieldExpr
layer_fieldexpr y = map-FieldExpr ExprKindPart ArmPart BindPart ExprPart FieldExprPart ExprKind Arm Bind Expr FieldExpr (λ q. q.0) (λ q. q.0) (λ q. q.0) (λ q. q.0) (λ q. q.0) y

abbrev stepped_fieldexpr : FieldExpr-F ExprKind Arm Bind Expr FieldExpr → FieldExpr-F (Step ExprKind) (Step Arm) (Step Bind) (Step Expr) (Step FieldExpr)
stepped_fieldexpr l = map-FieldExpr ExprKind Arm Bind Expr FieldExpr (Step ExprKind) (Step Arm) (Step Bind) (Step Expr) (Step FieldExpr) numbered_kind numbered_arm numbered_bind numbered_expr numbered_field l

abbrev sized_fieldexpr : FieldExpr-F ExprKind Arm Bind Expr FieldExpr → FieldExpr-F ℕ ℕ ℕ ℕ ℕ
sized_fieldexpr l = map-FieldExpr ExprKind Arm Bind Expr FieldExpr ℕ ℕ ℕ ℕ ℕ I.kind_nodes I.arm_nodes I.bind_nodes I.expr_nodes I.field_nodes l

kind_counts : (y : ExprKind-F ExprKindPart ArmPart BindPart ExprPart FieldExprPart) → Counts (I.step (sized_exprkind (layer_exprkind y))) (step (stepped_exprkind (layer_exprkind y)))
kind_counts (e.Int z) = counts_done _
kind_counts (e.Char c) = counts_done _
kind_counts (e.Text text) = counts_done _
kind_counts (e.Name name) = counts_done _
kind_counts (e.Path place name) = counts_done _
kind_counts (e.Con name None) = counts_done _
kind_counts (e.Con name (Some a)) = counts_one _ _ (E.Con name) (counts_one _ _ Some a.1)
kind_counts (e.Cons a b) = counts_two _ _ _ _ E.Cons a.1 b.1
kind_counts (e.Index a b) = counts_two _ _ _ _ E.Index a.1 b.1
kind_counts (e.Binary op a b) = counts_two _ _ _ _ (E.Binary op) a.1 b.1
kind_counts (e.Tuple es) = counts_one _ _ E.Tuple (counts_parts I.expr_nodes numbered_expr es)
kind_counts (e.List es) = counts_one _ _ E.List (counts_parts I.expr_nodes numbered_expr es)
kind_counts (e.Seq es) = counts_one _ _ E.Seq (counts_parts I.expr_nodes numbered_expr es)
kind_counts (e.Fields es) = counts_one _ _ E.Fields (counts_parts I.field_nodes numbered_field es)
kind_counts (e.Function es) = counts_one _ _ E.Function (counts_parts I.arm_nodes numbered_arm es)
kind_counts (e.Field a name) = counts_one _ _ (λ inner. E.Field inner name) a.1
kind_counts (e.Minus a) = counts_one _ _ E.Minus a.1
kind_counts (e.Paren a) = counts_one _ _ E.Paren a.1
kind_counts (e.Worded words a) = counts_one _ _ (E.Worded words) a.1
kind_counts (e.Exclave a) = counts_one _ _ E.Exclave a.1
kind_counts (e.Borrow name of a) = counts_one _ _ (E.Borrow name of) a.1
kind_counts (e.Overwrite name a) = counts_one _ _ (E.Overwrite name) a.1
kind_counts (e.Apply a es) = counts_two _ _ _ _ E.Apply a.1 (counts_parts I.expr_nodes numbered_expr es)
kind_counts (e.Match a es) = counts_two _ _ _ _ E.Match a.1 (counts_parts I.arm_nodes numbered_arm es)
kind_counts (e.If a b None) = counts_three _ _ _ _ _ _ E.If a.1 b.1 (counts_done None)
kind_counts (e.If a b (Some c)) = counts_three _ _ _ _ _ _ E.If a.1 b.1 (counts_one _ _ Some c.1)
kind_counts (e.Let recursive binds body) = counts_two _ _ _ _ (E.Let recursive) (counts_parts I.bind_nodes numbered_bind binds) body.1
kind_counts (e.Fun params body) = counts_two _ _ _ _ E.Fun (params_counts params) body.1
kind_counts (e.Typed a ty) = counts_before _ _ _ E.Typed a.1 (type_counts ty)

arm_counts_of : (pat : Pat) (guard : Option ExprPart) (body : ExprPart) → Counts (I.arm_node (sized_arm (layer_arm (record { pat = pat; guard = guard; body = body })))) (arm_step (stepped_arm (layer_arm (record { pat = pat; guard = guard; body = body }))))
arm_counts_of pat None body = counts_three _ _ _ _ _ _ (λ pat guard body. roll-Arm (record { pat = pat; guard = guard; body = body })) (pattern_counts pat) (counts_done _) body.1
arm_counts_of pat (Some g) body = counts_three _ _ _ _ _ _ (λ pat guard body. roll-Arm (record { pat = pat; guard = guard; body = body })) (pattern_counts pat) (counts_one _ _ Some g.1) body.1

result_counts : (r : Option TyExpr) → Counts 0 (numbered_result r)
result_counts None = counts_done _
result_counts (Some ty) = counts_one _ _ Some (type_counts ty)

exprkind_case : (l : ExprKind-F ExprKind Arm Bind Expr FieldExpr) (y : ExprKind-F ExprKindPart ArmPart BindPart ExprPart FieldExprPart) → layer_exprkind y ≡ l → Counts (I.kind_nodes (roll-ExprKind l)) (numbered_kind (roll-ExprKind l))
exprkind_case l y same = subst (λ k. Counts k (numbered_kind (roll-ExprKind l))) (sym (fold-roll-ExprKind ℕ ℕ ℕ ℕ ℕ I.step I.arm_node I.bind_node I.expr_node I.field_node l)) (subst (Counts (I.step (sized_exprkind l))) (sym (fold-roll-ExprKind (Step ExprKind) (Step Arm) (Step Bind) (Step Expr) (Step FieldExpr) step arm_step bind_step expr_node field_node l)) (subst (λ l. Counts (I.step (sized_exprkind l)) (step (stepped_exprkind l))) same (kind_counts y)))

arm_case : (l : Arm-F ExprKind Arm Bind Expr FieldExpr) (y : Arm-F ExprKindPart ArmPart BindPart ExprPart FieldExprPart) → layer_arm y ≡ l → Counts (I.arm_nodes (roll-Arm l)) (numbered_arm (roll-Arm l))
arm_case l y same = subst (λ k. Counts k (numbered_arm (roll-Arm l))) (sym (fold-roll-Arm ℕ ℕ ℕ ℕ ℕ I.step I.arm_node I.bind_node I.expr_node I.field_node l)) (subst (Counts (I.arm_node (sized_arm l))) (sym (fold-roll-Arm (Step ExprKind) (Step Arm) (Step Bind) (Step Expr) (Step FieldExpr) step arm_step bind_step expr_node field_node l)) (subst (λ l. Counts (I.arm_node (sized_arm l)) (arm_step (stepped_arm l))) same (arm_counts_of y.pat y.guard y.body)))

bind_case : (l : Bind-F ExprKind Arm Bind Expr FieldExpr) (y : Bind-F ExprKindPart ArmPart BindPart ExprPart FieldExprPart) → layer_bind y ≡ l → Counts (I.bind_nodes (roll-Bind l)) (numbered_bind (roll-Bind l))
bind_case l y same = subst (λ k. Counts k (numbered_bind (roll-Bind l))) (sym (fold-roll-Bind ℕ ℕ ℕ ℕ ℕ I.step I.arm_node I.bind_node I.expr_node I.field_node l)) (subst (Counts (I.bind_node (sized_bind l))) (sym (fold-roll-Bind (Step ExprKind) (Step Arm) (Step Bind) (Step Expr) (Step FieldExpr) step arm_step bind_step expr_node field_node l)) (subst (λ l. Counts (I.bind_node (sized_bind l)) (bind_step (stepped_bind l))) same (counts_four _ _ _ _ _ _ _ (λ pat params result body. roll-Bind (record { pat = pat; params = params; result = result; body = body })) (pattern_counts y.pat) (params_counts y.params) (result_counts y.result) y.body.1)))

expr_case : (l : Expr-F ExprKind Arm Bind Expr FieldExpr) (y : Expr-F ExprKindPart ArmPart BindPart ExprPart FieldExprPart) → layer_expr y ≡ l → Counts (I.expr_nodes (roll-Expr l)) (numbered_expr (roll-Expr l))
expr_case l y same = subst (λ k. Counts k (numbered_expr (roll-Expr l))) (sym (fold-roll-Expr ℕ ℕ ℕ ℕ ℕ I.step I.arm_node I.bind_node I.expr_node I.field_node l)) (subst (Counts (I.expr_node (sized_expr l))) (sym (fold-roll-Expr (Step ExprKind) (Step Arm) (Step Bind) (Step Expr) (Step FieldExpr) step arm_step bind_step expr_node field_node l)) (subst (λ l. Counts (I.expr_node (sized_expr l)) (expr_node (stepped_expr l))) same (counts_node _ _ (λ id kind. roll-Expr (record { id = id; span = y.span; kind = kind })) y.kind.1)))

fieldexpr_case : (l : FieldExpr-F ExprKind Arm Bind Expr FieldExpr) (y : FieldExpr-F ExprKindPart ArmPart BindPart ExprPart FieldExprPart) → layer_fieldexpr y ≡ l → Counts (I.field_nodes (roll-FieldExpr l)) (numbered_field (roll-FieldExpr l))
fieldexpr_case l y same = subst (λ k. Counts k (numbered_field (roll-FieldExpr l))) (sym (fold-roll-FieldExpr ℕ ℕ ℕ ℕ ℕ I.step I.arm_node I.bind_node I.expr_node I.field_node l)) (subst (Counts (I.field_node (sized_fieldexpr l))) (sym (fold-roll-FieldExpr (Step ExprKind) (Step Arm) (Step Bind) (Step Expr) (Step FieldExpr) step arm_step bind_step expr_node field_node l)) (subst (λ l. Counts (I.field_node (sized_fieldexpr l)) (field_node (stepped_fieldexpr l))) same (counts_node _ _ (λ id expr. roll-FieldExpr (record { id = id; name = y.name; expr = expr })) y.expr.1)))

bind_counts : (b : Bind) → Counts (I.bind_nodes b) (numbered_bind b)
bind_counts b = ind-Bind (λ x. Counts (I.kind_nodes x) (numbered_kind x)) (λ x. Counts (I.arm_nodes x) (numbered_arm x)) (λ x. Counts (I.bind_nodes x) (numbered_bind x)) (λ x. Counts (I.expr_nodes x) (numbered_expr x)) (λ x. Counts (I.field_nodes x) (numbered_field x)) exprkind_case arm_case bind_case expr_case fieldexpr_case b

item_kind_counts : (k : ItemKind) → Counts (item_kind_nodes k) (numbered_item_kind k)
item_kind_counts (K.Types decls) = counts_one _ _ K.Types (counts_none_each numbered_decl decl_counts decls)
item_kind_counts (K.Let recursive binds) = counts_one _ _ (K.Let recursive) (counts_each I.bind_nodes numbered_bind bind_counts binds)

item_counts : (i : Item) → Counts (item_nodes i) (numbered_item i)
item_counts i = counts_node _ _ (λ id kind. record { id = id; span = i.span; kind = kind }) (item_kind_counts i.kind)

pub numbered_nodes : (items : List Item) → (numbered items).nodes ≡ sum (map item_nodes items)
numbered_nodes items = let h = (counts_each item_nodes numbered_item item_counts items).by (record { nodes = 0; types = 0 }) in omega (arith, h)

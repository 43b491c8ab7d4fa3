-- What expressions add to the journal.
use Rattle.std.proofs.Common.{◌≡◌, ℕ, List, [], ◌∷◌, map, Option, Some, None, Bool, true, false, not, ◌&&◌, refl, sym, subst, length, nat_lt}
use Rattle.oxml_base.specs.declared.span.Span.{Span}
use Rattle.oxml_base.specs.declared.rule.Rule.TheVariants.{UnboundValue, LeftOut}
use Rattle.ml_tree.specs.declared.reference.Op.{Op}
use Rattle.ml_tree.specs.declared.reference.Ref.TheVariants as r
use Rattle.ml_tree.specs.declared.types.TyExpr.{TyExpr}
use Rattle.ml_tree.specs.declared.pattern.Pat.{Pat}
use Rattle.ml_tree.specs.declared.pattern.Param.{Param}
use Rattle.ml_tree.specs.declared.expr.Expr.{Expr, fold-roll-Expr, map-Expr, roll-Expr}
use Rattle.ml_tree.specs.declared.expr.Arm.{Arm, fold-roll-Arm, map-Arm, roll-Arm}
use Rattle.ml_tree.specs.declared.expr.Bind.{Bind, ind-Bind, fold-roll-Bind, map-Bind, roll-Bind}
use Rattle.ml_tree.specs.declared.expr.FieldExpr.{FieldExpr, fold-roll-FieldExpr, map-FieldExpr, roll-FieldExpr}
use Rattle.ml_tree.specs.declared.expr.ExprKind.{ExprKind, fold-roll-ExprKind, map-ExprKind, roll-ExprKind}
use Rattle.ml_tree.specs.declared.expr.ExprKind.TheOpen as e
use Rattle.ml_tree.specs.declared.expr.ExprKind.TheOpen.{ExprKind-F, Arm-F, Bind-F, Expr-F, FieldExpr-F}
use Rattle.ml_numbers.specs.Ids.{Ids, no_ids, node_id, joined, all, maybe}
use Rattle.ml_numbers.specs.Ids as I
use Rattle.ml_scope.specs.declared.found.Found.TheVariants.{Opens, Closes, Itself}
use Rattle.ml_scope.specs.Names.{Known, Env, spelling}
use Rattle.ml_scope.specs.Journal.{Journal, add, each}
use Rattle.ml_scope.specs.Binding.{bound, twice}
use Rattle.ml_scope.specs.Uses.{field_named}
use Rattle.ml_scope.specs.Patterns.{pattern_seen, binders, param_look}
use Rattle.ml_scope.specs.Expressions.{Seen, KindSeen, FieldSeen, BindSeen, step, arm_node, bind_node, expr_node, field_node, expr_seen, kind_seen, arm_look, bind_seen, field_seen, path_meant, operation_at, annotation, param_names, function_look, itself_where, plain_look, value_look, bind_head, bind_names, values_look, group_look, is_function}
use Rattle.ml_scope.proofs.Grows.{Adds, adds_loud, adds_none, adds_then, adds_behind, adds_end, adds_quiet, adds_name, adds_opens, adds_opened, adds_offence, adds_where, adds_if, adds_seen, adds_twice}
use Rattle.ml_scope.proofs.TypeGrows.{type_grows}
use Rattle.ml_scope.proofs.PatternGrows.{value_grows, constructor_grows, field_grows, record_grows, own_number, pattern_grows, params_grow}

abbrev Look : Type 0
Look = Env → Journal → Journal

abbrev KindGrows : Known → ExprKind → Type 0
KindGrows k x = (id : ℕ) (span : Span) (env : Env) → Adds true ((kind_seen k x).look id span env) (joined (node_id id) (I.kind_ids x))

abbrev ArmGrows : Known → Arm → Type 0
ArmGrows k x = (env : Env) → Adds true (arm_look k x env) (I.arm_ids x)

abbrev BindGrows : Known → Bind → Type 0
BindGrows k x = (recursive : Bool) (env : Env) → Adds true ((bind_seen k x).look recursive env) (I.bind_ids x)

abbrev ExprGrows : Known → Expr → Type 0
ExprGrows k x = (env : Env) → Adds true ((expr_seen k x).look env) (I.expr_ids x)

abbrev FieldGrows : Known → FieldExpr → Type 0
FieldGrows k x = (env : Env) → Adds true ((field_seen k x).look env) (I.field_ids x)

abbrev Kinds : Known → Type 0
Kinds k = (x : ExprKind) × KindGrows k x

abbrev Arms : Known → Type 0
Arms k = (x : Arm) × ArmGrows k x

abbrev Binds : Known → Type 0
Binds k = (x : Bind) × BindGrows k x

abbrev Exprs : Known → Type 0
Exprs k = (x : Expr) × ExprGrows k x

abbrev Fields : Known → Type 0
Fields k = (x : FieldExpr) × FieldGrows k x

path_adds : (id : ℕ) (whole : Span) (o : Option Op) → Adds true (path_meant id whole o) (node_id id)
path_adds id whole None = adds_offence UnboundValue whole (node_id id)
path_adds id whole (Some op) = adds_name id (r.Operation op)

module _ (k : Known) where
  annotation_adds : (o : Option TyExpr) → Adds true (annotation k o) (I.result_ids o)
  annotation_adds None = adds_none no_ids
  annotation_adds (Some ty) = adds_loud (type_grows k ty)

  -- a function behind its beginning
  function_adds : (params : List Param) (result : Option TyExpr) (body : Look) (i : Ids) → ((env : Env) → Adds true (body env) i) → (env : Env) → Adds true (λ js. add (body (bound k false (param_names k params) env) (annotation k result (twice k [] (param_names k params) (each (map (param_look k) params) js)))) Closes) (joined (all (map I.param_ids params)) (joined (I.result_ids result) i))
  function_adds params result body i h env =
      adds_end
      (adds_then (adds_loud (params_grow k params))
      (adds_then (adds_then (adds_twice k [] (param_names k params) no_ids) (annotation_adds result)) (h (bound k false (param_names k params) env))))
      (adds_quiet Closes refl refl refl no_ids)

  abbrev head : Bool → Pat → List Param → Seen → Journal → Journal
  head recursive pat params body js = bind_head k recursive pat params body.shape js

  head_adds : (recursive : Bool) (pat : Pat) (params : List Param) (body : Seen) → Adds false (head recursive pat params body) (I.pattern_ids pat)
  head_adds recursive pat params body = adds_then (adds_where (recursive && not (is_function params (pattern_seen k pat).shape body.shape)) LeftOut pat.span no_ids) (pattern_grows k pat)

  itself_adds : (names : Bool) (recursive : Bool) (pat : Pat) (params : List Param) (body : Seen) → Adds true (λ js. itself_where names pat.id (head recursive pat params body js)) (I.pattern_ids pat)
  itself_adds true recursive pat params body = adds_opened (Itself pat.id) refl refl (own_number pat) (head_adds recursive pat params body)
  itself_adds false recursive pat params body = adds_loud (head_adds recursive pat params body)

  plain_adds : (recursive : Bool) (pat : Pat) (params : List Param) (result : Option TyExpr) (body : Seen) (i : Ids) → ((env : Env) → Adds true (body.look env) i) → (env : Env) → Adds true (λ js. plain_look k recursive pat result body env (head recursive pat params body js)) (joined (I.pattern_ids pat) (joined (all (map I.param_ids params)) (joined (I.result_ids result) i)))
  plain_adds recursive pat params result body i h env =
      adds_then (itself_adds (recursive && is_function [] (pattern_seen k pat).shape body.shape) recursive pat params body) (adds_behind (all (map I.param_ids params)) (adds_then (annotation_adds result) (h env)))

  called_adds : (recursive : Bool) (pat : Pat) (params : List Param) (result : Option TyExpr) (body : Seen) (i : Ids) → ((env : Env) → Adds true (body.look env) i) → (env : Env) → Adds true (λ js. function_look k pat.id params result body.look env (head recursive pat params body js)) (joined (I.pattern_ids pat) (joined (all (map I.param_ids params)) (joined (I.result_ids result) i)))
  called_adds recursive pat params result body i h env = adds_then (adds_opened (Opens pat.id) refl refl (own_number pat) (head_adds recursive pat params body)) (function_adds params result body.look i h env)

  bind_adds : (recursive : Bool) (pat : Pat) (params : List Param) (result : Option TyExpr) (body : Seen) (i : Ids) → ((env : Env) → Adds true (body.look env) i) → (env : Env) → Adds true (λ js. value_look k recursive pat params result body env (bind_head k recursive pat params body.shape js)) (joined (I.pattern_ids pat) (joined (all (map I.param_ids params)) (joined (I.result_ids result) i)))
  bind_adds recursive pat params result body i h env = adds_if (nat_lt 0 (length params)) (called_adds recursive pat params result body i h env) (plain_adds recursive pat params result body i h env)

  abbrev layer_kind : ExprKind-F (Kinds k) (Arms k) (Binds k) (Exprs k) (Fields k) → ExprKind-F ExprKind Arm Bind Expr FieldExpr
  layer_kind y = map-ExprKind (Kinds k) (Arms k) (Binds k) (Exprs k) (Fields k) ExprKind Arm Bind Expr FieldExpr (λ q. q.0) (λ q. q.0) (λ q. q.0) (λ q. q.0) (λ q. q.0) y

  abbrev layer_arm : Arm-F (Kinds k) (Arms k) (Binds k) (Exprs k) (Fields k) → Arm-F ExprKind Arm Bind Expr FieldExpr
  layer_arm y = map-Arm (Kinds k) (Arms k) (Binds k) (Exprs k) (Fields k) ExprKind Arm Bind Expr FieldExpr (λ q. q.0) (λ q. q.0) (λ q. q.0) (λ q. q.0) (λ q. q.0) y

  abbrev layer_bind : Bind-F (Kinds k) (Arms k) (Binds k) (Exprs k) (Fields k) → Bind-F ExprKind Arm Bind Expr FieldExpr
  layer_bind y = map-Bind (Kinds k) (Arms k) (Binds k) (Exprs k) (Fields k) ExprKind Arm Bind Expr FieldExpr (λ q. q.0) (λ q. q.0) (λ q. q.0) (λ q. q.0) (λ q. q.0) y

  abbrev layer_expr : Expr-F (Kinds k) (Arms k) (Binds k) (Exprs k) (Fields k) → Expr-F ExprKind Arm Bind Expr FieldExpr
  layer_expr y = map-Expr (Kinds k) (Arms k) (Binds k) (Exprs k) (Fields k) ExprKind Arm Bind Expr FieldExpr (λ q. q.0) (λ q. q.0) (λ q. q.0) (λ q. q.0) (λ q. q.0) y

  abbrev layer_field : FieldExpr-F (Kinds k) (Arms k) (Binds k) (Exprs k) (Fields k) → FieldExpr-F ExprKind Arm Bind Expr FieldExpr
  layer_field y = map-FieldExpr (Kinds k) (Arms k) (Binds k) (Exprs k) (Fields k) ExprKind Arm Bind Expr FieldExpr (λ q. q.0) (λ q. q.0) (λ q. q.0) (λ q. q.0) (λ q. q.0) y

  abbrev seen_kind : ExprKind-F ExprKind Arm Bind Expr FieldExpr → KindSeen
  seen_kind l = step k (map-ExprKind ExprKind Arm Bind Expr FieldExpr KindSeen Look BindSeen Seen FieldSeen (kind_seen k) (arm_look k) (bind_seen k) (expr_seen k) (field_seen k) l)

  abbrev ids_kind : ExprKind-F ExprKind Arm Bind Expr FieldExpr → Ids
  ids_kind l = I.step (map-ExprKind ExprKind Arm Bind Expr FieldExpr Ids Ids Ids Ids Ids I.kind_ids I.arm_ids I.bind_ids I.expr_ids I.field_ids l)

  exprs_grow : (env : Env) (ps : List (Exprs k)) → Adds true (each (map (λ x. x.look env) (map (expr_seen k) (map (λ q. q.0) ps)))) (all (map I.expr_ids (map (λ q. q.0) ps)))
  exprs_grow env ps = adds_seen (expr_seen k) (λ x. x.look env) I.expr_ids (λ x h. h env) ps

  arms_grow : (env : Env) (ps : List (Arms k)) → Adds true (each (map (λ arm. arm env) (map (arm_look k) (map (λ q. q.0) ps)))) (all (map I.arm_ids (map (λ q. q.0) ps)))
  arms_grow env ps = adds_seen (arm_look k) (λ arm. arm env) I.arm_ids (λ x h. h env) ps

  values_grow : (recursive : Bool) (env : Env) (ps : List (Binds k)) → Adds true (values_look k recursive env (map (bind_seen k) (map (λ q. q.0) ps))) (all (map I.bind_ids (map (λ q. q.0) ps)))
  values_grow recursive env ps = adds_seen (bind_seen k) (λ b. b.look recursive env) I.bind_ids (λ x h. h recursive env) ps

  group_grows : (top recursive : Bool) (env : Env) (ps : List (Binds k)) → Adds true (group_look k top recursive (map (bind_seen k) (map (λ q. q.0) ps)) env) (all (map I.bind_ids (map (λ q. q.0) ps)))
  group_grows top true env ps = adds_then (adds_twice k [] (bind_names k (map (bind_seen k) (map (λ q. q.0) ps))) no_ids) (values_grow true (bound k top (bind_names k (map (bind_seen k) (map (λ q. q.0) ps))) env) ps)
  group_grows top false env ps = adds_then (adds_twice k [] (bind_names k (map (bind_seen k) (map (λ q. q.0) ps))) no_ids) (values_grow false env ps)

  kind_grows : (y : ExprKind-F (Kinds k) (Arms k) (Binds k) (Exprs k) (Fields k)) (id : ℕ) (span : Span) (env : Env) → Adds true ((seen_kind (layer_kind y)).look id span env) (joined (node_id id) (ids_kind (layer_kind y)))
  kind_grows (e.Int n) id span env = adds_none (joined (node_id id) no_ids)
  kind_grows (e.Char c) id span env = adds_none (joined (node_id id) no_ids)
  kind_grows (e.Text t) id span env = adds_none (joined (node_id id) no_ids)
  kind_grows (e.Name name) id span env = adds_then (adds_loud (value_grows k env id name)) (adds_none no_ids)
  kind_grows (e.Path place name) id span env = adds_then (path_adds id span (operation_at (spelling k.text place) (spelling k.text name))) (adds_none no_ids)
  kind_grows (e.Con name None) id span env = adds_then (adds_loud (constructor_grows k id span name None)) (adds_none no_ids)
  kind_grows (e.Con name (Some q)) id span env = adds_then (adds_loud (constructor_grows k id span name (Some (expr_seen k q.0).shape))) (q.1 env)
  kind_grows (e.Cons a b) id span env = adds_behind (node_id id) (adds_then (a.1 env) (b.1 env))
  kind_grows (e.Tuple xs) id span env = adds_behind (node_id id) (exprs_grow env xs)
  kind_grows (e.List xs) id span env = adds_behind (node_id id) (exprs_grow env xs)
  kind_grows (e.Fields fs) id span env = adds_then (adds_loud (record_grows k id span true (map (λ f. f.name) (map (field_seen k) (map (λ q. q.0) fs))))) (adds_seen (field_seen k) (λ f. f.look env) I.field_ids (λ x h. h env) fs)
  kind_grows (e.Field a name) id span env = adds_then (adds_loud (field_grows k id name)) (a.1 env)
  kind_grows (e.Index a b) id span env = adds_behind (node_id id) (adds_then (a.1 env) (b.1 env))
  kind_grows (e.Apply f xs) id span env = adds_behind (node_id id) (adds_then (f.1 env) (exprs_grow env xs))
  kind_grows (e.Binary op a b) id span env = adds_behind (node_id id) (adds_then (a.1 env) (b.1 env))
  kind_grows (e.Minus a) id span env = adds_behind (node_id id) (a.1 env)
  kind_grows (e.If a b None) id span env = adds_behind (node_id id) (adds_then (a.1 env) (adds_then (b.1 env) (adds_none no_ids)))
  kind_grows (e.If a b (Some c)) id span env = adds_behind (node_id id) (adds_then (a.1 env) (adds_then (b.1 env) (c.1 env)))
  kind_grows (e.Let recursive bs body) id span env = adds_then (adds_where (recursive && nat_lt 1 (length (map (bind_seen k) (map (λ q. q.0) bs)))) LeftOut span (node_id id)) (adds_then (group_grows false recursive env bs) (body.1 (bound k false (bind_names k (map (bind_seen k) (map (λ q. q.0) bs))) env)))
  kind_grows (e.Seq xs) id span env = adds_behind (node_id id) (exprs_grow env xs)
  kind_grows (e.Match a arms) id span env = adds_behind (node_id id) (adds_then (a.1 env) (arms_grow env arms))
  kind_grows (e.Fun params body) id span env = adds_then (adds_opens id) (function_adds params None (expr_seen k body.0).look (I.expr_ids body.0) body.1 env)
  kind_grows (e.Function arms) id span env = adds_end (adds_then (adds_opens id) (arms_grow env arms)) (adds_quiet Closes refl refl refl no_ids)
  kind_grows (e.Paren a) id span env = adds_behind (node_id id) (a.1 env)
  kind_grows (e.Typed a ty) id span env = adds_behind (node_id id) (adds_then (a.1 env) (adds_loud (type_grows k ty)))
  kind_grows (e.Worded words a) id span env = adds_behind (node_id id) (a.1 env)
  kind_grows (e.Exclave a) id span env = adds_behind (node_id id) (a.1 env)
  kind_grows (e.Borrow name of body) id span env = adds_then (adds_loud (value_grows k env id of)) (body.1 (bound k false (record { name = name; node = id } ∷ []) env))
  kind_grows (e.Overwrite name a) id span env = adds_then (adds_loud (value_grows k env id name)) (a.1 env)

  arm_grows : (pat : Pat) (guard : Option (Exprs k)) (body : Exprs k) (env : Env) → Adds true (arm_node k (map-Arm ExprKind Arm Bind Expr FieldExpr KindSeen Look BindSeen Seen FieldSeen (kind_seen k) (arm_look k) (bind_seen k) (expr_seen k) (field_seen k) (layer_arm (record { pat = pat; guard = guard; body = body }))) env) (I.arm_step (map-Arm ExprKind Arm Bind Expr FieldExpr Ids Ids Ids Ids Ids I.kind_ids I.arm_ids I.bind_ids I.expr_ids I.field_ids (layer_arm (record { pat = pat; guard = guard; body = body }))))
  arm_grows pat None body env = adds_then (adds_loud (pattern_grows k pat)) (adds_then (adds_twice k [] (binders pat []) no_ids) (body.1 (bound k false (binders pat []) env)))
  arm_grows pat (Some g) body env = adds_then (adds_loud (pattern_grows k pat)) (adds_then (adds_then (adds_twice k [] (binders pat []) no_ids) (g.1 (bound k false (binders pat []) env))) (body.1 (bound k false (binders pat []) env)))

  kind_case : (l : ExprKind-F ExprKind Arm Bind Expr FieldExpr) (y : ExprKind-F (Kinds k) (Arms k) (Binds k) (Exprs k) (Fields k)) → layer_kind y ≡ l → KindGrows k (roll-ExprKind l)
  kind_case l y same = λ id span env.
      subst (λ (s : KindSeen). Adds true (s.look id span env) (joined (node_id id) (I.kind_ids (roll-ExprKind l)))) (sym (fold-roll-ExprKind KindSeen Look BindSeen Seen FieldSeen (step k) (arm_node k) (bind_node k) (expr_node k) (field_node k) l))
      (subst (λ (i : Ids). Adds true ((seen_kind l).look id span env) (joined (node_id id) i)) (sym (fold-roll-ExprKind Ids Ids Ids Ids Ids I.step I.arm_step I.bind_step I.expr_node I.field_node l))
      (subst (λ (l : ExprKind-F ExprKind Arm Bind Expr FieldExpr). Adds true ((seen_kind l).look id span env) (joined (node_id id) (ids_kind l))) same (kind_grows y id span env)))

  abbrev seen_arm : Arm-F ExprKind Arm Bind Expr FieldExpr → Look
  seen_arm l = arm_node k (map-Arm ExprKind Arm Bind Expr FieldExpr KindSeen Look BindSeen Seen FieldSeen (kind_seen k) (arm_look k) (bind_seen k) (expr_seen k) (field_seen k) l)

  abbrev ids_arm : Arm-F ExprKind Arm Bind Expr FieldExpr → Ids
  ids_arm l = I.arm_step (map-Arm ExprKind Arm Bind Expr FieldExpr Ids Ids Ids Ids Ids I.kind_ids I.arm_ids I.bind_ids I.expr_ids I.field_ids l)

  arm_case : (l : Arm-F ExprKind Arm Bind Expr FieldExpr) (y : Arm-F (Kinds k) (Arms k) (Binds k) (Exprs k) (Fields k)) → layer_arm y ≡ l → ArmGrows k (roll-Arm l)
  arm_case l y same = λ env.
      subst (λ (s : Look). Adds true (s env) (I.arm_ids (roll-Arm l))) (sym (fold-roll-Arm KindSeen Look BindSeen Seen FieldSeen (step k) (arm_node k) (bind_node k) (expr_node k) (field_node k) l))
      (subst (λ (i : Ids). Adds true (seen_arm l env) i) (sym (fold-roll-Arm Ids Ids Ids Ids Ids I.step I.arm_step I.bind_step I.expr_node I.field_node l))
      (subst (λ (l : Arm-F ExprKind Arm Bind Expr FieldExpr). Adds true (seen_arm l env) (ids_arm l)) same (arm_grows y.pat y.guard y.body env)))

  bind_case : (l : Bind-F ExprKind Arm Bind Expr FieldExpr) (y : Bind-F (Kinds k) (Arms k) (Binds k) (Exprs k) (Fields k)) → layer_bind y ≡ l → BindGrows k (roll-Bind l)
  bind_case l y same = λ recursive env.
      subst (λ (s : BindSeen). Adds true (s.look recursive env) (I.bind_ids (roll-Bind l))) (sym (fold-roll-Bind KindSeen Look BindSeen Seen FieldSeen (step k) (arm_node k) (bind_node k) (expr_node k) (field_node k) l))
      (subst (λ (i : Ids). Adds true (λ js. value_look k recursive l.pat l.params l.result (expr_seen k l.body) env (bind_head k recursive l.pat l.params (expr_seen k l.body).shape js)) i) (sym (fold-roll-Bind Ids Ids Ids Ids Ids I.step I.arm_step I.bind_step I.expr_node I.field_node l))
      (subst (λ (l : Bind-F ExprKind Arm Bind Expr FieldExpr). Adds true (λ js. value_look k recursive l.pat l.params l.result (expr_seen k l.body) env (bind_head k recursive l.pat l.params (expr_seen k l.body).shape js)) (joined (I.pattern_ids l.pat) (joined (all (map I.param_ids l.params)) (joined (I.result_ids l.result) (I.expr_ids l.body))))) same
      (bind_adds recursive y.pat y.params y.result (expr_seen k y.body.0) (I.expr_ids y.body.0) y.body.1 env)))

  expr_case : (l : Expr-F ExprKind Arm Bind Expr FieldExpr) (y : Expr-F (Kinds k) (Arms k) (Binds k) (Exprs k) (Fields k)) → layer_expr y ≡ l → ExprGrows k (roll-Expr l)
  expr_case l y same = λ env.
      subst (λ (s : Seen). Adds true (s.look env) (I.expr_ids (roll-Expr l))) (sym (fold-roll-Expr KindSeen Look BindSeen Seen FieldSeen (step k) (arm_node k) (bind_node k) (expr_node k) (field_node k) l))
      (subst (λ (i : Ids). Adds true (λ js. (kind_seen k l.kind).look l.id l.span env js) i) (sym (fold-roll-Expr Ids Ids Ids Ids Ids I.step I.arm_step I.bind_step I.expr_node I.field_node l))
      (subst (λ (l : Expr-F ExprKind Arm Bind Expr FieldExpr). Adds true (λ js. (kind_seen k l.kind).look l.id l.span env js) (joined (node_id l.id) (I.kind_ids l.kind))) same (y.kind.1 y.id y.span env)))

  field_case : (l : FieldExpr-F ExprKind Arm Bind Expr FieldExpr) (y : FieldExpr-F (Kinds k) (Arms k) (Binds k) (Exprs k) (Fields k)) → layer_field y ≡ l → FieldGrows k (roll-FieldExpr l)
  field_case l y same = λ env.
      subst (λ (s : FieldSeen). Adds true (s.look env) (I.field_ids (roll-FieldExpr l))) (sym (fold-roll-FieldExpr KindSeen Look BindSeen Seen FieldSeen (step k) (arm_node k) (bind_node k) (expr_node k) (field_node k) l))
      (subst (λ (i : Ids). Adds true (λ js. (expr_seen k l.expr).look env (field_named k l.id l.name js)) i) (sym (fold-roll-FieldExpr Ids Ids Ids Ids Ids I.step I.arm_step I.bind_step I.expr_node I.field_node l))
      (subst (λ (l : FieldExpr-F ExprKind Arm Bind Expr FieldExpr). Adds true (λ js. (expr_seen k l.expr).look env (field_named k l.id l.name js)) (joined (node_id l.id) (I.expr_ids l.expr))) same (adds_then (adds_loud (field_grows k y.id y.name)) (y.expr.1 env))))

  pub bind_grows : (x : Bind) (recursive : Bool) (env : Env) → Adds true ((bind_seen k x).look recursive env) (I.bind_ids x)
  bind_grows x = ind-Bind (KindGrows k) (ArmGrows k) (BindGrows k) (ExprGrows k) (FieldGrows k) kind_case arm_case bind_case expr_case field_case x

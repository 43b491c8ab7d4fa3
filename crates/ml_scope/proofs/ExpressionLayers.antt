-- What is seen of single kinds of expressions.
use Rattle.std.proofs.Common.{ℕ, List, Bool, true, false, ◌&&◌, map, length, nat_lt, ◌≡◌, ◌∙◌, ap, sym}
use Rattle.std.proofs.lemmas.List.{length-map}
use Rattle.oxml_base.specs.declared.span.Span.{Span}
use Rattle.oxml_base.specs.declared.rule.Rule.TheVariants.{LeftOut}
use Rattle.ml_tree.specs.declared.expr.Expr.{Expr}
use Rattle.ml_tree.specs.declared.expr.Arm.{Arm}
use Rattle.ml_tree.specs.declared.expr.Bind.{Bind}
use Rattle.ml_tree.specs.declared.expr.FieldExpr.{FieldExpr}
use Rattle.ml_tree.specs.declared.expr.ExprKind.{ExprKind}
use Rattle.ml_tree.specs.declared.expr.ExprKind.TheOpen as e
use Rattle.ml_tree.specs.declared.expr.ExprKind.TheOpen.{ExprKind-F}
use Rattle.ml_tree.specs.declared.expr.ExprKind.{fold-roll-ExprKind, roll-ExprKind, map-ExprKind}
use Rattle.ml_tree.specs.declared.expr.ExprKind.TheVariants.{Paren, Fields, Let, Function, rolls-Paren, rolls-Fields, rolls-Let, rolls-Function}
use Rattle.ml_scope.specs.declared.found.Found.TheVariants.{Opens, Closes}
use Rattle.ml_scope.specs.Names.{Known, Env}
use Rattle.ml_scope.specs.Journal.{Journal, add, each, offence_where}
use Rattle.ml_scope.specs.Shapes.{inside}
use Rattle.ml_scope.specs.Uses.{record_named}
use Rattle.ml_scope.specs.Binding.{bound}
use Rattle.ml_scope.specs.Expressions.{KindSeen, BindSeen, Seen, FieldSeen, step, arm_node, bind_node, expr_node, field_node, expr_seen, kind_seen, arm_look, bind_seen, field_seen, bind_names, group_look}

module _ (k : Known) where
  kind_at : (l : ExprKind-F ExprKind Arm Bind Expr FieldExpr) (x : ExprKind) → roll-ExprKind l ≡ x → kind_seen k x ≡ step k (map-ExprKind ExprKind Arm Bind Expr FieldExpr KindSeen (Env → Journal → Journal) BindSeen Seen FieldSeen (kind_seen k) (arm_look k) (bind_seen k) (expr_seen k) (field_seen k) l)
  kind_at l x same = ap (kind_seen k) (sym same) ∙ fold-roll-ExprKind KindSeen (Env → Journal → Journal) BindSeen Seen FieldSeen (step k) (arm_node k) (bind_node k) (expr_node k) (field_node k) l

  pub paren_shape : (q : Expr) → (kind_seen k (Paren q)).shape ≡ inside (expr_seen k q).shape
  paren_shape q = ap (λ s. s.shape) (kind_at (e.Paren q) (Paren q) (rolls-Paren q))

  pub record_look : (id : ℕ) (span : Span) (list : List FieldExpr) (env : Env) (js : Journal) → (kind_seen k (Fields list)).look id span env js ≡ each (map (λ f. f.look env) (map (field_seen k) list)) (record_named k id span true (map (λ f. f.name) (map (field_seen k) list)) js)
  record_look id span list env js = ap (λ s. s.look id span env js) (kind_at (e.Fields list) (Fields list) (rolls-Fields list))

  pub let_look : (id : ℕ) (span : Span) (recursive : Bool) (bs : List Bind) (body : Expr) (env : Env) (js : Journal) → (kind_seen k (Let recursive bs body)).look id span env js ≡ (expr_seen k body).look (bound k false (bind_names k (map (bind_seen k) bs)) env) (group_look k false recursive (map (bind_seen k) bs) env (offence_where (recursive && nat_lt 1 (length bs)) LeftOut span js))
  let_look id span recursive bs body env js =
      ap (λ s. s.look id span env js) (kind_at (e.Let recursive bs body) (Let recursive bs body) (rolls-Let recursive bs body))
      ∙ ap (λ n. (expr_seen k body).look (bound k false (bind_names k (map (bind_seen k) bs)) env) (group_look k false recursive (map (bind_seen k) bs) env (offence_where (recursive && nat_lt 1 n) LeftOut span js))) (length-map bs (bind_seen k))

  pub function_look : (id : ℕ) (span : Span) (arms : List Arm) (env : Env) (js : Journal) → (kind_seen k (Function arms)).look id span env js ≡ add (each (map (λ arm. arm env) (map (arm_look k) arms)) (add js (Opens id))) Closes
  function_look id span arms env js = ap (λ s. s.look id span env js) (kind_at (e.Function arms) (Function arms) (rolls-Function arms))

-- What each form of expression with several parts uses and binds, and how many parts it has.
use Rattle.std.proofs.Common.{◌≡◌, ℕ, ◌+◌, sum, Bool, List, [], ◌∷◌, ◌++◌, map, Some, None, sym, ap, ◌∙◌, inl, inr}
use Rattle.oxml_base.specs.declared.span.Span.{Span}
use Rattle.ml_tree.specs.declared.pattern.Param.{Param}
use Rattle.ml_tree.specs.declared.expr.Expr.{Expr}
use Rattle.ml_tree.specs.declared.expr.Arm.{Arm}
use Rattle.ml_tree.specs.declared.expr.Bind.{Bind}
use Rattle.ml_tree.specs.declared.expr.FieldExpr.{FieldExpr}
use Rattle.ml_tree.specs.declared.expr.ExprKind.{ExprKind, map-ExprKind, roll-ExprKind, fold-roll-ExprKind}
use Rattle.ml_tree.specs.declared.expr.ExprKind.TheVariants as E
use Rattle.ml_tree.specs.declared.expr.ExprKind.TheOpen as e
use Rattle.ml_tree.specs.declared.expr.ExprKind.TheOpen.{ExprKind-F}
use Rattle.ml_meaning.specs.Names.{References}
use Rattle.ml_meaning.specs.Captures.{Numbers, together, local_use, bound_by_params, binders, binders_of_arm, binders_step, binders_arm, binders_bind, binders_expr, binders_field, uses, uses_of_arm, uses_step, uses_arm, uses_bind, uses_expr, uses_field}
use Rattle.ml_meaning.specs.Weights.{expressions_of, expressions_of_arm, expressions_of_bind, parts, arm_parts, bind_parts, expr_whole, field_part}
use Rattle.ml_functions.specs.Parts.{expressions_of_kind, expressions_of_field}
use Rattle.ml_functions.specs.Used.{binders_of_kind, binders_of_bind, binders_of_field, uses_of_kind, uses_of_bind, uses_of_field}
use Rattle.ml_functions.proofs.Forms.{IsPair, IsParts}

module _ (k : ExprKind) where
  counts : (l : ExprKind-F ExprKind Arm Bind Expr FieldExpr) (v : ExprKind) → k ≡ v → roll-ExprKind l ≡ v → expressions_of_kind k ≡ parts (map-ExprKind ExprKind Arm Bind Expr FieldExpr ℕ ℕ ℕ ℕ ℕ expressions_of_kind expressions_of_arm expressions_of_bind expressions_of expressions_of_field l)
  counts l v is rolls = ap expressions_of_kind (is ∙ sym rolls) ∙ fold-roll-ExprKind ℕ ℕ ℕ ℕ ℕ parts arm_parts bind_parts expr_whole field_part l

  pub counts_apply : (f : Expr) (es : List Expr) → k ≡ E.Apply f es → expressions_of_kind k ≡ expressions_of f + sum (map expressions_of es)
  counts_apply f es is = counts (e.Apply f es) _ is (E.rolls-Apply f es)

  pub counts_let : (recursive : Bool) (bs : List Bind) (b : Expr) → k ≡ E.Let recursive bs b → expressions_of_kind k ≡ sum (map expressions_of_bind bs) + expressions_of b
  counts_let recursive bs b is = counts (e.Let recursive bs b) _ is (E.rolls-Let recursive bs b)

  pub counts_match : (a : Expr) (arms : List Arm) → k ≡ E.Match a arms → expressions_of_kind k ≡ expressions_of a + sum (map expressions_of_arm arms)
  counts_match a arms is = counts (e.Match a arms) _ is (E.rolls-Match a arms)

module _ (k : ExprKind) (node : ℕ) where
  binds : (l : ExprKind-F ExprKind Arm Bind Expr FieldExpr) (v : ExprKind) → k ≡ v → roll-ExprKind l ≡ v → binders_of_kind k node ≡ binders_step (map-ExprKind ExprKind Arm Bind Expr FieldExpr (ℕ → Numbers) Numbers Numbers Numbers Numbers binders_of_kind binders_of_arm binders_of_bind binders binders_of_field l) node
  binds l v is rolls = ap (λ j. binders_of_kind j node) (is ∙ sym rolls) ∙ ap (λ h. h node) (fold-roll-ExprKind (ℕ → Numbers) Numbers Numbers Numbers Numbers binders_step binders_arm binders_bind binders_expr binders_field l)

  pub binds_pair : (a b : Expr) → IsPair k a b → binders_of_kind k node ≡ binders a ++ binders b
  binds_pair a b (inl is) = binds (e.Cons a b) _ is (E.rolls-Cons a b)
  binds_pair a b (inr (inl is)) = binds (e.Index a b) _ is (E.rolls-Index a b)
  binds_pair a b (inr (inr is)) = binds (e.Binary is.0 a b) _ is.1 (E.rolls-Binary is.0 a b)

  pub binds_parts : (es : List Expr) → IsParts k es → binders_of_kind k node ≡ together (map binders es)
  binds_parts es (inl is) = binds (e.Tuple es) _ is (E.rolls-Tuple es)
  binds_parts es (inr (inl is)) = binds (e.List es) _ is (E.rolls-List es)
  binds_parts es (inr (inr is)) = binds (e.Seq es) _ is (E.rolls-Seq es)

  pub binds_apply : (f : Expr) (es : List Expr) → k ≡ E.Apply f es → binders_of_kind k node ≡ binders f ++ together (map binders es)
  binds_apply f es is = binds (e.Apply f es) _ is (E.rolls-Apply f es)

  pub binds_if : (a b d : Expr) → k ≡ E.If a b (Some d) → binders_of_kind k node ≡ binders a ++ (binders b ++ binders d)
  binds_if a b d is = binds (e.If a b (Some d)) _ is (E.rolls-If a b (Some d))

  pub binds_if_alone : (a b : Expr) → k ≡ E.If a b None → binders_of_kind k node ≡ binders a ++ (binders b ++ [])
  binds_if_alone a b is = binds (e.If a b None) _ is (E.rolls-If a b None)

  pub binds_let : (recursive : Bool) (bs : List Bind) (b : Expr) → k ≡ E.Let recursive bs b → binders_of_kind k node ≡ together (map binders_of_bind bs) ++ binders b
  binds_let recursive bs b is = binds (e.Let recursive bs b) _ is (E.rolls-Let recursive bs b)

  pub binds_match : (a : Expr) (arms : List Arm) → k ≡ E.Match a arms → binders_of_kind k node ≡ binders a ++ together (map binders_of_arm arms)
  binds_match a arms is = binds (e.Match a arms) _ is (E.rolls-Match a arms)

  pub binds_fun : (params : List Param) (b : Expr) → k ≡ E.Fun params b → binders_of_kind k node ≡ bound_by_params params ++ binders b
  binds_fun params b is = binds (e.Fun params b) _ is (E.rolls-Fun params b)

  pub binds_borrow : (name other : Span) (b : Expr) → k ≡ E.Borrow name other b → binders_of_kind k node ≡ (node ∷ []) ++ binders b
  binds_borrow name other b is = binds (e.Borrow name other b) _ is (E.rolls-Borrow name other b)

module _ (names : References) (k : ExprKind) (node : ℕ) where
  used : (l : ExprKind-F ExprKind Arm Bind Expr FieldExpr) (v : ExprKind) → k ≡ v → roll-ExprKind l ≡ v → uses_of_kind names k node ≡ uses_step names (map-ExprKind ExprKind Arm Bind Expr FieldExpr (ℕ → Numbers) Numbers Numbers Numbers Numbers (uses_of_kind names) (uses_of_arm names) (uses_of_bind names) (uses names) (uses_of_field names) l) node
  used l v is rolls = ap (λ j. uses_of_kind names j node) (is ∙ sym rolls) ∙ ap (λ h. h node) (fold-roll-ExprKind (ℕ → Numbers) Numbers Numbers Numbers Numbers (uses_step names) (uses_arm names) (uses_bind names) (uses_expr names) (uses_field names) l)

  pub uses_pair : (a b : Expr) → IsPair k a b → uses_of_kind names k node ≡ uses names a ++ uses names b
  uses_pair a b (inl is) = used (e.Cons a b) _ is (E.rolls-Cons a b)
  uses_pair a b (inr (inl is)) = used (e.Index a b) _ is (E.rolls-Index a b)
  uses_pair a b (inr (inr is)) = used (e.Binary is.0 a b) _ is.1 (E.rolls-Binary is.0 a b)

  pub uses_apply : (f : Expr) (es : List Expr) → k ≡ E.Apply f es → uses_of_kind names k node ≡ uses names f ++ together (map (uses names) es)
  uses_apply f es is = used (e.Apply f es) _ is (E.rolls-Apply f es)

  pub uses_if : (a b d : Expr) → k ≡ E.If a b (Some d) → uses_of_kind names k node ≡ uses names a ++ (uses names b ++ uses names d)
  uses_if a b d is = used (e.If a b (Some d)) _ is (E.rolls-If a b (Some d))

  pub uses_if_alone : (a b : Expr) → k ≡ E.If a b None → uses_of_kind names k node ≡ uses names a ++ (uses names b ++ [])
  uses_if_alone a b is = used (e.If a b None) _ is (E.rolls-If a b None)

  pub uses_let : (recursive : Bool) (bs : List Bind) (b : Expr) → k ≡ E.Let recursive bs b → uses_of_kind names k node ≡ together (map (uses_of_bind names) bs) ++ uses names b
  uses_let recursive bs b is = used (e.Let recursive bs b) _ is (E.rolls-Let recursive bs b)

  pub uses_match : (a : Expr) (arms : List Arm) → k ≡ E.Match a arms → uses_of_kind names k node ≡ uses names a ++ together (map (uses_of_arm names) arms)
  uses_match a arms is = used (e.Match a arms) _ is (E.rolls-Match a arms)

  pub uses_borrow : (name other : Span) (b : Expr) → k ≡ E.Borrow name other b → uses_of_kind names k node ≡ local_use (names node) ++ uses names b
  uses_borrow name other b is = used (e.Borrow name other b) _ is (E.rolls-Borrow name other b)

  pub uses_overwrite : (name : Span) (b : Expr) → k ≡ E.Overwrite name b → uses_of_kind names k node ≡ local_use (names node) ++ uses names b
  uses_overwrite name b is = used (e.Overwrite name b) _ is (E.rolls-Overwrite name b)

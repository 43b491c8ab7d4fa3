-- The functions below each form of expression, arm and binding, from those of its parts.
use Rattle.std.proofs.Common.{◌≡◌, ℕ, ℤ, Bool, List, [], ◌∷◌, ◌++◌, map, length, Option, Some, None, refl, sym, ap, ◌∙◌, subst, inl, inr, arith}
use Rattle.std.specs.Prelude.{◌⊎◌}
use Rattle.std.specs.List.{flat_map}
use Rattle.oxml_base.specs.declared.literal.Lit.{Lit}
use Rattle.oxml_base.specs.declared.span.Span.{Span}
use Rattle.ml_tree.specs.declared.words.Words.{Words}
use Rattle.ml_tree.specs.declared.types.TyExpr.{TyExpr}
use Rattle.ml_tree.specs.declared.pattern.Pat.{Pat}
use Rattle.ml_tree.specs.declared.pattern.Param.{Param}
use Rattle.ml_tree.specs.declared.pattern.ConName.{ConName}
use Rattle.ml_tree.specs.declared.expr.BinOp.{BinOp}
use Rattle.ml_tree.specs.declared.expr.Expr.{Expr}
use Rattle.ml_tree.specs.declared.expr.Arm.{Arm, map-Arm, out-Arm}
use Rattle.ml_tree.specs.declared.expr.Bind.{Bind, map-Bind, out-Bind}
use Rattle.ml_tree.specs.declared.expr.FieldExpr.{FieldExpr}
use Rattle.ml_tree.specs.declared.expr.ExprKind.{ExprKind, map-ExprKind, roll-ExprKind, para-roll-ExprKind}
use Rattle.ml_tree.specs.declared.expr.ExprKind.TheVariants as E
use Rattle.ml_tree.specs.declared.expr.ExprKind.TheOpen as e
use Rattle.ml_tree.specs.declared.expr.ExprKind.TheOpen.{ExprKind-F}
use Rattle.ml_meaning.specs.Names.{References}
use Rattle.ml_meaning.specs.Functions.{Functions, Below, functions_step, functions_arm, functions_bind, functions_expr, functions_field, functions_of_bind, own_name, bare_name, with_params, with_arms}
use Rattle.ml_functions.specs.Table.{functions_of_kind, functions_of_expr, functions_of_arm, functions_of_field}
use Rattle.ml_functions.proofs.Opening.{kind_pair, arm_pair, bind_pair, expr_pair, field_pair, arm_opens, bind_opens}

mapped : {A B C : Type 0} (f : B → List C) (g : A → B) (xs : List A) → flat_map f (map g xs) ≡ flat_map (λ x. f (g x)) xs
mapped f g [] = refl
mapped f g (x ∷ xs) = ap (λ ys. f (g x) ++ ys) (mapped f g xs)

-- the alternatives that one arm of a match takes together
abbrev pub IsPair : ExprKind → Expr → Expr → Type 0
IsPair k a b = (k ≡ E.Cons a b) ⊎ ((k ≡ E.Index a b) ⊎ ((op : BinOp) × (k ≡ E.Binary op a b)))

abbrev pub IsParts : ExprKind → List Expr → Type 0
IsParts k es = (k ≡ E.Tuple es) ⊎ ((k ≡ E.List es) ⊎ (k ≡ E.Seq es))

abbrev pub IsInner : ExprKind → Expr → Type 0
IsInner k a = ((name : Span) × (k ≡ E.Field a name)) ⊎ ((k ≡ E.Minus a) ⊎ (((ty : TyExpr) × (k ≡ E.Typed a ty)) ⊎ (((words : Words) × (k ≡ E.Worded words a)) ⊎ ((k ≡ E.Exclave a) ⊎ (((name : Span) × (other : Span) × (k ≡ E.Borrow name other a)) ⊎ ((name : Span) × (k ≡ E.Overwrite name a)))))))

abbrev pub IsLeaf : ExprKind → Type 0
IsLeaf k = ((z : ℤ) × (k ≡ E.Int z)) ⊎ (((b : ℕ) × (k ≡ E.Char b)) ⊎ (((lit : Lit) × (k ≡ E.Text lit)) ⊎ (((name : Span) × (k ≡ E.Name name)) ⊎ ((name : Span) × (part : Span) × (k ≡ E.Path name part)))))

pub pair_is : (k : ExprKind) (a b g h : Expr) → IsPair k a b → g ≡ a → h ≡ b → IsPair k g h
pair_is k a b g h is e f = subst (λ x. IsPair k x h) (sym e) (subst (λ y. IsPair k a y) (sym f) is)

pub parts_are : (k : ExprKind) (es list : List Expr) → IsParts k es → list ≡ es → IsParts k list
parts_are k es list is e = subst (IsParts k) (sym e) is

pub inner_is : (k : ExprKind) (a g : Expr) → IsInner k a → g ≡ a → IsInner k g
inner_is k a g is e = subst (IsInner k) (sym e) is

firsts : {B : Type 0} (f : Arm → B) (xs : List Arm) → map (λ (p : Arm × B). p.0) (map (λ x. (x, f x)) xs) ≡ xs
firsts f [] = refl
firsts f (x ∷ xs) = ap (λ ys. x ∷ ys) (firsts f xs)

module _ (names : References) where
  abbrev below : Expr → Functions
  below x = functions_of_expr names x None

  form : (l : ExprKind-F ExprKind Arm Bind Expr FieldExpr) (k v : ExprKind) → k ≡ v → roll-ExprKind l ≡ v → (node : ℕ) (own : Option ℕ) → functions_of_kind names k node own ≡ functions_step names (map-ExprKind ExprKind Arm Bind Expr FieldExpr (ExprKind × (ℕ → Below names)) (Arm × Functions) (Bind × (Bool → Functions)) (Expr × Below names) (FieldExpr × Functions) (kind_pair names) (arm_pair names) (bind_pair names) (expr_pair names) (field_pair names) l) node own
  form l k v is rolls node own =
      ap (λ j. functions_of_kind names j node own) (is ∙ sym rolls)
      ∙ ap (λ h. h node own) (para-roll-ExprKind (ℕ → Below names) Functions (Bool → Functions) (Below names) Functions (functions_step names) (functions_arm names) (functions_bind names) (functions_expr names) (functions_field names) l)

  below_all : (es : List Expr) → flat_map (λ a. a.1 None) (map (expr_pair names) es) ≡ flat_map below es
  below_all es = mapped (λ a. a.1 None) (expr_pair names) es

  below_arms : (arms : List Arm) → flat_map (λ a. a.1) (map (arm_pair names) arms) ≡ flat_map (functions_of_arm names) arms
  below_arms arms = mapped (λ a. a.1) (arm_pair names) arms

  below_fields : (fs : List FieldExpr) → flat_map (λ a. a.1) (map (field_pair names) fs) ≡ flat_map (functions_of_field names) fs
  below_fields fs = mapped (λ a. a.1) (field_pair names) fs

  below_binds : (recursive : Bool) (bs : List Bind) → flat_map (λ b. b.1 recursive) (map (bind_pair names) bs) ≡ flat_map (functions_of_bind names recursive) bs
  below_binds recursive bs = mapped (λ b. b.1 recursive) (bind_pair names) bs

  module _ (k : ExprKind) (node : ℕ) (own : Option ℕ) where
    pub of_fun : (params : List Param) (body : Expr) → k ≡ E.Fun params body → functions_of_kind names k node own ≡ (node, with_params names own params body) ∷ below body
    of_fun params body is = form (e.Fun params body) k _ is (E.rolls-Fun params body) node own

    pub of_function : (arms : List Arm) → k ≡ E.Function arms → functions_of_kind names k node own ≡ (node, with_arms names own arms) ∷ flat_map (functions_of_arm names) arms
    of_function arms is =
        form (e.Function arms) k _ is (E.rolls-Function arms) node own
        ∙ (ap (λ xs. (node, with_arms names own xs) ∷ flat_map (λ a. a.1) (map (arm_pair names) arms)) (firsts (functions_of_arm names) arms)
        ∙ ap (λ xs. (node, with_arms names own arms) ∷ xs) (below_arms arms))

    pub of_paren : (a : Expr) → k ≡ E.Paren a → functions_of_kind names k node own ≡ functions_of_expr names a own
    of_paren a is = form (e.Paren a) k _ is (E.rolls-Paren a) node own

    pub of_construction : (name : ConName) (a : Expr) → k ≡ E.Con name (Some a) → functions_of_kind names k node own ≡ below a
    of_construction name a is = form (e.Con name (Some a)) k _ is (E.rolls-Con name (Some a)) node own

    pub of_constant : (name : ConName) → k ≡ E.Con name None → functions_of_kind names k node own ≡ []
    of_constant name is = form (e.Con name None) k _ is (E.rolls-Con name None) node own

    pub of_cons : (a b : Expr) → k ≡ E.Cons a b → functions_of_kind names k node own ≡ below a ++ below b
    of_cons a b is = form (e.Cons a b) k _ is (E.rolls-Cons a b) node own

    pub of_index : (a b : Expr) → k ≡ E.Index a b → functions_of_kind names k node own ≡ below a ++ below b
    of_index a b is = form (e.Index a b) k _ is (E.rolls-Index a b) node own

    pub of_binary : (op : BinOp) (a b : Expr) → k ≡ E.Binary op a b → functions_of_kind names k node own ≡ below a ++ below b
    of_binary op a b is = form (e.Binary op a b) k _ is (E.rolls-Binary op a b) node own

    pub of_tuple : (es : List Expr) → k ≡ E.Tuple es → functions_of_kind names k node own ≡ flat_map below es
    of_tuple es is = form (e.Tuple es) k _ is (E.rolls-Tuple es) node own ∙ below_all es

    pub of_list : (es : List Expr) → k ≡ E.List es → functions_of_kind names k node own ≡ flat_map below es
    of_list es is = form (e.List es) k _ is (E.rolls-List es) node own ∙ below_all es

    pub of_seq : (es : List Expr) → k ≡ E.Seq es → functions_of_kind names k node own ≡ flat_map below es
    of_seq es is = form (e.Seq es) k _ is (E.rolls-Seq es) node own ∙ below_all es

    pub of_fields : (fs : List FieldExpr) → k ≡ E.Fields fs → functions_of_kind names k node own ≡ flat_map (functions_of_field names) fs
    of_fields fs is = form (e.Fields fs) k _ is (E.rolls-Fields fs) node own ∙ below_fields fs

    pub of_apply : (f : Expr) (es : List Expr) → k ≡ E.Apply f es → functions_of_kind names k node own ≡ below f ++ flat_map below es
    of_apply f es is = form (e.Apply f es) k _ is (E.rolls-Apply f es) node own ∙ ap (λ xs. below f ++ xs) (below_all es)

    pub of_if : (a b d : Expr) → k ≡ E.If a b (Some d) → functions_of_kind names k node own ≡ below a ++ (below b ++ below d)
    of_if a b d is = form (e.If a b (Some d)) k _ is (E.rolls-If a b (Some d)) node own

    pub of_if_alone : (a b : Expr) → k ≡ E.If a b None → functions_of_kind names k node own ≡ below a ++ (below b ++ [])
    of_if_alone a b is = form (e.If a b None) k _ is (E.rolls-If a b None) node own

    pub of_let : (recursive : Bool) (binds : List Bind) (body : Expr) → k ≡ E.Let recursive binds body → functions_of_kind names k node own ≡ flat_map (functions_of_bind names recursive) binds ++ below body
    of_let recursive binds body is = form (e.Let recursive binds body) k _ is (E.rolls-Let recursive binds body) node own ∙ ap (λ xs. xs ++ below body) (below_binds recursive binds)

    pub of_match : (a : Expr) (arms : List Arm) → k ≡ E.Match a arms → functions_of_kind names k node own ≡ below a ++ flat_map (functions_of_arm names) arms
    of_match a arms is = form (e.Match a arms) k _ is (E.rolls-Match a arms) node own ∙ ap (λ xs. below a ++ xs) (below_arms arms)

    pub of_field : (a : Expr) (name : Span) → k ≡ E.Field a name → functions_of_kind names k node own ≡ below a
    of_field a name is = form (e.Field a name) k _ is (E.rolls-Field a name) node own

    pub of_minus : (a : Expr) → k ≡ E.Minus a → functions_of_kind names k node own ≡ below a
    of_minus a is = form (e.Minus a) k _ is (E.rolls-Minus a) node own

    pub of_typed : (a : Expr) (ty : TyExpr) → k ≡ E.Typed a ty → functions_of_kind names k node own ≡ below a
    of_typed a ty is = form (e.Typed a ty) k _ is (E.rolls-Typed a ty) node own

    pub of_worded : (words : Words) (a : Expr) → k ≡ E.Worded words a → functions_of_kind names k node own ≡ below a
    of_worded words a is = form (e.Worded words a) k _ is (E.rolls-Worded words a) node own

    pub of_exclave : (a : Expr) → k ≡ E.Exclave a → functions_of_kind names k node own ≡ below a
    of_exclave a is = form (e.Exclave a) k _ is (E.rolls-Exclave a) node own

    pub of_borrow : (name of : Span) (a : Expr) → k ≡ E.Borrow name of a → functions_of_kind names k node own ≡ below a
    of_borrow name of a is = form (e.Borrow name of a) k _ is (E.rolls-Borrow name of a) node own

    pub of_overwrite : (name : Span) (a : Expr) → k ≡ E.Overwrite name a → functions_of_kind names k node own ≡ below a
    of_overwrite name a is = form (e.Overwrite name a) k _ is (E.rolls-Overwrite name a) node own

    pub of_pair : (a b : Expr) → IsPair k a b → functions_of_kind names k node own ≡ below a ++ below b
    of_pair a b (inl is) = of_cons a b is
    of_pair a b (inr (inl is)) = of_index a b is
    of_pair a b (inr (inr is)) = of_binary is.0 a b is.1

    pub of_parts : (es : List Expr) → IsParts k es → functions_of_kind names k node own ≡ flat_map below es
    of_parts es (inl is) = of_tuple es is
    of_parts es (inr (inl is)) = of_list es is
    of_parts es (inr (inr is)) = of_seq es is

    pub of_inner : (a : Expr) → IsInner k a → functions_of_kind names k node own ≡ below a
    of_inner a (inl is) = of_field a is.0 is.1
    of_inner a (inr (inl is)) = of_minus a is
    of_inner a (inr (inr (inl is))) = of_typed a is.0 is.1
    of_inner a (inr (inr (inr (inl is)))) = of_worded is.0 a is.1
    of_inner a (inr (inr (inr (inr (inl is))))) = of_exclave a is
    of_inner a (inr (inr (inr (inr (inr (inl is)))))) = of_borrow is.0 is.1 a is.2
    of_inner a (inr (inr (inr (inr (inr (inr is)))))) = of_overwrite is.0 a is.1

    pub of_int : (z : ℤ) → k ≡ E.Int z → functions_of_kind names k node own ≡ []
    of_int z is = form (e.Int z) k _ is (E.rolls-Int z) node own

    pub of_char : (b : ℕ) → k ≡ E.Char b → functions_of_kind names k node own ≡ []
    of_char b is = form (e.Char b) k _ is (E.rolls-Char b) node own

    pub of_text : (lit : Lit) → k ≡ E.Text lit → functions_of_kind names k node own ≡ []
    of_text lit is = form (e.Text lit) k _ is (E.rolls-Text lit) node own

    pub of_name : (name : Span) → k ≡ E.Name name → functions_of_kind names k node own ≡ []
    of_name name is = form (e.Name name) k _ is (E.rolls-Name name) node own

    pub of_path : (name part : Span) → k ≡ E.Path name part → functions_of_kind names k node own ≡ []
    of_path name part is = form (e.Path name part) k _ is (E.rolls-Path name part) node own

    pub of_leaf : IsLeaf k → functions_of_kind names k node own ≡ []
    of_leaf (inl is) = of_int is.0 is.1
    of_leaf (inr (inl is)) = of_char is.0 is.1
    of_leaf (inr (inr (inl is))) = of_text is.0 is.1
    of_leaf (inr (inr (inr (inl is)))) = of_name is.0 is.1
    of_leaf (inr (inr (inr (inr is)))) = of_path is.0 is.1 is.2

  -- ---- arms and bindings

  arm_at : (pat : Pat) (guard : Option Expr) (body g : Expr) → guard ≡ Some g → functions_arm names (map-Arm ExprKind Arm Bind Expr FieldExpr (ExprKind × (ℕ → Below names)) (Arm × Functions) (Bind × (Bool → Functions)) (Expr × Below names) (FieldExpr × Functions) (kind_pair names) (arm_pair names) (bind_pair names) (expr_pair names) (field_pair names) (record { pat = pat; guard = guard; body = body })) ≡ below g ++ below body
  arm_at pat None body g is = cc
  arm_at pat (Some h) body g is = let same : h ≡ g = cc in ap (λ x. below x ++ below body) same

  arm_alone_at : (pat : Pat) (guard : Option Expr) (body : Expr) → guard ≡ None → functions_arm names (map-Arm ExprKind Arm Bind Expr FieldExpr (ExprKind × (ℕ → Below names)) (Arm × Functions) (Bind × (Bool → Functions)) (Expr × Below names) (FieldExpr × Functions) (kind_pair names) (arm_pair names) (bind_pair names) (expr_pair names) (field_pair names) (record { pat = pat; guard = guard; body = body })) ≡ below body
  arm_alone_at pat None body is = refl
  arm_alone_at pat (Some h) body is = cc

  pub of_guarded_arm : (a : Arm) (g : Expr) → (out-Arm a).guard ≡ Some g → functions_of_arm names a ≡ below g ++ below (out-Arm a).body
  of_guarded_arm a g is = arm_opens names a ∙ arm_at (out-Arm a).pat (out-Arm a).guard (out-Arm a).body g is

  pub of_plain_arm : (a : Arm) → (out-Arm a).guard ≡ None → functions_of_arm names a ≡ below (out-Arm a).body
  of_plain_arm a is = arm_opens names a ∙ arm_alone_at (out-Arm a).pat (out-Arm a).guard (out-Arm a).body is

  value_at : (pat : Pat) (params : List Param) (result : Option TyExpr) (body : Expr) (recursive : Bool) → length params ≡ 0 → functions_bind names (map-Bind ExprKind Arm Bind Expr FieldExpr (ExprKind × (ℕ → Below names)) (Arm × Functions) (Bind × (Bool → Functions)) (Expr × Below names) (FieldExpr × Functions) (kind_pair names) (arm_pair names) (bind_pair names) (expr_pair names) (field_pair names) (record { pat = pat; params = params; result = result; body = body })) recursive ≡ functions_of_expr names body (own_name names recursive (bare_name pat))
  value_at pat [] result body recursive none = refl
  value_at pat (q ∷ qs) result body recursive none = absurd (omega (arith, none))

  function_at : (pat : Pat) (params : List Param) (result : Option TyExpr) (body : Expr) (recursive : Bool) → (length params ≡ 0 → ⊥) → functions_bind names (map-Bind ExprKind Arm Bind Expr FieldExpr (ExprKind × (ℕ → Below names)) (Arm × Functions) (Bind × (Bool → Functions)) (Expr × Below names) (FieldExpr × Functions) (kind_pair names) (arm_pair names) (bind_pair names) (expr_pair names) (field_pair names) (record { pat = pat; params = params; result = result; body = body })) recursive ≡ (pat.id, with_params names (own_name names recursive (Some pat.id)) params body) ∷ below body
  function_at pat [] result body recursive some = absurd (some refl)
  function_at pat (q ∷ qs) result body recursive some = refl

  pub of_value : (b : Bind) (recursive : Bool) → length (out-Bind b).params ≡ 0 → functions_of_bind names recursive b ≡ functions_of_expr names (out-Bind b).body (own_name names recursive (bare_name (out-Bind b).pat))
  of_value b recursive none = bind_opens names b recursive ∙ value_at (out-Bind b).pat (out-Bind b).params (out-Bind b).result (out-Bind b).body recursive none

  pub of_bound_function : (b : Bind) (recursive : Bool) → (length (out-Bind b).params ≡ 0 → ⊥) → functions_of_bind names recursive b ≡ ((out-Bind b).pat.id, with_params names (own_name names recursive (Some (out-Bind b).pat.id)) (out-Bind b).params (out-Bind b).body) ∷ below (out-Bind b).body
  of_bound_function b recursive some = bind_opens names b recursive ∙ function_at (out-Bind b).pat (out-Bind b).params (out-Bind b).result (out-Bind b).body recursive some

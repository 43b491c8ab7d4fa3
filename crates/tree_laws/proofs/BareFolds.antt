-- What a fold over expressions that looks at no number gives is the same without the numbers.
use Rattle.std.proofs.Common.{◌≡◌, ℕ, List, [], ◌∷◌, map, Option, Some, None, refl, sym, ap, ◌∙◌, subst}
use Rattle.std.specs.Option.{option_map}
use Rattle.oxml_base.specs.declared.span.Span.{Span}
use Rattle.ml_tree.specs.declared.types.TyExpr.{TyExpr}
use Rattle.ml_tree.specs.declared.pattern.Pat.{Pat}
use Rattle.ml_tree.specs.declared.pattern.Param.{Param}
use Rattle.ml_tree.specs.declared.expr.Expr.{Expr, ind-Expr, fold-Expr, fold-roll-Expr, map-Expr, roll-Expr}
use Rattle.ml_tree.specs.declared.expr.Arm.{Arm, fold-Arm, fold-roll-Arm, map-Arm, roll-Arm}
use Rattle.ml_tree.specs.declared.expr.Bind.{Bind, ind-Bind, fold-Bind, fold-roll-Bind, map-Bind, roll-Bind}
use Rattle.ml_tree.specs.declared.expr.FieldExpr.{FieldExpr, fold-FieldExpr, fold-roll-FieldExpr, map-FieldExpr, roll-FieldExpr}
use Rattle.ml_tree.specs.declared.expr.ExprKind.{ExprKind, fold-ExprKind, fold-roll-ExprKind, map-ExprKind, roll-ExprKind}
use Rattle.ml_tree.specs.declared.expr.ExprKind.TheVariants as E
use Rattle.ml_tree.specs.declared.expr.ExprKind.TheOpen as e
use Rattle.ml_tree.specs.declared.expr.ExprKind.TheOpen.{ExprKind-F, Arm-F, Bind-F, Expr-F, FieldExpr-F}
use Rattle.ml_numbers.specs.Bare as I
use Rattle.ml_numbers.specs.Bare.{bare_type, bare_pattern, bare_param}

-- the steps of such a fold
pub record Blind {K A B X F : Type 0} (k : ExprKind-F K A B X F → K) (a : Arm-F K A B X F → A) (b : Bind-F K A B X F → B) (x : Expr-F K A B X F → X) (f : FieldExpr-F K A B X F → F) : Type 0 where
  pub fun : (ps : List Param) (z : X) → k (e.Fun (map bare_param ps) z) ≡ k (e.Fun ps z)
  pub typed : (z : X) (t : TyExpr) → k (e.Typed z (bare_type t)) ≡ k (e.Typed z t)
  pub arm : (p : Pat) (g : Option X) (z : X) → a (record { pat = bare_pattern p; guard = g; body = z }) ≡ a (record { pat = p; guard = g; body = z })
  pub bind : (p : Pat) (ps : List Param) (t : Option TyExpr) (z : X) →
      b (record { pat = bare_pattern p; params = map bare_param ps; result = option_map bare_type t; body = z }) ≡ b (record { pat = p; params = ps; result = t; body = z })
  pub expr : (i : ℕ) (s : Span) (z : K) → x (record { id = 0; span = s; kind = z }) ≡ x (record { id = i; span = s; kind = z })
  pub field : (i : ℕ) (s : Span) (z : X) → f (record { id = 0; name = s; expr = z }) ≡ f (record { id = i; name = s; expr = z })

pub two_same : {X Y Z : Type 0} {u v : X} {w z : Y} (g : X → Y → Z) → u ≡ v → w ≡ z → g u w ≡ g v z
two_same {v = v} {w = w} g p q = ap (λ t. g t w) p ∙ ap (g v) q

pub three_same : {X Y Z W : Type 0} {u v : X} {w z : Y} {m n : Z} (g : X → Y → Z → W) → u ≡ v → w ≡ z → m ≡ n → g u w m ≡ g v z n
three_same {v = v} {w = w} {m = m} g p q r = ap (λ t. g t w m) p ∙ two_same (g v) q r

-- parts that are each the same
pub all_same : {X Y : Type 0} (view : X → Y) (bared : X → X) (xs : List ((x : X) × (view (bared x) ≡ view x))) → map view (map bared (map (λ q. q.0) xs)) ≡ map view (map (λ q. q.0) xs)
all_same view bared [] = refl
all_same view bared (q ∷ qs) = two_same ◌∷◌ q.1 (all_same view bared qs)

pub list_same : {X Y : Type 0} (view : X → Y) (bared : X → X) → ((x : X) → view (bared x) ≡ view x) → (xs : List X) → map view (map bared xs) ≡ map view xs
list_same view bared h [] = refl
list_same view bared h (y ∷ ys) = two_same ◌∷◌ (h y) (list_same view bared h ys)

module _ {K A B X F : Type 0} (k : ExprKind-F K A B X F → K) (a : Arm-F K A B X F → A) (b : Bind-F K A B X F → B) (x : Expr-F K A B X F → X) (f : FieldExpr-F K A B X F → F) (blind : Blind k a b x f) where
  abbrev kind_of : ExprKind → K
  kind_of y = fold-ExprKind K A B X F k a b x f y

  abbrev KindPart : Type 0
  KindPart = (y : ExprKind) × (kind_of (I.bare_kind y) ≡ kind_of y)

  abbrev arm_of : Arm → A
  arm_of y = fold-Arm K A B X F k a b x f y

  abbrev ArmPart : Type 0
  ArmPart = (y : Arm) × (arm_of (I.bare_arm y) ≡ arm_of y)

  abbrev bind_of : Bind → B
  bind_of y = fold-Bind K A B X F k a b x f y

  abbrev BindPart : Type 0
  BindPart = (y : Bind) × (bind_of (I.bare_bind y) ≡ bind_of y)

  abbrev expr_of : Expr → X
  expr_of y = fold-Expr K A B X F k a b x f y

  abbrev ExprPart : Type 0
  ExprPart = (y : Expr) × (expr_of (I.bare_expr y) ≡ expr_of y)

  abbrev field_of : FieldExpr → F
  field_of y = fold-FieldExpr K A B X F k a b x f y

  abbrev FieldPart : Type 0
  FieldPart = (y : FieldExpr) × (field_of (I.bare_field y) ≡ field_of y)

  abbrev layer_kind : ExprKind-F KindPart ArmPart BindPart ExprPart FieldPart → ExprKind-F ExprKind Arm Bind Expr FieldExpr
  layer_kind y = map-ExprKind KindPart ArmPart BindPart ExprPart FieldPart ExprKind Arm Bind Expr FieldExpr (λ q. q.0) (λ q. q.0) (λ q. q.0) (λ q. q.0) (λ q. q.0) y

  abbrev bared_kind : ExprKind-F ExprKind Arm Bind Expr FieldExpr → ExprKind-F ExprKind Arm Bind Expr FieldExpr
  bared_kind l = map-ExprKind ExprKind Arm Bind Expr FieldExpr ExprKind Arm Bind Expr FieldExpr I.bare_kind I.bare_arm I.bare_bind I.bare_expr I.bare_field l

  abbrev viewed_kind : ExprKind-F ExprKind Arm Bind Expr FieldExpr → ExprKind-F K A B X F
  viewed_kind l = map-ExprKind ExprKind Arm Bind Expr FieldExpr K A B X F kind_of arm_of bind_of expr_of field_of l

  rolled_kind : (l : ExprKind-F ExprKind Arm Bind Expr FieldExpr) → kind_of (roll-ExprKind l) ≡ k (viewed_kind l)
  rolled_kind l = fold-roll-ExprKind K A B X F k a b x f l

  abbrev layer_arm : Arm-F KindPart ArmPart BindPart ExprPart FieldPart → Arm-F ExprKind Arm Bind Expr FieldExpr
  layer_arm y = map-Arm KindPart ArmPart BindPart ExprPart FieldPart ExprKind Arm Bind Expr FieldExpr (λ q. q.0) (λ q. q.0) (λ q. q.0) (λ q. q.0) (λ q. q.0) y

  abbrev bared_arm : Arm-F ExprKind Arm Bind Expr FieldExpr → Arm-F ExprKind Arm Bind Expr FieldExpr
  bared_arm l = map-Arm ExprKind Arm Bind Expr FieldExpr ExprKind Arm Bind Expr FieldExpr I.bare_kind I.bare_arm I.bare_bind I.bare_expr I.bare_field l

  abbrev viewed_arm : Arm-F ExprKind Arm Bind Expr FieldExpr → Arm-F K A B X F
  viewed_arm l = map-Arm ExprKind Arm Bind Expr FieldExpr K A B X F kind_of arm_of bind_of expr_of field_of l

  rolled_arm : (l : Arm-F ExprKind Arm Bind Expr FieldExpr) → arm_of (roll-Arm l) ≡ a (viewed_arm l)
  rolled_arm l = fold-roll-Arm K A B X F k a b x f l

  abbrev layer_bind : Bind-F KindPart ArmPart BindPart ExprPart FieldPart → Bind-F ExprKind Arm Bind Expr FieldExpr
  layer_bind y = map-Bind KindPart ArmPart BindPart ExprPart FieldPart ExprKind Arm Bind Expr FieldExpr (λ q. q.0) (λ q. q.0) (λ q. q.0) (λ q. q.0) (λ q. q.0) y

  abbrev bared_bind : Bind-F ExprKind Arm Bind Expr FieldExpr → Bind-F ExprKind Arm Bind Expr FieldExpr
  bared_bind l = map-Bind ExprKind Arm Bind Expr FieldExpr ExprKind Arm Bind Expr FieldExpr I.bare_kind I.bare_arm I.bare_bind I.bare_expr I.bare_field l

  abbrev viewed_bind : Bind-F ExprKind Arm Bind Expr FieldExpr → Bind-F K A B X F
  viewed_bind l = map-Bind ExprKind Arm Bind Expr FieldExpr K A B X F kind_of arm_of bind_of expr_of field_of l

  rolled_bind : (l : Bind-F ExprKind Arm Bind Expr FieldExpr) → bind_of (roll-Bind l) ≡ b (viewed_bind l)
  rolled_bind l = fold-roll-Bind K A B X F k a b x f l

  abbrev layer_expr : Expr-F KindPart ArmPart BindPart ExprPart FieldPart → Expr-F ExprKind Arm Bind Expr FieldExpr
  layer_expr y = map-Expr KindPart ArmPart BindPart ExprPart FieldPart ExprKind Arm Bind Expr FieldExpr (λ q. q.0) (λ q. q.0) (λ q. q.0) (λ q. q.0) (λ q. q.0) y

  abbrev bared_expr : Expr-F ExprKind Arm Bind Expr FieldExpr → Expr-F ExprKind Arm Bind Expr FieldExpr
  bared_expr l = map-Expr ExprKind Arm Bind Expr FieldExpr ExprKind Arm Bind Expr FieldExpr I.bare_kind I.bare_arm I.bare_bind I.bare_expr I.bare_field l

  abbrev viewed_expr : Expr-F ExprKind Arm Bind Expr FieldExpr → Expr-F K A B X F
  viewed_expr l = map-Expr ExprKind Arm Bind Expr FieldExpr K A B X F kind_of arm_of bind_of expr_of field_of l

  rolled_expr : (l : Expr-F ExprKind Arm Bind Expr FieldExpr) → expr_of (roll-Expr l) ≡ x (viewed_expr l)
  rolled_expr l = fold-roll-Expr K A B X F k a b x f l

  abbrev layer_field : FieldExpr-F KindPart ArmPart BindPart ExprPart FieldPart → FieldExpr-F ExprKind Arm Bind Expr FieldExpr
  layer_field y = map-FieldExpr KindPart ArmPart BindPart ExprPart FieldPart ExprKind Arm Bind Expr FieldExpr (λ q. q.0) (λ q. q.0) (λ q. q.0) (λ q. q.0) (λ q. q.0) y

  abbrev bared_field : FieldExpr-F ExprKind Arm Bind Expr FieldExpr → FieldExpr-F ExprKind Arm Bind Expr FieldExpr
  bared_field l = map-FieldExpr ExprKind Arm Bind Expr FieldExpr ExprKind Arm Bind Expr FieldExpr I.bare_kind I.bare_arm I.bare_bind I.bare_expr I.bare_field l

  abbrev viewed_field : FieldExpr-F ExprKind Arm Bind Expr FieldExpr → FieldExpr-F K A B X F
  viewed_field l = map-FieldExpr ExprKind Arm Bind Expr FieldExpr K A B X F kind_of arm_of bind_of expr_of field_of l

  rolled_field : (l : FieldExpr-F ExprKind Arm Bind Expr FieldExpr) → field_of (roll-FieldExpr l) ≡ f (viewed_field l)
  rolled_field l = fold-roll-FieldExpr K A B X F k a b x f l

  kind_law : (y : ExprKind-F KindPart ArmPart BindPart ExprPart FieldPart) → kind_of (I.step (bared_kind (layer_kind y))) ≡ k (viewed_kind (layer_kind y))
  kind_law (e.Int z) = rolled_kind (e.Int z)
  kind_law (e.Char z) = rolled_kind (e.Char z)
  kind_law (e.Text z) = rolled_kind (e.Text z)
  kind_law (e.Name z) = rolled_kind (e.Name z)
  kind_law (e.Path y z) = rolled_kind (e.Path y z)
  kind_law (e.Con name None) = rolled_kind (e.Con name None)
  kind_law (e.Con name (Some p)) = rolled_kind (e.Con name (Some (I.bare_expr p.0))) ∙ ap (λ u. k (e.Con name (Some u))) p.1
  kind_law (e.Field p name) = rolled_kind (e.Field (I.bare_expr p.0) name) ∙ ap (λ u. k (e.Field u name)) p.1
  kind_law (e.Minus p) = rolled_kind (e.Minus (I.bare_expr p.0)) ∙ ap (λ u. k (e.Minus u)) p.1
  kind_law (e.Paren p) = rolled_kind (e.Paren (I.bare_expr p.0)) ∙ ap (λ u. k (e.Paren u)) p.1
  kind_law (e.Worded words p) = rolled_kind (e.Worded words (I.bare_expr p.0)) ∙ ap (λ u. k (e.Worded words u)) p.1
  kind_law (e.Exclave p) = rolled_kind (e.Exclave (I.bare_expr p.0)) ∙ ap (λ u. k (e.Exclave u)) p.1
  kind_law (e.Borrow name of p) = rolled_kind (e.Borrow name of (I.bare_expr p.0)) ∙ ap (λ u. k (e.Borrow name of u)) p.1
  kind_law (e.Overwrite name p) = rolled_kind (e.Overwrite name (I.bare_expr p.0)) ∙ ap (λ u. k (e.Overwrite name u)) p.1
  kind_law (e.Cons p q) = rolled_kind (e.Cons (I.bare_expr p.0) (I.bare_expr q.0)) ∙ two_same (λ u v. k (e.Cons u v)) p.1 q.1
  kind_law (e.Index p q) = rolled_kind (e.Index (I.bare_expr p.0) (I.bare_expr q.0)) ∙ two_same (λ u v. k (e.Index u v)) p.1 q.1
  kind_law (e.Binary op p q) = rolled_kind (e.Binary op (I.bare_expr p.0) (I.bare_expr q.0)) ∙ two_same (λ u v. k (e.Binary op u v)) p.1 q.1
  kind_law (e.Tuple es) = rolled_kind (e.Tuple (map I.bare_expr (map (λ q. q.0) es))) ∙ ap (λ us. k (e.Tuple us)) (all_same expr_of I.bare_expr es)
  kind_law (e.List es) = rolled_kind (e.List (map I.bare_expr (map (λ q. q.0) es))) ∙ ap (λ us. k (e.List us)) (all_same expr_of I.bare_expr es)
  kind_law (e.Seq es) = rolled_kind (e.Seq (map I.bare_expr (map (λ q. q.0) es))) ∙ ap (λ us. k (e.Seq us)) (all_same expr_of I.bare_expr es)
  kind_law (e.Fields es) = rolled_kind (e.Fields (map I.bare_field (map (λ q. q.0) es))) ∙ ap (λ us. k (e.Fields us)) (all_same field_of I.bare_field es)
  kind_law (e.Function es) = rolled_kind (e.Function (map I.bare_arm (map (λ q. q.0) es))) ∙ ap (λ us. k (e.Function us)) (all_same arm_of I.bare_arm es)
  kind_law (e.Apply p es) = rolled_kind (e.Apply (I.bare_expr p.0) (map I.bare_expr (map (λ q. q.0) es))) ∙ two_same (λ u us. k (e.Apply u us)) p.1 (all_same expr_of I.bare_expr es)
  kind_law (e.Match p es) = rolled_kind (e.Match (I.bare_expr p.0) (map I.bare_arm (map (λ q. q.0) es))) ∙ two_same (λ u us. k (e.Match u us)) p.1 (all_same arm_of I.bare_arm es)
  kind_law (e.Let recursive es p) = rolled_kind (e.Let recursive (map I.bare_bind (map (λ q. q.0) es)) (I.bare_expr p.0)) ∙ two_same (λ us u. k (e.Let recursive us u)) (all_same bind_of I.bare_bind es) p.1
  kind_law (e.If p q None) = rolled_kind (e.If (I.bare_expr p.0) (I.bare_expr q.0) None) ∙ two_same (λ u v. k (e.If u v None)) p.1 q.1
  kind_law (e.If p q (Some r)) = rolled_kind (e.If (I.bare_expr p.0) (I.bare_expr q.0) (Some (I.bare_expr r.0))) ∙ three_same (λ u v w. k (e.If u v (Some w))) p.1 q.1 r.1
  kind_law (e.Fun ps p) = ap kind_of (sym (E.rolls-Fun (map bare_param ps) (I.bare_expr p.0))) ∙ (rolled_kind (e.Fun (map bare_param ps) (I.bare_expr p.0)) ∙ (ap (λ u. k (e.Fun (map bare_param ps) u)) p.1 ∙ blind.fun ps (expr_of p.0)))
  kind_law (e.Typed p t) = ap kind_of (sym (E.rolls-Typed (I.bare_expr p.0) (bare_type t))) ∙ (rolled_kind (e.Typed (I.bare_expr p.0) (bare_type t)) ∙ (ap (λ u. k (e.Typed u (bare_type t))) p.1 ∙ blind.typed (expr_of p.0) t))

  arm_law : (p : Pat) (g : Option ExprPart) (z : ExprPart) → arm_of (I.arm_step (bared_arm (layer_arm (record { pat = p; guard = g; body = z })))) ≡ a (viewed_arm (layer_arm (record { pat = p; guard = g; body = z })))
  arm_law p None z = rolled_arm (record { pat = bare_pattern p; guard = None; body = I.bare_expr z.0 }) ∙ (ap (λ u. a (record { pat = bare_pattern p; guard = None; body = u })) z.1 ∙ blind.arm p None (expr_of z.0))
  arm_law p (Some g) z = rolled_arm (record { pat = bare_pattern p; guard = Some (I.bare_expr g.0); body = I.bare_expr z.0 }) ∙ (two_same (λ u v. a (record { pat = bare_pattern p; guard = Some u; body = v })) g.1 z.1 ∙ blind.arm p (Some (expr_of g.0)) (expr_of z.0))

  bind_law : (y : Bind-F KindPart ArmPart BindPart ExprPart FieldPart) → bind_of (I.bind_step (bared_bind (layer_bind y))) ≡ b (viewed_bind (layer_bind y))
  bind_law y = rolled_bind (record { pat = bare_pattern y.pat; params = map bare_param y.params; result = option_map bare_type y.result; body = I.bare_expr y.body.0 }) ∙ (ap (λ u. b (record { pat = bare_pattern y.pat; params = map bare_param y.params; result = option_map bare_type y.result; body = u })) y.body.1 ∙ blind.bind y.pat y.params y.result (expr_of y.body.0))

  expr_law : (y : Expr-F KindPart ArmPart BindPart ExprPart FieldPart) → expr_of (I.expr_node (bared_expr (layer_expr y))) ≡ x (viewed_expr (layer_expr y))
  expr_law y = rolled_expr (record { id = 0; span = y.span; kind = I.bare_kind y.kind.0 }) ∙ (ap (λ u. x (record { id = 0; span = y.span; kind = u })) y.kind.1 ∙ blind.expr y.id y.span (kind_of y.kind.0))

  field_law : (y : FieldExpr-F KindPart ArmPart BindPart ExprPart FieldPart) → field_of (I.field_node (bared_field (layer_field y))) ≡ f (viewed_field (layer_field y))
  field_law y = rolled_field (record { id = 0; name = y.name; expr = I.bare_expr y.expr.0 }) ∙ (ap (λ u. f (record { id = 0; name = y.name; expr = u })) y.expr.1 ∙ blind.field y.id y.name (expr_of y.expr.0))

  kind_case : (l : ExprKind-F ExprKind Arm Bind Expr FieldExpr) (y : ExprKind-F KindPart ArmPart BindPart ExprPart FieldPart) → layer_kind y ≡ l → kind_of (I.bare_kind (roll-ExprKind l)) ≡ kind_of (roll-ExprKind l)
  kind_case l y same = ap kind_of (fold-roll-ExprKind ExprKind Arm Bind Expr FieldExpr I.step I.arm_step I.bind_step I.expr_node I.field_node l) ∙ (subst (λ l. kind_of (I.step (bared_kind l)) ≡ k (viewed_kind l)) same (kind_law y) ∙ sym (rolled_kind l))

  arm_case : (l : Arm-F ExprKind Arm Bind Expr FieldExpr) (y : Arm-F KindPart ArmPart BindPart ExprPart FieldPart) → layer_arm y ≡ l → arm_of (I.bare_arm (roll-Arm l)) ≡ arm_of (roll-Arm l)
  arm_case l y same = ap arm_of (fold-roll-Arm ExprKind Arm Bind Expr FieldExpr I.step I.arm_step I.bind_step I.expr_node I.field_node l) ∙ (subst (λ l. arm_of (I.arm_step (bared_arm l)) ≡ a (viewed_arm l)) same (arm_law y.pat y.guard y.body) ∙ sym (rolled_arm l))

  bind_case : (l : Bind-F ExprKind Arm Bind Expr FieldExpr) (y : Bind-F KindPart ArmPart BindPart ExprPart FieldPart) → layer_bind y ≡ l → bind_of (I.bare_bind (roll-Bind l)) ≡ bind_of (roll-Bind l)
  bind_case l y same = ap bind_of (fold-roll-Bind ExprKind Arm Bind Expr FieldExpr I.step I.arm_step I.bind_step I.expr_node I.field_node l) ∙ (subst (λ l. bind_of (I.bind_step (bared_bind l)) ≡ b (viewed_bind l)) same (bind_law y) ∙ sym (rolled_bind l))

  expr_case : (l : Expr-F ExprKind Arm Bind Expr FieldExpr) (y : Expr-F KindPart ArmPart BindPart ExprPart FieldPart) → layer_expr y ≡ l → expr_of (I.bare_expr (roll-Expr l)) ≡ expr_of (roll-Expr l)
  expr_case l y same = ap expr_of (fold-roll-Expr ExprKind Arm Bind Expr FieldExpr I.step I.arm_step I.bind_step I.expr_node I.field_node l) ∙ (subst (λ l. expr_of (I.expr_node (bared_expr l)) ≡ x (viewed_expr l)) same (expr_law y) ∙ sym (rolled_expr l))

  field_case : (l : FieldExpr-F ExprKind Arm Bind Expr FieldExpr) (y : FieldExpr-F KindPart ArmPart BindPart ExprPart FieldPart) → layer_field y ≡ l → field_of (I.bare_field (roll-FieldExpr l)) ≡ field_of (roll-FieldExpr l)
  field_case l y same = ap field_of (fold-roll-FieldExpr ExprKind Arm Bind Expr FieldExpr I.step I.arm_step I.bind_step I.expr_node I.field_node l) ∙ (subst (λ l. field_of (I.field_node (bared_field l)) ≡ f (viewed_field l)) same (field_law y) ∙ sym (rolled_field l))

  pub expr_same : (y : Expr) → expr_of (I.bare_expr y) ≡ expr_of y
  expr_same y = ind-Expr (λ y. kind_of (I.bare_kind y) ≡ kind_of y) (λ y. arm_of (I.bare_arm y) ≡ arm_of y) (λ y. bind_of (I.bare_bind y) ≡ bind_of y) (λ y. expr_of (I.bare_expr y) ≡ expr_of y) (λ y. field_of (I.bare_field y) ≡ field_of y) kind_case arm_case bind_case expr_case field_case y

  pub bind_same : (y : Bind) → bind_of (I.bare_bind y) ≡ bind_of y
  bind_same y = ind-Bind (λ y. kind_of (I.bare_kind y) ≡ kind_of y) (λ y. arm_of (I.bare_arm y) ≡ arm_of y) (λ y. bind_of (I.bare_bind y) ≡ bind_of y) (λ y. expr_of (I.bare_expr y) ≡ expr_of y) (λ y. field_of (I.bare_field y) ≡ field_of y) kind_case arm_case bind_case expr_case field_case y

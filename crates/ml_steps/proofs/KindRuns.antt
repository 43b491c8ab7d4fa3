-- What each kind of expression evaluates to, by the runs of its parts.
use Rattle.std.proofs.Common.{◌≡◌, ℕ, zero, suc, Bool, List, [], ◌∷◌, ◌++◌, map, length, Option, Some, None, refl, sym, ap, ◌∙◌}
use Rattle.std.proofs.lemmas.Simd.{map-map}
use Rattle.oxml_base.specs.declared.span.Span.{Span}
use Rattle.ml_tree.specs.declared.words.Words.{Words}
use Rattle.ml_tree.specs.declared.types.TyExpr.{TyExpr}
use Rattle.ml_tree.specs.declared.reference.Op.TheVariants as operation
use Rattle.ml_tree.specs.declared.expr.Arm.{Arm}
use Rattle.ml_tree.specs.declared.expr.Bind.{Bind, out-Bind, fold_out-Bind}
use Rattle.ml_tree.specs.declared.expr.Expr.{Expr, out-Expr, fold_out-Expr}
use Rattle.ml_tree.specs.declared.expr.FieldExpr.{FieldExpr, fold-FieldExpr, fold_out-FieldExpr}
use Rattle.ml_tree.specs.declared.expr.ExprKind.{ExprKind, map-ExprKind, roll-ExprKind, fold-roll-ExprKind}
use Rattle.ml_tree.specs.declared.expr.ExprKind.TheOpen as e
use Rattle.ml_tree.specs.declared.expr.ExprKind.TheOpen.{ExprKind-F}
use Rattle.ml_tree.specs.declared.expr.ExprKind.TheVariants as E
use Rattle.ml_meaning.specs.declared.event.Event.{Event}
use Rattle.ml_meaning.specs.Names.{field_place}
use Rattle.ml_meaning.specs.Operations.{operate}
use Rattle.ml_meaning.specs.Patterns.{fits, all_fit}
use Rattle.ml_meaning.specs.Runs.{Run, Done, after, ◌>>=◌}
use Rattle.ml_meaning.specs.Values.{Value, cell, empty_list, unit_value}
use Rattle.ml_meaning.specs.Tellings.{Setting, Meaning, Inner, branch, finish, made}
use Rattle.ml_meaning.specs.Evaluation as m
use Rattle.ml_meaning.specs.Evaluation.{Form, Ordinary, Named, Several, Builds, ExprMeaning, ArmMeaning, BindMeaning, step}
use Rattle.ml_meaning.specs.Programs.{arm_step, bind_step, expr_step, field_step, expr_meaning, arm_meaning, bind_meaning, evaluate}
use Rattle.ml_values.specs.Shown.{names}
use Rattle.ml_values.specs.Telling.{mode_of}
use Rattle.ml_steps.specs.declared.frame.Finish.TheVariants as last
use Rattle.ml_steps.specs.declared.frame.Here.{Here}
use Rattle.ml_steps.specs.declared.frame.Then.TheVariants as then
use Rattle.ml_steps.specs.Left.{application_run, at_place, bind_value, borrow_run, bound_run, calls_of, chain_onto, chain_run, evaluated, field_part, finish_run, followed, inner_run, kind_meaning, kind_run, record_run, sequence_run, several, then_run}
use Rattle.ml_steps.proofs.RunsVisits.{after_none, after_two, map_same, take_all_of}

abbrev several_of : Form (Meaning Event) → Option (List (Meaning Event))
several_of form = elim (form) [ Several ms ↦ Some ms | _ ↦ None ]

module _ (s : Setting Event) where
  abbrev pub field_meaning : FieldExpr → ℕ × Meaning Event
  field_meaning f = fold-FieldExpr (ℕ → ExprMeaning Event) (ArmMeaning Event) (BindMeaning Event) (ExprMeaning Event) (ℕ × Meaning Event) (step Event s) (arm_step Event s) (bind_step Event s) (expr_step Event s) (field_step Event s) f

  abbrev pub meant : ExprKind-F ExprKind Arm Bind Expr FieldExpr → ExprKind-F (ℕ → ExprMeaning Event) (ArmMeaning Event) (BindMeaning Event) (ExprMeaning Event) (ℕ × Meaning Event)
  meant l = map-ExprKind ExprKind Arm Bind Expr FieldExpr (ℕ → ExprMeaning Event) (ArmMeaning Event) (BindMeaning Event) (ExprMeaning Event) (ℕ × Meaning Event) (kind_meaning s) (arm_meaning Event s) (bind_meaning Event s) (expr_meaning Event s) field_meaning l

  pub kind_is : (k : ExprKind) (node : ℕ) (l : ExprKind-F ExprKind Arm Bind Expr FieldExpr) (v : ExprKind) → k ≡ v → roll-ExprKind l ≡ v → kind_meaning s k node ≡ step Event s (meant l) node
  kind_is k node l v is rolls = ap (λ j. kind_meaning s j node) (is ∙ sym rolls) ∙ ap (λ h. h node) (fold-roll-ExprKind (ℕ → ExprMeaning Event) (ArmMeaning Event) (BindMeaning Event) (ExprMeaning Event) (ℕ × Meaning Event) (step Event s) (arm_step Event s) (bind_step Event s) (expr_step Event s) (field_step Event s) l)

  -- an expression is what its kind is, after what is told at each expression
  pub expr_is : (x : Expr) → expr_meaning Event s x ≡ record { form = (kind_meaning s (out-Expr x).kind (out-Expr x).id).form; run = λ c mode env. after s.visit ((kind_meaning s (out-Expr x).kind (out-Expr x).id).run c mode env) }
  expr_is x = fold_out-Expr (ℕ → ExprMeaning Event) (ArmMeaning Event) (BindMeaning Event) (ExprMeaning Event) (ℕ × Meaning Event) (step Event s) (arm_step Event s) (bind_step Event s) (expr_step Event s) (field_step Event s) x

  pub form_is : (x : Expr) → (expr_meaning Event s x).form ≡ (kind_meaning s (out-Expr x).kind (out-Expr x).id).form
  form_is x = ap (λ m. m.form) (expr_is x)

  pub evaluated_is : (x : Expr) (here : Here) → s.visit ≡ [] → evaluated s x here ≡ kind_run s (out-Expr x).kind (out-Expr x).id here
  evaluated_is x here quiet =
      ap (λ m. at_place s m.run here) (expr_is x)
      ∙ (ap (λ es. after es (kind_run s (out-Expr x).kind (out-Expr x).id here)) quiet ∙ after_none (kind_run s (out-Expr x).kind (out-Expr x).id here))

  field_is : (f : FieldExpr) → field_meaning f ≡ field_part s f
  field_is f = fold_out-FieldExpr (ℕ → ExprMeaning Event) (ArmMeaning Event) (BindMeaning Event) (ExprMeaning Event) (ℕ × Meaning Event) (step Event s) (arm_step Event s) (bind_step Event s) (expr_step Event s) (field_step Event s) f

  bind_fits : (b : Bind) → (bind_meaning Event s b).fits ≡ fits s.names (out-Bind b).pat
  bind_fits b = ap (λ m. m.fits) (fold_out-Bind (ℕ → ExprMeaning Event) (ArmMeaning Event) (BindMeaning Event) (ExprMeaning Event) (ℕ × Meaning Event) (step Event s) (arm_step Event s) (bind_step Event s) (expr_step Event s) (field_step Event s) b)

  -- the runs of the expressions of a list
  runs_of : (es : List Expr) → map (λ a. a.run) (map (expr_meaning Event s) es) ≡ map (evaluate Event s) es
  runs_of es = map-map (λ a. a.run) (expr_meaning Event s) es

-- the values of these, and then what is done with them
abbrev pub all_run : Setting Event → Here → List (Meaning Event) → (List Value → Run Event Value) → Run Event Value
all_run s here ms rest = m.values Event s ms (calls_of s here) (names here.env) >>= rest

module _ (s : Setting Event) (k : ExprKind) (node : ℕ) (here : Here) where
  runs : (l : ExprKind-F ExprKind Arm Bind Expr FieldExpr) (v : ExprKind) → k ≡ v → roll-ExprKind l ≡ v → kind_run s k node here ≡ at_place s (step Event s (meant s l) node).run here
  runs l v is rolls = ap (λ m. at_place s m.run here) (kind_is s k node l v is rolls)

  -- ---- with one part that takes the place of the whole, or with a region

  pub run_exclave : (a : Expr) → k ≡ E.Exclave a → kind_run s k node here ≡ at_place s (m.exclave Event s (evaluate Event s a)) here
  run_exclave a is = runs (e.Exclave a) _ is (E.rolls-Exclave a)

  pub run_paren : (a : Expr) → k ≡ E.Paren a → kind_run s k node here ≡ evaluated s a here
  run_paren a is = runs (e.Paren a) _ is (E.rolls-Paren a)

  pub run_typed : (a : Expr) (ty : TyExpr) → k ≡ E.Typed a ty → kind_run s k node here ≡ evaluated s a here
  run_typed a ty is = runs (e.Typed a ty) _ is (E.rolls-Typed a ty)

  pub run_borrow : (name other : Span) (body : Expr) → k ≡ E.Borrow name other body → kind_run s k node here ≡ borrow_run s node body here
  run_borrow name other body is = runs (e.Borrow name other body) _ is (E.rolls-Borrow name other body)

  pub run_overwrite : (name : Span) (a : Expr) → k ≡ E.Overwrite name a → kind_run s k node here ≡ at_place s (m.overwritten Event s node (expr_meaning Event s a).form) here
  run_overwrite name a is = runs (e.Overwrite name a) _ is (E.rolls-Overwrite name a)

  -- ---- with one part first

  pub run_field : (a : Expr) (name : Span) → k ≡ E.Field a name → kind_run s k node here ≡ followed (inner_run s a here) (then_run s (then.Project (field_place s.names node)) here)
  run_field a name is = runs (e.Field a name) _ is (E.rolls-Field a name)

  pub run_minus : (a : Expr) → k ≡ E.Minus a → kind_run s k node here ≡ followed (inner_run s a here) (then_run s then.Negate here)
  run_minus a is = runs (e.Minus a) _ is (E.rolls-Minus a)

  pub run_worded : (words : Words) (a : Expr) → k ≡ E.Worded words a → kind_run s k node here ≡ followed (inner_run s a here) (then_run s then.Finish here)
  run_worded words a is = runs (e.Worded words a) _ is (E.rolls-Worded words a)

  pub run_if : (a b other : Expr) → k ≡ E.If a b (Some other) → kind_run s k node here ≡ followed (inner_run s a here) (λ v. branch v (evaluated s b here) (evaluated s other here))
  run_if a b other is = runs (e.If a b (Some other)) _ is (E.rolls-If a b (Some other))

  pub run_if_alone : (a b : Expr) → k ≡ E.If a b None → kind_run s k node here ≡ followed (inner_run s a here) (λ v. branch v (evaluated s b here) (finish Event s (mode_of here.mode) unit_value))
  run_if_alone a b is = runs (e.If a b None) _ is (E.rolls-If a b None)

  pub run_match : (a : Expr) (arms : List Arm) → k ≡ E.Match a arms → kind_run s k node here ≡ followed (inner_run s a here) (m.choose Event s (map (arm_meaning Event s) arms) (calls_of s here) (mode_of here.mode) (names here.env))
  run_match a arms is = runs (e.Match a arms) _ is (E.rolls-Match a arms)

  -- ---- with several parts first

  pub run_cons : (a b : Expr) → k ≡ E.Cons a b → kind_run s k node here ≡ all_run s here (evaluate Event s a ∷ (evaluate Event s b ∷ [])) (finish_run s (last.Build node 1) here)
  run_cons a b is = runs (e.Cons a b) _ is (E.rolls-Cons a b)

  pub run_tuple : (es : List Expr) → k ≡ E.Tuple es → kind_run s k node here ≡ all_run s here (map (evaluate Event s) es) (finish_run s (last.Build node 0) here)
  run_tuple es is =
      runs (e.Tuple es) _ is (E.rolls-Tuple es)
      ∙ ap (λ ms. all_run s here ms (finish_run s (last.Build node 0) here)) (runs_of s es)

  pub run_fields : (fs : List FieldExpr) → k ≡ E.Fields fs → kind_run s k node here ≡ all_run s here (map (λ f. evaluate Event s f.expr) fs) (record_run s node fs here)
  run_fields fs is =
      runs (e.Fields fs) _ is (E.rolls-Fields fs)
      ∙ (ap (λ ps. all_run s here (map (λ f. f.1) ps) (λ vs. m.arranged Event s ps vs >>= λ us. m.block Event s node (Some 0) us >>= finish Event s (mode_of here.mode))) (map_same (field_meaning s) (field_part s) (field_is s) fs)
      ∙ ap (λ ms. all_run s here ms (record_run s node fs here)) (map-map (λ p. p.1) (field_part s) fs))

  pub run_index : (a b : Expr) → k ≡ E.Index a b → kind_run s k node here ≡ all_run s here (evaluate Event s a ∷ (evaluate Event s b ∷ [])) (finish_run s (last.Operate node operation.StringGet) here)
  run_index a b is =
      runs (e.Index a b) _ is (E.rolls-Index a b)
      ∙ after_two (inner_run s b here) (inner_run s a here)
      (λ vs. operate Event s (Some node) operation.StringGet vs >>= finish Event s (mode_of here.mode))
      (finish_run s (last.Operate node operation.StringGet) here)
      (λ x y. refl)

  pub run_let : (recursive : Bool) (bs : List Bind) (body : Expr) → k ≡ E.Let recursive bs body → kind_run s k node here ≡ all_run s here (map (bind_value s) bs) (bound_run s bs body here)
  run_let recursive bs body is =
      runs (e.Let recursive bs body) _ is (E.rolls-Let recursive bs body)
      ∙ (ap (λ ms. all_run s here ms (λ vs. m.matched Event s (all_fit (map (λ b. b.fits) (map (bind_meaning Event s) bs)) vs) (λ xs. evaluate Event s body (calls_of s here) (mode_of here.mode) (xs ++ names here.env)))) (map-map (λ b. b.value) (bind_meaning Event s) bs)
      ∙ ap (λ fs. all_run s here (map (bind_value s) bs) (λ vs. m.matched Event s (all_fit fs vs) (λ xs. evaluate Event s body (calls_of s here) (mode_of here.mode) (xs ++ names here.env)))) (map-map (λ b. b.fits) (bind_meaning Event s) bs ∙ map_same (λ b. (bind_meaning Event s b).fits) (λ b. fits s.names b.pat) (bind_fits s) bs))

  pub run_apply : (f : Expr) (es : List Expr) → k ≡ E.Apply f es → kind_run s k node here ≡ application_run s node f es here
  run_apply f es is =
      runs (e.Apply f es) _ is (E.rolls-Apply f es)
      ∙ ap (λ ms. at_place s (m.application Event s node (expr_meaning Event s f) ms) here) (runs_of s es)

  -- ---- one after the other

  chain_is : (ms : List (Meaning Event)) → m.chain Event s node ms (calls_of s here) (names here.env) ≡ chain_onto s node ms here empty_list
  chain_is [] = refl
  chain_is (a ∷ ms) = ap (λ r. r >>= λ more. a (calls_of s here) Inner (names here.env) >>= λ head. Done (made Event s node 3) (cell head more)) (chain_is ms)

  pub run_list : (es : List Expr) → k ≡ E.List es → kind_run s k node here ≡ chain_run s node es (length es) empty_list here
  run_list es is =
      runs (e.List es) _ is (E.rolls-List es)
      ∙ (ap (λ ms. m.chain Event s node ms (calls_of s here) (names here.env) >>= finish Event s (mode_of here.mode)) (runs_of s es)
      ∙ (ap (λ r. r >>= finish Event s (mode_of here.mode)) (chain_is (map (evaluate Event s) es))
      ∙ ap (λ ms. chain_onto s node ms here empty_list >>= finish Event s (mode_of here.mode)) (sym (take_all_of (evaluate Event s) es))))

  pub run_sequence : (es : List Expr) → k ≡ E.Seq es → kind_run s k node here ≡ sequence_run s es 0 here
  run_sequence es is =
      runs (e.Seq es) _ is (E.rolls-Seq es)
      ∙ ap (λ ms. at_place s (m.sequence Event s ms) here) (runs_of s es)

module _ (s : Setting Event) where
  -- ---- where more than the value counts

  pub form_at : (x : Expr) (l : ExprKind-F ExprKind Arm Bind Expr FieldExpr) (v : ExprKind) → (out-Expr x).kind ≡ v → roll-ExprKind l ≡ v → (expr_meaning Event s x).form ≡ (step Event s (meant s l) (out-Expr x).id).form
  form_at x l v is rolls = form_is s x ∙ ap (λ m. m.form) (kind_is s (out-Expr x).kind (out-Expr x).id l v is rolls)

  pub tuple_parts : (x : Expr) (es : List Expr) → (out-Expr x).kind ≡ E.Tuple es → several (expr_meaning Event s x) ≡ Some (map (evaluate Event s) es)
  tuple_parts x es is =
      ap several_of (form_at x (e.Tuple es) _ is (E.rolls-Tuple es))
      ∙ ap (λ ms. Some ms) (runs_of s es)

  fields_or_one : (form : Form (Meaning Event)) (run : Meaning Event) → None ≡ several_of form → elim (form) [ Several ms ↦ ms | _ ↦ run ∷ [] ] ≡ run ∷ []
  fields_or_one Ordinary run is = refl
  fields_or_one (Named o) run is = refl
  fields_or_one (Several ms) run is = cc
  fields_or_one (Builds place ms) run is = refl

  -- what is no tuple is the one field
  pub one_field : (a : ExprMeaning Event) (count : ℕ) → None ≡ several a → a.run ∷ [] ≡ m.fields_of Event s count a
  one_field a zero is = sym (fields_or_one a.form a.run is)
  one_field a (suc zero) is = refl
  one_field a (suc (suc n)) is = sym (fields_or_one a.form a.run is)

use Rattle.std.proofs.Common.{◌≡◌, ℕ, List, [], ◌∷◌, map, Option, Some, None, refl, sym, subst}
use Rattle.ml_tree.specs.declared.expr.Expr.{Expr, ind-Expr, fold-roll-Expr, map-Expr, roll-Expr}
use Rattle.ml_tree.specs.declared.reference.Op.TheVariants as operation
use Rattle.ml_tree.specs.declared.pattern.Pat.{Pat}
use Rattle.ml_tree.specs.declared.pattern.Param.{Param}
use Rattle.ml_tree.specs.declared.types.TyExpr.{TyExpr}
use Rattle.ml_tree.specs.declared.reference.Ref.{Ref}
use Rattle.ml_tree.specs.declared.reference.Ref.TheVariants as ref
use Rattle.ml_tree.specs.declared.expr.Arm.{Arm, ind-Arm, fold-roll-Arm, map-Arm, roll-Arm}
use Rattle.ml_tree.specs.declared.expr.Bind.{Bind, ind-Bind, fold-roll-Bind, map-Bind, roll-Bind}
use Rattle.ml_tree.specs.declared.expr.FieldExpr.{FieldExpr, fold-FieldExpr, fold-roll-FieldExpr, map-FieldExpr, roll-FieldExpr}
use Rattle.ml_tree.specs.declared.expr.ExprKind.{ExprKind, fold-ExprKind, fold-roll-ExprKind, map-ExprKind, roll-ExprKind}
use Rattle.ml_tree.specs.declared.expr.ExprKind.TheOpen as e
use Rattle.ml_tree.specs.declared.expr.ExprKind.TheOpen.{ExprKind-F, Arm-F, Bind-F, Expr-F, FieldExpr-F}
use Rattle.ml_meaning.specs.Runs.{◌>>=◌}
use Rattle.ml_meaning.specs.Values.{unit_value}
use Rattle.ml_meaning.specs.Patterns.{all_fit}
use Rattle.ml_meaning.specs.Tellings.{Setting, Inner, Meaning, or_stuck, finish, named}
use Rattle.ml_meaning.specs.Evaluation.{Form, Ordinary, Named, Several, Builds, ExprMeaning, ArmMeaning, BindMeaning, step, plain, inside, operation_named, field_count, arranged, block}
use Rattle.ml_meaning.specs.Operations.{operate}
use Rattle.ml_meaning.specs.Programs.{arm_step, bind_step, expr_step, field_step, expr_meaning, arm_meaning, bind_meaning}
use Rattle.ml_meaning.proofs.Rising.{goes_same, goes_after, goes_bind}
use Rattle.ml_meaning.proofs.Steady.{Goes, AllGo, AllArmsGo, FormGoes, ExprGoes, ArmGoes, goes_branch, goes_sequence, goes_application, goes_choose, goes_building, goes_fields, goes_binary, goes_exclave, goes_overwritten, goes_then, goes_closure, goes_values_then, goes_chain_then, goes_let, goes_borrow}

module _ (E : Type 0) (s : Setting E) where
  abbrev kind_meaning : ExprKind → ℕ → ExprMeaning E
  kind_meaning k = fold-ExprKind (ℕ → ExprMeaning E) (ArmMeaning E) (BindMeaning E) (ExprMeaning E) (ℕ × Meaning E) (step E s) (arm_step E s) (bind_step E s) (expr_step E s) (field_step E s) k

  abbrev field_meaning : FieldExpr → ℕ × Meaning E
  field_meaning k = fold-FieldExpr (ℕ → ExprMeaning E) (ArmMeaning E) (BindMeaning E) (ExprMeaning E) (ℕ × Meaning E) (step E s) (arm_step E s) (bind_step E s) (expr_step E s) (field_step E s) k

  abbrev KindPart : Type 0
  KindPart = (k : ExprKind) × ((node : ℕ) → ExprGoes E (kind_meaning k node))

  abbrev ArmPart : Type 0
  ArmPart = (a : Arm) × ArmGoes E (arm_meaning E s a)

  abbrev BindPart : Type 0
  BindPart = (b : Bind) × Goes E (bind_meaning E s b).value

  abbrev ExprPart : Type 0
  ExprPart = (x : Expr) × ExprGoes E (expr_meaning E s x)

  abbrev FieldPart : Type 0
  FieldPart = (f : FieldExpr) × Goes E (field_meaning f).1

  abbrev layer : ExprKind-F KindPart ArmPart BindPart ExprPart FieldPart → ExprKind-F ExprKind Arm Bind Expr FieldExpr
  layer y = map-ExprKind KindPart ArmPart BindPart ExprPart FieldPart ExprKind Arm Bind Expr FieldExpr (λ q. q.0) (λ q. q.0) (λ q. q.0) (λ q. q.0) (λ q. q.0) y

  abbrev meant : ExprKind-F ExprKind Arm Bind Expr FieldExpr → ExprKind-F (ℕ → ExprMeaning E) (ArmMeaning E) (BindMeaning E) (ExprMeaning E) (ℕ × Meaning E)
  meant l = map-ExprKind ExprKind Arm Bind Expr FieldExpr (ℕ → ExprMeaning E) (ArmMeaning E) (BindMeaning E) (ExprMeaning E) (ℕ × Meaning E) kind_meaning (arm_meaning E s) (bind_meaning E s) (expr_meaning E s) field_meaning l

  abbrev arm_layer : Arm-F KindPart ArmPart BindPart ExprPart FieldPart → Arm-F ExprKind Arm Bind Expr FieldExpr
  arm_layer y = map-Arm KindPart ArmPart BindPart ExprPart FieldPart ExprKind Arm Bind Expr FieldExpr (λ q. q.0) (λ q. q.0) (λ q. q.0) (λ q. q.0) (λ q. q.0) y

  abbrev meant_arm : Arm-F ExprKind Arm Bind Expr FieldExpr → Arm-F (ℕ → ExprMeaning E) (ArmMeaning E) (BindMeaning E) (ExprMeaning E) (ℕ × Meaning E)
  meant_arm l = map-Arm ExprKind Arm Bind Expr FieldExpr (ℕ → ExprMeaning E) (ArmMeaning E) (BindMeaning E) (ExprMeaning E) (ℕ × Meaning E) kind_meaning (arm_meaning E s) (bind_meaning E s) (expr_meaning E s) field_meaning l

  abbrev bind_layer : Bind-F KindPart ArmPart BindPart ExprPart FieldPart → Bind-F ExprKind Arm Bind Expr FieldExpr
  bind_layer y = map-Bind KindPart ArmPart BindPart ExprPart FieldPart ExprKind Arm Bind Expr FieldExpr (λ q. q.0) (λ q. q.0) (λ q. q.0) (λ q. q.0) (λ q. q.0) y

  abbrev meant_bind : Bind-F ExprKind Arm Bind Expr FieldExpr → Bind-F (ℕ → ExprMeaning E) (ArmMeaning E) (BindMeaning E) (ExprMeaning E) (ℕ × Meaning E)
  meant_bind l = map-Bind ExprKind Arm Bind Expr FieldExpr (ℕ → ExprMeaning E) (ArmMeaning E) (BindMeaning E) (ExprMeaning E) (ℕ × Meaning E) kind_meaning (arm_meaning E s) (bind_meaning E s) (expr_meaning E s) field_meaning l

  abbrev expr_layer : Expr-F KindPart ArmPart BindPart ExprPart FieldPart → Expr-F ExprKind Arm Bind Expr FieldExpr
  expr_layer y = map-Expr KindPart ArmPart BindPart ExprPart FieldPart ExprKind Arm Bind Expr FieldExpr (λ q. q.0) (λ q. q.0) (λ q. q.0) (λ q. q.0) (λ q. q.0) y

  abbrev meant_expr : Expr-F ExprKind Arm Bind Expr FieldExpr → Expr-F (ℕ → ExprMeaning E) (ArmMeaning E) (BindMeaning E) (ExprMeaning E) (ℕ × Meaning E)
  meant_expr l = map-Expr ExprKind Arm Bind Expr FieldExpr (ℕ → ExprMeaning E) (ArmMeaning E) (BindMeaning E) (ExprMeaning E) (ℕ × Meaning E) kind_meaning (arm_meaning E s) (bind_meaning E s) (expr_meaning E s) field_meaning l

  abbrev field_layer : FieldExpr-F KindPart ArmPart BindPart ExprPart FieldPart → FieldExpr-F ExprKind Arm Bind Expr FieldExpr
  field_layer y = map-FieldExpr KindPart ArmPart BindPart ExprPart FieldPart ExprKind Arm Bind Expr FieldExpr (λ q. q.0) (λ q. q.0) (λ q. q.0) (λ q. q.0) (λ q. q.0) y

  abbrev meant_field : FieldExpr-F ExprKind Arm Bind Expr FieldExpr → FieldExpr-F (ℕ → ExprMeaning E) (ArmMeaning E) (BindMeaning E) (ExprMeaning E) (ℕ × Meaning E)
  meant_field l = map-FieldExpr ExprKind Arm Bind Expr FieldExpr (ℕ → ExprMeaning E) (ArmMeaning E) (BindMeaning E) (ExprMeaning E) (ℕ × Meaning E) kind_meaning (arm_meaning E s) (bind_meaning E s) (expr_meaning E s) field_meaning l

  abbrev run_of : ExprPart → Meaning E
  run_of q = (expr_meaning E s q.0).run

  goes_plain : (m : Meaning E) → Goes E m → ExprGoes E (plain E s m)
  goes_plain m g = record { form = tt; run = g }

  parts_go : (es : List ExprPart) → AllGo E (map (λ a. a.run) (map (expr_meaning E s) (map (λ q. q.0) es)))
  parts_go [] = tt
  parts_go (q ∷ qs) = (q.1.run, parts_go qs)

  fields_go : (fs : List FieldPart) → AllGo E (map (λ f. f.1) (map field_meaning (map (λ q. q.0) fs)))
  fields_go [] = tt
  fields_go (q ∷ qs) = (q.1, fields_go qs)

  binds_go : (bs : List BindPart) → AllGo E (map (λ b. b.value) (map (bind_meaning E s) (map (λ q. q.0) bs)))
  binds_go [] = tt
  binds_go (q ∷ qs) = (q.1, binds_go qs)

  arms_go : (arms : List ArmPart) → AllArmsGo E (map (arm_meaning E s) (map (λ q. q.0) arms))
  arms_go [] = tt
  arms_go (q ∷ qs) = (q.1, arms_go qs)

  goes_inside : (form : Form (Meaning E)) → FormGoes E form → FormGoes E (inside form)
  goes_inside Ordinary g = tt
  goes_inside (Named o) g = tt
  goes_inside (Several ms) g = g
  goes_inside (Builds place ms) g = g

  goes_name : (r : Option Ref) → FormGoes E (operation_named r)
  goes_name None = tt
  goes_name (Some (ref.Top n)) = tt
  goes_name (Some (ref.Local n)) = tt
  goes_name (Some (ref.Operation o)) = tt
  goes_name (Some (ref.Con decl place)) = tt
  goes_name (Some (ref.Field decl place)) = tt
  goes_name (Some (ref.Decl decl)) = tt

  named_goes : (node : ℕ) → ExprGoes E (record { form = operation_named (s.names node); run = λ c mode env. or_stuck (named E s (s.names node) env) >>= finish E s mode })
  named_goes node = record { form = goes_name (s.names node); run = record { by = λ c d h mode env. goes_same _ } }

  kind_goes : (y : ExprKind-F KindPart ArmPart BindPart ExprPart FieldPart) (node : ℕ) → ExprGoes E (step E s (meant (layer y)) node)
  kind_goes (e.Int z) node = goes_plain _ (record { by = λ c d h mode env. refl })
  kind_goes (e.Char byte) node = goes_plain _ (record { by = λ c d h mode env. refl })
  kind_goes (e.Text lit) node = goes_plain _ (record { by = λ c d h mode env. refl })
  kind_goes (e.Name name) node = named_goes node
  kind_goes (e.Path name part) node = named_goes node
  kind_goes (e.Con name None) node = goes_plain _ (record { by = λ c d h mode env. goes_same _ })
  kind_goes (e.Con name (Some a)) node =
      goes_building E s node _ _ (goes_fields E s (field_count E s (s.names node)) (expr_meaning E s a.0).form (expr_meaning E s a.0).run a.1.form a.1.run)
  kind_goes (e.Cons a b) node = goes_building E s node (Some 1) _ (a.1.run, (b.1.run, tt))
  kind_goes (e.Tuple es) node =
      record { form = parts_go es; run = (goes_building E s node (Some 0) _ (parts_go es)).run }
  kind_goes (e.List es) node = goes_plain _ (goes_chain_then E s node (map (λ a. a.run) (map (expr_meaning E s) (map (λ q. q.0) es))) (λ mode env v. finish E s mode v) (parts_go es))
  kind_goes (e.Fields fs) node = goes_plain _ (goes_values_then E s (map (λ f. f.1) (map field_meaning (map (λ q. q.0) fs))) (λ mode env vs. arranged E s (map field_meaning (map (λ q. q.0) fs)) vs >>= λ us. block E s node (Some 0) us >>= finish E s mode) (fields_go fs))
  kind_goes (e.Field a name) node = goes_plain _ (goes_then E s (run_of a) _ a.1.run)
  kind_goes (e.Index a b) node = goes_plain _ (goes_values_then E s (run_of a ∷ (run_of b ∷ [])) (λ mode env vs. operate E s (Some node) operation.StringGet vs >>= finish E s mode) (a.1.run, (b.1.run, tt)))
  kind_goes (e.Apply f es) node = goes_plain _ (goes_application E s node (expr_meaning E s f.0).form (expr_meaning E s f.0).run _ f.1.run (parts_go es))
  kind_goes (e.Binary o a b) node = goes_plain _ (goes_binary E s node o (run_of a) (run_of b) a.1.run b.1.run)
  kind_goes (e.Minus a) node = goes_plain _ (goes_then E s (run_of a) _ a.1.run)
  kind_goes (e.If a b None) node = goes_plain _ (record {
    by = λ c d h mode env.
        goes_bind (run_of a c Inner env) (run_of a d Inner env) _ _ (a.1.run.by c d h Inner env)
        (λ t. goes_branch t (run_of b c mode env) (run_of b d mode env) _ _ (b.1.run.by c d h mode env) (goes_same (finish E s mode unit_value)));
  })
  kind_goes (e.If a b (Some other)) node = goes_plain _ (record {
    by = λ c d h mode env.
        goes_bind (run_of a c Inner env) (run_of a d Inner env) _ _ (a.1.run.by c d h Inner env)
        (λ t. goes_branch t (run_of b c mode env) (run_of b d mode env) (run_of other c mode env) (run_of other d mode env) (b.1.run.by c d h mode env) (other.1.run.by c d h mode env));
  })
  kind_goes (e.Let recursive binds body) node = goes_plain _ (goes_let E s (map (λ b. b.value) (map (bind_meaning E s) (map (λ q. q.0) binds))) (λ vs. all_fit (map (λ b. b.fits) (map (bind_meaning E s) (map (λ q. q.0) binds))) vs) (run_of body) (binds_go binds) body.1.run)
  kind_goes (e.Seq es) node = goes_plain _ (goes_sequence E s _ (parts_go es))
  kind_goes (e.Match a arms) node = goes_plain _ (record {
    by = λ c d h mode env.
        goes_bind (run_of a c Inner env) (run_of a d Inner env) _ _ (a.1.run.by c d h Inner env)
        (λ v. goes_choose E s _ (arms_go arms) c d h mode env v);
  })
  kind_goes (e.Fun params body) node = goes_plain _ (goes_closure E s node)
  kind_goes (e.Function arms) node = goes_plain _ (goes_closure E s node)
  kind_goes (e.Paren a) node = record { form = goes_inside _ a.1.form; run = a.1.run }
  kind_goes (e.Typed a ty) node = goes_plain _ a.1.run
  kind_goes (e.Worded words a) node = goes_plain _ (goes_then E s (run_of a) _ a.1.run)
  kind_goes (e.Exclave a) node = goes_plain _ (goes_exclave E s (run_of a) a.1.run)
  kind_goes (e.Borrow name of body) node = goes_plain _ (goes_borrow E s (λ env. named E s (s.names node) env) node (run_of body) body.1.run)
  kind_goes (e.Overwrite name a) node = goes_plain _ (goes_overwritten E s node (expr_meaning E s a.0).form a.1.form)

  arm_goes : (pat : Pat) (guard : Option ExprPart) (body : ExprPart) → ArmGoes E (arm_step E s (meant_arm (arm_layer (record { pat = pat; guard = guard; body = body }))))
  arm_goes pat None body = record { guard = tt; body = body.1.run }
  arm_goes pat (Some g) body = record { guard = g.1.run; body = body.1.run }

  bind_goes : (pat : Pat) (params : List Param) (result : Option TyExpr) (body : ExprPart) → Goes E (bind_step E s (meant_bind (bind_layer (record { pat = pat; params = params; result = result; body = body })))).value
  bind_goes pat [] result body = body.1.run
  bind_goes pat (q ∷ qs) result body = goes_closure E s pat.id

  expr_goes : (y : Expr-F KindPart ArmPart BindPart ExprPart FieldPart) → ExprGoes E (expr_step E s (meant_expr (expr_layer y)))
  expr_goes y = record { form = (y.kind.1 y.id).form; run = record { by = λ c d h mode env. goes_after s.visit _ _ ((y.kind.1 y.id).run.by c d h mode env) } }

  -- one case of the induction for each kind of part
  kind_case : (l : ExprKind-F ExprKind Arm Bind Expr FieldExpr) (y : ExprKind-F KindPart ArmPart BindPart ExprPart FieldPart) → layer y ≡ l → (node : ℕ) → ExprGoes E (kind_meaning (roll-ExprKind l) node)
  kind_case l y same node =
      subst (λ m. ExprGoes E (m node)) (sym (fold-roll-ExprKind (ℕ → ExprMeaning E) (ArmMeaning E) (BindMeaning E) (ExprMeaning E) (ℕ × Meaning E) (step E s) (arm_step E s) (bind_step E s) (expr_step E s) (field_step E s) l))
      (subst (λ l. ExprGoes E (step E s (meant l) node)) same (kind_goes y node))

  arm_case : (l : Arm-F ExprKind Arm Bind Expr FieldExpr) (y : Arm-F KindPart ArmPart BindPart ExprPart FieldPart) → arm_layer y ≡ l → ArmGoes E (arm_meaning E s (roll-Arm l))
  arm_case l y same =
      subst (ArmGoes E) (sym (fold-roll-Arm (ℕ → ExprMeaning E) (ArmMeaning E) (BindMeaning E) (ExprMeaning E) (ℕ × Meaning E) (step E s) (arm_step E s) (bind_step E s) (expr_step E s) (field_step E s) l))
      (subst (λ l. ArmGoes E (arm_step E s (meant_arm l))) same (arm_goes y.pat y.guard y.body))

  bind_case : (l : Bind-F ExprKind Arm Bind Expr FieldExpr) (y : Bind-F KindPart ArmPart BindPart ExprPart FieldPart) → bind_layer y ≡ l → Goes E (bind_meaning E s (roll-Bind l)).value
  bind_case l y same =
      subst (λ b. Goes E b.value) (sym (fold-roll-Bind (ℕ → ExprMeaning E) (ArmMeaning E) (BindMeaning E) (ExprMeaning E) (ℕ × Meaning E) (step E s) (arm_step E s) (bind_step E s) (expr_step E s) (field_step E s) l))
      (subst (λ l. Goes E (bind_step E s (meant_bind l)).value) same (bind_goes y.pat y.params y.result y.body))

  expr_case : (l : Expr-F ExprKind Arm Bind Expr FieldExpr) (y : Expr-F KindPart ArmPart BindPart ExprPart FieldPart) → expr_layer y ≡ l → ExprGoes E (expr_meaning E s (roll-Expr l))
  expr_case l y same =
      subst (ExprGoes E) (sym (fold-roll-Expr (ℕ → ExprMeaning E) (ArmMeaning E) (BindMeaning E) (ExprMeaning E) (ℕ × Meaning E) (step E s) (arm_step E s) (bind_step E s) (expr_step E s) (field_step E s) l))
      (subst (λ l. ExprGoes E (expr_step E s (meant_expr l))) same (expr_goes y))

  field_case : (l : FieldExpr-F ExprKind Arm Bind Expr FieldExpr) (y : FieldExpr-F KindPart ArmPart BindPart ExprPart FieldPart) → field_layer y ≡ l → Goes E (field_meaning (roll-FieldExpr l)).1
  field_case l y same =
      subst (λ f. Goes E f.1) (sym (fold-roll-FieldExpr (ℕ → ExprMeaning E) (ArmMeaning E) (BindMeaning E) (ExprMeaning E) (ℕ × Meaning E) (step E s) (arm_step E s) (bind_step E s) (expr_step E s) (field_step E s) l))
      (subst (λ l. Goes E (field_step E s (meant_field l)).1) same y.expr.1.run)

  -- every expression, arm and binding is steady
  pub expr_is_steady : (x : Expr) → ExprGoes E (expr_meaning E s x)
  expr_is_steady x = ind-Expr (λ k. (node : ℕ) → ExprGoes E (kind_meaning k node)) (λ a. ArmGoes E (arm_meaning E s a)) (λ b. Goes E (bind_meaning E s b).value) (λ y. ExprGoes E (expr_meaning E s y)) (λ f. Goes E (field_meaning f).1) kind_case arm_case bind_case expr_case field_case x

  pub arm_is_steady : (a : Arm) → ArmGoes E (arm_meaning E s a)
  arm_is_steady a = ind-Arm (λ k. (node : ℕ) → ExprGoes E (kind_meaning k node)) (λ a. ArmGoes E (arm_meaning E s a)) (λ b. Goes E (bind_meaning E s b).value) (λ y. ExprGoes E (expr_meaning E s y)) (λ f. Goes E (field_meaning f).1) kind_case arm_case bind_case expr_case field_case a

  pub bind_is_steady : (b : Bind) → Goes E (bind_meaning E s b).value
  bind_is_steady b = ind-Bind (λ k. (node : ℕ) → ExprGoes E (kind_meaning k node)) (λ a. ArmGoes E (arm_meaning E s a)) (λ b. Goes E (bind_meaning E s b).value) (λ y. ExprGoes E (expr_meaning E s y)) (λ f. Goes E (field_meaning f).1) kind_case arm_case bind_case expr_case field_case b

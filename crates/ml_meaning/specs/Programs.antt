-- What a program means at some fuel: its items in order, the calls that they make, and how it ends.
-- The body of a call has one unit of fuel less than the call, and calls one after the other share
-- theirs. A call without fuel ends the run before its entry is told.
use Rattle.std.specs.Prelude.{ℕ, zero, suc, ◌-◌, sum, List, [], ◌∷◌, ◌++◌, length, map, Option, Some, None, slice_get, nat_lt, ◌==◌, if◌then◌else◌}
use Rattle.std.specs.List.{flat_map}
use Rattle.ml_tree.specs.declared.types.Decl.{Decl}
use Rattle.ml_tree.specs.declared.types.ConDecl.{ConDecl}
use Rattle.ml_tree.specs.declared.types.DeclBody.{DeclBody}
use Rattle.ml_tree.specs.declared.types.DeclBody.TheVariants as declared
use Rattle.ml_tree.specs.declared.expr.Expr.{Expr, fold-Expr}
use Rattle.ml_tree.specs.declared.expr.Arm.{Arm, fold-Arm}
use Rattle.ml_tree.specs.declared.expr.Bind.{Bind, fold-Bind}
use Rattle.ml_tree.specs.declared.program.Item.{Item}
use Rattle.ml_tree.specs.declared.program.ItemKind.{ItemKind}
use Rattle.ml_tree.specs.declared.program.ItemKind.TheVariants as item
use Rattle.ml_tree.specs.declared.scoped.Scoped.{Scoped}
use Rattle.ml_tree.specs.declared.expr.ExprKind.TheOpen.{Arm-F, Bind-F, Expr-F, FieldExpr-F}
use Rattle.ml_meaning.specs.declared.event.Event.{Event}
use Rattle.ml_meaning.specs.declared.event.Event.TheVariants as event
use Rattle.ml_meaning.specs.declared.event.Ending.TheVariants as ending
use Rattle.ml_meaning.specs.Values.{Value, Function, Code, Source, Primitive, no_values, packed}
use Rattle.ml_meaning.specs.Names.{lookup}
use Rattle.ml_meaning.specs.Patterns.{Env, fits, all_fit}
use Rattle.ml_meaning.specs.Functions.{FunctionCode, Body, Single, Cases, functions_of}
use Rattle.ml_meaning.specs.Weights.{expressions_of_bind, weight}
use Rattle.ml_meaning.specs.Runs.{Run, Done, Stop, Stopped, Ended, Stuck, after, ◌>>=◌}
use Rattle.ml_meaning.specs.Tellings.{Setting, Last, Call, Meaning, NoMatch, or_stuck, fail, finish}
use Rattle.ml_meaning.specs.Operations.{operate}
use Rattle.ml_meaning.specs.Evaluation.{ExprMeaning, ArmMeaning, BindMeaning, step, closure, values, matched, choose}

module _ (E : Type 0) (s : Setting E) where
  -- ---- the meaning of a tree, by its layers

  abbrev pub guard_run : Option (ExprMeaning E) → Option (Meaning E)
  guard_run None = None
  guard_run (Some g) = Some g.run

  abbrev pub arm_step : Arm-F (ℕ → ExprMeaning E) (ArmMeaning E) (BindMeaning E) (ExprMeaning E) (ℕ × Meaning E) → ArmMeaning E
  arm_step a = record { fits = fits s.names a.pat; guard = guard_run a.guard; body = a.body.run }

  -- a binding with parameters is a function at the node of its pattern
  abbrev pub bind_step : Bind-F (ℕ → ExprMeaning E) (ArmMeaning E) (BindMeaning E) (ExprMeaning E) (ℕ × Meaning E) → BindMeaning E
  bind_step b = record {
    fits = fits s.names b.pat;
    value = elim (b.params) [ [] ↦ b.body.run | q ∷ qs ↦ closure E s b.pat.id ];
  }

  abbrev pub expr_step : Expr-F (ℕ → ExprMeaning E) (ArmMeaning E) (BindMeaning E) (ExprMeaning E) (ℕ × Meaning E) → ExprMeaning E
  expr_step x = let m = x.kind x.id in record { form = m.form; run = λ c mode env. after s.visit (m.run c mode env) }

  abbrev pub field_step : FieldExpr-F (ℕ → ExprMeaning E) (ArmMeaning E) (BindMeaning E) (ExprMeaning E) (ℕ × Meaning E) → ℕ × Meaning E
  field_step f = (f.id, f.expr.run)

  abbrev pub expr_meaning : Expr → ExprMeaning E
  expr_meaning x = fold-Expr (ℕ → ExprMeaning E) (ArmMeaning E) (BindMeaning E) (ExprMeaning E) (ℕ × Meaning E) (step E s) arm_step bind_step expr_step field_step x

  abbrev pub arm_meaning : Arm → ArmMeaning E
  arm_meaning a = fold-Arm (ℕ → ExprMeaning E) (ArmMeaning E) (BindMeaning E) (ExprMeaning E) (ℕ × Meaning E) (step E s) arm_step bind_step expr_step field_step a

  abbrev pub bind_meaning : Bind → BindMeaning E
  bind_meaning b = fold-Bind (ℕ → ExprMeaning E) (ArmMeaning E) (BindMeaning E) (ExprMeaning E) (ℕ × Meaning E) (step E s) arm_step bind_step expr_step field_step b

  abbrev pub evaluate : Expr → Meaning E
  evaluate x = (expr_meaning x).run

  -- ---- calls

  -- a recursive function's own name stands for the function as it was made
  abbrev pub own_name : Option ℕ → Value → Env
  own_name None f = []
  own_name (Some n) f = (n, f) ∷ []

  -- names that are bound one after the other
  abbrev pub bind_names : List ℕ → List Value → Env → Env
  bind_names (n ∷ ns) (v ∷ vs) env = bind_names ns vs ((n, v) ∷ env)
  bind_names _ _ env = env

  -- parameters are matched left to right after all arguments are there
  abbrev pub body_run : FunctionCode → Call E → Env → Body → List Value → Run E Value
  body_run f c env (Single body) vs =
      matched E s (all_fit (map (λ q. fits s.names q.pat) f.params) vs) (λ xs. evaluate body c (Last f.weight) (xs ++ env))
  body_run f c env (Cases arms) (v ∷ []) = choose E s (map arm_meaning arms) c (Last f.weight) env v
  body_run f c env (Cases arms) _ = Stop [] Stuck

  abbrev pub code_run : Call E → Code → List Value → List Value → Run E Value
  code_run c (Source n) held vs = or_stuck (s.code n) >>= λ f.
      body_run f c (bind_names f.captures held (own_name f.own (Function (Source n) (packed held) no_values))) f.body vs
  code_run c (Primitive o) held vs = operate E s None o vs >>= finish E s (Last 64)

  abbrev pub calls : ℕ → Call E
  calls zero first code held vs = Stop [] (Ended ending.More)
  calls (suc n) first code held vs = after (s.told first ++ s.told event.Open) (code_run (calls n) code held vs)

  -- ---- items

  abbrev pub item_weight : ItemKind → ℕ
  item_weight (item.Types decls) = weight 0
  item_weight (item.Let recursive binds) = weight (sum (map expressions_of_bind binds))

  abbrev pub bound : Option Env → Run E Env
  bound None = fail E s NoMatch
  bound (Some xs) = Done [] xs

  -- the names that an item binds
  abbrev pub item_run : ℕ → ItemKind → Run E Env
  item_run n (item.Types decls) = Done [] []
  item_run n (item.Let recursive binds) =
      values E s (map (λ b. (bind_meaning b).value) binds) (calls n) [] >>= λ vs.
      bound (all_fit (map (λ b. (bind_meaning b).fits) binds) vs)

  abbrev pub item_evaluated : ℕ → ItemKind → Run E Env
  item_evaluated n kind = after (s.told (event.Enter (item_weight kind)) ++ s.told event.Open)
      (item_run n kind >>= λ xs. finish E s (Last (item_weight kind)) xs)

-- ---- programs

abbrev pub declarations_of : ItemKind → List Decl
declarations_of (item.Types decls) = decls
declarations_of (item.Let recursive binds) = []

abbrev pub constructors_of : DeclBody → List ConDecl
constructors_of (declared.Variant cons) = cons
constructors_of _ = []

abbrev pub count_fields : Option ConDecl → ℕ
count_fields None = 0
count_fields (Some con) = length con.args

abbrev pub count_in : Option Decl → ℕ → ℕ
count_in None place = 0
count_in (Some decl) place = count_fields (slice_get (constructors_of decl.body) place)

-- How many fields a constructor has. The written declarations are numbered from 7; of those before,
-- the second constructor of the list, 5, has two and that of the option, 6, has one.
abbrev pub field_total : List Item → ℕ → ℕ → ℕ
field_total items decl place =
    if nat_lt decl 7
    then (if place == 1 then (if decl == 5 then 2 else if decl == 6 then 1 else 0) else 0)
    else count_in (slice_get (flat_map (λ i. declarations_of i.kind) items) (decl - 7)) place

abbrev pub first_pattern : List Bind → ℕ
first_pattern [] = 0
first_pattern (b ∷ bs) = b.pat.id

abbrev pub first_bound : ItemKind → ℕ
first_bound (item.Types decls) = 0
first_bound (item.Let recursive binds) = first_pattern binds

abbrev pub first_binder : Option Item → ℕ
first_binder None = 0
first_binder (Some i) = first_bound i.kind

module _ (E : Type 0) (told : Event → List E) (visit : List E) (program : Scoped) where
  -- what an item is evaluated in; `@` applies the last function of the prelude, the seventh item
  abbrev pub setting : Env → Setting E
  setting tops = record {
    told = told;
    visit = visit;
    names = λ n. lookup n program.refs;
    fields = field_total program.program.items;
    code = λ n. lookup n (functions_of (λ k. lookup k program.refs) program.program.items);
    top = λ n. lookup n tops;
    append = first_binder (slice_get program.program.items 6);
  }

  abbrev pub items_run : ℕ → List Item → Env → Run E Env
  items_run n [] tops = Done [] tops
  items_run n (i ∷ items) tops = item_evaluated E (setting tops) n i.kind >>= λ xs. items_run n items (xs ++ tops)

  abbrev pub program_run : ℕ → Run E Env
  program_run n = items_run n program.program.items []

-- the trace of a program at some fuel, and how it ends: after its last item it exits with 0
abbrev pub answer : {A : Type 0} → Run Event A → List Event × Stopped
answer (Done es a) = (es, Ended (ending.Exit 0))
answer (Stop es end) = (es, end)

abbrev pub eval : ℕ → Scoped → List Event × Stopped
eval n s = answer (program_run Event (λ e. e ∷ []) [] s n)

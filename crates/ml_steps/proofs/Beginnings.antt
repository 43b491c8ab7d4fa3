-- How a step begins: all parts from the last on, a constructor, a region that is closed or opened first.
use Rattle.std.proofs.Common.{◌≡◌, ℕ, List, [], ◌∷◌, ◌++◌, length, take, Some, Result, Ok, Err, IfOk, sym, ap, ◌∙◌, subst, append-nil}
use Rattle.std.proofs.Math.Seq.{take-length}
use Rattle.ml_tree.specs.declared.pattern.ConName.{ConName}
use Rattle.ml_tree.specs.declared.expr.Expr.{Expr}
use Rattle.ml_meaning.specs.declared.event.Event.{Event}
use Rattle.ml_meaning.specs.declared.event.Event.TheVariants as event
use Rattle.ml_meaning.specs.Names.{constructor_place}
use Rattle.ml_meaning.specs.Patterns as p
use Rattle.ml_meaning.specs.Runs.{Run, after, ◌>>=◌}
use Rattle.ml_meaning.specs.Values.{Value, listed}
use Rattle.ml_meaning.specs.Tellings.{Setting, Inner, finish, named, or_stuck}
use Rattle.ml_meaning.specs.Evaluation as m
use Rattle.ml_meaning.specs.Programs.{calls, evaluate, expr_meaning}
use Rattle.ml_values.specs.declared.told.Mode.TheVariants as mode
use Rattle.ml_values.specs.declared.value.Words.TheVariants.{Empty}
use Rattle.ml_values.specs.Shown.{names, values_list}
use Rattle.ml_values.specs.Telling.{closes, mode_of}
use Rattle.ml_values.proofs.Layers.{empty_is}
use Rattle.ml_steps.specs.declared.frame.Finish.{Finish}
use Rattle.ml_steps.specs.declared.frame.Finish.TheVariants as last
use Rattle.ml_steps.specs.declared.frame.Here.{Here}
use Rattle.ml_steps.specs.declared.frame.Parts.{Parts}
use Rattle.ml_steps.specs.declared.frame.Step.{Step}
use Rattle.ml_steps.specs.declared.frame.Then.TheVariants as then
use Rattle.ml_steps.specs.Left.{Steps, all_parts_run, at_place, borrow_run, calls_of, evaluated, finish_run, followed, inner_run, parts_run, parts_runs, step_run, then_run}
use Rattle.ml_steps.proofs.RunsVisits.{after_after, after_none, bind_same}

pub empty_list_is : values_list Empty ≡ []
empty_list_is = ap listed empty_is

module _ (s : Setting Event) (before now : List Event) where
  -- a step for a run is one for each equal run
  pub steps_as : {F : Type 0} (r : Result Step F) (run meant : Run Event Value) → meant ≡ run → Steps s before now r run → Steps s before now r meant
  steps_as r run meant is steps = subst (λ run. Steps s before now r run) (sym is) steps

  -- a step that tells nothing
  pub steps_quietly : {F : Type 0} (r : Result Step F) (run : Run Event Value) → IfOk r (λ step. step_run s step ≡ run) → Steps s before before r run
  steps_quietly (Ok step) run is = ap (after before) (sym is)
  steps_quietly (Err none) run is = is

module _ (s : Setting Event) (here : Here) where
  pub all_parts_are : (ps : Parts) (last : Finish) (left : ℕ) → left ≡ length (parts_runs s ps) → all_parts_run s ps last here ≡ parts_run s ps left (values_list Empty) last here
  all_parts_are ps last left is =
      bind_same (m.values Event s (parts_runs s ps) (calls_of s here) (names here.env)) _ _ (λ us. ap (finish_run s last here) (sym (append-nil us) ∙ ap (λ vs. us ++ vs) (sym empty_list_is)))
      ∙ ap (λ ms. m.values Event s ms (calls_of s here) (names here.env) >>= λ us. finish_run s last here (us ++ values_list Empty)) (sym (ap (λ n. take n (parts_runs s ps)) is ∙ take-length (parts_runs s ps)))

  pub constructed_is : (node : ℕ) (name : ConName) (a : Expr) (place count : ℕ) (ps : Parts) → constructor_place s.names name node ≡ Some place → count ≡ m.field_count Event s (s.names node) → parts_runs s ps ≡ m.fields_of Event s count (expr_meaning Event s a) → at_place s (m.constructed Event s node name (Some (expr_meaning Event s a))).run here ≡ all_parts_run s ps (last.Build node place) here
  constructed_is node name a place count ps at counted parts =
      ap (λ k. m.values Event s (m.fields_of Event s (m.field_count Event s (s.names node)) (expr_meaning Event s a)) (calls_of s here) (names here.env) >>= λ vs. m.block Event s node k vs >>= finish Event s (mode_of here.mode)) at
      ∙ ap (λ ms. m.values Event s ms (calls_of s here) (names here.env) >>= finish_run s (last.Build node place) here) (sym (parts ∙ ap (λ n. m.fields_of Event s n (expr_meaning Event s a)) counted))

  -- the name of a borrow stands for the value in a region of its own
  pub borrow_is : (node : ℕ) (body : Expr) (inner : Here) (v : Value) (before now : List Event) (step : Step) → Some v ≡ named Event s (s.names node) (names here.env) → now ≡ before ++ s.told event.Open → inner.mode ≡ mode.Inner → names inner.env ≡ (node, v) ∷ names here.env → inner.fuel ≡ here.fuel → step_run s step ≡ followed (evaluated s body inner) (then_run s then.Borrow here) → after before (borrow_run s node body here) ≡ after now (step_run s step)
  borrow_is node body inner v before now step found opened at bound fuelled same =
      let rest : p.Env → Run Event Value = λ env. followed (evaluate Event s body (calls_of s here) Inner env) (then_run s then.Borrow here) in
      let inside : evaluated s body inner ≡ evaluate Event s body (calls_of s here) Inner ((node, v) ∷ names here.env) =
      ap (λ n. evaluate Event s body (calls Event s n) (mode_of inner.mode) (names inner.env)) fuelled
      ∙ (ap (λ md. evaluate Event s body (calls_of s here) (mode_of md) (names inner.env)) at
      ∙ ap (λ env. evaluate Event s body (calls_of s here) Inner env) bound) in
      ap (λ o. after before (or_stuck o >>= λ u. after (s.told event.Open) (rest ((node, u) ∷ names here.env)))) (sym found)
      ∙ (ap (after before) (after_none (after (s.told event.Open) (rest ((node, v) ∷ names here.env))))
      ∙ (after_after before (s.told event.Open) (rest ((node, v) ∷ names here.env))
      ∙ (ap (λ es. after es (rest ((node, v) ∷ names here.env))) (sym opened)
      ∙ (ap (λ r. after now (followed r (then_run s then.Borrow here))) (sym inside)
      ∙ ap (after now) (sym same)))))

module _ (s : Setting Event) (here : Here) (weight : ℕ) where
  -- in tail position the region is closed before the operand
  pub exclave_is : (a : Expr) (before now : List Event) (step : Step) → here.mode ≡ mode.Last weight → s.told event.Close ≡ closes (mode.Last weight) → now ≡ before ++ closes here.mode → step_run s step ≡ followed (inner_run s a here) (then_run s (then.Exclave weight) here) → after before (at_place s (m.exclave Event s (evaluate Event s a)) here) ≡ after now (step_run s step)
  exclave_is a before now step at plain closed same =
      let rest = followed (inner_run s a here) (then_run s (then.Exclave weight) here) in
      ap (λ md. after before (m.exclave Event s (evaluate Event s a) (calls_of s here) (mode_of md) (names here.env))) at
      ∙ (after_after before (s.told event.Close) rest
      ∙ (ap (λ es. after es rest) (ap (λ es. before ++ es) plain ∙ sym (closed ∙ ap (λ md. before ++ closes md) at))
      ∙ ap (after now) (sym same)))

-- What a run tells, with what was told before it: how the steps of a function come together.
use Rattle.std.proofs.Common.{◌≡◌, ◌≢◌, ◌+◌, ℕ, List, [], ◌∷◌, ◌++◌, length, map, take, drop, Option, Some, None, Result, Ok, Err, refl, sym, ap, ◌∙◌}
use Rattle.std.specs.Option.{option_map}
use Rattle.std.proofs.Math.Seq.{take-append_seam, drop-append_seam}
use Rattle.ml_tree.specs.declared.expr.BinOp.{BinOp}
use Rattle.ml_tree.specs.declared.expr.BinOp.TheVariants as binary
use Rattle.ml_tree.specs.declared.expr.Bind.{Bind}
use Rattle.ml_tree.specs.declared.expr.Expr.{Expr}
use Rattle.ml_tree.specs.declared.expr.FieldExpr.{FieldExpr}
use Rattle.ml_tree.specs.declared.reference.Op.{Op}
use Rattle.std.specs.Prelude.{IfOk}
use Rattle.ml_meaning.specs.declared.event.Event.{Event}
use Rattle.ml_meaning.specs.declared.event.Event.TheVariants as event
use Rattle.ml_meaning.specs.Runs.{Run, Done, after, ◌>>=◌}
use Rattle.ml_meaning.specs.Evaluation.{closure, matched, operation_result, paired, placed}
use Rattle.ml_meaning.specs.Operations.{operate, operation_arity, operator}
use Rattle.ml_meaning.specs.Patterns.{Env, all_fit}
use Rattle.ml_meaning.specs.Names.{field_place}
use Rattle.ml_meaning.specs.Programs.{calls, evaluate}
use Rattle.ml_meaning.specs.Tellings.{Setting, Inner, NoMatch, fail, finish, made, or_stuck}
use Rattle.ml_matching.specs.Fitting.{bind_fits, onto}
use Rattle.ml_values.specs.declared.value.Env as ml_env
use Rattle.ml_meaning.specs.Values as v
use Rattle.ml_meaning.specs.Values.{Value, packed}
use Rattle.ml_values.specs.declared.told.Mode.{Mode}
use Rattle.ml_values.specs.declared.told.Mode.TheVariants as mode
use Rattle.ml_values.specs.declared.value.Word.TheVariants as W
use Rattle.ml_values.specs.declared.value.Word.{Word}
use Rattle.ml_values.specs.declared.value.Words.{Words}
use Rattle.ml_values.specs.declared.value.Words.TheVariants as L
use Rattle.ml_values.specs.Shown.{names, value, values, values_list}
use Rattle.ml_values.specs.Telling.{mode_of}
use Rattle.ml_values.proofs.Layers.{block_is, empty_is}
use Rattle.ml_steps.specs.declared.frame.Here.{Here}
use Rattle.ml_steps.specs.declared.frame.Next.{Next}
use Rattle.ml_steps.specs.declared.frame.Step.{Step}
use Rattle.ml_steps.specs.Left.{Nexts, Steps, apply_run, arranged_parts, bound_run, built, calls_of, closure_run, field_part, finished, next_run, operands_run, operated, over_applied_run, overwritten_run, record_run, step_run}
use Rattle.ml_steps.proofs.RunsParts.{after_none, packed_listed, tells, goes_on}

-- the run, with what was told before it, is what the result means, with what is told now
abbrev pub Told : {X F : Type 0} → (X → Run Event Value) → List Event → List Event → Result X F → Run Event Value → Type 0
Told mean before now r run = IfOk r (λ x. after before run ≡ after now (mean x))

-- of an equal run
pub told_as : {X F : Type 0} (mean : X → Run Event Value) (before now : List Event) (r : Result X F) (run other : Run Event Value) → run ≡ other → Told mean before now r other → Told mean before now r run
told_as mean before now (Ok x) run other e h = ap (after before) e ∙ h
told_as mean before now (Err x) run other e h = tt

-- with nothing told
pub told_now : {X F : Type 0} (mean : X → Run Event Value) (now : List Event) (r : Result X F) (run : Run Event Value) → IfOk r (λ x. mean x ≡ run) → Told mean now now r run
told_now mean now (Ok x) run h = ap (after now) (sym h)
told_now mean now (Err x) run h = tt

-- with these events in between
pub told_then : {X F : Type 0} (mean : X → Run Event Value) (before mid now es : List Event) (r : Result X F) (run : Run Event Value) → mid ≡ before ++ es → Told mean mid now r run → Told mean before now r (after es run)
told_then mean before mid now es (Ok x) run e h = tells before mid es run e ∙ h
told_then mean before mid now es (Err x) run e h = tt

-- behind a run that gave this
pub told_given : {X F A : Type 0} (mean : X → Run Event Value) (before mid now : List Event) (r : Result X F) (run given : Run Event A) (k : A → Run Event Value) → after before run ≡ after mid given → Told mean mid now r (given >>= k) → Told mean before now r (run >>= k)
told_given mean before mid now (Ok x) run given k e h = goes_on before mid run given k e ∙ h
told_given mean before mid now (Err x) run given k e h = tt

-- a list of two values
pub two_values : (args last : Words) (one other : Word) → values args ≡ v.value_and (value one) (values last) → values last ≡ v.value_and (value other) (values L.Empty) → values_list args ≡ value one ∷ (value other ∷ [])
two_values args last one other first second =
    ap v.listed first ∙ (ap (λ vs. value one ∷ v.listed vs) second ∙ ap (λ vs. value one ∷ (value other ∷ v.listed vs)) empty_is)

-- a block as the evaluator has it
pub block_shown : (place : ℕ) (parts : Words) → v.Block place (packed (values_list parts)) ≡ value (W.Block place parts)
block_shown place parts = ap (v.Block place) (packed_listed (values parts)) ∙ sym (block_is place parts)

module _ (s : Setting Event) where
  pub build_told : {F : Type 0} (before mid now : List Event) (r : Result Next F) (node place words : ℕ) (here : Here) (parts : Words) →
      words ≡ length (values_list parts) + 1 → mid ≡ before ++ made Event s node words →
      Nexts s mid now r (finish Event s (mode_of here.mode) (value (W.Block place parts))) → Nexts s before now r (built s node (Some place) here (values_list parts))
  build_told before mid now r node place words here parts count told h =
      told_then (next_run s) before mid now (made Event s node (length (values_list parts) + 1)) r (finish Event s (mode_of here.mode) (v.Block place (packed (values_list parts))))
      (told ∙ ap (λ n. before ++ made Event s node n) count)
      (told_as (next_run s) mid now r _ _ (ap (λ b. finish Event s (mode_of here.mode) b) (block_shown place parts)) h)

  pub overwrite_told : {F : Type 0} (before mid now : List Event) (r : Result Next F) (node place words : ℕ) (here : Here) (parts : Words) →
      words ≡ length (values_list parts) + 1 → mid ≡ before ++ s.told (event.Over node words) →
      Nexts s mid now r (finish Event s (mode_of here.mode) (value (W.Block place parts))) → Nexts s before now r (overwritten_run s node place here (values_list parts))
  overwrite_told before mid now r node place words here parts count told h =
      told_then (next_run s) before mid now (s.told (event.Over node (length (values_list parts) + 1))) r (finish Event s (mode_of here.mode) (v.Block place (packed (values_list parts))))
      (told ∙ ap (λ n. before ++ s.told (event.Over node n)) count)
      (told_as (next_run s) mid now r _ _ (ap (λ b. finish Event s (mode_of here.mode) b) (block_shown place parts)) h)

-- no values are found where the names before them are none
pub none_onto : (env : Env) (found : Option Env) → None ≡ onto env found → found ≡ None
none_onto env None e = refl
none_onto env (Some xs) e = absurd (cc)

module _ (s : Setting Event) where
  -- values that do not fit
  pub unbound : {F : Type 0} (before now : List Event) (r : Result Next F) (bs : List Bind) (body : Expr) (here : Here) (vs : List Value) (found : Option ml_env.Env) →
      option_map names found ≡ onto (names here.env) (all_fit (bind_fits s.names bs) vs) → found ≡ None →
      Nexts s before now r (fail Event s NoMatch) → Nexts s before now r (bound_run s bs body here vs)
  unbound before now r bs body here vs found fit none h =
      told_as (next_run s) before now r _ _ (ap (λ o. matched Event s o (λ xs. evaluate Event s body (calls_of s here) (mode_of here.mode) (xs ++ names here.env)))
      (none_onto (names here.env) (all_fit (bind_fits s.names bs) vs) (sym (ap (option_map names) none) ∙ fit))) h

  -- an operation on as many arguments as it takes, and what is done with those that are left
  pub operated_parts : {X F : Type 0} (mean : X → Run Event Value) (before mid now : List Event) (r : Result X F) (node : ℕ) (o : Op) (here : Here) (first rest vs : List Value) (given : Run Event Value) →
      first ++ rest ≡ vs → length first ≡ operation_arity o → after before (operate Event s (Some node) o first) ≡ after mid given →
      Told mean mid now r (given >>= operation_result Event s (mode_of here.mode) rest) → Told mean before now r (operated s node o here vs)
  operated_parts mean before mid now r node o here first rest vs given both count gives h =
      let halves : operated s node o here vs ≡ operate Event s (Some node) o first >>= operation_result Event s (mode_of here.mode) rest =
      ap (operated s node o here) (sym both)
      ∙ (ap (λ n. operate Event s (Some node) o (take n (first ++ rest)) >>= operation_result Event s (mode_of here.mode) (drop n (first ++ rest))) (sym count)
      ∙ (ap (λ xs. operate Event s (Some node) o xs >>= operation_result Event s (mode_of here.mode) (drop (length first) (first ++ rest))) (take-append_seam first rest)
      ∙ ap (λ xs. operate Event s (Some node) o first >>= operation_result Event s (mode_of here.mode) xs) (drop-append_seam first rest))) in
      told_as mean before now r _ _ halves (told_given mean before mid now r (operate Event s (Some node) o first) given (operation_result Event s (mode_of here.mode) rest) gives h)

  pub over_told : {F : Type 0} (now : List Event) (r : Result Next F) (given : Run Event Value) → IfOk r (λ next. (s : Setting Event) → next_run s next ≡ over_applied_run s given) → Nexts s now now r (over_applied_run s given)
  over_told now (Ok next) given h = ap (after now) (sym (h s))
  over_told now (Err x) given h = tt

  -- the places that the fields of a record name
  places_same : (fs : List FieldExpr) → map (λ f. field_place s.names f.0) (map (field_part s) fs) ≡ map (λ f. field_place s.names f.id) fs
  places_same [] = refl
  places_same (f ∷ fs) = ap (λ ks. field_place s.names f.id ∷ ks) (places_same fs)

  -- a record whose values are in order
  pub record_told : {F : Type 0} (before now : List Event) (r : Result Next F) (node : ℕ) (fs : List FieldExpr) (here : Here) (vs us : List Value) →
      arranged_parts s fs vs ≡ Some us → Nexts s before now r (built s node (Some 0) here us) → Nexts s before now r (record_run s node fs here vs)
  record_told before now r node fs here vs us is h =
      told_as (next_run s) before now r _ _
      (ap (λ ks. or_stuck (placed Event s (paired Event s ks vs)) >>= λ us. built s node (Some 0) here us) (places_same fs)
      ∙ (ap (λ o. or_stuck o >>= λ us. built s node (Some 0) here us) is
      ∙ after_none (built s node (Some 0) here us))) h

  -- a function that is made at the same place, but not in tail position
  pub closes_inner : (node : ℕ) (here inner : Here) → inner.mode ≡ mode.Inner → inner.env ≡ here.env → inner.fuel ≡ here.fuel → closure_run s node inner ≡ closure Event s node (calls_of s here) Inner (names here.env)
  closes_inner node here inner m e f =
      ap (λ x. closure Event s node (calls Event s x) (mode_of inner.mode) (names inner.env)) f
      ∙ (ap (λ x. closure Event s node (calls_of s here) (mode_of x) (names inner.env)) m
      ∙ ap (λ x. closure Event s node (calls_of s here) Inner (names x)) e)

  -- a value that is there at once
  pub project_told : {F : Type 0} (before now : List Event) (r : Result Next F) (m : Mode) (run : Run Event Value) (v : Value) → run ≡ Done [] v → Nexts s before now r (finish Event s (mode_of m) v) → Nexts s before now r (finished s m run)
  project_told before now r m run v is h = told_as (next_run s) before now r _ _ (ap (λ x. x >>= finish Event s (mode_of m)) is ∙ after_none (finish Event s (mode_of m) v)) h

  -- `@` applies its function to the two operands
  pub concat_told : {F : Type 0} (before now : List Event) (r : Result Step F) (node : ℕ) (here : Here) (x y g : Value) (vs : List Value) → Some g ≡ s.top s.append → vs ≡ x ∷ (y ∷ []) → Steps s before now r (apply_run s node here vs g) → Steps s before now r (operands_run s node binary.Append here x y)
  concat_told before now r node here x y g vs found both h =
      told_as (step_run s) before now r _ _
      (ap (λ o. or_stuck o >>= λ g. apply_run s node here (x ∷ (y ∷ [])) g) (sym found)
      ∙ (after_none (apply_run s node here (x ∷ (y ∷ [])) g)
      ∙ ap (λ us. apply_run s node here us g) (sym both))) h

  -- another operator than `@`
  pub other_operator : (node : ℕ) (o : BinOp) (here : Here) (x y : Value) → (o ≢ binary.Append) → operands_run s node o here x y ≡ operator Event s node o x y >>= finish Event s (mode_of here.mode)
  other_operator node binary.Append here x y other = absurd (other refl)
  other_operator node o here x y other = refl

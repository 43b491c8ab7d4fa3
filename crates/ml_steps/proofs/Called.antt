-- How functions are made and called in the world of an item.
use Rattle.std.proofs.Common.{◌≡◌, ◌≢◌, Bor, ℕ, suc, ◌-◌, List, ◌++◌, Option, Some, None, refl, sym, ap, ap₂, ◌∙◌, arith}
use Rattle.std.specs.Option.{option_map}
use Rattle.ml_tree.specs.declared.expr.Expr.{Expr}
use Rattle.ml_tree.specs.declared.reference.Op.{Op}
use Rattle.ml_functions.specs.declared.function.Body.TheVariants as body
use Rattle.ml_functions.specs.declared.function.Function.{Function}
use Rattle.ml_functions.specs.Table as table
use Rattle.ml_matching.specs.Fitting.{onto, param_fits}
use Rattle.ml_meaning.specs.declared.event.Event.{Event}
use Rattle.ml_meaning.specs.declared.event.Event.TheVariants as event
use Rattle.ml_meaning.specs.Evaluation as m
use Rattle.ml_meaning.specs.Functions.{FunctionCode}
use Rattle.ml_meaning.specs.Operations.{operate}
use Rattle.ml_meaning.specs.Patterns as p
use Rattle.ml_meaning.specs.Programs.{bind_names, body_run, calls, code_run, own_name}
use Rattle.ml_meaning.specs.Runs.{Run, after, ◌>>=◌}
use Rattle.ml_meaning.specs.Tellings as t
use Rattle.ml_meaning.specs.Tellings.{Setting, NoMatch, fail, or_stuck}
use Rattle.ml_meaning.specs.Values as v
use Rattle.ml_meaning.specs.Values.{Value, Values, no_values, packed}
use Rattle.ml_values.specs.declared.told.Mode.{Mode}
use Rattle.ml_values.specs.declared.told.Mode.TheVariants as M
use Rattle.ml_values.specs.declared.value.Code.TheVariants as C
use Rattle.ml_values.specs.declared.value.Env.{Env}
use Rattle.ml_values.specs.declared.value.Pair.{Pair}
use Rattle.ml_values.specs.declared.value.Word.TheVariants as W
use Rattle.ml_values.specs.declared.value.Words.{Words}
use Rattle.ml_values.specs.declared.value.Words.TheVariants as L
use Rattle.ml_values.specs.Shown.{names, value, values, values_list}
use Rattle.ml_values.specs.Telling.{closes, mode_of}
use Rattle.ml_values.proofs.Layers.{empty_is, function_is}
use Rattle.ml_values.proofs.Walks.{list_more}
use Rattle.ml_steps.specs.declared.frame.Here.{Here}
use Rattle.ml_steps.specs.declared.world.World.{World}
use Rattle.ml_steps.specs.Left.{applied_run, body_of_call, call_of, called_run, closed_env, closing_run, closure_run, entered, finished}
use Rattle.ml_steps.specs.Worlds.{setting_of}
use Rattle.ml_steps.proofs.Lists.{packed-listed}
use Rattle.ml_steps.proofs.Runs.{after-nil}

module _ (s : Setting Event) where
  -- ---- how functions are made

  -- the value of a function that is made
  made_value : (node : ℕ) (words : Words) → value (W.Function (C.Source node) words L.Empty) ≡ v.Function (v.Source node) (packed (values_list words)) no_values
  made_value node words =
      function_is (C.Source node) words L.Empty
      ∙ ap₂ (λ us ws. v.Function (v.Source node) us ws) (sym (packed-listed (values words))) empty_is

  pub closing_is : (node : ℕ) (captures : List ℕ) (here : Here) (words : Words) → m.captured Event s captures (names here.env) ≡ Some (values_list words) → closing_run s node captures here ≡ after (m.function_made Event s node captures) (t.finish Event s (mode_of here.mode) (value (W.Function (C.Source node) words L.Empty)))
  closing_is node captures here words found =
      ap (λ o. or_stuck o >>= λ vs. after (m.function_made Event s node captures) (t.finish Event s (mode_of here.mode) (v.Function (v.Source node) (packed vs) no_values))) found
      ∙ (after-nil _
      ∙ ap (λ f. after (m.function_made Event s node captures) (t.finish Event s (mode_of here.mode) f)) (sym (made_value node words)))

  pub closure_is : (node : ℕ) (here : Here) (f : FunctionCode) → s.code node ≡ Some f → closure_run s node here ≡ closing_run s node f.captures here
  closure_is node here f is =
      ap (λ o. or_stuck o >>= λ g. closing_run s node g.captures here) is ∙ after-nil (closing_run s node f.captures here)

  -- ---- the body of a call

  matched_none : (found : Option p.Env) (env : p.Env) (more : p.Env → Run Event Value) → None ≡ onto env found → m.matched Event s found more ≡ fail Event s NoMatch
  matched_none None env more is = refl
  matched_none (Some xs) env more is = cc

  pub no_match : (f : Function) (e : Bor Expr) (fuel : ℕ) (env now : p.Env) (args : List Value) (found : Option Env) → f.body ≡ body.Single e → found ≡ None → option_map names found ≡ onto now (p.all_fit (param_fits s.names f.params.now) args) → now ≡ env → body_of_call s (table.code_of f) fuel env args ≡ fail Event s NoMatch
  no_match f e fuel env now args found is none finds same =
      ap (λ b. body_run Event s (table.code_of f) (calls Event s fuel) env (table.body_of b) args) is
      ∙ matched_none (p.all_fit (param_fits s.names f.params.now) args) now _ (ap (option_map names) (sym none) ∙ finds)

  -- ---- what a call gives, applied to the arguments that are left

  pub called_more : (node : ℕ) (here : Here) (rest : Words) (r : Bor Pair) (code : v.Code) (captured all : List Value) → rest ≡ L.And r → called_run s node here (values_list rest) code captured all ≡ (call_of s here.fuel M.Inner code captured all >>= applied_run s node here (values_list rest))
  called_more node here rest r code captured all is =
      ap (λ us. m.called Event s (calls Event s here.fuel) (mode_of here.mode) us (applied_run s node here (values_list rest)) code captured all) (list_more rest r is)

-- ---- a call

module _ (world : World) where
  abbrev here_setting : Setting Event
  here_setting = setting_of world

  enters : (mode : Mode) (code : v.Code) → here_setting.told (m.entry Event here_setting (mode_of mode) code) ++ here_setting.told event.Open ≡ entered mode (m.call_weight Event here_setting code)
  enters M.Inner code = refl
  enters (M.Last old) code = refl

  one_less : (n : ℕ) (mode : Mode) (code : v.Code) (held args : List Value) → call_of here_setting (suc n) mode code held args ≡ after (entered mode (m.call_weight Event here_setting code)) (code_run Event here_setting (calls Event here_setting n) code held args)
  one_less n mode code held args = ap (λ es. after es (code_run Event here_setting (calls Event here_setting n) code held args)) (enters mode code)

  with_fuel : (fuel : ℕ) (mode : Mode) (code : v.Code) (held args : List Value) → fuel ≢ 0 → call_of here_setting fuel mode code held args ≡ after (entered mode (m.call_weight Event here_setting code)) (code_run Event here_setting (calls Event here_setting (fuel - 1)) code held args)
  with_fuel fuel mode code held args some =
      let is : fuel ≡ suc (fuel - 1) = omega (arith, some) in
      ap (λ k. call_of here_setting k mode code held args) is ∙ one_less (fuel - 1) mode code held args

  pub call_source : (fuel weight : ℕ) (mode : Mode) (node : ℕ) (f : Function) (held args : List Value) → fuel ≢ 0 → weight ≡ m.call_weight Event here_setting (v.Source node) → here_setting.code node ≡ Some (table.code_of f) → call_of here_setting fuel mode (v.Source node) held args ≡ after (entered mode weight) (body_of_call here_setting (table.code_of f) (fuel - 1) (closed_env here_setting node f.own f.captures.now held) args)
  call_source fuel weight mode node f held args some weighs is =
      with_fuel fuel mode (v.Source node) held args some
      ∙ (ap (λ k. after (entered mode k) (code_run Event here_setting (calls Event here_setting (fuel - 1)) (v.Source node) held args)) (sym weighs)
      ∙ (ap (λ o. after (entered mode weight) (or_stuck o >>= λ g. body_run Event here_setting g (calls Event here_setting (fuel - 1)) (bind_names Event here_setting g.captures held (own_name Event here_setting g.own (v.Function (v.Source node) (packed held) no_values))) g.body args)) is
      ∙ ap (after (entered mode weight)) (after-nil _)))

  pub call_primitive : (fuel weight : ℕ) (mode : Mode) (op : Op) (held args : List Value) → fuel ≢ 0 → weight ≡ m.call_weight Event here_setting (v.Primitive op) → call_of here_setting fuel mode (v.Primitive op) held args ≡ after (entered mode weight) (finished here_setting (M.Last 64) (operate Event here_setting None op args))
  call_primitive fuel weight mode op held args some weighs =
      with_fuel fuel mode (v.Primitive op) held args some
      ∙ ap (λ k. after (entered mode k) (code_run Event here_setting (calls Event here_setting (fuel - 1)) (v.Primitive op) held args)) (sym weighs)

  -- in tail position the region is closed
  pub closes_is : (mode : Mode) → t.closes Event here_setting (mode_of mode) ≡ closes mode
  closes_is M.Inner = refl
  closes_is (M.Last weight) = refl

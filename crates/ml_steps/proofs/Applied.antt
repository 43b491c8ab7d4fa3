-- A function applied to arguments: it holds them while there are too few, and is called where there are as many as it takes.
use Rattle.std.proofs.Common.{◌≡◌, ℕ, ◌+◌, ◌<◌, List, [], ◌∷◌, ◌++◌, length, nat_eq, sym, ap, ap₂, ◌∙◌, append_assoc, arith, if◌then◌else◌}
use Rattle.std.proofs.lemmas.List.{append-nil}
use Rattle.std.proofs.lemmas.Bool.Decides.{nat_tests}
use Rattle.ml_meaning.specs.declared.event.Event.{Event}
use Rattle.ml_meaning.specs.Evaluation as m
use Rattle.ml_meaning.specs.Runs.{Run}
use Rattle.ml_meaning.specs.Tellings.{Call, Mode, Setting}
use Rattle.ml_meaning.specs.Values.{Value, Values, Code, Function, packed, listed}
use Rattle.ml_values.specs.declared.value.Code as shown
use Rattle.ml_values.specs.declared.value.Word.{Word}
use Rattle.ml_values.specs.declared.value.Word.TheVariants as W
use Rattle.ml_values.specs.declared.value.Words.{Words}
use Rattle.ml_values.specs.Shown.{code_of, value, values, values_list}
use Rattle.ml_values.proofs.Layers.{function_is}
use Rattle.ml_steps.proofs.Lists.{packed-listed, listed-packed}

module _ (s : Setting Event) (node : ℕ) (c : Call Event) (mode : Mode) (code : Code) (held : Values) where
  -- the function with these arguments
  abbrev with_args : List Value → Value
  with_args args = Function code held (packed args)

  pub tested : (a b : ℕ) (x y : Run Event Value) → (a ≡ b → ⊥) → (if nat_eq a b then x else y) ≡ y
  tested a b x y other = grind (arith, nat_tests)

  pub met : (a b : ℕ) (x y : Run Event Value) → a ≡ b → (if nat_eq a b then x else y) ≡ x
  met a b x y is = grind (arith, nat_tests)

  -- one argument more, and still too few
  held_more : (args vs : List Value) (v : Value) → (length args + 1 ≡ m.arity Event s code → ⊥) → m.applied Event s node c mode (v ∷ vs) (with_args args) ≡ m.applied Event s node c mode vs (with_args (args ++ (v ∷ [])))
  held_more args vs v other =
      tested (length (listed (packed args)) + 1) (m.arity Event s code) _ _ (λ e. other (ap (λ us. length us + 1) (sym (listed-packed args)) ∙ e))
      ∙ ap (λ us. m.applied Event s node c mode vs (with_args (us ++ (v ∷ [])))) (listed-packed args)

  -- one argument more, and as many as it takes
  called_now : (args vs : List Value) (v : Value) → length args + 1 ≡ m.arity Event s code → m.applied Event s node c mode (v ∷ vs) (with_args args) ≡ m.called Event s c mode vs (m.applied Event s node c mode vs) code (listed held) (args ++ (v ∷ []))
  called_now args vs v is =
      met (length (listed (packed args)) + 1) (m.arity Event s code) _ _ (ap (λ us. length us + 1) (listed-packed args) ∙ is)
      ∙ ap (λ us. m.called Event s c mode vs (m.applied Event s node c mode vs) code (listed held) (us ++ (v ∷ []))) (listed-packed args)

  length-more : (args vs : List Value) (v : Value) → length (args ++ (v ∷ [])) + length vs ≡ length args + length (v ∷ vs)
  length-more [] vs v = omega arith
  length-more (a ∷ args) vs v = let ih = length-more args vs v in omega arith

  -- fewer than are missing: the function holds them
  pub applied_few : (vs args : List Value) → length args + length vs < m.arity Event s code → m.applied Event s node c mode vs (with_args args) ≡ m.partial_made Event s node mode (with_args (args ++ vs))
  applied_few [] args few = ap (λ us. m.partial_made Event s node mode (with_args us)) (sym (append-nil args))
  applied_few (v ∷ vs) args few =
      let more = length-more args vs v in
      held_more args vs v (λ e. omega arith)
      ∙ (applied_few vs (args ++ (v ∷ [])) (omega arith)
      ∙ ap (λ us. m.partial_made Event s node mode (with_args us)) (append_assoc args (v ∷ []) vs))

  -- as many as are missing: the call, and then what it gives applied to the rest
  pub applied_all : (vs rest args : List Value) (v : Value) → length args + length (v ∷ vs) ≡ m.arity Event s code → m.applied Event s node c mode ((v ∷ vs) ++ rest) (with_args args) ≡ m.called Event s c mode rest (m.applied Event s node c mode rest) code (listed held) (args ++ (v ∷ vs))
  applied_all [] rest args v all = called_now args rest v (omega arith)
  applied_all (u ∷ vs) rest args v all =
      let more = length-more args (u ∷ vs) v in
      held_more args ((u ∷ vs) ++ rest) v (λ e. omega arith)
      ∙ (applied_all vs rest (args ++ (v ∷ [])) u (omega arith)
      ∙ ap (m.called Event s c mode rest (m.applied Event s node c mode rest) code (listed held)) (append_assoc args (v ∷ []) (u ∷ vs)))

module _ (s : Setting Event) (node : ℕ) (c : Call Event) (mode : Mode) (function : Word) (code : shown.Code) (captured held : Words) where
  abbrev arity_here : ℕ
  arity_here = m.arity Event s (code_of code)

  function-shown : function ≡ W.Function code captured held → value function ≡ Function (code_of code) (values captured) (packed (values_list held))
  function-shown is = ap value is ∙ (function_is code captured held ∙ ap (λ us. Function (code_of code) (values captured) us) (sym (packed-listed (values held))))

  -- the words of a function, and fewer arguments than are missing: a partial application with those of `joined`
  pub holds : (args : List Value) (joined : Words) → function ≡ W.Function code captured held → length (values_list held) + length args < arity_here → values_list joined ≡ values_list held ++ args → m.applied Event s node c mode args (value function) ≡ m.partial_made Event s node mode (Function (code_of code) (values captured) (values joined))
  holds args joined is few all =
      ap (m.applied Event s node c mode args) (function-shown is)
      ∙ (applied_few s node c mode (code_of code) (values captured) args (values_list held) few
      ∙ ap (λ us. m.partial_made Event s node mode (Function (code_of code) (values captured) us)) (ap packed (sym all) ∙ packed-listed (values joined)))

  -- as many as are missing: a call on those of `joined`
  pub calls_on : (args first rest joined : List Value) → function ≡ W.Function code captured held → first ++ rest ≡ args → 0 < length first → length (values_list held) + length first ≡ arity_here → joined ≡ values_list held ++ first → m.applied Event s node c mode args (value function) ≡ m.called Event s c mode rest (m.applied Event s node c mode rest) (code_of code) (values_list captured) joined
  calls_on args [] rest joined is parts some all both = absurd (omega arith)
  calls_on args (v ∷ vs) rest joined is parts some all both =
      ap₂ (m.applied Event s node c mode) (sym parts) (function-shown is)
      ∙ (applied_all s node c mode (code_of code) (values captured) vs rest (values_list held) v all
      ∙ ap (m.called Event s c mode rest (m.applied Event s node c mode rest) (code_of code) (values_list captured)) (sym both))

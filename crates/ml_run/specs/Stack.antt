-- What an evaluation has left to do: a stack of frames, the last on top, and what is done next.
use Rattle.std.specs.Prelude.{◌≡◌, ℕ, List, [], ◌∷◌, ◌++◌, Option, Some, None, map}
use Rattle.std.specs.Option.{option_to_list}
use Rattle.ml_tree.specs.declared.expr.Bind.{Bind}
use Rattle.ml_meaning.specs.declared.event.Event.{Event}
use Rattle.ml_meaning.specs.Values.{Value}
use Rattle.ml_meaning.specs.Patterns as p
use Rattle.ml_meaning.specs.Growth.{Begins}
use Rattle.ml_meaning.specs.Runs.{Run, Done, Stop, Ended, after, ◌>>=◌, trace}
use Rattle.ml_meaning.specs.Tellings.{Setting, Inner}
use Rattle.ml_meaning.specs.Evaluation as m
use Rattle.ml_meaning.specs.Programs.{bind_meaning, bound, calls}
use Rattle.ml_values.specs.Shown.{value, values_list, names}
use Rattle.ml_steps.specs.declared.frame.Frame.{Frame}
use Rattle.ml_steps.specs.declared.frame.Next.{Next}
use Rattle.ml_steps.specs.declared.frame.Step.{Step}
use Rattle.ml_steps.specs.Left.{next_run, then_run}
use Rattle.ml_run.specs.declared.evaluate.Evaluated.{Evaluated}
use Rattle.ml_run.specs.declared.evaluate.Evaluated.TheVariants as evaluated
use Rattle.ml_run.specs.declared.items.Several.{Several}
use Rattle.ml_run.specs.declared.items.Several.TheVariants as several
use Rattle.ml_run.specs.declared.items.Matched.{Matched}
use Rattle.ml_run.specs.declared.items.Matched.TheVariants as matched

-- From events to events: the run, with what was told before it, is this run with what is told now.
abbrev pub Tells : {A : Type 0} → List Event → List Event → Run Event A → Run Event A → Type 0
Tells before now run rest = after before run ≡ after now rest

-- what is told now begins what was told before with the events of the run
abbrev pub Began : {A : Type 0} → List Event → List Event → Run Event A → Type 0
Began before now run = Begins now (before ++ trace run)

-- the frame of a step is the last now, and what the step goes on with is done next
abbrev pub Pushed : Step → List Frame → List Frame → Option Next → Type 0
Pushed step old new more = (more ≡ Some step.next) × (new ≡ old ++ option_to_list step.frame)

module _ (s : Setting Event) where
  abbrev pub frame_then : Frame → Value → Run Event Value
  frame_then f v = then_run s f.then f.here v

  -- the run, and then the frames, the last first
  abbrev pub stacked : List Frame → Run Event Value → Run Event Value
  stacked [] run = run
  stacked (f ∷ fs) run = stacked fs run >>= frame_then f

  -- what is left to do of an evaluation
  abbrev pub left_run : List Frame → Next → Run Event Value
  left_run frames next = stacked frames (next_run s next)

  -- one turn: what is done next after it; with none the evaluation was at its end
  abbrev pub Turned : List Event → List Event → List Frame → List Frame → Next → Option Next → Type 0
  Turned before now old new next None = (now ≡ before) × (left_run old next ≡ next_run s next)
  Turned before now old new next (Some more) = Tells before now (left_run old next) (left_run new more)

  -- what a binding binds, outside every function
  abbrev pub bound_run : Bind → ℕ → Run Event Value
  bound_run b fuel = (bind_meaning Event s b).value (calls Event s fuel) Inner []

  -- the values that bindings bind
  abbrev pub values_run : List Bind → ℕ → Run Event (List Value)
  values_run binds fuel = m.values Event s (map (λ b. (bind_meaning Event s b).value) binds) (calls Event s fuel) []

  -- the bindings that are left, and behind their values those that are there
  abbrev pub values_onto : List Bind → ℕ → List Value → Run Event (List Value)
  values_onto binds fuel there = values_run binds fuel >>= λ vs. Done [] (vs ++ there)

  -- the names that bindings bind to these values
  abbrev pub fitted_run : List Bind → List Value → Run Event p.Env
  fitted_run binds vs = bound Event s (p.all_fit (map (λ b. (bind_meaning Event s b).fits) binds) vs)

abbrev pub evaluated_run : Evaluated → Run Event Value
evaluated_run (evaluated.Value word) = Done [] (value word)
evaluated_run (evaluated.End ending) = Stop [] (Ended ending)

abbrev pub several_run : Several → Run Event (List Value)
several_run (several.Values words) = Done [] (values_list words)
several_run (several.End ending) = Stop [] (Ended ending)

abbrev pub matched_run : Matched → Run Event p.Env
matched_run (matched.Names env) = Done [] (names env)
matched_run (matched.End ending) = Stop [] (Ended ending)

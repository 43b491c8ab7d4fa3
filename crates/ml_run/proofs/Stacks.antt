-- Laws of the stack of frames, and one turn of the loop.
use Rattle.std.proofs.Common.{◌≡◌, List, [], ◌∷◌, ◌++◌, Option, Some, None, Result, Ok, Err, IfOk, refl, sym, ap, subst, ◌∙◌}
use Rattle.std.proofs.lemmas.List.{append-nil}
use Rattle.std.specs.Option.{option_to_list}
use Rattle.ml_meaning.specs.declared.event.Event.{Event}
use Rattle.ml_meaning.specs.declared.event.Ending.{Ending}
use Rattle.ml_meaning.specs.Runs.{Run, Done, Stop, Stopped, Ended, after, ◌>>=◌}
use Rattle.ml_meaning.specs.Tellings.{Setting}
use Rattle.ml_meaning.specs.Values.{Value}
use Rattle.ml_values.specs.declared.value.Word.{Word}
use Rattle.ml_values.specs.Shown.{value}
use Rattle.ml_steps.specs.declared.frame.Frame.{Frame}
use Rattle.ml_steps.specs.declared.frame.Next.{Next}
use Rattle.ml_steps.specs.declared.frame.Next.TheVariants as n
use Rattle.ml_steps.specs.declared.frame.Step.{Step}
use Rattle.ml_steps.specs.Left.{frame_run, next_run, step_run, then_run}
use Rattle.ml_run.specs.declared.evaluate.Evaluated.{Evaluated}
use Rattle.ml_run.specs.Stack.{Pushed, Tells, Turned, evaluated_run, frame_then, left_run, stacked}
use Rattle.ml_run.proofs.Runs.{after_nil, bind_after}

module _ (s : Setting Event) where
  pub stacked_after : (fs : List Frame) (es : List Event) (r : Run Event Value) → stacked s fs (after es r) ≡ after es (stacked s fs r)
  stacked_after [] es r = refl
  stacked_after (f ∷ fs) es r =
      ap (λ q. q >>= frame_then s f) (stacked_after fs es r) ∙ bind_after es (stacked s fs r) (frame_then s f)

  pub stacked_push : (fs : List Frame) (f : Frame) (r : Run Event Value) → stacked s (fs ++ (f ∷ [])) r ≡ stacked s fs (r >>= frame_then s f)
  stacked_push [] f r = refl
  stacked_push (g ∷ gs) f r = ap (λ q. q >>= frame_then s g) (stacked_push gs f r)

  pub stacked_stop : (fs : List Frame) (es : List Event) (end : Stopped) → stacked s fs (Stop es end) ≡ Stop es end
  stacked_stop [] es end = refl
  stacked_stop (f ∷ fs) es end = ap (λ q. q >>= frame_then s f) (stacked_stop fs es end)

  -- both runs with the same frames behind them
  pub stacked_tells : (before now : List Event) (fs : List Frame) (r q : Run Event Value) → Tells before now r q → Tells before now (stacked s fs r) (stacked s fs q)
  stacked_tells before now fs r q h =
      sym (stacked_after fs before r) ∙ (ap (stacked s fs) h ∙ stacked_after fs now q)

  bind_done : (r : Run Event Value) → r >>= (λ v. Done [] v) ≡ r
  bind_done (Done es a) = ap (λ l. Done l a) (append-nil es)
  bind_done (Stop es end) = refl

  -- the frame of a step, where it has one, is the last
  stacked_option : (fs : List Frame) (o : Option Frame) (r : Run Event Value) → stacked s fs (r >>= frame_run s o) ≡ stacked s (fs ++ option_to_list o) r
  stacked_option fs None r = ap (stacked s fs) (bind_done r) ∙ ap (λ l. stacked s l r) (sym (append-nil fs))
  stacked_option fs (Some f) r = sym (stacked_push fs f r)

  -- ---- one turn

  -- the step of what was done next
  stepped : (before now : List Event) (old new : List Frame) (next : Next) (step : Step) (more : Option Next) → Tells before now (next_run s next) (step_run s step) → Pushed step old new more → Turned s before now old new next more
  stepped before now old new next step None h (is, e) = cc
  stepped before now old new next step (Some more) h (is, e) =
      stacked_tells before now old (next_run s next) (step_run s step) h
      ∙ (ap (after now) (stacked_option old step.frame (next_run s step.next))
      ∙ cc)

  -- what is done next comes at once of what was done next
  pub went_on : (before now : List Event) (old new : List Frame) (next at more : Next) → next ≡ at → Tells before now (next_run s at) (next_run s more) → new ≡ old → Turned s before now old new next (Some more)
  went_on before now old new next at more is h e =
      ap (λ n. after before (left_run s old n)) is
      ∙ (stacked_tells before now old (next_run s at) (next_run s more) h
      ∙ ap (λ l. after now (left_run s l more)) (sym e))

  -- a value went to the last frame
  gave : (before now : List Event) (old rest new : List Frame) (f : Frame) (word : Word) (step : Step) (more : Option Next) → old ≡ rest ++ (f ∷ []) → Tells before now (then_run s f.then f.here (value word)) (step_run s step) → Pushed step rest new more → Turned s before now old new (n.Give word) more
  gave before now old rest new f word step None parts h (is, e) = cc
  gave before now old rest new f word step (Some more) parts h (is, e) =
      ap (λ l. after before (left_run s l (n.Give word))) parts
      ∙ (ap (after before) (stacked_push rest f (Done [] (value word)) ∙ ap (stacked s rest) (after_nil (then_run s f.then f.here (value word))))
      ∙ (stacked_tells before now rest (then_run s f.then f.here (value word)) (step_run s step) h
      ∙ (ap (after now) (stacked_option rest step.frame (next_run s step.next))
      ∙ cc)))

  pub stopped_at : (before : List Event) (old new : List Frame) (next : Next) (end : Ending) → next ≡ n.Stop end → Turned s before before old new next None
  stopped_at before old new next end is =
      (refl, ap (left_run s old) is ∙ (stacked_stop old [] (Ended end) ∙ ap (next_run s) (sym is)))

  -- ---- the answers of a turn

  pub stepped_answer : {F : Type 0} (before now : List Event) (old new : List Frame) (next at : Next) (step : Step) (r : Result (Option Next) F) → next ≡ at → Tells before now (next_run s at) (step_run s step) → IfOk r (Pushed step old new) → IfOk r (Turned s before now old new next)
  stepped_answer before now old new next at step (Err e) is h p = tt
  stepped_answer before now old new next at step (Ok more) is h p =
      stepped before now old new next step more (ap (λ n. after before (next_run s n)) is ∙ h) p

  pub gave_answer : {F : Type 0} (before now : List Event) (old rest new : List Frame) (f : Frame) (word : Word) (step : Step) (r : Result (Option Next) F) → old ≡ rest ++ (f ∷ []) → Tells before now (then_run s f.then f.here (value word)) (step_run s step) → IfOk r (Pushed step rest new) → IfOk r (Turned s before now old new (n.Give word))
  gave_answer before now old rest new f word step (Err e) parts h p = tt
  gave_answer before now old rest new f word step (Ok more) parts h p = gave before now old rest new f word step more parts h p

  -- ---- the loop

  turned_none : (a o before now : List Event) (old new : List Frame) (first next : Next) (run : Run Event Value) → Tells a o (next_run s first) (left_run s old next) → Turned s before now old new next None → next_run s next ≡ run → Tells a o (next_run s first) run
  turned_none a o before now old new first next run h turned e = h ∙ (ap (after o) turned.1 ∙ ap (after o) e)

  pub ended_answer : {F : Type 0} (a o before now : List Event) (old new : List Frame) (first next : Next) (more : Option Next) (r : Result Evaluated F) → Tells a o (next_run s first) (left_run s old next) → Turned s before now old new next more → more ≡ None → IfOk r (λ e. next_run s next ≡ evaluated_run e) → IfOk r (λ e. Tells a o (next_run s first) (evaluated_run e))
  ended_answer a o before now old new first next more (Err e) h turned is p = tt
  ended_answer a o before now old new first next more (Ok e) h turned is p =
      let P : Option Next → Type 0 = λ m. Turned s before now old new next m in
      turned_none a o before now old new first next (evaluated_run e) h (subst P is turned) p

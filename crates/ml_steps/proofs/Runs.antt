-- Laws of runs, and how a run goes on from what was told and what is done next.
use Rattle.std.proofs.Common.{◌≡◌, List, [], ◌++◌, None, Result, Ok, Err, refl, sym, ap, ◌∙◌, append_assoc}
use Rattle.std.proofs.lemmas.List.{append-nil}
use Rattle.ml_meaning.specs.declared.event.Event.{Event}
use Rattle.ml_meaning.specs.Runs.{Run, Done, Stop, after, ◌>>=◌}
use Rattle.ml_meaning.specs.Tellings.{Setting}
use Rattle.ml_meaning.specs.Values.{Value}
use Rattle.ml_steps.specs.declared.frame.Next.{Next}
use Rattle.ml_steps.specs.declared.frame.Step.{Step}
use Rattle.ml_steps.specs.Left.{Nexts, Steps, frame_run, next_run, step_run}

-- ---- one run after the other

pub after-nil : {E A : Type 0} (r : Run E A) → after [] r ≡ r
after-nil (Done es a) = refl
after-nil (Stop es end) = refl

pub after-after : {E A : Type 0} (xs ys : List E) (r : Run E A) → after xs (after ys r) ≡ after (xs ++ ys) r
after-after xs ys (Done es a) = ap (λ l. Done l a) (sym (append_assoc xs ys es))
after-after xs ys (Stop es end) = ap (λ l. Stop l end) (sym (append_assoc xs ys es))

pub bind-after : {E A B : Type 0} (xs : List E) (r : Run E A) (f : A → Run E B) → (after xs r) >>= f ≡ after xs (r >>= f)
bind-after xs (Done es a) f = sym (after-after xs es (f a))
bind-after xs (Stop es end) f = refl

pub bind-bind : {E A B C : Type 0} (r : Run E A) (f : A → Run E B) (g : B → Run E C) → (r >>= f) >>= g ≡ r >>= (λ a. f a >>= g)
bind-bind (Done es a) f g = bind-after es (f a) g
bind-bind (Stop es end) f g = refl

-- a run whose value is the value of the whole
pub bind-same : {E A : Type 0} (r : Run E A) → r >>= (λ a. Done [] a) ≡ r
bind-same (Done es a) = ap (λ l. Done l a) (append-nil es)
bind-same (Stop es end) = refl

-- a run with nothing told, and then another
pub done-bind : {E A B : Type 0} (a : A) (f : A → Run E B) → (Done [] a) >>= f ≡ f a
done-bind a f = after-nil (f a)

pub done-after : {E A : Type 0} (xs : List E) (a : A) → after xs (Done [] a) ≡ Done xs a
done-after xs a = ap (λ l. Done l a) (append-nil xs)

-- what comes after a run may be said in another way
pub bind-as : {E A B : Type 0} (r : Run E A) (f g : A → Run E B) → ((a : A) → f a ≡ g a) → r >>= f ≡ r >>= g
bind-as (Done es a) f g same = ap (after es) (same a)
bind-as (Stop es end) f g same = refl

-- ---- what is done next

module _ {F : Type 0} (s : Setting Event) where
  -- the same run, said in another way
  pub nexts_as : (before now : List Event) (r : Result Next F) (run other : Run Event Value) → other ≡ run → Nexts s before now r run → Nexts s before now r other
  nexts_as before now (Ok next) run other same h = ap (after before) same ∙ h
  nexts_as before now (Err e) run other same h = tt

  -- these events were told since
  pub nexts_since : (before told now : List Event) (r : Result Next F) (es : List Event) (run : Run Event Value) → told ≡ before ++ es → Nexts s told now r run → Nexts s before now r (after es run)
  nexts_since before told now (Ok next) es run is h = after-after before es run ∙ (ap (λ l. after l run) (sym is) ∙ h)
  nexts_since before told now (Err e) es run is h = tt

  -- the same run up to here, and then more with its value
  pub nexts_bind : (before told now : List Event) (r : Result Next F) (run other : Run Event Value) (more : Value → Run Event Value) → after before run ≡ after told other → Nexts s told now r (other >>= more) → Nexts s before now r (run >>= more)
  nexts_bind before told now (Ok next) run other more so_far h =
      sym (bind-after before run more) ∙ (ap (λ r. r >>= more) so_far ∙ (bind-after told other more ∙ h))
  nexts_bind before told now (Err e) run other more so_far h = tt

  pub steps_as : (before now : List Event) (r : Result Step F) (run other : Run Event Value) → other ≡ run → Steps s before now r run → Steps s before now r other
  steps_as before now (Ok step) run other same h = ap (after before) same ∙ h
  steps_as before now (Err e) run other same h = tt

  pub steps_since : (before told now : List Event) (r : Result Step F) (es : List Event) (run : Run Event Value) → told ≡ before ++ es → Steps s told now r run → Steps s before now r (after es run)
  steps_since before told now (Ok step) es run is h = after-after before es run ∙ (ap (λ l. after l run) (sym is) ∙ h)
  steps_since before told now (Err e) es run is h = tt

module _ (s : Setting Event) where
  -- a step with nothing more behind it
  pub step_alone : (next : Next) → next_run s next >>= frame_run s None ≡ next_run s next
  step_alone next = bind-same (next_run s next)

  -- a step that goes on as what is done next does
  pub step_next : (before now : List Event) (step : Step) (next : Next) (run : Run Event Value) → after before run ≡ after now (next_run s next) → step_run s step ≡ next_run s next → after before run ≡ after now (step_run s step)
  step_next before now step next run h same = h ∙ ap (after now) (sym same)

  -- a step that does more with the value of what is done next
  pub step_then : (before now : List Event) (step : Step) (next : Next) (run : Run Event Value) (more : Value → Run Event Value) → after before run ≡ after now (next_run s next) → step_run s step ≡ next_run s next >>= more → after before (run >>= more) ≡ after now (step_run s step)
  step_then before now step next run more h same =
      sym (bind-after before run more)
      ∙ (ap (λ r. r >>= more) h
      ∙ (bind-after now (next_run s next) more ∙ ap (after now) (sym same)))

-- Laws of runs, and how what was told so far goes on.
use Rattle.std.proofs.Common.{◌≡◌, List, [], ◌++◌, refl, sym, ap, ◌∙◌}
use Rattle.std.proofs.lemmas.List.{append-nil, append_assoc}
use Rattle.ml_meaning.specs.declared.event.Event.{Event}
use Rattle.ml_meaning.specs.Growth.{Begins}
use Rattle.ml_meaning.specs.Runs.{Run, Done, Stop, Stopped, after, ◌>>=◌, trace}
use Rattle.ml_run.specs.Stack.{Began, Tells}

-- ---- one run after the other

pub after_nil : {E A : Type 0} (r : Run E A) → after [] r ≡ r
after_nil (Done es a) = refl
after_nil (Stop es end) = refl

pub after_after : {E A : Type 0} (xs ys : List E) (r : Run E A) → after xs (after ys r) ≡ after (xs ++ ys) r
after_after xs ys (Done es a) = ap (λ l. Done l a) (sym (append_assoc xs ys es))
after_after xs ys (Stop es end) = ap (λ l. Stop l end) (sym (append_assoc xs ys es))

pub bind_after : {E A B : Type 0} (xs : List E) (r : Run E A) (f : A → Run E B) → (after xs r) >>= f ≡ after xs (r >>= f)
bind_after xs (Done es a) f = sym (after_after xs es (f a))
bind_after xs (Stop es end) f = refl

pub bind_bind : {E A B C : Type 0} (r : Run E A) (f : A → Run E B) (g : B → Run E C) → (r >>= f) >>= g ≡ r >>= (λ a. f a >>= g)
bind_bind (Done es a) f g = bind_after es (f a) g
bind_bind (Stop es end) f g = refl

pub bind_as : {E A B : Type 0} (r : Run E A) (f g : A → Run E B) → ((a : A) → f a ≡ g a) → r >>= f ≡ r >>= g
bind_as (Done es a) f g same = ap (after es) (same a)
bind_as (Stop es end) f g same = refl

-- ---- the events of a run

pub trace_after : {E A : Type 0} (es : List E) (r : Run E A) → trace (after es r) ≡ es ++ trace r
trace_after es (Done fs a) = refl
trace_after es (Stop fs end) = refl

pub begins_same : {A : Type 0} (xs : List A) → Begins xs xs
begins_same xs = ([], append-nil xs)

pub trace_bind : {E A B : Type 0} (r : Run E A) (f : A → Run E B) → Begins (trace r) (trace (r >>= f))
trace_bind (Done es a) f = (trace (f a), sym (trace_after es (f a)))
trace_bind (Stop es end) f = begins_same es

-- ---- what was told goes on

pub tells_bind : {A B : Type 0} (a b : List Event) (r q : Run Event A) (f : A → Run Event B) → Tells a b r q → Tells a b (r >>= f) (q >>= f)
tells_bind a b r q f h = sym (bind_after a r f) ∙ (ap (λ l. l >>= f) h ∙ bind_after b q f)

-- the value was there, and the rest follows
pub tells_value : {A B : Type 0} (a b : List Event) (r : Run Event A) (v : A) (f : A → Run Event B) → Tells a b r (Done [] v) → Tells a b (r >>= f) (f v)
tells_value a b r v f h = tells_bind a b r (Done [] v) f h ∙ ap (after b) (after_nil (f v))

pub tells_told : {A : Type 0} (a b c es : List Event) (r q : Run Event A) → Tells a b r (after es q) → c ≡ b ++ es → Tells a c r q
tells_told a b c es r q h is = h ∙ (after_after b es q ∙ ap (λ l. after l q) (sym is))

pub tells_from : {A : Type 0} (a b es : List Event) (r : Run Event A) → b ≡ a ++ es → Tells a b (after es r) r
tells_from a b es r is = tells_told a a b es (after es r) r refl is

pub tells_began : {A : Type 0} (a b : List Event) (r q : Run Event A) → Tells a b r q → Began a b r
tells_began a b r q h = (trace q, sym (trace_after b q) ∙ (ap trace (sym h) ∙ trace_after a r))

pub tells_on : {A : Type 0} (a b c : List Event) (r q : Run Event A) → Tells a b r q → Began b c q → Began a c r
tells_on a b c r q h (rest, e) = (rest, e ∙ (sym (trace_after b q) ∙ (ap trace (sym h) ∙ trace_after a r)))

pub began_bind : {A B : Type 0} (a b : List Event) (r : Run Event A) (f : A → Run Event B) → Began a b r → Began a b (r >>= f)
began_bind a b r f (rest, e) =
    let (more, is) = trace_bind r f in (
      rest ++ more,
      sym (append_assoc b rest more) ∙ (ap (λ l. l ++ more) e ∙ (append_assoc a (trace r) more ∙ ap (λ l. a ++ l) is)),
    )

pub began_told : {A : Type 0} (a b es : List Event) (r : Run Event A) → Begins b (a ++ es) → Began a b (after es r)
began_told a b es r (rest, e) = (
  rest ++ trace r,
  sym (append_assoc b rest (trace r)) ∙ (ap (λ l. l ++ trace r) e ∙ (append_assoc a es (trace r) ∙ ap (λ l. a ++ l) (sym (trace_after es r)))),
)

pub began_stop : {A : Type 0} (a b es : List Event) (end : Stopped) (r : Run Event A) → b ≡ a ++ es → r ≡ Stop es end → Began a b r
began_stop a b es end r e is = ([], append-nil b ∙ (e ∙ ap (λ q. a ++ trace q) (sym is)))

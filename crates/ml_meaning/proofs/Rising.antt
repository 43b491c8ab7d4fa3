-- Runs that go on with more fuel: the small runs, and what `after` and `>>=` keep.
use Rattle.std.proofs.Common.{◌≡◌, List, [], ◌++◌, refl, sym, ap, ◌∙◌, subst, append_assoc, append-nil}
use Rattle.ml_meaning.specs.declared.event.Ending.TheVariants as ending
use Rattle.ml_meaning.specs.Runs.{Run, Done, Stop, Ended, Stuck, trace, after, ◌>>=◌}
use Rattle.ml_meaning.specs.Growth.{Begins, GoesOn}

pub begins-same : {A : Type 0} (xs : List A) → Begins xs xs
begins-same xs = ([], append-nil xs)

pub begins-after : {A : Type 0} (es xs ys : List A) → Begins xs ys → Begins (es ++ xs) (es ++ ys)
begins-after es xs ys (rest, e) = (rest, append_assoc es xs rest ∙ ap (λ l. es ++ l) e)

pub begins-more : {A : Type 0} (xs ys zs : List A) → Begins xs ys → Begins xs (ys ++ zs)
begins-more xs ys zs (rest, e) = (rest ++ zs, sym (append_assoc xs rest zs) ∙ ap (λ l. l ++ zs) e)

pub goes_same : {E A : Type 0} (r : Run E A) → GoesOn r r
goes_same (Done es a) = refl
goes_same (Stop es (Ended ending.More)) = begins-same es
goes_same (Stop es (Ended (ending.Exit status))) = refl
goes_same (Stop es Stuck) = refl

pub trace-after : {E A : Type 0} (es : List E) (r : Run E A) → trace (after es r) ≡ es ++ trace r
trace-after es (Done fs a) = refl
trace-after es (Stop fs end) = refl

pub goes_after : {E A : Type 0} (es : List E) (r q : Run E A) → GoesOn r q → GoesOn (after es r) (after es q)
goes_after es (Done fs a) q g = ap (after es) g
goes_after es (Stop fs (Ended ending.More)) q g =
    subst (Begins (es ++ fs)) (sym (trace-after es q)) (begins-after es fs (trace q) g)
goes_after es (Stop fs (Ended (ending.Exit status))) q g = ap (after es) g
goes_after es (Stop fs Stuck) q g = ap (after es) g

pub begins-bind : {E A B : Type 0} (es : List E) (q : Run E A) (f : A → Run E B) → Begins es (trace q) → Begins es (trace (q >>= f))
begins-bind es (Done fs a) f g = subst (Begins es) (sym (trace-after fs (f a))) (begins-more es fs (trace (f a)) g)
begins-bind es (Stop fs end) f g = g

pub goes_bind : {E A B : Type 0} (r q : Run E A) (f g : A → Run E B) → GoesOn r q → ((a : A) → GoesOn (f a) (g a)) → GoesOn (r >>= f) (q >>= g)
goes_bind {B = B} (Done es a) q f g same next =
    subst (λ p. GoesOn (after es (f a)) (p >>= g)) (sym same) (goes_after es (f a) (g a) (next a))
goes_bind (Stop es (Ended ending.More)) q f g begins next = begins-bind es q g begins
goes_bind (Stop es (Ended (ending.Exit status))) q f g same next = ap (λ p. p >>= g) same
goes_bind (Stop es Stuck) q f g same next = ap (λ p. p >>= g) same

-- Laws of runs, and the values of parts taken from the right.
use Rattle.std.proofs.Common.{◌≡◌, ◌<◌, ◌-◌, ℕ, zero, suc, List, [], ◌∷◌, ◌++◌, take, Some, slice_get, refl, sym, ap, ◌∙◌, append_assoc, arith}
use Rattle.ml_meaning.specs.declared.event.Event.{Event}
use Rattle.ml_meaning.specs.Evaluation.{values}
use Rattle.ml_meaning.specs.Patterns.{Env}
use Rattle.ml_meaning.specs.Runs.{Run, Done, Stop, after, ◌>>=◌}
use Rattle.ml_meaning.specs.Tellings.{Call, Inner, Meaning, Setting}
use Rattle.ml_meaning.specs.Values.{Value, Values, no_values, value_and, listed, packed}

-- ---- laws of runs

pub after_none : {E A : Type 0} (r : Run E A) → after [] r ≡ r
after_none (Done es a) = refl
after_none (Stop es end) = refl

pub after_both : {E A : Type 0} (xs ys : List E) (r : Run E A) → after xs (after ys r) ≡ after (xs ++ ys) r
after_both xs ys (Done es a) = ap (λ es. Done es a) (sym (append_assoc xs ys es))
after_both xs ys (Stop es end) = ap (λ es. Stop es end) (sym (append_assoc xs ys es))

pub after_then : {E A B : Type 0} (xs : List E) (r : Run E A) (k : A → Run E B) → after xs r >>= k ≡ after xs (r >>= k)
after_then xs (Done es a) k = sym (after_both xs es (k a))
after_then xs (Stop es end) k = refl

pub then_then : {E A B C : Type 0} (r : Run E A) (f : A → Run E B) (g : B → Run E C) → (r >>= f) >>= g ≡ r >>= λ a. f a >>= g
then_then (Done es a) f g = after_then es (f a) g
then_then (Stop es end) f g = refl

pub then_same : {E A B : Type 0} (r : Run E A) (f g : A → Run E B) → ((a : A) → f a ≡ g a) → r >>= f ≡ r >>= g
then_same (Done es a) f g same = ap (after es) (same a)
then_same (Stop es end) f g same = refl

-- what goes on behind equal runs
pub goes_on : {E A B : Type 0} (before now : List E) (run given : Run E A) (k : A → Run E B) → after before run ≡ after now given → after before (run >>= k) ≡ after now (given >>= k)
goes_on before now run given k e = sym (after_then before run k) ∙ (ap (λ r. r >>= k) e ∙ after_then now given k)

-- what is told in between comes first
pub tells : {E A : Type 0} (before now es : List E) (run : Run E A) → now ≡ before ++ es → after before (after es run) ≡ after now run
tells before now es run e = after_both before es run ∙ ap (λ told. after told run) (sym e)

-- ---- parts

pub packed_listed : (vs : Values) → packed (listed vs) ≡ vs
packed_listed no_values = refl
packed_listed (value_and v vs) = ap (value_and v) (packed_listed vs)

pub take_last : {A : Type 0} (xs : List A) (n : ℕ) (x : A) → slice_get xs n ≡ Some x → take (suc n) xs ≡ take n xs ++ (x ∷ [])
take_last [] n x e = absurd (cc)
take_last (y ∷ ys) zero x e = let same : y ≡ x = cc in ap (λ z. z ∷ []) same
take_last (y ∷ ys) (suc n) x e = ap (λ zs. y ∷ zs) (take_last ys n x e)

module _ (s : Setting Event) where
  -- the last part is evaluated first
  pub values_last : {B : Type 0} (ms : List (Meaning Event)) (m : Meaning Event) (c : Call Event) (env : Env) (k : List Value → Run Event B) →
      values Event s (ms ++ (m ∷ [])) c env >>= k ≡ m c Inner env >>= λ v. values Event s ms c env >>= λ us. k (us ++ (v ∷ []))
  values_last [] m c env k =
      ap (λ r. r >>= k) (after_none (m c Inner env >>= λ v. Done [] (v ∷ [])))
      ∙ then_then (m c Inner env) (λ v. Done [] (v ∷ [])) k
  values_last (x ∷ xs) m c env k =
      then_then (values Event s (xs ++ (m ∷ [])) c env) (λ vs. x c Inner env >>= λ v. Done [] (v ∷ vs)) k
      ∙ (values_last xs m c env (λ vs. (x c Inner env >>= λ v. Done [] (v ∷ vs)) >>= k)
      ∙ then_same (m c Inner env) _ _ (λ w.
      then_same (values Event s xs c env) _ _ (λ us.
      then_then (x c Inner env) (λ v. Done [] (v ∷ (us ++ (w ∷ [])))) k
      ∙ sym (then_then (x c Inner env) (λ v. Done [] (v ∷ us)) (λ vs. k (vs ++ (w ∷ [])))))
      ∙ sym (then_then (values Event s xs c env) (λ us. x c Inner env >>= λ v. Done [] (v ∷ us)) (λ vs. k (vs ++ (w ∷ []))))))

  -- one part more is evaluated, and those before it follow
  pub part_more : {B : Type 0} (ms : List (Meaning Event)) (left : ℕ) (m : Meaning Event) (c : Call Event) (env : Env) (k : List Value → Run Event B) (done : List Value) →
      0 < left → slice_get ms (left - 1) ≡ Some m →
      values Event s (take left ms) c env >>= (λ us. k (us ++ done)) ≡ m c Inner env >>= λ v. values Event s (take (left - 1) ms) c env >>= λ us. k (us ++ (v ∷ done))
  part_more ms left m c env k done pos is =
      let back : left ≡ suc (left - 1) = omega (arith, pos) in
      ap (λ n. values Event s (take n ms) c env >>= (λ us. k (us ++ done))) back
      ∙ (ap (λ xs. values Event s xs c env >>= (λ us. k (us ++ done))) (take_last ms (left - 1) m is)
      ∙ (values_last (take (left - 1) ms) m c env (λ us. k (us ++ done))
      ∙ then_same (m c Inner env) _ _ (λ v.
      then_same (values Event s (take (left - 1) ms) c env) _ _ (λ us. ap k (append_assoc us (v ∷ []) done)))))

  -- all parts are there
  pub parts_there : {B : Type 0} (ms : List (Meaning Event)) (left : ℕ) (c : Call Event) (env : Env) (k : List Value → Run Event B) (done : List Value) →
      left ≡ 0 → values Event s (take left ms) c env >>= (λ us. k (us ++ done)) ≡ k done
  parts_there ms left c env k done none =
      ap (λ n. values Event s (take n ms) c env >>= (λ us. k (us ++ done))) none ∙ after_none (k done)

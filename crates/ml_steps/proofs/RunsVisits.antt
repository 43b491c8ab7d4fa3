-- Laws of runs, and of lists of runs, for how expressions begin.
use Rattle.std.proofs.Common.{◌≡◌, ℕ, zero, suc, List, [], ◌∷◌, ◌++◌, map, take, drop, length, Option, Some, slice_get, unwrap_or, refl, sym, ap, ◌∙◌, append_assoc}
use Rattle.ml_meaning.specs.declared.event.Event.{Event}
use Rattle.ml_meaning.specs.Functions.{FunctionCode}
use Rattle.ml_meaning.specs.Names.{References}
use Rattle.ml_meaning.specs.Runs.{Run, Done, Stop, after, ◌>>=◌}
use Rattle.ml_meaning.specs.Tellings.{Setting}
use Rattle.ml_meaning.specs.Values.{Value}

-- a setting that tells the events as they are
abbrev pub plain : References → (ℕ → ℕ → ℕ) → (ℕ → Option FunctionCode) → (ℕ → Option Value) → ℕ → Setting Event
plain names fields code top append = record { told = λ e. e ∷ []; visit = []; names = names; fields = fields; code = code; top = top; append = append }

pub after_none : {E A : Type 0} (r : Run E A) → after [] r ≡ r
after_none (Done es a) = refl
after_none (Stop es end) = refl

pub after_after : {E A : Type 0} (es fs : List E) (r : Run E A) → after es (after fs r) ≡ after (es ++ fs) r
after_after es fs (Done gs a) = ap (λ hs. Done hs a) (sym (append_assoc es fs gs))
after_after es fs (Stop gs end) = ap (λ hs. Stop hs end) (sym (append_assoc es fs gs))

-- a run that is followed by equal runs
pub bind_same : {E A B : Type 0} (r : Run E A) (f g : A → Run E B) → ((a : A) → f a ≡ g a) → (r >>= f) ≡ (r >>= g)
bind_same (Done es a) f g same = ap (after es) (same a)
bind_same (Stop es end) f g same = refl

pub bind_after : {E A B : Type 0} (es : List E) (r : Run E A) (f : A → Run E B) → (after es r >>= f) ≡ after es (r >>= f)
bind_after es (Done fs a) f = sym (after_after es fs (f a))
bind_after es (Stop fs end) f = refl

pub bind_bind : {E A B C : Type 0} (r : Run E A) (f : A → Run E B) (g : B → Run E C) → ((r >>= f) >>= g) ≡ (r >>= λ a. (f a >>= g))
bind_bind (Done es a) f g = bind_after es (f a) g
bind_bind (Stop es end) f g = refl

-- the values of two parts, the right one first, are two
pub after_two : {E A B : Type 0} (right left : Run E A) (f g : List A → Run E B) → ((x y : A) → f (x ∷ (y ∷ [])) ≡ g (x ∷ (y ∷ []))) → (((Done [] [] >>= λ vs. right >>= λ v. Done [] (v ∷ vs)) >>= λ vs. left >>= λ v. Done [] (v ∷ vs)) >>= f) ≡ (((Done [] [] >>= λ vs. right >>= λ v. Done [] (v ∷ vs)) >>= λ vs. left >>= λ v. Done [] (v ∷ vs)) >>= g)
after_two (Done es y) (Done fs x) f g same = ap (after ((es ++ []) ++ (fs ++ []))) (same x y)
after_two (Done es y) (Stop fs end) f g same = refl
after_two (Stop es end) left f g same = refl

pub map_same : {A B : Type 0} (f g : A → B) → ((a : A) → f a ≡ g a) → (xs : List A) → map f xs ≡ map g xs
map_same f g same [] = refl
map_same f g same (x ∷ xs) = ap (λ y. y ∷ map f xs) (same x) ∙ ap (λ ys. g x ∷ ys) (map_same f g same xs)

pub take_all_of : {A B : Type 0} (f : A → B) (xs : List A) → take (length xs) (map f xs) ≡ map f xs
take_all_of f [] = refl
take_all_of f (x ∷ xs) = ap (λ ys. f x ∷ ys) (take_all_of f xs)

pub take_last : {A B : Type 0} (f : A → B) (xs : List A) (k : ℕ) (x : A) → slice_get xs k ≡ Some x → take (suc k) (map f xs) ≡ take k (map f xs) ++ (f x ∷ [])
take_last f [] k x is = cc
take_last f (y ∷ ys) zero x is = ap (λ o. f (unwrap_or o y) ∷ []) is
take_last f (y ∷ ys) (suc k) x is = ap (λ zs. f y ∷ zs) (take_last f ys k x is)

pub drop_first : {A : Type 0} (xs : List A) (k : ℕ) (x : A) → slice_get xs k ≡ Some x → drop k xs ≡ x ∷ drop (suc k) xs
drop_first [] k x is = cc
drop_first (y ∷ ys) zero x is = ap (λ o. unwrap_or o y ∷ ys) is
drop_first (y ∷ ys) (suc k) x is = drop_first ys k x is

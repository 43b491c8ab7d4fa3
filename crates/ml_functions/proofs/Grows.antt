-- A loop that puts the names of each part behind those that are there.
use Rattle.std.proofs.Common.{◌≡◌, ℕ, suc, ◌+◌, ◌<◌, ◌≤◌, List, [], ◌∷◌, ◌++◌, map, length, get_or, drop, refl, sym, ap, ◌∙◌, add-one, drop-cons}
use Rattle.std.proofs.lemmas.List.{append_assoc, append-nil, drop_all}
use Rattle.ml_tree.specs.declared.pattern.Param.{Param}
use Rattle.ml_meaning.specs.Captures.{together, bound_names, bound_by_params}

-- the names that are there, and those of the parts from this index on, are those from before and those of all parts
pub record Grows {A : Type 0} (f : A → List ℕ) (xs : List A) (i : ℕ) (before now : List ℕ) : Type 0 where
  pub so_far : now ++ together (map f (drop i xs)) ≡ before ++ together (map f xs)

pub grows_start : {A : Type 0} (f : A → List ℕ) (xs : List A) (before : List ℕ) → Grows f xs 0 before before
grows_start f xs before = record { so_far = refl }

split : {A : Type 0} (xs : List A) (i : ℕ) (x : A) → i < length xs → x ≡ get_or xs i x → drop i xs ≡ x ∷ drop (i + 1) xs
split xs i x lt e = rw add-one (drop-cons xs i x lt ∙ ap (λ z. z ∷ drop (suc i) xs) (sym e))

pub grows_step : {A : Type 0} (f : A → List ℕ) (xs : List A) (i : ℕ) (x : A) (before now after : List ℕ) → i < length xs → x ≡ get_or xs i x → after ≡ now ++ f x → Grows f xs i before now → Grows f xs (i + 1) before after
grows_step f xs i x before now after lt is e g =
    let rest = together (map f (drop (i + 1) xs)) in
    let here : now ++ (f x ++ rest) ≡ before ++ together (map f xs) = ap (λ zs. now ++ together (map f zs)) (sym (split xs i x lt is)) ∙ g.so_far in
    record { so_far = ap (λ ys. ys ++ rest) e ∙ (append_assoc now (f x) rest ∙ here) }

pub grows_end : {A : Type 0} (f : A → List ℕ) (xs : List A) (i : ℕ) (before now : List ℕ) → length xs ≤ i → Grows f xs i before now → now ≡ before ++ together (map f xs)
grows_end f xs i before now le g = sym (append-nil now) ∙ (ap (λ zs. now ++ together (map f zs)) (sym (drop_all i xs le)) ∙ g.so_far)

abbrev pub bound_of_param : Param → List ℕ
bound_of_param q = bound_names q.pat

by_params : (xs : List Param) → together (map bound_of_param xs) ≡ bound_by_params xs
by_params [] = refl
by_params (q ∷ qs) = ap (λ ys. bound_names q.pat ++ ys) (by_params qs)

pub params_end : (xs : List Param) (i : ℕ) (before now : List ℕ) → length xs ≤ i → Grows bound_of_param xs i before now → now ≡ before ++ bound_by_params xs
params_end xs i before now le g = grows_end bound_of_param xs i before now le g ∙ ap (λ ys. before ++ ys) (by_params xs)

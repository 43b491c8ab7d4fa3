-- Loops that append what each item of a list gives.
use Rattle.std.proofs.Common.{◌≡◌, ℕ, suc, ◌+◌, ◌<◌, ◌≤◌, List, [], ◌∷◌, ◌++◌, length, map, drop, get_or, refl, sym, ap, ◌∙◌, append_assoc}
use Rattle.std.proofs.lemmas.List.{drop_all}
use Rattle.std.proofs.Math.Seq.{drop-cons}
use Rattle.std.proofs.Common.{add-one}
use Rattle.ml_mentions.specs.Lists.{all}

nothing_more : {B : Type 0} → (xs : List B) → xs ++ [] ≡ xs
nothing_more [] = refl
nothing_more (x ∷ xs) = ap (λ z. x ∷ z) (nothing_more xs)

-- the items from a place on are the one there and those behind it
pub from_place : {A : Type 0} → (list : List A) (i : ℕ) (item : A) → i < length list → item ≡ get_or list i item → drop i list ≡ item ∷ drop (i + 1) list
from_place list i item h is = drop-cons list i item h ∙ ap (λ z. z ∷ drop (suc i) list) (sym is) ∙ ap (λ n. item ∷ drop n list) (sym (add-one i))

pub all_step : {A B : Type 0} → (g : A → List B) (list : List A) (i : ℕ) (item : A) (now next total : List B) → i < length list → item ≡ get_or list i item → next ≡ now ++ g item → now ++ all (map g (drop i list)) ≡ total → next ++ all (map g (drop (i + 1) list)) ≡ total
all_step {B = B} g list i item now next total h is e inv =
    let rest : List B = all (map g (drop (i + 1) list)) in
    ap (λ z. z ++ rest) e ∙ append_assoc now (g item) rest ∙ ap (λ z. now ++ all (map g z)) (sym (from_place list i item h is)) ∙ inv

pub all_end : {A B : Type 0} → (g : A → List B) (list : List A) (i : ℕ) (now total : List B) → length list ≤ i → now ++ all (map g (drop i list)) ≡ total → now ≡ total
all_end g list i now total h inv = sym (nothing_more now) ∙ ap (λ z. now ++ all (map g z)) (sym (drop_all i list h)) ∙ inv

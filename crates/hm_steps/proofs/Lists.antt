-- Lists that a loop builds from the elements of another.
use Rattle.std.proofs.Common.{◌≡◌, ℕ, suc, ◌+◌, ◌<◌, ◌≤◌, List, [], ◌∷◌, ◌++◌, length, get_or, drop, sym, ap, ◌∙◌, add-one, drop-cons}
use Rattle.std.proofs.lemmas.List.{append_assoc, append-nil, drop_all}

split : {A : Type 0} (xs : List A) (i : ℕ) (x : A) → i < length xs → x ≡ get_or xs i x → drop i xs ≡ x ∷ drop (i + 1) xs
split xs i x lt e = rw add-one (drop-cons xs i x lt ∙ ap (λ z. z ∷ drop (suc i) xs) (sym e))

-- each element gives a block, and all of them one after the other the whole
pub block_step : {A B : Type 0} (block : A → List B) (total : List A → List B) (xs : List A) (i : ℕ) (x : A) (old new all : List B) → ((y : A) (ys : List A) → total (y ∷ ys) ≡ block y ++ total ys) → i < length xs → x ≡ get_or xs i x → new ≡ old ++ block x → old ++ total (drop i xs) ≡ all → new ++ total (drop (i + 1) xs) ≡ all
block_step block total xs i x old new all law lt is grown h =
    let rest = total (drop (i + 1) xs) in
    let here = ap total (split xs i x lt is) ∙ law x (drop (i + 1) xs) in
    ap (λ ys. ys ++ rest) grown ∙ (append_assoc old (block x) rest ∙ (ap (λ ys. old ++ ys) (sym here) ∙ h))

pub block_end : {A B : Type 0} (total : List A → List B) (xs : List A) (i : ℕ) (ready all : List B) → total [] ≡ [] → length xs ≤ i → ready ++ total (drop i xs) ≡ all → ready ≡ all
block_end total xs i ready all none le h =
    sym (append-nil ready) ∙ (ap (λ ys. ready ++ ys) (sym (ap total (drop_all i xs le) ∙ none)) ∙ h)

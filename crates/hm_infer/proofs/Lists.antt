-- Laws of lists.
use Rattle.std.proofs.Common.{◌≡◌, ℕ, zero, suc, ◌+◌, ◌<◌, ◌≤◌, List, [], ◌∷◌, ◌++◌, length, take, Some, None, refl, sym, ap, ◌∙◌, arith, ◌⊎◌, inl, inr}
use Rattle.std.specs.List.{slice_get}
use Rattle.ml_typing.specs.declared.equation.Step.{Step}
use Rattle.ml_typing.specs.Terms.{Context}
use Rattle.ml_typing.specs.Typing.{pairs, step_pairs}

pub within_at : {A : Type 0} (xs : List A) (i : ℕ) → i < length xs → (x : A) × (slice_get xs i ≡ Some x)
within_at [] i h = absurd (omega (arith, h))
within_at (x ∷ xs) zero h = (x, refl)
within_at (x ∷ xs) (suc i) h = within_at xs i (omega (arith, h))

pub take_take : {A : Type 0} (xs : List A) (k n : ℕ) → k ≤ n → take k (take n xs) ≡ take k xs
take_take xs zero n h = refl
take_take [] (suc k) zero h = refl
take_take [] (suc k) (suc n) h = refl
take_take (x ∷ xs) (suc k) zero h = absurd (omega (arith, h))
take_take (x ∷ xs) (suc k) (suc n) h = ap (λ ys. x ∷ ys) (take_take xs k n (omega (arith, h)))

pub take_whole : {A : Type 0} (xs : List A) (n : ℕ) → length xs ≤ n → take n xs ≡ xs
take_whole [] zero h = refl
take_whole [] (suc n) h = refl
take_whole (x ∷ xs) zero h = absurd (omega (arith, h))
take_whole (x ∷ xs) (suc n) h = ap (λ ys. x ∷ ys) (take_whole xs n (omega (arith, h)))

pub length_take : {A : Type 0} (xs : List A) (n : ℕ) → length (take n xs) ≤ n
length_take xs zero = omega (arith)
length_take [] (suc n) = omega (arith)
length_take (x ∷ xs) (suc n) = (let h = length_take xs n in omega (arith, h))

plus_one : (k : ℕ) → k + 1 ≡ suc k
plus_one k = omega (arith)

take_more : {A : Type 0} (xs : List A) (k : ℕ) (x : A) → slice_get xs k ≡ Some x → take (suc k) xs ≡ take k xs ++ x ∷ []
take_more [] k x e = absurd (let q : None ≡ Some x = e in cc)
take_more (y ∷ xs) zero x e = let q : y ≡ x = cc in ap (λ z. z ∷ []) q
take_more (y ∷ xs) (suc k) x e = ap (λ ys. y ∷ ys) (take_more xs k x e)

-- the front up to a place and the item there
pub take_next : {A : Type 0} (xs : List A) (k : ℕ) (x : A) → slice_get xs k ≡ Some x → take (k + 1) xs ≡ take k xs ++ x ∷ []
take_next xs k x e = ap (λ n. take n xs) (plus_one k) ∙ take_more xs k x e

at_more : {A : Type 0} (xs : List A) (k : ℕ) (x : A) → slice_get xs k ≡ Some x → slice_get (take (suc k) xs) k ≡ Some x
at_more [] k x e = absurd (let q : None ≡ Some x = e in cc)
at_more (y ∷ xs) zero x e = e
at_more (y ∷ xs) (suc k) x e = at_more xs k x e

pub at_next : {A : Type 0} (xs : List A) (k : ℕ) (x : A) → slice_get xs k ≡ Some x → slice_get (take (k + 1) xs) k ≡ Some x
at_next xs k x e = ap (λ n. slice_get (take n xs) k) (plus_one k) ∙ at_more xs k x e

-- an item of a list with one more at the end
pub at_pushed : {A : Type 0} (xs : List A) (x : A) (i : ℕ) (y : A) → slice_get (xs ++ x ∷ []) i ≡ Some y → (slice_get xs i ≡ Some y) ⊎ ((i ≡ length xs) × (x ≡ y))
at_pushed [] x zero y e = let q : x ≡ y = cc in inr (refl, q)
at_pushed [] x (suc i) y e = absurd (let q : None ≡ Some y = e in cc)
at_pushed (z ∷ xs) x zero y e = inl e
at_pushed (z ∷ xs) x (suc i) y e = by (at_pushed xs x i y e)
  where
    by : (slice_get xs i ≡ Some y) ⊎ ((i ≡ length xs) × (x ≡ y)) → (slice_get xs i ≡ Some y) ⊎ ((suc i ≡ suc (length xs)) × (x ≡ y))
    by (inl q) = inl q
    by (inr q) = inr (ap suc q.0, q.1)

pub append_assoc : {A : Type 0} (xs ys zs : List A) → (xs ++ ys) ++ zs ≡ xs ++ (ys ++ zs)
append_assoc [] ys zs = refl
append_assoc (x ∷ xs) ys zs = ap (λ l. x ∷ l) (append_assoc xs ys zs)

pub append_none : {A : Type 0} (xs : List A) → xs ++ [] ≡ xs
append_none [] = refl
append_none (x ∷ xs) = ap (λ l. x ∷ l) (append_none xs)

-- the pairs of steps and one more
pub pairs_append : (c : Context) (ss : List Step) (s : Step) → pairs c (ss ++ s ∷ []) ≡ pairs c ss ++ step_pairs c s
pairs_append c [] s = append_none (step_pairs c s)
pairs_append c (t ∷ ss) s = ap (λ l. step_pairs c t ++ l) (pairs_append c ss s) ∙ sym (append_assoc (step_pairs c t) (pairs c ss) (step_pairs c s))

pub pairs_next : (c : Context) (steps : List Step) (k : ℕ) (s : Step) → slice_get steps k ≡ Some s → pairs c (take (k + 1) steps) ≡ pairs c (take k steps) ++ step_pairs c s
pairs_next c steps k s e = ap (pairs c) (take_next steps k s e) ∙ pairs_append c (take k steps) s

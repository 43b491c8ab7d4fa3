-- The closings and the table of a list of tokens, place by place.
use Rattle.std.proofs.Common.{◌≡◌, ℕ, zero, suc, ◌+◌, ◌<◌, Bool, false, List, [], ◌∷◌, ◌++◌, length, Some, None, slice_get, slice_set, get_or, drop, reverse, refl, sym, ap, ◌∙◌, arith}
use Rattle.std.proofs.lemmas.List.{reverse-append, drop-set}
use Rattle.ml_lexer.specs.declared.token.Token.{Token}
use Rattle.ml_cursor.specs.declared.lets.Closing.{Closing}
use Rattle.ml_cursor.specs.declared.lets.Role.{Role}
use Rattle.ml_cursor.specs.Fronts.{of_kind}
use Rattle.ml_cursor.specs.Lets.{role_of, taken, closed_by, closings, begins_closed_let, closed_lets}

pub last_first : {A : Type 0} (xs : List A) (x : A) → reverse (xs ++ x ∷ []) ≡ x ∷ reverse xs
last_first xs x = reverse-append xs (x ∷ [])

pub closings_at : (ts : List Token) (at i : ℕ) (d : Token) → at ≡ i + 1 → i < length ts → closings (drop i ts) ≡ taken (role_of (of_kind (get_or ts i d).kind)) (closings (drop at ts))
unfolding closings
closings_at [] at i d e lt = absurd (omega (arith, lt))
closings_at (u ∷ ts) zero i d e lt = absurd (omega (arith, e))
closings_at (u ∷ ts) (suc at) zero d e lt = let z : at ≡ 0 = omega (arith, e) in rw z refl
closings_at (u ∷ ts) (suc at) (suc i) d e lt = closings_at ts at i d (omega (arith, e)) (omega (arith, lt))

pub table_at : (ts : List Token) (at i : ℕ) (d : Token) → at ≡ i + 1 → i < length ts → closed_lets (drop i ts) ≡ closed_by (role_of (of_kind (get_or ts i d).kind)) (closings (drop at ts)) ∷ closed_lets (drop at ts)
unfolding closings closed_lets begins_closed_let
table_at [] at i d e lt = absurd (omega (arith, lt))
table_at (u ∷ ts) zero i d e lt = absurd (omega (arith, e))
table_at (u ∷ ts) (suc at) zero d e lt = let z : at ≡ 0 = omega (arith, e) in rw z refl
table_at (u ∷ ts) (suc at) (suc i) d e lt = table_at ts at i d (omega (arith, e)) (omega (arith, lt))

pub read_some : (ts : List Token) (i : ℕ) (b : Bool) → slice_get (closed_lets ts) i ≡ Some b → b ≡ begins_closed_let (drop i ts)
unfolding closed_lets
read_some [] i b e = cc
read_some (t ∷ ts) zero b e = cc
read_some (t ∷ ts) (suc i) b e = read_some ts i b e

pub read_none : (ts : List Token) (i : ℕ) → slice_get (closed_lets ts) i ≡ None → false ≡ begins_closed_let (drop i ts)
unfolding closed_lets begins_closed_let
read_none [] zero e = refl
read_none [] (suc i) e = refl
read_none (t ∷ ts) zero e = cc
read_none (t ∷ ts) (suc i) e = read_none ts i e

pub closings_end : (ts : List Token) → closings (drop (length ts) ts) ≡ []
unfolding closings
closings_end [] = refl
closings_end (t ∷ ts) = closings_end ts

pub table_end : (ts : List Token) (bs : List Bool) → length bs ≡ length ts → drop (length ts) bs ≡ closed_lets (drop (length ts) ts)
unfolding closed_lets
table_end [] [] e = refl
table_end [] (b ∷ bs) e = absurd (omega (arith, e))
table_end (t ∷ ts) [] e = absurd (omega (arith, e))
table_end (t ∷ ts) (b ∷ bs) e = table_end ts bs (omega (arith, e))

pub left_step : (ts : List Token) (at i : ℕ) (d : Token) (r : Role) (old new : List Closing) → at ≡ i + 1 → i < length ts → r ≡ role_of (of_kind (get_or ts i d).kind) → old ≡ closings (drop at ts) → new ≡ taken r old → new ≡ closings (drop i ts)
left_step ts at i d r old new e lt role was now = now ∙ (ap (λ s. taken s old) role ∙ (ap (taken (role_of (of_kind (get_or ts i d).kind))) was ∙ sym (closings_at ts at i d e lt)))

pub table_step : (ts : List Token) (at i : ℕ) (d : Token) (r : Role) (old : List Closing) (bs : List Bool) (b : Bool) → at ≡ i + 1 → i < length ts → r ≡ role_of (of_kind (get_or ts i d).kind) → old ≡ closings (drop at ts) → length bs ≡ length ts → drop at bs ≡ closed_lets (drop at ts) → b ≡ closed_by r old → drop i (slice_set bs i b) ≡ closed_lets (drop i ts)
table_step ts at i d r old bs b e lt role was long rest now =
    let value : b ≡ closed_by (role_of (of_kind (get_or ts i d).kind)) (closings (drop at ts)) = now ∙ (ap (λ s. closed_by s old) role ∙ ap (closed_by (role_of (of_kind (get_or ts i d).kind))) was) in
    let shorter : drop (i + 1) bs ≡ closed_lets (drop at ts) = ap (λ n. drop n bs) (sym e) ∙ rest in
    let within : i < length bs = omega (arith, lt, long) in
    drop-set bs i b within ∙ (ap (λ c. c ∷ drop (i + 1) bs) value ∙ (ap (λ cs. closed_by (role_of (of_kind (get_or ts i d).kind)) (closings (drop at ts)) ∷ cs) shorter ∙ sym (table_at ts at i d e lt)))

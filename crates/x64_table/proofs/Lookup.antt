-- Which segment an access finds, by its place.
use Rattle.std.proofs.Common.{ℕ, zero, suc, ◌+◌, ◌<◌, ◌≤◌, ◌≡◌, Bool, true, false, cond, not, ◌&&◌, nat_lt, List, [], ◌∷◌, length, set, get_or, slice_get, Option, Some, None, option_map, find, position, refl, sym, ap, ◌∙◌, arith, if◌then◌else◌}
use Rattle.std.specs.List.{position_or_len}
use Rattle.std.proofs.lemmas.List.Folds.{find_at}
use Rattle.std.proofs.lemmas.Bool.Decides.{nat_tests}
use Rattle.x64_table.specs.declared.memory.Mapped.{Mapped}
use Rattle.std.proofs.lemmas.List.{map-set}
use Rattle.x64_table.specs.declared.cpu.Cpu.{Cpu}
use Rattle.x64_table.specs.Machine.{Loaded, has_some, change_first, holds, is_readable, is_writable}
use Rattle.x64_table.specs.View.{loaded_of, loaded}

abbrev seen : (Loaded → Bool) → Mapped → Bool
seen p m = p (loaded_of m)

cons_find : (b : Bool) (m : Mapped) (o : Option Loaded) (q : Option Mapped) → o ≡ option_map loaded_of q → cond b (Some (loaded_of m)) o ≡ option_map loaded_of (cond b (Some m) q)
cons_find true m o q e = refl
cons_find false m o q e = e

find-map : (p : Loaded → Bool) (xs : List Mapped) → find p (loaded xs) ≡ option_map loaded_of (find (seen p) xs)
find-map p [] = refl
find-map p (m ∷ xs) = cons_find (p (loaded_of m)) m _ _ (find-map p xs)

get_past : {A : Type 0} (xs : List A) (k : ℕ) → length xs ≤ k → slice_get xs k ≡ None
get_past [] k h = refl
get_past (x ∷ xs) zero h = absurd (omega arith)
get_past (x ∷ xs) (suc k) h = get_past xs k (omega arith)

place_is : (b : Bool) (n k : ℕ) → Some k ≡ cond b (Some n) None → (b ≡ true) × (k ≡ n)
place_is true n k e = (refl, cc)
place_is false n k e = absurd (cc)

place_none : (b : Bool) (n : ℕ) → None ≡ cond b (Some n) None → b ≡ false
place_none true n e = absurd (cc)
place_none false n e = refl

below_true : (a b : ℕ) → nat_lt a b ≡ true → a < b
below_true a b h = grind (arith, nat_tests)

below_false : (a b : ℕ) → nat_lt a b ≡ false → b ≤ a
below_false a b h = grind (arith, nat_tests)

pub found_some : (p : Loaded → Bool) (xs : List Mapped) (k : ℕ) → Some k ≡ position (seen p) xs → find p (loaded xs) ≡ option_map loaded_of (slice_get xs k)
found_some p xs k e =
    let w = place_is (nat_lt (position_or_len (seen p) xs) (length xs)) (position_or_len (seen p) xs) k e in
    find-map p xs ∙ ap (option_map loaded_of) (find_at (seen p) xs ∙ ap (slice_get xs) (sym w.1))

pub found_none : (p : Loaded → Bool) (xs : List Mapped) → None ≡ position (seen p) xs → find p (loaded xs) ≡ None
found_none p xs e =
    let w = place_none (nat_lt (position_or_len (seen p) xs) (length xs)) (position_or_len (seen p) xs) e in
    find-map p xs ∙ ap (option_map loaded_of) (find_at (seen p) xs ∙ get_past xs _ (below_false _ _ w))

pub found_below : (p : Loaded → Bool) (xs : List Mapped) (k : ℕ) → Some k ≡ position (seen p) xs → k < length xs
found_below p xs k e =
    let w = place_is (nat_lt (position_or_len (seen p) xs) (length xs)) (position_or_len (seen p) xs) k e in
    let h = below_true _ _ w.0 in
    omega (arith, h, w.1)

-- what is found passes
passes : (b : Bool) (p : Loaded → Bool) (x s : Loaded) (o : Option Loaded) → p x ≡ b → (o ≡ Some s → p s ≡ true) → cond b (Some x) o ≡ Some s → p s ≡ true
passes true p x s o is rest e = let f : x ≡ s = cc in sym (ap p f) ∙ is
passes false p x s o is rest e = rest e

pub find_passes : (p : Loaded → Bool) (xs : List Loaded) (s : Loaded) → find p xs ≡ Some s → p s ≡ true
find_passes p [] s e = absurd (cc)
find_passes p (x ∷ xs) s e = passes (p x) p x s _ refl (find_passes p xs s) e

-- a change of the first that passes is a write at its place
change_cons : (b : Bool) (m d : Mapped) (c : Loaded → Loaded) (rest : List Mapped) (more : List Loaded) (k : ℕ) → more ≡ set (loaded rest) k (c (loaded_of (get_or rest k d))) → (if b then c (loaded_of m) ∷ loaded rest else loaded_of m ∷ more) ≡ set (loaded (m ∷ rest)) (cond (not b) (1 + k) 0) (c (loaded_of (get_or (m ∷ rest) (cond (not b) (1 + k) 0) d)))
change_cons true m d c rest more k h = refl
change_cons false m d c rest more k h =
    let e : 1 + k ≡ suc k = omega arith in rw e (ap (λ l. loaded_of m ∷ l) h)

change_first-at : (p : Loaded → Bool) (c : Loaded → Loaded) (xs : List Mapped) (d : Mapped) → change_first p c (loaded xs) ≡ set (loaded xs) (position_or_len (seen p) xs) (c (loaded_of (get_or xs (position_or_len (seen p) xs) d)))
change_first-at p c [] d = refl
change_first-at p c (m ∷ xs) d =
    change_cons (p (loaded_of m)) m d c xs _ (position_or_len (seen p) xs) (change_first-at p c xs d)

pub changed_some : (p : Loaded → Bool) (c : Loaded → Loaded) (xs : List Mapped) (k : ℕ) (d y : Mapped) → Some k ≡ position (seen p) xs → loaded_of y ≡ c (loaded_of (get_or xs k d)) → change_first p c (loaded xs) ≡ loaded (set xs k y)
changed_some p c xs k d y e same =
    let w = place_is (nat_lt (position_or_len (seen p) xs) (length xs)) (position_or_len (seen p) xs) k e in
    change_first-at p c xs d ∙ ap (λ n. set (loaded xs) n (c (loaded_of (get_or xs n d)))) (sym w.1) ∙ ap (set (loaded xs) k) (sym same) ∙ sym (map-set loaded_of xs k y)

get_some : {A : Type 0} (xs : List A) (k : ℕ) (d : A) → k < length xs → slice_get xs k ≡ Some (get_or xs k d)
get_some [] k d h = absurd (omega arith)
get_some (x ∷ xs) zero d h = refl
get_some (x ∷ xs) (suc k) d h = get_some xs k d (omega arith)

-- the one that stands at the place passes
pub found_at : (p : Loaded → Bool) (xs : List Mapped) (k : ℕ) (d : Mapped) → Some k ≡ position (seen p) xs → find p (loaded xs) ≡ Some (loaded_of (get_or xs k d))
found_at p xs k d e =
    found_some p xs k e ∙ ap (option_map loaded_of) (get_some xs k d (found_below p xs k e))

pub found_passes : (p : Loaded → Bool) (xs : List Mapped) (k : ℕ) (d : Mapped) → Some k ≡ position (seen p) xs → p (loaded_of (get_or xs k d)) ≡ true
found_passes p xs k d e = find_passes p (loaded xs) _ (found_at p xs k d e)

and_left : (a b : Bool) → (a && b) ≡ true → a ≡ true
and_left true b h = refl
and_left false b h = h

pub readable_holds : (cpu : Cpu) (a n : ℕ) (s : Loaded) → is_readable cpu a n s ≡ true → holds s a n ≡ true
readable_holds cpu a n s h = and_left _ _ h

pub writable_holds : (cpu : Cpu) (a n : ℕ) (s : Loaded) → is_writable cpu a n s ≡ true → holds s a n ≡ true
writable_holds cpu a n s h = and_left _ _ h

got_has : (xs : List Mapped) (k : ℕ) (o : Option Loaded) → k < length xs → o ≡ option_map loaded_of (slice_get xs k) → has_some o ≡ true
got_has [] k o h e = absurd (omega arith)
got_has (x ∷ xs) zero o h e = ap has_some e
got_has (x ∷ xs) (suc k) o h e = got_has xs k o (omega arith) e

pub found_has : (p : Loaded → Bool) (xs : List Mapped) (k : ℕ) → Some k ≡ position (seen p) xs → has_some (find p (loaded xs)) ≡ true
found_has p xs k e = got_has xs k _ (found_below p xs k e) (found_some p xs k e)

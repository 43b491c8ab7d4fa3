-- Names are taken by marks: one more, all of a list, and what is free of the others.
use Rattle.std.proofs.Common.{◌≡◌, ◌≢◌, ◌<◌, ◌≤◌, ◌+◌, ℕ, Bool, true, false, ◌||◌, ◌-◌, List, [], ◌∷◌, ◌++◌, Option, length, get_or, drop, set, ◌==◌, refl, sym, ap, ◌∙◌, subst, arith, add-one, drop-cons, get_or-set_same, get_or-set_other, length-set, tests}
use Rattle.std.specs.Prelude.{if◌then◌else◌}
use Rattle.std.specs.List.{list_any}
use Rattle.std.proofs.Math.Decide.{ℕ_discrete}
use Rattle.std.proofs.lemmas.List.{append_assoc, append-nil, drop_all}
use Rattle.ml_meaning.specs.Captures.{free}
use Rattle.ml_meaning.specs.Functions.{at_most_one}
use Rattle.ml_functions.specs.declared.marks.Marks.{Marks}
use Rattle.ml_functions.specs.Taken.{Adds, Fresh, Takes}

other_test : (a b : ℕ) → a < b → (a == b) ≡ false
other_test a b lt = grind (arith, tests)

same_test : (a b : ℕ) → a ≡ b → (a == b) ≡ true
same_test a b e = grind (arith, tests)

apart_test : (a b : ℕ) → (a ≢ b) → (a == b) ≡ false
apart_test a b e = grind (arith, tests)

pub later : (old new : Marks) → new.marks.items ≡ old.marks.items → new.round ≡ old.round + 1 → Fresh old → Fresh new
later old new e f h = record { below = λ k lt. let lt' : k < length old.marks.items = subst (λ (xs : List ℕ). k < length xs) e lt in let b = h.below k lt' in subst (λ (xs : List ℕ). get_or xs k 0 ≤ new.round) (sym e) (omega (arith, b, f)) }

pub none_taken : (old new : Marks) → new.marks.items ≡ old.marks.items → new.round ≡ old.round + 1 → Fresh old → Takes new []
none_taken old new e f h = record { by = λ k lt. let lt' : k < length old.marks.items = subst (λ (xs : List ℕ). k < length xs) e lt in let b = h.below k lt' in subst (λ (xs : List ℕ). (get_or xs k 0 == new.round) ≡ false) (sym e) (other_test (get_or old.marks.items k 0) new.round (omega (arith, b, f))) }

pub has_is : (m : Marks) (name mark : ℕ) (taken : List ℕ) (has : Bool) → name < length m.marks.items → mark ≡ get_or m.marks.items name 0 → has ≡ (mark == m.round) → Takes m taken → has ≡ list_any (λ n. n == name) taken
has_is m name mark taken has lt e f t = f ∙ (ap (λ x. x == m.round) e ∙ t.by name lt)

pub stays : (old new : Marks) (name : ℕ) → name < length old.marks.items → new.marks.items ≡ set old.marks.items name old.round → new.round ≡ old.round → Fresh old → Fresh new
stays old new name lt e f h = record {
  below = λ k less.
      let less' : k < length old.marks.items = subst (λ n. k < n) (ap length e ∙ length-set old.marks.items name old.round) less in
      let b = h.below k less' in
      elim (ℕ_discrete k name) [
        | yes same ↦ (let g : get_or new.marks.items k 0 ≡ old.round = ap (λ xs. get_or xs k 0) e ∙ (ap (λ j. get_or (set old.marks.items name old.round) j 0) same ∙ get_or-set_same old.marks.items name old.round 0 lt) in omega (arith, g, f))
        | no other ↦ (let g : get_or new.marks.items k 0 ≡ get_or old.marks.items k 0 = ap (λ xs. get_or xs k 0) e ∙ get_or-set_other old.marks.items name k old.round 0 other in omega (arith, g, f, b))
      ];
}

pub one_more : (old new : Marks) (name : ℕ) → name < length old.marks.items → new.marks.items ≡ set old.marks.items name old.round → new.round ≡ old.round → (taken : List ℕ) → Takes old taken → Takes new (name ∷ taken)
one_more old new name lt e f taken t = record {
  by = λ k less.
      let less' : k < length old.marks.items = subst (λ n. k < n) (ap length e ∙ length-set old.marks.items name old.round) less in
      elim (ℕ_discrete k name) [
        | yes same ↦ (
            let g : get_or new.marks.items k 0 ≡ old.round = ap (λ xs. get_or xs k 0) e ∙ (ap (λ j. get_or (set old.marks.items name old.round) j 0) same ∙ get_or-set_same old.marks.items name old.round 0 lt) in
            same_test _ _ (g ∙ sym f) ∙ sym (ap (λ b. b || list_any (λ n. n == k) taken) (same_test name k (sym same))))
        | no other ↦ (
            let g : get_or new.marks.items k 0 ≡ get_or old.marks.items k 0 = ap (λ xs. get_or xs k 0) e ∙ get_or-set_other old.marks.items name k old.round 0 other in
            ap (λ x. x == new.round) g ∙ (ap (λ r. get_or old.marks.items k 0 == r) f ∙ (t.by k less' ∙ sym (ap (λ b. b || list_any (λ n. n == k) taken) (apart_test name k (λ p. other (sym p)))))))
      ];
}

-- ---- all of a list, the last first

pub record TakesFrom (old now : Marks) (names : List ℕ) (left : ℕ) : Type 0 where
  pub fits : left ≤ length names
  pub fresh : Fresh now
  pub by : (taken : List ℕ) → Takes old taken → Takes now (drop left names ++ taken)

pub all_start : (old : Marks) (names : List ℕ) → Fresh old → TakesFrom old old names (length names)
all_start old names h = record {
  fits = omega arith;
  fresh = h;
  by = λ taken t. subst (λ xs. Takes old (xs ++ taken)) (sym (drop_all (length names) names (omega arith))) t;
}

drop_here : (names : List ℕ) (i : ℕ) → i < length names → drop i names ≡ get_or names i 0 ∷ drop (i + 1) names
drop_here names i lt = rw add-one (drop-cons names i 0 lt)

pub all_step : (old now new : Marks) (names : List ℕ) (left x : ℕ) → 0 < left → x ≡ get_or names (left - 1) 0 → Fresh new → ((taken : List ℕ) → Takes now taken → Takes new (x ∷ taken)) → TakesFrom old now names left → TakesFrom old new names (left - 1)
all_step old now new names left x pos is h more t =
    let fits = t.fits in
    let lt : left - 1 < length names = omega (arith, pos, fits) in
    let back : left - 1 + 1 ≡ left = omega (arith, pos) in
    let here : drop (left - 1) names ≡ x ∷ drop left names = drop_here names (left - 1) lt ∙ (ap (λ j. get_or names (left - 1) 0 ∷ drop j names) back ∙ ap (λ y. y ∷ drop left names) (sym is)) in
    record {
      fits = omega (arith, fits);
      fresh = h;
      by = λ taken s. subst (λ xs. Takes new (xs ++ taken)) (sym here) (more (drop left names ++ taken) (t.by taken s));
    }

pub all_end : (old now : Marks) (names : List ℕ) (left : ℕ) → left ≤ 0 → TakesFrom old now names left → (taken : List ℕ) → Takes old taken → Takes now (names ++ taken)
all_end old now names left none t taken s = let start : left ≡ 0 = omega (arith, none) in subst (λ j. Takes now (drop j names ++ taken)) start (t.by taken s)

-- ---- those that are not taken

skipped : (taken rest : List ℕ) (name : ℕ) → list_any (λ m. m == name) taken ≡ true → free taken (name ∷ rest) ≡ free taken rest
skipped taken rest name e = ap (λ b. if b then free taken rest else name ∷ free (name ∷ taken) rest) e

put : (taken rest : List ℕ) (name : ℕ) → list_any (λ m. m == name) taken ≡ false → free taken (name ∷ rest) ≡ name ∷ free (name ∷ taken) rest
put taken rest name e = ap (λ b. if b then free taken rest else name ∷ free (name ∷ taken) rest) e

pub add_taken : (old : Marks) (name : ℕ) (found : List ℕ) (has : Bool) → ((taken : List ℕ) → Takes old taken → has ≡ list_any (λ m. m == name) taken) → has ≡ true → Adds old old name found found
add_taken old name found has h yes_taken = record { by = λ taken rest t. (taken, t, ap (λ xs. found ++ xs) (skipped taken rest name (sym (h taken t) ∙ yes_taken))) }

pub add_free : (old new : Marks) (name : ℕ) (before after : List ℕ) (has : Bool) → ((taken : List ℕ) → Takes old taken → has ≡ list_any (λ m. m == name) taken) → has ≡ false → ((taken : List ℕ) → Takes old taken → Takes new (name ∷ taken)) → after ≡ before ++ name ∷ [] → Adds old new name before after
add_free old new name before after has h not_taken more e = record {
  by = λ taken rest t. (
    name ∷ taken,
    more taken t,
    ap (λ xs. before ++ xs) (put taken rest name (sym (h taken t) ∙ not_taken)) ∙ (sym (append_assoc before (name ∷ []) (free (name ∷ taken) rest)) ∙ ap (λ xs. xs ++ free (name ∷ taken) rest) (sym e)),
  );
}

pub record FreeFrom (old now : Marks) (names : List ℕ) (i : ℕ) (found : List ℕ) : Type 0 where
  pub fresh : Fresh now
  pub by : (taken : List ℕ) → Takes old taken → (more : List ℕ) × (Takes now more) × (found ++ free more (drop i names) ≡ free taken names)

pub free_start : (old : Marks) (names : List ℕ) → Fresh old → FreeFrom old old names 0 []
free_start old names h = record { fresh = h; by = λ taken t. (taken, t, refl) }

pub free_step : (old now new : Marks) (names : List ℕ) (i : ℕ) (before after : List ℕ) → i < length names → Fresh new → Adds now new (get_or names i 0) before after → FreeFrom old now names i before → FreeFrom old new names (i + 1) after
free_step old now new names i before after lt h adds f = record {
  fresh = h;
  by = λ taken t.
      let s = f.by taken t in
      let a = adds.by s.0 (drop (i + 1) names) s.1 in
      (a.0, a.1, sym a.2 ∙ (ap (λ xs. before ++ free s.0 xs) (sym (drop_here names i lt)) ∙ s.2));
}

pub free_end : (old now : Marks) (names : List ℕ) (i : ℕ) (found : List ℕ) → length names ≤ i → FreeFrom old now names i found → (taken : List ℕ) → Takes old taken → found ≡ free taken names
free_end old now names i found le f taken t =
    let s = f.by taken t in
    sym (append-nil found) ∙ (ap (λ xs. found ++ free s.0 xs) (sym (drop_all i names le)) ∙ s.2)

-- ---- the captures of a function

pub captured : (begun taking took : Marks) (own : Option ℕ) (binders uses captures : List ℕ) → Takes begun [] → ((taken : List ℕ) → Takes begun taken → Takes taking (binders ++ taken)) → ((taken : List ℕ) → Takes taking taken → Takes took (at_most_one own ++ taken)) → ((taken : List ℕ) → Takes took taken → captures ≡ free taken uses) → captures ≡ free (at_most_one own ++ binders) uses
captured begun taking took own binders uses captures none all with_own found =
    found (at_most_one own ++ (binders ++ [])) (with_own (binders ++ []) (all [] none)) ∙ ap (λ xs. free (at_most_one own ++ xs) uses) (append-nil binders)

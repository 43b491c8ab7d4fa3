-- The place of each node's function in the list of functions.
use Rattle.std.proofs.Common.{◌≡◌, ◌≢◌, ◌<◌, ◌≤◌, ◌+◌, ◌-◌, ◌==◌, ℕ, zero, suc, true, false, List, [], ◌∷◌, Option, Some, None, length, get_or, drop, set, replicate, slice_get, refl, sym, ap, ◌∙◌, arith, tests, add-one, drop-cons}
use Rattle.std.specs.Prelude.{if◌then◌else◌}
use Rattle.std.specs.Option.{option_map}
use Rattle.std.proofs.Math.Decide.{ℕ_discrete}
use Rattle.std.proofs.lemmas.List.{drop_all}
use Rattle.std.proofs.lemmas.Option.{slice_get-get_or}
use Rattle.ml_meaning.specs.Names.{lookup}
use Rattle.ml_meaning.specs.Functions.{Functions}
use Rattle.ml_functions.specs.declared.function.Function.{Function}
use Rattle.ml_functions.specs.Table.{Finds, IsTable, code_of, entries, entry_at, function_at, place_of}

-- the functions from this index on have their places
pub record PlacesFrom (list : List (ℕ × Function)) (left : ℕ) (places : List (Option ℕ)) : Type 0 where
  pub fits : left ≤ length list
  pub by : (node : ℕ) → function_at places list node ≡ lookup node (drop left list)

none_there : (n node : ℕ) → place_of (slice_get (replicate n None) node) ≡ None
none_there zero node = refl
none_there (suc n) zero = refl
none_there (suc n) (suc node) = none_there n node

pub places_start : (list : List (ℕ × Function)) (places : List (Option ℕ)) (n : ℕ) → places ≡ replicate n None → PlacesFrom list (length list) places
places_start list places n e = record {
  fits = omega arith;
  by = λ node.
      ap (λ ps. function_at ps list node) e
      ∙ (ap (entry_at list) (none_there n node)
      ∙ sym (ap (lookup node) (drop_all (length list) list (omega arith))));
}

same_test : (a b : ℕ) → a ≡ b → (a == b) ≡ true
same_test a b e = grind (arith, tests)

apart_test : (a b : ℕ) → (a ≢ b) → (a == b) ≡ false
apart_test a b e = grind (arith, tests)

here : (x : ℕ × Function) (rest : List (ℕ × Function)) (node : ℕ) → x.0 ≡ node → lookup node (x ∷ rest) ≡ Some x.1
here x rest node e = ap (λ b. if b then Some x.1 else lookup node rest) (same_test x.0 node e)

behind : (x : ℕ × Function) (rest : List (ℕ × Function)) (node : ℕ) → (x.0 ≢ node) → lookup node (x ∷ rest) ≡ lookup node rest
behind x rest node e = ap (λ b. if b then Some x.1 else lookup node rest) (apart_test x.0 node e)

got_same : (ps : List (Option ℕ)) (k : ℕ) (v : Option ℕ) → k < length ps → slice_get (set ps k v) k ≡ Some v
got_same [] k v lt = absurd (omega (arith, lt))
got_same (p ∷ ps) zero v lt = refl
got_same (p ∷ ps) (suc k) v lt = got_same ps k v (omega (arith, lt))

got_other : (ps : List (Option ℕ)) (k j : ℕ) (v : Option ℕ) → (j ≢ k) → slice_get (set ps k v) j ≡ slice_get ps j
got_other [] k j v apart = refl
got_other (p ∷ ps) zero zero v apart = absurd (apart refl)
got_other (p ∷ ps) zero (suc j) v apart = refl
got_other (p ∷ ps) (suc k) zero v apart = refl
got_other (p ∷ ps) (suc k) (suc j) v apart = got_other ps k j v (λ e. apart (ap suc e))

drop_here : (list : List (ℕ × Function)) (i : ℕ) (x : ℕ × Function) → i < length list → x ≡ get_or list i x → drop i list ≡ x ∷ drop (i + 1) list
drop_here list i x lt e = rw add-one (drop-cons list i x lt ∙ ap (λ z. z ∷ drop (suc i) list) (sym e))

pub places_step : (list : List (ℕ × Function)) (left : ℕ) (x : ℕ × Function) (before after : List (Option ℕ)) → 0 < left → x ≡ get_or list (left - 1) x → x.0 < length before → after ≡ set before x.0 (Some (left - 1)) → PlacesFrom list left before → PlacesFrom list (left - 1) after
places_step list left x before after pos is lt e p =
    let fits = p.fits in
    let less : left - 1 < length list = omega (arith, pos, fits) in
    let back : left - 1 + 1 ≡ left = omega (arith, pos) in
    let split : drop (left - 1) list ≡ x ∷ drop left list = drop_here list (left - 1) x less is ∙ ap (λ j. x ∷ drop j list) back in
    record {
      fits = omega (arith, fits);
      by = λ node. elim (ℕ_discrete node x.0) [
        | yes same ↦ (
            ap (λ ps. function_at ps list node) e
            ∙ (ap (λ j. entry_at list (place_of (slice_get (set before x.0 (Some (left - 1))) j))) same
            ∙ (ap (λ o. entry_at list (place_of o)) (got_same before x.0 (Some (left - 1)) lt)
            ∙ (ap (option_map (λ y. y.1)) (slice_get-get_or list (left - 1) x less ∙ ap Some (sym is))
            ∙ sym (ap (lookup node) split ∙ here x (drop left list) node (sym same))))))
        | no other ↦ (
            ap (λ ps. function_at ps list node) e
            ∙ (ap (λ o. entry_at list (place_of o)) (got_other before x.0 node (Some (left - 1)) other)
            ∙ (p.by node
            ∙ sym (ap (lookup node) split ∙ behind x (drop left list) node (λ s. other (sym s))))))
      ];
    }

pub places_end : (list : List (ℕ × Function)) (left : ℕ) (places : List (Option ℕ)) → left ≤ 0 → PlacesFrom list left places → Finds places list
places_end list left places none p =
    let start : left ≡ 0 = omega (arith, none) in
    record { by = λ node. p.by node ∙ ap (λ j. lookup node (drop j list)) start }

found_code : (list : List (ℕ × Function)) (node : ℕ) → option_map code_of (lookup node list) ≡ lookup node (entries list)
found_code [] node = refl
found_code (x ∷ xs) node = elim (ℕ_discrete x.0 node) [
  | yes same ↦ (ap (option_map code_of) (here x xs node same) ∙ sym (ap (λ b. if b then Some (code_of x.1) else lookup node (entries xs)) (same_test x.0 node same)))
  | no other ↦ (ap (option_map code_of) (behind x xs node other) ∙ (found_code xs node ∙ sym (ap (λ b. if b then Some (code_of x.1) else lookup node (entries xs)) (apart_test x.0 node other))))
]

-- the two lists as they were made, and as they lie in the arena
pub table : (places kept_places : List (Option ℕ)) (list kept_list : List (ℕ × Function)) (functions : Functions) → entries list ≡ functions → Finds places list → kept_places ≡ places → kept_list ≡ list → IsTable kept_places kept_list functions
table places kept_places list kept_list functions e f p l = record {
  by = λ node.
      ap (λ ps. option_map code_of (function_at ps kept_list node)) p
      ∙ (ap (λ xs. option_map code_of (function_at places xs node)) l
      ∙ (ap (option_map code_of) (f.by node)
      ∙ (found_code list node ∙ ap (lookup node) e)));
}

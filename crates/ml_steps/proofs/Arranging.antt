-- The values of a record's fields, put into the order of the declaration.
use Rattle.std.proofs.Common.{◌≡◌, ◌≢◌, ◌<◌, ◌≤◌, ◌+◌, ◌-◌, ◌==◌, ℕ, zero, suc, true, false, List, [], ◌∷◌, ◌++◌, Option, Some, None, Result, Ok, Err, map, length, get_or, drop, set, replicate, slice_get, refl, sym, ap, ◌∙◌, arith, tests, drop-cons, append_assoc}
use Rattle.std.specs.Prelude.{IfOk, if◌then◌else◌, nat_lt}
use Rattle.std.specs.List.{range_with_len}
use Rattle.std.specs.Option.{option_map}
use Rattle.std.proofs.Math.Decide.{ℕ_discrete}
use Rattle.std.proofs.lemmas.List.{append-nil, drop_all, length-map}
use Rattle.std.proofs.lemmas.Option.{slice_get-get_or}
use borrow.Author.Tests.{ltb-true}
use Rattle.ml_meaning.specs.declared.event.Event.{Event}
use Rattle.ml_meaning.specs.Evaluation as m
use Rattle.ml_tree.specs.declared.expr.FieldExpr.{FieldExpr}
use Rattle.ml_meaning.specs.Names.{field_place, lookup}
use Rattle.ml_meaning.specs.Tellings.{Setting}
use Rattle.ml_meaning.specs.Values.{Value, listed, value_and}
use Rattle.ml_values.specs.declared.value.Word.{Word}
use Rattle.ml_values.specs.declared.value.Words.{Words}
use Rattle.ml_values.specs.declared.value.Words.TheVariants as L
use Rattle.ml_values.specs.Shown.{value, values, values_list}
use Rattle.ml_values.proofs.Layers.{empty_is}
use Rattle.ml_steps.specs.Left.{arranged_parts}
use Rattle.ml_steps.specs.Slots.{filled, shown, value_or}

-- ---- one place

-- the slot of a place, by what a slice finds there
pub slot_is : (slots there : List (Option Word)) (place : ℕ) (x y : Option Word) → there ≡ slots → true ≡ nat_lt place (length there) → x ≡ get_or there place x → x ≡ y → slice_get slots place ≡ Some y
slot_is slots there place x y same inside is e =
    let lt : place < length there = ltb-true place (length there) (sym inside) in
    ap (λ xs. slice_get xs place) (sym same) ∙ (slice_get-get_or there place x lt ∙ ap Some (sym is ∙ e))

-- a place without a value takes the value
pub fills : (slots : List (Option Word)) (place : ℕ) (word : Word) → slice_get slots place ≡ Some None → shown (set slots place (Some word)) ≡ filled (shown slots) place (value word)
fills [] place word is = absurd (cc)
fills (slot ∷ slots) zero word is =
    let none : slot ≡ None = cc in
    sym (ap (λ o. Some (value_or (option_map value o) (value word)) ∷ shown slots) none)
fills (slot ∷ slots) (suc place) word is = ap (λ vs. option_map value slot ∷ vs) (fills slots place word is)

-- a place with a value keeps it
pub keeps : (slots : List (Option Word)) (place : ℕ) (word there : Word) → slice_get slots place ≡ Some (Some there) → shown slots ≡ filled (shown slots) place (value word)
keeps [] place word there is = absurd (cc)
keeps (slot ∷ slots) zero word there is =
    let some : slot ≡ Some there = cc in
    ap (λ o. option_map value o ∷ shown slots) some ∙ sym (ap (λ o. Some (value_or (option_map value o) (value word)) ∷ shown slots) some)
keeps (slot ∷ slots) (suc place) word there is = ap (λ vs. option_map value slot ∷ vs) (keeps slots place word there is)

-- ---- all pairs

-- the places that the pairs fill, one after the other
abbrev pub filled_by : List (Option Value) → List (ℕ × Value) → List (Option Value)
filled_by slots [] = slots
filled_by slots (p ∷ ps) = filled_by (filled slots p.0 p.1) ps

same_test : (a b : ℕ) → a ≡ b → (a == b) ≡ true
same_test a b e = grind (arith, tests)

apart_test : (a b : ℕ) → (a ≢ b) → (a == b) ≡ false
apart_test a b e = grind (arith, tests)

-- what a name stands for that the new pair does not bind
other_name : (n : ℕ) (pairs : List (ℕ × Value)) (k : ℕ) (v : Value) → (k ≢ n) → lookup n (pairs ++ ((k, v) ∷ [])) ≡ lookup n pairs
other_name n [] k v apart = ap (λ b. if b then Some v else None) (apart_test k n apart)
other_name n (p ∷ ps) k v apart = ap (λ o. if p.0 == n then Some p.1 else o) (other_name n ps k v apart)

-- what the name of the new pair stands for
this_name : (n : ℕ) (pairs : List (ℕ × Value)) (v : Value) → lookup n (pairs ++ ((n, v) ∷ [])) ≡ Some (value_or (lookup n pairs) v)
this_name n [] v = ap (λ b. if b then Some v else None) (same_test n n refl)
this_name n (p ∷ ps) v = elim (ℕ_discrete p.0 n) [
  | yes same ↦ (
      ap (λ b. if b then Some p.1 else lookup n (ps ++ ((n, v) ∷ []))) (same_test p.0 n same)
      ∙ sym (ap (λ b. Some (value_or (if b then Some p.1 else lookup n ps) v)) (same_test p.0 n same)))
  | no other ↦ (
      ap (λ b. if b then Some p.1 else lookup n (ps ++ ((n, v) ∷ []))) (apart_test p.0 n other)
      ∙ (this_name n ps v
      ∙ sym (ap (λ b. Some (value_or (if b then Some p.1 else lookup n ps) v)) (apart_test p.0 n other))))
]

-- what the names from `a` on stand for
abbrev found_from : List (ℕ × Value) → ℕ → ℕ → List (Option Value)
found_from pairs a n = map (λ k. lookup k pairs) (range_with_len a n)

later_names : (pairs : List (ℕ × Value)) (k a n : ℕ) (v : Value) → k < a → found_from pairs a n ≡ found_from (pairs ++ ((k, v) ∷ [])) a n
later_names pairs k a zero v less = refl
later_names pairs k a (suc n) v less =
    ap (λ o. o ∷ found_from pairs (a + 1) n) (sym (other_name a pairs k v (λ e. omega (arith, less, e))))
    ∙ ap (λ os. lookup a (pairs ++ ((k, v) ∷ [])) ∷ os) (later_names pairs k (a + 1) n v (omega (arith, less)))

fills_found : (pairs : List (ℕ × Value)) (a n k at : ℕ) (v : Value) → at ≡ a + k → filled (found_from pairs a n) k v ≡ found_from (pairs ++ ((at, v) ∷ [])) a n
fills_found pairs a zero k at v is = refl
fills_found pairs a (suc n) zero at v is =
    let here : at ≡ a = omega (arith, is) in
    ap (λ os. Some (value_or (lookup a pairs) v) ∷ os) (later_names pairs at (a + 1) n v (omega (arith, here)))
    ∙ ap (λ o. o ∷ found_from (pairs ++ ((at, v) ∷ [])) (a + 1) n) (sym (ap (λ j. lookup a (pairs ++ ((j, v) ∷ []))) here ∙ this_name a pairs v))
fills_found pairs a (suc n) (suc k) at v is =
    ap (λ o. o ∷ filled (found_from pairs (a + 1) n) k v) (sym (other_name a pairs at v (λ e. omega (arith, is, e))))
    ∙ ap (λ os. lookup a (pairs ++ ((at, v) ∷ [])) ∷ os) (fills_found pairs (a + 1) n k at v (omega (arith, is)))

-- the places that all pairs fill have what the pairs bind
fills_all : (before pairs : List (ℕ × Value)) (n : ℕ) → filled_by (found_from before 0 n) pairs ≡ found_from (before ++ pairs) 0 n
fills_all before [] n = ap (λ ps. found_from ps 0 n) (sym (append-nil before))
fills_all before (p ∷ ps) n =
    ap (λ slots. filled_by slots ps) (fills_found before 0 n p.0 p.0 p.1 (omega arith))
    ∙ (fills_all (before ++ (p ∷ [])) ps n
    ∙ ap (λ all. found_from all 0 n) (append_assoc before (p ∷ []) ps))

none_found : (a n : ℕ) → shown (replicate n None) ≡ found_from [] a n
none_found a zero = refl
none_found a (suc n) = ap (λ os. None ∷ os) (none_found (a + 1) n)

pub all_filled : (pairs : List (ℕ × Value)) (n : ℕ) → filled_by (shown (replicate n None)) pairs ≡ found_from pairs 0 n
all_filled pairs n = ap (λ slots. filled_by slots pairs) (none_found 0 n) ∙ fills_all [] pairs n

-- ---- the values of all places

-- these are the values of the places from this one on, of which each has one
pub record ThereFrom (slots : List (Option Word)) (left : ℕ) (words : Words) : Type 0 where
  pub fits : left ≤ length slots
  pub there : (s : Setting Event) → m.all_there Event s (shown (drop left slots)) ≡ Some (values_list words)

pub there_start : (slots : List (Option Word)) → ThereFrom slots (length slots) L.Empty
there_start slots = record {
  fits = omega arith;
  there = λ s. ap (λ os. m.all_there Event s (shown os)) (drop_all (length slots) slots (omega arith)) ∙ sym (ap (λ vs. Some (listed vs)) empty_is);
}

one_more : (s : Setting Event) (slots : List (Option Word)) (word : Word) (words more : Words) → values more ≡ value_and (value word) (values words) → m.all_there Event s (shown slots) ≡ Some (values_list words) → m.all_there Event s (shown (Some word ∷ slots)) ≡ Some (values_list more)
one_more s slots word words more is e =
    ap (λ there. elim (there) as (λ v. Option (List Value)) [ None ↦ None | Some us ↦ Some (value word ∷ us) ]) e ∙ sym (ap (λ vs. Some (listed vs)) is)

pub there_more : (slots : List (Option Word)) (left : ℕ) (d : Option Word) (word : Word) (words more : Words) → 0 < left → get_or slots (left - 1) d ≡ Some word → values more ≡ value_and (value word) (values words) → ThereFrom slots left words → ThereFrom slots (left - 1) more
there_more slots left d word words more pos is longer t =
    let fits = t.fits in
    let less : left - 1 < length slots = omega (arith, pos, fits) in
    let back : suc (left - 1) ≡ left = omega (arith, pos) in
    let split : drop (left - 1) slots ≡ Some word ∷ drop left slots = drop-cons slots (left - 1) d less ∙ (ap (λ j. get_or slots (left - 1) d ∷ drop j slots) back ∙ ap (λ y. y ∷ drop left slots) is) in
    record {
      fits = omega (arith, fits);
      there = λ s. ap (λ os. m.all_there Event s (shown os)) split ∙ one_more s (drop left slots) word words more longer (t.there s);
    }

pub there_end : (slots : List (Option Word)) (left : ℕ) (words : Words) → left ≤ 0 → ThereFrom slots left words → (s : Setting Event) → m.all_there Event s (shown slots) ≡ Some (values_list words)
there_end slots left words none t s =
    let start : left ≡ 0 = omega (arith, none) in
    ap (λ j. m.all_there Event s (shown (drop j slots))) (sym start) ∙ t.there s

-- ---- the fields of a record

-- the places that the fields name
abbrev places_of : Setting Event → List FieldExpr → List (Option ℕ)
places_of s fields = map (λ f. field_place s.names f.id) fields

-- The fields before this one have filled their places: with those that are left they fill what all fields
-- fill, and there are as many.
pub record FilledTo (s : Setting Event) (fields : List FieldExpr) (start : List Value) (i : ℕ) (rest : Words) (slots : List (Option Word)) : Type 0 where
  pub fits : i ≤ length fields
  pub fill : filled_by (shown slots) (m.paired Event s (drop i (places_of s fields)) (values_list rest)) ≡ filled_by (shown (replicate (length fields) None)) (m.paired Event s (places_of s fields) start)
  pub count : i + length (m.paired Event s (drop i (places_of s fields)) (values_list rest)) ≡ length (m.paired Event s (places_of s fields) start)

pub filled_start : (s : Setting Event) (fields : List FieldExpr) (parts : Words) (slots : List (Option Word)) (n : ℕ) → n ≡ length fields → slots ≡ replicate n None → FilledTo s fields (values_list parts) 0 parts slots
filled_start s fields parts slots n same is = record {
  fits = omega arith;
  fill = ap (λ os. filled_by (shown os) (m.paired Event s (places_of s fields) (values_list parts))) (is ∙ ap (λ k. replicate k None) same);
  count = omega arith;
}

-- the place that a field names, before the others
drop_field : (s : Setting Event) (fields : List FieldExpr) (i : ℕ) (f : FieldExpr) → i < length fields → f ≡ get_or fields i f → drop i (places_of s fields) ≡ field_place s.names f.id ∷ drop (suc i) (places_of s fields)
drop_field s [] i f less is = absurd (omega (arith, less))
drop_field s (x ∷ xs) zero f less is = ap (λ y. field_place s.names y.id ∷ places_of s xs) (sym is)
drop_field s (x ∷ xs) (suc i) f less is = drop_field s xs i f (omega (arith, less)) is

pub filled_more : (s : Setting Event) (fields : List FieldExpr) (start : List Value) (i : ℕ) (f : FieldExpr) (place : ℕ) (word : Word) (rest more : Words) (slots after : List (Option Word)) →
    i < length fields → f ≡ get_or fields i f → field_place s.names f.id ≡ Some place → values_list rest ≡ value word ∷ values_list more → shown after ≡ filled (shown slots) place (value word) →
    FilledTo s fields start i rest slots → FilledTo s fields start (i + 1) more after
filled_more s fields start i f place word rest more slots after less is at first fill g =
    let next : suc i ≡ i + 1 = omega arith in
    let behind = m.paired Event s (drop (i + 1) (places_of s fields)) (values_list more) in
    let split : m.paired Event s (drop i (places_of s fields)) (values_list rest) ≡ (place, value word) ∷ behind =
    ap (λ ks. m.paired Event s ks (values_list rest)) (drop_field s fields i f less is ∙ (ap (λ j. field_place s.names f.id ∷ drop j (places_of s fields)) next ∙ ap (λ k. k ∷ drop (i + 1) (places_of s fields)) at))
    ∙ ap (λ vs. m.paired Event s (Some place ∷ drop (i + 1) (places_of s fields)) vs) first in
    let longer : length (m.paired Event s (drop i (places_of s fields)) (values_list rest)) ≡ suc (length behind) = ap length split in
    let all = g.count in
    record {
      fits = omega (arith, less);
      fill = ap (λ os. filled_by os behind) fill ∙ (sym (ap (λ ps. filled_by (shown slots) ps) split) ∙ g.fill);
      count = omega (arith, longer, all);
    }

pub filled_end : (s : Setting Event) (fields : List FieldExpr) (start : List Value) (i : ℕ) (rest : Words) (slots : List (Option Word)) (words : List Value) →
    length fields ≤ i → FilledTo s fields start i rest slots → m.all_there Event s (shown slots) ≡ Some words → arranged_parts s fields start ≡ Some words
filled_end s fields start i rest slots words all g there =
    let fits = g.fits in
    let count = g.count in
    let pairs = m.paired Event s (places_of s fields) start in
    let ended : drop i (places_of s fields) ≡ [] = drop_all i (places_of s fields) (omega (arith, all, length-map {A = FieldExpr} {B = Option ℕ})) in
    let none : m.paired Event s (drop i (places_of s fields)) (values_list rest) ≡ [] = ap (λ ks. m.paired Event s ks (values_list rest)) ended in
    let none_left : length (m.paired Event s (drop i (places_of s fields)) (values_list rest)) ≡ 0 = ap length none in
    let as_many : length fields ≡ length pairs = omega (arith, all, fits, count, none_left) in
    let shows : shown slots ≡ map (λ k. lookup k pairs) (range_with_len 0 (length pairs)) =
    sym (ap (λ ps. filled_by (shown slots) ps) none) ∙ (g.fill ∙ (all_filled pairs (length fields) ∙ ap (λ n. map (λ k. lookup k pairs) (range_with_len 0 n)) as_many)) in
    ap (m.all_there Event s) (sym shows) ∙ there

pub arranged_there : {F : Type 0} (s : Setting Event) (fields : List FieldExpr) (start : List Value) (i : ℕ) (rest : Words) (slots there : List (Option Word)) (r : Result Words F) →
    length fields ≤ i → FilledTo s fields start i rest slots → there ≡ slots → IfOk r (λ words. (s : Setting Event) → m.all_there Event s (shown there) ≡ Some (values_list words)) → IfOk r (λ words. arranged_parts s fields start ≡ Some (values_list words))
arranged_there s fields start i rest slots there (Ok words) all g same h = filled_end s fields start i rest slots (values_list words) all g (ap (λ os. m.all_there Event s (shown os)) (sym same) ∙ h s)
arranged_there s fields start i rest slots there (Err x) all g same h = tt

-- Lists of values that are built from their end, and names that are bound one after the other.
use Rattle.std.proofs.Common.{◌≡◌, Bor, ℕ, suc, ◌+◌, ◌<◌, ◌≤◌, List, [], ◌∷◌, ◌++◌, map, length, get_or, drop, Option, Some, None, Result, Ok, Err, IfOk, refl, sym, ap, ◌∙◌, append_assoc, add-one, drop-cons}
use Rattle.std.specs.List.{push}
use Rattle.std.proofs.lemmas.List.{append-nil, drop_all, length-map, map-append}
use Rattle.ml_meaning.specs.declared.event.Event.{Event}
use Rattle.ml_meaning.specs.Evaluation as m
use Rattle.ml_meaning.specs.Names.{lookup}
use Rattle.ml_meaning.specs.Patterns.{Env}
use Rattle.ml_meaning.specs.Programs.{bind_names}
use Rattle.ml_meaning.specs.Tellings.{Setting}
use Rattle.ml_meaning.specs.Values.{Value, Values, no_values, value_and, packed, listed}
use Rattle.ml_values.specs.declared.value.Pair.{Pair}
use Rattle.ml_values.specs.declared.value.Word.{Word}
use Rattle.ml_values.specs.declared.value.Word.TheOpen as w
use Rattle.ml_values.specs.declared.value.Word.TheOpen.{Words-F}
use Rattle.ml_values.specs.declared.value.Words.{Words, out-Words, roll-Words, roll-out-Words}
use Rattle.ml_values.specs.declared.value.Words.TheVariants as L
use Rattle.ml_values.specs.Shown.{value, values_list}
use Rattle.ml_values.proofs.Walks.{list_end}

pub packed-listed : (vs : Values) → packed (listed vs) ≡ vs
packed-listed no_values = refl
packed-listed (value_and v vs) = ap (λ us. value_and v us) (packed-listed vs)

pub listed-packed : (vs : List Value) → listed (packed vs) ≡ vs
listed-packed [] = refl
listed-packed (v ∷ vs) = ap (λ us. v ∷ us) (listed-packed vs)

-- ---- the values of captures, found from the last to the first

abbrev pub before_all : Option (List Value) → List Value → Option (List Value)
before_all None vs = None
before_all (Some us) vs = Some (us ++ vs)

abbrev one_more : Value → Option (List Value) → Option (List Value)
one_more v us = elim us [ None ↦ None | Some us ↦ Some (v ∷ us) ]

more-before : (u : Value) (us : Option (List Value)) (vs : List Value) → before_all (one_more u us) vs ≡ one_more u (before_all us vs)
more-before u None vs = refl
more-before u (Some us) vs = refl

before-none : (us : Option (List Value)) → before_all us [] ≡ us
before-none None = refl
before-none (Some us) = ap (λ vs. Some vs) (append-nil us)

module _ (s : Setting Event) where
  there-push : (os : List (Option Value)) (v : Value) (vs : List Value) → before_all (m.all_there Event s (os ++ (Some v ∷ []))) vs ≡ before_all (m.all_there Event s os) (v ∷ vs)
  there-push [] v vs = refl
  there-push (None ∷ os) v vs = refl
  there-push (Some u ∷ os) v vs =
      more-before u (m.all_there Event s (os ++ (Some v ∷ []))) vs
      ∙ (ap (one_more u) (there-push os v vs) ∙ sym (more-before u (m.all_there Event s os) (v ∷ vs)))

  -- the values of all captures are those of the captures that are left, before these
  pub record Captures (captures left : List ℕ) (env : Env) (vs : List Value) : Type 0 where
    pub so_far : m.captured Event s captures env ≡ before_all (m.captured Event s left env) vs

  pub captures_step : (captures left rest : List ℕ) (n : ℕ) (env : Env) (v : Value) (vs more : List Value) → left ≡ push rest n → Some v ≡ lookup n env → more ≡ v ∷ vs → Captures captures left env vs → Captures captures rest env more
  captures_step captures left rest n env v vs more is found longer g = record {
    so_far =
        g.so_far
        ∙ (ap (λ ns. before_all (m.captured Event s ns env) vs) is
        ∙ (ap (λ os. before_all (m.all_there Event s os) vs) (map-append (λ n. lookup n env) rest (n ∷ []) ∙ ap (λ o. map (λ n. lookup n env) rest ++ (o ∷ [])) (sym found))
        ∙ (there-push (map (λ n. lookup n env) rest) v vs
        ∙ ap (before_all (m.captured Event s rest env)) (sym longer))));
  }

  pub captures_end : (captures left : List ℕ) (env : Env) (vs : List Value) → length left ≡ 0 → Captures captures left env vs → m.captured Event s captures env ≡ Some vs
  captures_end captures [] env vs none g = g.so_far
  captures_end captures (n ∷ ns) env vs none g = cc

  -- ---- names that are bound one after the other

  -- all names are bound as those from this index on are, on the names that are there
  pub record Binds (ns : List ℕ) (vs : List Value) (before : Env) (i : ℕ) (rest : List Value) (now : Env) : Type 0 where
    pub so_far : bind_names Event s ns vs before ≡ bind_names Event s (drop i ns) rest now

  here : {A : Type 0} (xs : List A) (i : ℕ) (x : A) → i < length xs → x ≡ get_or xs i x → drop i xs ≡ x ∷ drop (i + 1) xs
  here xs i x lt e = rw add-one (drop-cons xs i x lt ∙ ap (λ z. z ∷ drop (suc i) xs) (sym e))

  pub binds_end : (ns : List ℕ) (vs : List Value) (before : Env) (i : ℕ) (rest : List Value) (now : Env) → length ns ≤ i → Binds ns vs before i rest now → bind_names Event s ns vs before ≡ now
  binds_end ns vs before i rest now le g = g.so_far ∙ ap (λ xs. bind_names Event s xs rest now) (drop_all i ns le)

-- these values, and those that are left, are all
pub record Takes (taken : List Word) (rest : Words) (whole : List Value) : Type 0 where
  pub so_far : map value taken ++ values_list rest ≡ whole

-- a list that begins with no value has none
none_at : (rest : Words) → ((r : Bor Pair) → rest ≡ L.And r → ⊥) → (l : Words-F Word Words Pair) → roll-Words l ≡ rest → values_list rest ≡ []
none_at rest other w.Empty is = list_end rest (sym is ∙ L.rolls-Empty)
none_at rest other (w.And r) is = absurd (other r (sym is ∙ L.rolls-And r))

pub none_left : (rest : Words) → ((r : Bor Pair) → rest ≡ L.And r → ⊥) → values_list rest ≡ []
none_left rest other = none_at rest other (out-Words rest) (roll-out-Words rest)

pub takes_end : (taken : List Word) (rest : Words) (all whole : List Value) → ((r : Bor Pair) → rest ≡ L.And r → ⊥) → Takes taken rest whole → all ≡ map value taken → all ≡ whole
takes_end taken rest all whole ended g is =
    is ∙ (sym (append-nil (map value taken)) ∙ (ap (λ us. map value taken ++ us) (sym (none_left rest ended)) ∙ g.so_far))

-- the values that were taken, as a list of their own
taken_alone : (taken : List Word) (first : List Value) → first ≡ map value taken ++ values_list L.Empty → first ≡ map value taken
taken_alone taken first is = is ∙ (ap (λ us. map value taken ++ us) (list_end L.Empty refl) ∙ append-nil (map value taken))

pub takes_parts : (taken : List Word) (rest : Words) (first whole : List Value) → first ≡ map value taken ++ values_list L.Empty → Takes taken rest whole → first ++ values_list rest ≡ whole
takes_parts taken rest first whole is g = ap (λ us. us ++ values_list rest) (taken_alone taken first is) ∙ g.so_far

pub takes_length : (taken : List Word) (first : List Value) (n : ℕ) → first ≡ map value taken ++ values_list L.Empty → length taken ≡ n → length first ≡ n
takes_length taken first n is many = ap length (taken_alone taken first is) ∙ (length-map taken value ∙ many)

-- the words that are left, before these values, are all
pub record Befores (left : List Word) (vs whole : List Value) : Type 0 where
  pub so_far : map value left ++ vs ≡ whole

pub befores_step : (left rest : List Word) (w : Word) (vs more whole : List Value) → left ≡ push rest w → more ≡ value w ∷ vs → Befores left vs whole → Befores rest more whole
befores_step left rest w vs more whole is longer g = record {
  so_far =
      ap (λ us. map value rest ++ us) longer
      ∙ (sym (append_assoc (map value rest) (value w ∷ []) vs)
      ∙ (ap (λ us. us ++ vs) (sym (map-append value rest (w ∷ [])))
      ∙ (ap (λ ws. map value ws ++ vs) (sym is) ∙ g.so_far)));
}

pub befores_end : (left : List Word) (vs whole : List Value) → length left ≡ 0 → Befores left vs whole → vs ≡ whole
befores_end [] vs whole none g = g.so_far
befores_end (w ∷ ws) vs whole none g = cc

pub joined_as : {F : Type 0} (r : Result Words F) (one first second : List Value) → one ≡ first → IfOk r (λ words. values_list words ≡ one ++ second) → IfOk r (λ words. values_list words ≡ first ++ second)
joined_as (Ok words) one first second same is = is ∙ ap (λ us. us ++ second) same
joined_as (Err e) one first second same is = tt

-- The names of a list that were put into a set.
use Rattle.std.proofs.Common.{◌≡◌, ℕ, ◌+◌, ◌<◌, ◌≤◌, List, [], ◌∷◌, ◌++◌, length, drop, get_or, Bool, true, false, ◌||◌, not, if◌then◌else◌, refl, sym, ap, ◌∙◌, append_assoc}
use Rattle.std.specs.Str.{bytes_eq}
use Rattle.std.proofs.lemmas.Slice.Eq.{bytes_eq-Decides}
use Rattle.std.proofs.lemmas.List.{drop_all}
use Rattle.indexmap.specs.IndexSet.{insert_key}
use Rattle.oxml_base.specs.declared.span.Span.{Span}
use Rattle.oxml_base.specs.declared.refusal.Refusal.{Refusal}
use Rattle.oxml_base.specs.declared.rule.Rule.TheVariants.{DeclaredTwice}
use Rattle.ml_decls.specs.Offences.{spelling}
use Rattle.ml_decls.specs.Verdicts.{where_wrong, has, is_seen, twice}
use Rattle.ml_mentions.proofs.Appends.{from_place}

or_assoc : (a b c : Bool) → ((a || b) || c) ≡ (a || (b || c))
or_assoc true b c = refl
or_assoc false b c = refl

or_swap : (a b : Bool) → (a || b) ≡ (b || a)
or_swap true true = refl
or_swap true false = refl
or_swap false true = refl
or_swap false false = refl

or_nothing : (a : Bool) → (a || false) ≡ a
or_nothing true = refl
or_nothing false = refl

pub not_not : (b : Bool) → not (not b) ≡ b
not_not true = refl
not_not false = refl

has_pushed : {K : Type 0} → (bytes : K → List ℕ) (ks : List K) (k : K) (other : List ℕ) → has bytes (ks ++ k ∷ []) other ≡ (has bytes ks other || bytes_eq other (bytes k))
has_pushed bytes [] k other = or_nothing (bytes_eq other (bytes k))
has_pushed bytes (x ∷ ks) k other = ap (λ b. bytes_eq other (bytes x) || b) (has_pushed bytes ks k other) ∙ sym (or_assoc (bytes_eq other (bytes x)) (has bytes ks other) (bytes_eq other (bytes k)))

-- a name that is there already
already : {K : Type 0} → (bytes : K → List ℕ) (ks : List K) (name other : List ℕ) → has bytes ks name ≡ true → has bytes ks other ≡ (bytes_eq other name || has bytes ks other)
already bytes ks name other h = by_test (bytes_eq other name) refl
  where
    by_test : (t : Bool) → bytes_eq other name ≡ t → has bytes ks other ≡ (t || has bytes ks other)
    by_test true e = let same : other ≡ name = (bytes_eq-Decides other name).0 e in ap (has bytes ks) same ∙ h
    by_test false e = refl

pub has_inserted : {K : Type 0} → (bytes : K → List ℕ) (ks : List K) (k : K) (other : List ℕ) → has bytes (insert_key (λ x y. bytes_eq (bytes x) (bytes y)) ks k) other ≡ (bytes_eq other (bytes k) || has bytes ks other)
has_inserted {K = K} bytes ks k other = by_test (has bytes ks (bytes k)) refl
  where
    by_test : (t : Bool) → has bytes ks (bytes k) ≡ t → has bytes (if t then ks else ks ++ k ∷ []) other ≡ (bytes_eq other (bytes k) || has bytes ks other)
    by_test true e = already bytes ks (bytes k) other e
    by_test false e = has_pushed bytes ks k other ∙ or_swap (has bytes ks other) (bytes_eq other (bytes k))

-- how far a loop over names has come
pub record IsSoFar {K : Type 0} (text : List ℕ) (bytes : K → List ℕ) (keys : List K) (names : List Span) (i : ℕ) (now start : List Refusal) : Type 0 where
  pub seen : List (List ℕ)
  pub same : (name : List ℕ) → has bytes keys name ≡ is_seen seen name
  pub rest : now ++ twice text seen (drop i names) ≡ start ++ twice text [] names

pub so_far_start : {K : Type 0} → (text : List ℕ) (bytes : K → List ℕ) (keys : List K) (names : List Span) (start : List Refusal) → keys ≡ [] → IsSoFar text bytes keys names 0 start start
so_far_start text bytes keys names start e = record { seen = []; same = λ name. ap (λ ks. has bytes ks name) e; rest = refl }

pub so_far_step : {K : Type 0} → (text : List ℕ) (bytes : K → List ℕ) (keys keys' : List K) (names : List Span) (i : ℕ) (name : Span) (kb : List ℕ) (was : Bool) (now next start : List Refusal) → IsSoFar text bytes keys names i now start → i < length names → name ≡ get_or names i name → kb ≡ spelling text name → was ≡ has bytes keys kb → ((other : List ℕ) → has bytes keys' other ≡ (bytes_eq other kb || has bytes keys other)) → next ≡ now ++ where_wrong was DeclaredTwice name → IsSoFar text bytes keys' names (i + 1) next start
so_far_step text bytes keys keys' names i name kb was now next start s h is k w n e = record { seen = spelling text name ∷ s.seen; same = same'; rest = rest' }
  where
    same' : (other : List ℕ) → has bytes keys' other ≡ is_seen (spelling text name ∷ s.seen) other
    same' other = n other ∙ ap (λ z. bytes_eq other z || has bytes keys other) k ∙ ap (λ b. bytes_eq other (spelling text name) || b) (s.same other)

    was' : was ≡ is_seen s.seen (spelling text name)
    was' = w ∙ s.same kb ∙ ap (is_seen s.seen) k

    rest' : next ++ twice text (spelling text name ∷ s.seen) (drop (i + 1) names) ≡ start ++ twice text [] names
    rest' =
        let tail : List Refusal = twice text (spelling text name ∷ s.seen) (drop (i + 1) names) in
        ap (λ z. z ++ tail) e
        ∙ append_assoc now (where_wrong was DeclaredTwice name) tail
        ∙ ap (λ b. now ++ (where_wrong b DeclaredTwice name ++ tail)) was'
        ∙ ap (λ z. now ++ twice text s.seen z) (sym (from_place names i name h is))
        ∙ s.rest

pub so_far_end : {K : Type 0} → (text : List ℕ) (bytes : K → List ℕ) (keys : List K) (names : List Span) (i : ℕ) (now start : List Refusal) → length names ≤ i → IsSoFar text bytes keys names i now start → now ≡ start ++ twice text [] names
so_far_end text bytes keys names i now start h s = sym (nothing_more now) ∙ ap (λ z. now ++ twice text s.seen z) (sym (drop_all i names h)) ∙ s.rest
  where
    nothing_more : (xs : List Refusal) → xs ++ [] ≡ xs
    nothing_more [] = refl
    nothing_more (x ∷ xs) = ap (λ z. x ∷ z) (nothing_more xs)

-- Names that stand in a list before.
use Rattle.std.proofs.Common.{◌≡◌, ℕ, zero, suc, ◌<◌, ◌⊎◌, inl, inr, List, [], ◌∷◌, Some, slice_get, Bool, true, false, ◌||◌, refl, sym, ap, ◌∙◌, subst, arith}
use Rattle.std.specs.Str.{bytes_eq}
use Rattle.std.proofs.lemmas.Slice.Eq.{bytes_eq-Decides}
use Rattle.oxml_base.specs.declared.span.Span.{Span}
use Rattle.oxml_base.specs.declared.refusal.Refusal.{Refusal}
use Rattle.oxml_base.specs.declared.rule.Rule.TheVariants.{DeclaredTwice}
use Rattle.ml_decls.specs.Lists.{IsIn}
use Rattle.ml_decls.specs.Offences.{spelling, IsRepeated}
use Rattle.ml_decls.specs.Verdicts.{where_wrong, is_seen, twice}
use Rattle.ml_decls.proofs.Members.{in_left, in_right, in_either, in_where, from_where, violation}

-- the name was seen, or stands in the list before this place
pub data Before (text : List ℕ) (seen : List (List ℕ)) (names : List Span) (later : ℕ) (name : Span) : Type 0 where
  was_seen : is_seen seen (spelling text name) ≡ true → Before text seen names later name
  stands : (earlier : ℕ) (other : Span) → earlier < later → slice_get names earlier ≡ Some other → spelling text other ≡ spelling text name → Before text seen names later name

pub record Later (text : List ℕ) (seen : List (List ℕ)) (names : List Span) (name : Span) : Type 0 where
  pub place : ℕ
  pub stands : slice_get names place ≡ Some name
  pub before : Before text seen names place name

or_cases : (a b : Bool) → (a || b) ≡ true → (a ≡ true) ⊎ (b ≡ true)
or_cases true b e = inl refl
or_cases false b e = inr e

or_left : (a b : Bool) → a ≡ true → (a || b) ≡ true
or_left true b e = refl
or_left false b e = absurd cc

or_right : (a b : Bool) → b ≡ true → (a || b) ≡ true
or_right true b e = refl
or_right false b e = e

-- a name behind the first
behind : (text : List ℕ) (seen : List (List ℕ)) (first : Span) (names : List Span) (name : Span) → Later text (spelling text first ∷ seen) names name → Later text seen (first ∷ names) name
behind text seen first names name l = record { place = suc l.place; stands = l.stands; before = by_before l.before }
  where
    by_test : (bytes_eq (spelling text name) (spelling text first) ≡ true) ⊎ (is_seen seen (spelling text name) ≡ true) → Before text seen (first ∷ names) (suc l.place) name
    by_test (inl e) = stands 0 first (omega arith) refl (sym ((bytes_eq-Decides (spelling text name) (spelling text first)).0 e))
    by_test (inr e) = was_seen e

    by_before : Before text (spelling text first ∷ seen) names l.place name → Before text seen (first ∷ names) (suc l.place) name
    by_before (was_seen e) = by_test (or_cases (bytes_eq (spelling text name) (spelling text first)) (is_seen seen (spelling text name)) e)
    by_before (stands k other h e same) = stands (suc k) other (omega arith) e same

pub twice_sound : (text : List ℕ) (seen : List (List ℕ)) (names : List Span) (r : Refusal) → IsIn r (twice text seen names) → (r ≡ violation DeclaredTwice r.span) × Later text seen names r.span
twice_sound text seen [] r h = absurd h
twice_sound text seen (first ∷ names) r h = by_side (λ u. twice_sound text (spelling text first ∷ seen) names r u) (in_either r (where_wrong (is_seen seen (spelling text first)) DeclaredTwice first) (twice text (spelling text first ∷ seen) names) h)
  where
    here : (is_seen seen (spelling text first) ≡ true) × (r ≡ violation DeclaredTwice first) → (r ≡ violation DeclaredTwice r.span) × Later text seen (first ∷ names) r.span
    here u = let s : r.span ≡ first = ap (λ (z : Refusal). z.span) u.1 in (u.1 ∙ ap (violation DeclaredTwice) (sym s), record { place = 0; stands = ap Some (sym s); before = was_seen (subst (λ (z : Span). is_seen seen (spelling text z) ≡ true) (sym s) u.0) })

    by_side : (IsIn r (twice text (spelling text first ∷ seen) names) → (r ≡ violation DeclaredTwice r.span) × Later text (spelling text first ∷ seen) names r.span) → IsIn r (where_wrong (is_seen seen (spelling text first)) DeclaredTwice first) ⊎ IsIn r (twice text (spelling text first ∷ seen) names) → (r ≡ violation DeclaredTwice r.span) × Later text seen (first ∷ names) r.span
    by_side rest (inl u) = here (from_where (is_seen seen (spelling text first)) DeclaredTwice first r u)
    by_side rest (inr u) = let l : (r ≡ violation DeclaredTwice r.span) × Later text (spelling text first ∷ seen) names r.span = rest u in (l.0, behind text seen first names r.span l.1)

pub twice_complete : (text : List ℕ) (seen : List (List ℕ)) (names : List Span) (later : ℕ) (name : Span) → slice_get names later ≡ Some name → Before text seen names later name → IsIn (violation DeclaredTwice name) (twice text seen names)
twice_complete text seen [] later name e b = absurd cc
twice_complete text seen (first ∷ names) zero name e b = by_before b
  where
    same : first ≡ name
    same = cc

    by_before : Before text seen (first ∷ names) 0 name → IsIn (violation DeclaredTwice name) (twice text seen (first ∷ names))
    by_before (was_seen t) = in_left (violation DeclaredTwice name) (where_wrong (is_seen seen (spelling text first)) DeclaredTwice first) (twice text (spelling text first ∷ seen) names) (subst (λ (z : Span). IsIn (violation DeclaredTwice name) (where_wrong (is_seen seen (spelling text z)) DeclaredTwice z)) (sym same) (in_where (is_seen seen (spelling text name)) DeclaredTwice name t))
    by_before (stands k other h p q) = absurd (omega arith)
twice_complete text seen (first ∷ names) (suc later) name e b = in_right (violation DeclaredTwice name) (where_wrong (is_seen seen (spelling text first)) DeclaredTwice first) (twice text (spelling text first ∷ seen) names) (twice_complete text (spelling text first ∷ seen) names later name e (by_before b))
  where
    by_before : Before text seen (first ∷ names) (suc later) name → Before text (spelling text first ∷ seen) names later name
    by_before (was_seen t) = was_seen (or_right (bytes_eq (spelling text name) (spelling text first)) (is_seen seen (spelling text name)) t)
    by_before (stands zero other h p q) = let same : first ≡ other = cc in was_seen (or_left (bytes_eq (spelling text name) (spelling text first)) (is_seen seen (spelling text name)) ((bytes_eq-Decides (spelling text name) (spelling text first)).1 (sym q ∙ ap (spelling text) (sym same))))
    by_before (stands (suc k) other h p q) = stands k other (omega arith) p q

-- the two together, where nothing was seen
pub repeated_sound : (text : List ℕ) (names : List Span) (r : Refusal) → IsIn r (twice text [] names) → (r ≡ violation DeclaredTwice r.span) × IsRepeated text names r.span
repeated_sound text names r h = (u.0, by_before u.1.before)
  where
    u : (r ≡ violation DeclaredTwice r.span) × Later text [] names r.span
    u = twice_sound text [] names r h

    by_before : Before text [] names u.1.place r.span → IsRepeated text names r.span
    by_before (was_seen t) = absurd cc
    by_before (stands k other less e same) = record { earlier = k; later = u.1.place; other = other; order = less; first = e; second = u.1.stands; same = same }

pub repeated_complete : (text : List ℕ) (names : List Span) (name : Span) → IsRepeated text names name → IsIn (violation DeclaredTwice name) (twice text [] names)
repeated_complete text names name r = twice_complete text [] names r.later name r.second (stands r.earlier r.other r.order r.first r.same)

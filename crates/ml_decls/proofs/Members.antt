-- What stands in lists that are made of others.
use Rattle.std.proofs.Common.{◌≡◌, ℕ, zero, suc, ◌<◌, ◌⊎◌, inl, inr, List, [], ◌∷◌, ◌++◌, map, length, get_or, Some, slice_get, Bool, true, false, refl, sym, ap, subst}
use Rattle.std.proofs.lemmas.Option.{slice_get-get_or, get_or_from_slice_get}
use Rattle.oxml_base.specs.declared.span.Span.{Span}
use Rattle.oxml_base.specs.declared.refusal.Refusal.{Refusal}
use Rattle.oxml_base.specs.declared.rule.Rule.{Rule}
use Rattle.ml_mentions.specs.Lists.{all}
use Rattle.ml_decls.specs.Lists.{IsIn}
use Rattle.ml_decls.specs.Verdicts.{where_wrong}

pub in_left : {A : Type 0} → (a : A) (xs ys : List A) → IsIn a xs → IsIn a (xs ++ ys)
in_left a [] ys h = absurd h
in_left a (x ∷ xs) ys (inl e) = inl e
in_left a (x ∷ xs) ys (inr h) = inr (in_left a xs ys h)

pub in_right : {A : Type 0} → (a : A) (xs ys : List A) → IsIn a ys → IsIn a (xs ++ ys)
in_right a [] ys h = h
in_right a (x ∷ xs) ys h = inr (in_right a xs ys h)

pub in_either : {A : Type 0} → (a : A) (xs ys : List A) → IsIn a (xs ++ ys) → IsIn a xs ⊎ IsIn a ys
in_either a [] ys h = inr h
in_either a (x ∷ xs) ys (inl e) = inl (inl e)
in_either a (x ∷ xs) ys (inr h) = elim (in_either a xs ys h) [ inl u ↦ inl (inr u) | inr u ↦ inr u ]

pub in_all_map : {A B : Type 0} → (f : A → List B) (a : A) (b : B) (xs : List A) → IsIn a xs → IsIn b (f a) → IsIn b (all (map f xs))
in_all_map f a b [] h p = absurd h
in_all_map f a b (x ∷ xs) (inl e) p = in_left b (f x) (all (map f xs)) (subst (λ z. IsIn b (f z)) e p)
in_all_map f a b (x ∷ xs) (inr h) p = in_right b (f x) (all (map f xs)) (in_all_map f a b xs h p)

-- the item that gave an item
pub record From {A B : Type 0} (f : A → List B) (xs : List A) (b : B) : Type 0 where
  pub item : A
  pub stands : IsIn item xs
  pub gives : IsIn b (f item)

pub from_all_map : {A B : Type 0} → (f : A → List B) (b : B) (xs : List A) → IsIn b (all (map f xs)) → From f xs b
from_all_map f b [] h = absurd h
from_all_map f b (x ∷ xs) h = by_side (λ u. from_all_map f b xs u) (in_either b (f x) (all (map f xs)) h)
  where
    by_side : (IsIn b (all (map f xs)) → From f xs b) → IsIn b (f x) ⊎ IsIn b (all (map f xs)) → From f (x ∷ xs) b
    by_side rest (inl u) = record { item = x; stands = inl refl; gives = u }
    by_side rest (inr u) = let r : From f xs b = rest u in record { item = r.item; stands = inr r.stands; gives = r.gives }

pub in_map : {A B : Type 0} → (f : A → B) (a : A) (xs : List A) → IsIn a xs → IsIn (f a) (map f xs)
in_map f a [] h = absurd h
in_map f a (x ∷ xs) (inl e) = inl (ap f e)
in_map f a (x ∷ xs) (inr h) = inr (in_map f a xs h)

pub record Image {A B : Type 0} (f : A → B) (xs : List A) (b : B) : Type 0 where
  pub item : A
  pub stands : IsIn item xs
  pub is : b ≡ f item

pub from_map : {A B : Type 0} → (f : A → B) (b : B) (xs : List A) → IsIn b (map f xs) → Image f xs b
from_map f b [] h = absurd h
from_map f b (x ∷ xs) (inl e) = record { item = x; stands = inl refl; is = e }
from_map f b (x ∷ xs) (inr h) = let r : Image f xs b = from_map f b xs h in record { item = r.item; stands = inr r.stands; is = r.is }

-- an item at a place
pub in_at : {A : Type 0} → (xs : List A) (i : ℕ) (a : A) → slice_get xs i ≡ Some a → IsIn a xs
in_at [] i a e = absurd cc
in_at (x ∷ xs) zero a e = let h : a ≡ x = cc in inl h
in_at (x ∷ xs) (suc i) a e = inr (in_at xs i a e)

pub at_in : {A : Type 0} → (xs : List A) (a : A) → IsIn a xs → (i : ℕ) × (slice_get xs i ≡ Some a)
at_in [] a h = absurd h
at_in (x ∷ xs) a (inl e) = let h : Some x ≡ Some a = ap Some (sym e) in (0, h)
at_in (x ∷ xs) a (inr h) = let r : (i : ℕ) × (slice_get xs i ≡ Some a) = at_in xs a h in (suc r.0, r.1)

-- the item at a place of a list of images
pub record ImageAt {A B : Type 0} (f : A → B) (xs : List A) (i : ℕ) (b : B) : Type 0 where
  pub item : A
  pub stands : slice_get xs i ≡ Some item
  pub is : b ≡ f item

pub at_map : {A B : Type 0} → (f : A → B) (xs : List A) (i : ℕ) (b : B) → slice_get (map f xs) i ≡ Some b → ImageAt f xs i b
at_map f [] i b e = absurd cc
at_map f (x ∷ xs) zero b e = let h : b ≡ f x = cc in record { item = x; stands = refl; is = h }
at_map f (x ∷ xs) (suc i) b e = let r : ImageAt f xs i b = at_map f xs i b e in record { item = r.item; stands = r.stands; is = r.is }

pub map_at : {A B : Type 0} → (f : A → B) (xs : List A) (i : ℕ) (a : A) → slice_get xs i ≡ Some a → slice_get (map f xs) i ≡ Some (f a)
map_at f [] i a e = absurd cc
map_at f (x ∷ xs) zero a e = let h : x ≡ a = cc in ap (λ z. Some (f z)) h
map_at f (x ∷ xs) (suc i) a e = map_at f xs i a e

-- inside a list it does not matter what is read past its end
pub same_at : {A : Type 0} → (xs : List A) (i : ℕ) (d : A) → i < length xs → get_or xs i d ≡ get_or xs i (get_or xs i d)
same_at xs i d h = sym (get_or_from_slice_get xs i (get_or xs i d) (get_or xs i d) (slice_get-get_or xs i d h))

-- a violation that is added
abbrev pub violation : Rule → Span → Refusal
violation rule span = record { rule = rule; span = span }

pub in_where : (wrong : Bool) (rule : Rule) (span : Span) → wrong ≡ true → IsIn (violation rule span) (where_wrong wrong rule span)
in_where true rule span e = inl refl
in_where false rule span e = absurd cc

pub from_where : (wrong : Bool) (rule : Rule) (span : Span) (r : Refusal) → IsIn r (where_wrong wrong rule span) → (wrong ≡ true) × (r ≡ violation rule span)
from_where true rule span r (inl e) = (refl, e)
from_where true rule span r (inr h) = absurd h
from_where false rule span r h = absurd h

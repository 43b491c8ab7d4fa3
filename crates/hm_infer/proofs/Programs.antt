-- The items of a program, one after the other.
use Rattle.std.proofs.Common.{◌≡◌, ℕ, zero, suc, ◌+◌, ◌≤◌, List, [], ◌∷◌, ◌++◌, map, length, take, drop, nat_eq, Option, Some, None, refl, sym, ap, ◌∙◌, subst, inl, inr}
use Rattle.std.specs.List.{slice_get}
use Rattle.std.specs.HashMap.{get}
use Rattle.oxml_base.specs.declared.span.Span.{Span}
use Rattle.oxml_base.specs.declared.rule.Rule.TheVariants.{Comparison}
use Rattle.ml_types.specs.declared.declared.DeclInfo.{DeclInfo}
use Rattle.ml_types.specs.Types.{Tree}
use Rattle.ml_typing.specs.declared.typed.Typed.{Typed}
use Rattle.ml_typing.specs.Terms.{Context}
use Rattle.ml_typing.specs.Typing.{Assignment, ItemSteps, behind_all}
use Rattle.hm_terms.specs.Stores.{Store}
use Rattle.hm_terms.specs.Contexts.{IsRead, ShowsAny}
use Rattle.hm_infer.specs.declared.error.InferErr.{InferErr}
use Rattle.hm_infer.specs.declared.error.InferErr.TheVariants.{Refused, Limit, NoMemory}
use Rattle.hm_infer.specs.declared.items.Found.{Found}
use Rattle.hm_infer.specs.Running.{HasNoIds}
use Rattle.hm_infer.specs.Tables.{Fills}
use Rattle.hm_infer.specs.Answers.{IsItemFault, AreCompared, Behind, SomeBehind, noted, IsTypedAs, IsRefusedBy}
use Rattle.hm_infer.proofs.Lists.{take_next, take_whole}

-- before the first item
pub first_behind : (s : Store) (d : List DeclInfo) (c : Context) (found : Found) → IsRead s d c → HasNoIds s → ((n : ℕ) → get nat_eq found.nodes n ≡ None) → found.bad ≡ None → SomeBehind s d c [] found
first_behind s d c found read none nodes bad = (
  [],
  record {
    typed = record { typed = tt; small = tt };
    read = read;
    forgotten = none;
    nodes = λ n. subst (λ o. ShowsAny s o None) (sym (nodes n)) refl;
    compared = subst (AreCompared [] []) (sym bad) tt;
  },
)

map_next : {A B : Type 0} (f : A → B) (xs : List A) (x : A) → map f (xs ++ x ∷ []) ≡ map f xs ++ f x ∷ []
map_next f [] x = refl
map_next f (y ∷ xs) x = ap (λ l. f y ∷ l) (map_next f xs x)

-- the items up to the next
pub fronts : {A : Type 0} (f : A → ItemSteps) (xs : List A) (n : ℕ) (x : A) → slice_get xs n ≡ Some x → map f (take (n + 1) xs) ≡ map f (take n xs) ++ f x ∷ []
fronts f xs n x e = ap (map f) (take_next xs n x e) ∙ map_next f (take n xs) x

split_at : {A : Type 0} (f : A → ItemSteps) (xs : List A) (n : ℕ) (x : A) → slice_get xs n ≡ Some x → map f xs ≡ map f (take n xs) ++ f x ∷ map f (drop (suc n) xs)
split_at f [] n x e = absurd (let q : None ≡ Some x = e in cc)
split_at f (y ∷ xs) zero x e = let q : y ≡ x = cc in ap (λ z. f z ∷ map f xs) q
split_at f (y ∷ xs) (suc n) x e = ap (λ l. f y ∷ l) (split_at f xs n x e)

-- an item with a fault behind items that have types
pub refused_at : {A : Type 0} (s : Store) (d : List DeclInfo) (c : Context) (f : A → ItemSteps) (xs : List A) (n : ℕ) (x : A) (found : Found) (e : InferErr) → slice_get xs n ≡ Some x → SomeBehind s d c (map f (take n xs)) found → ((items : List ItemSteps) (types : List Assignment) → Behind s d c items types found → IsItemFault (behind_all c types items) (f x).steps e) → IsRefusedBy c (map f xs) e
refused_at s d c f xs n x found (Refused r) at (types, k) fault = inl (record {
  before = map f (take n xs);
  item = f x;
  after = map f (drop (suc n) xs);
  split = split_at f xs n x at;
  types = types;
  typed = k.typed;
  fault = fault (map f (take n xs)) types k;
})
refused_at s d c f xs n x found (Limit l span) at (types, k) fault = (let h = fault (map f (take n xs)) types k in (
  h.0,
  record {
    before = map f (take n xs);
    item = f x;
    after = map f (drop (suc n) xs);
    split = split_at f xs n x at;
    types = types;
    typed = k.typed;
    fault = h.1;
  },
))
refused_at s d c f xs n x found NoMemory at b fault = tt

pub all_behind : {A : Type 0} (s : Store) (d : List DeclInfo) (c : Context) (f : A → ItemSteps) (xs : List A) (n : ℕ) (found : Found) → length xs ≤ n → SomeBehind s d c (map f (take n xs)) found → SomeBehind s d c (map f xs) found
all_behind s d c f xs n found h k = subst (λ ys. SomeBehind s d c (map f ys) found) (take_whole xs n h) k

-- a program with types but for a comparison
pub compares_badly : (s : Store) (d : List DeclInfo) (c : Context) (items : List ItemSteps) (found : Found) (span : Span) → found.bad ≡ Some span → SomeBehind s d c items found → IsRefusedBy c items (Refused (record { rule = Comparison; span = span }))
compares_badly s d c items found span bad (types, k) = inr (refl, (types, k.typed, subst (AreCompared items types) bad k.compared))

-- a program with types
pub typed_as : (s : Store) (d : List DeclInfo) (c : Context) (items : List ItemSteps) (found : Found) (count : ℕ) (t : Typed) → found.bad ≡ None → SomeBehind s d c items found → ((noted_types named : ℕ → Option Tree) → ((n : ℕ) → ShowsAny s (get nat_eq found.nodes n) (noted_types n)) → ((b : ℕ) → ShowsAny s (s.schemes b) (named b)) → Fills noted_types named count t) → IsTypedAs c items count t
typed_as s d c items found count t bad (types, k) fills = record {
  types = types;
  has = k.typed;
  compare = subst (AreCompared items types) bad k.compared;
  fills = fills (noted types items) (behind_all c types items).scheme k.nodes k.read.schemes;
}

-- one item more
pub next_behind : {A : Type 0} (old new : Store) (d : List DeclInfo) (c : Context) (f : A → ItemSteps) (xs : List A) (n : ℕ) (x : A) (found more : Found) → slice_get xs n ≡ Some x → SomeBehind old d c (map f (take n xs)) found → ((items : List ItemSteps) (types : List Assignment) → Behind old d c items types found → SomeBehind new d c (items ++ f x ∷ []) more) → SomeBehind new d c (map f (take (n + 1) xs)) more
next_behind old new d c f xs n x found more at (types, k) next = subst (λ items. SomeBehind new d c items more) (sym (fronts f xs n x at)) (next (map f (take n xs)) types k)

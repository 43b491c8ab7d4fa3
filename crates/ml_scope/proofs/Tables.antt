-- The table of names after a binder comes into scope or goes out of it.
use Rattle.std.proofs.Common.{◌≡◌, ℕ, suc, ◌-◌, ◌<◌, ◌≤◌, drop, length-append, List, [], ◌∷◌, ◌++◌, Option, Some, None, refl, ap, ◌∙◌, sym, arith, map, reverse, if◌then◌else◌, Bool, true, false, length}
use Rattle.std.specs.Str.{bytes_eq}
use Rattle.indexmap.specs.IndexMap.{insert_entry}
use Rattle.std.proofs.lemmas.Slice.Eq.{bytes_eq-Decides}
use Rattle.std.proofs.lemmas.List.{reverse-append}
use Rattle.std.proofs.Math.Seq.{drop-append_seam}
use Rattle.std.proofs.lemmas.Grind.{common_steps}
use Rattle.ml_scope.specs.declared.meaning.Meaning.{Meaning}
use Rattle.ml_scope.specs.declared.scope.Bound.{Bound}
use Rattle.ml_scope.specs.Names.{Name, find}
use Rattle.ml_scope.specs.Chains.{shown, seen, Hides, joined, look_up, IsChained}

pub look_up_insert : {K : Type 0} (bytes : K → Name) (es : List (K × Option Meaning)) (k : K) (v : Option Meaning) (name : Name) → look_up (insert_entry (λ x y. bytes_eq (bytes x) (bytes y)) es k v) bytes name ≡ (if bytes_eq name (bytes k) then Some v else look_up es bytes name)
look_up_insert bytes [] k v name = refl
look_up_insert bytes (e ∷ es) k v name = grind (arith, common_steps, look_up_insert bytes es k v name, bytes_eq-Decides (bytes k) (bytes e.0), bytes_eq-Decides name (bytes e.0), bytes_eq-Decides name (bytes k))

seen_push : (bound : List Bound) (b : Bound) → seen (bound ++ b ∷ []) ≡ shown b ∷ seen bound
seen_push bound b = ap (map shown) (reverse-append bound (b ∷ []))

chain_push : (bound : List Bound) (b : Bound) → Hides (reverse bound) → b.hidden ≡ find (seen bound) b.name.items → Hides (reverse (bound ++ b ∷ []))
chain_push bound b h e = rw reverse-append (e, h)

picked : (t : Bool) (m : Meaning) (o : Option (Option Meaning)) (f : Option Meaning) → joined o ≡ f → joined (if t then Some (Some m) else o) ≡ (if t then Some m else f)
picked true m o f h = refl
picked false m o f h = h

pub chained_bind : {K : Type 0} (bytes : K → Name) (bound : List Bound) (es : List (K × Option Meaning)) (k : K) (b : Bound) → IsChained bound (look_up es bytes) → b.name.items ≡ bytes k → b.hidden ≡ joined (look_up es bytes (bytes k)) → IsChained (bound ++ b ∷ []) (look_up (insert_entry (λ x y. bytes_eq (bytes x) (bytes y)) es k (Some b.meaning)) bytes)
chained_bind bytes bound es k b c same hidden = record {
  table = λ name.
      ap joined (look_up_insert bytes es k (Some b.meaning) name)
      ∙ picked (bytes_eq name (bytes k)) b.meaning (look_up es bytes name) (find (seen bound) name) (c.table name)
      ∙ ap (λ w. if bytes_eq name w then Some b.meaning else find (seen bound) name) (sym same)
      ∙ ap (λ e. find e name) (sym (seen_push bound b));
  hides = chain_push bound b c.hides (hidden ∙ c.table (bytes k) ∙ ap (find (seen bound)) (sym same));
}

-- what the table has for each name once the nearest binder is gone
given_back : (t : Bool) (h : Option Meaning) (m : Meaning) (o : Option (Option Meaning)) (f : Option Meaning) → joined o ≡ (if t then Some m else f) → (t ≡ true → h ≡ f) → joined (if t then Some h else o) ≡ f
given_back true h m o f e same = same refl
given_back false h m o f e same = e

chain_pop : (bound : List Bound) (b : Bound) → Hides (reverse (bound ++ b ∷ [])) → (b.hidden ≡ find (seen bound) b.name.items) × Hides (reverse bound)
chain_pop bound b h = rw reverse-append at h

pub chained_unbind : {K : Type 0} (bytes : K → Name) (bound : List Bound) (es : List (K × Option Meaning)) (k : K) (b : Bound) → IsChained (bound ++ b ∷ []) (look_up es bytes) → b.name.items ≡ bytes k → IsChained bound (look_up (insert_entry (λ x y. bytes_eq (bytes x) (bytes y)) es k b.hidden) bytes)
chained_unbind bytes bound es k b c same =
    let chain = chain_pop bound b c.hides in record {
      table = λ name.
          let old : joined (look_up es bytes name) ≡ (if bytes_eq name (bytes k) then Some b.meaning else find (seen bound) name) =
          c.table name ∙ ap (λ e. find e name) (seen_push bound b) ∙ ap (λ w. if bytes_eq name w then Some b.meaning else find (seen bound) name) same in
          let hidden : bytes_eq name (bytes k) ≡ true → b.hidden ≡ find (seen bound) name =
          λ t. let e : name ≡ bytes k = (bytes_eq-Decides name (bytes k)).0 t in chain.0 ∙ ap (find (seen bound)) (same ∙ sym e) in
          ap joined (look_up_insert bytes es k b.hidden name) ∙ given_back (bytes_eq name (bytes k)) b.hidden b.meaning (look_up es bytes name) (find (seen bound) name) old hidden;
      hides = chain.1;
    }

-- the name of a binder in scope is in the table
pub in_table : {K : Type 0} (bytes : K → Name) (bound : List Bound) (es : List (K × Option Meaning)) (k : K) (b : Bound) → IsChained (bound ++ b ∷ []) (look_up es bytes) → b.name.items ≡ bytes k → look_up es bytes (bytes k) ≡ None → ⊥
in_table bytes bound es k b c same e =
    let found : find (seen bound) (bytes k) ≡ find (seen bound) (bytes k) = refl in
    let old : joined (look_up es bytes (bytes k)) ≡ (if bytes_eq (bytes k) (bytes k) then Some b.meaning else find (seen bound) (bytes k)) =
    c.table (bytes k) ∙ ap (λ e. find e (bytes k)) (seen_push bound b) ∙ ap (λ w. if bytes_eq (bytes k) w then Some b.meaning else find (seen bound) (bytes k)) same in
    let itself : bytes_eq (bytes k) (bytes k) ≡ true = (bytes_eq-Decides (bytes k) (bytes k)).1 refl in
    let new : None ≡ Some b.meaning = ap joined (sym e) ∙ old ∙ ap (λ t. if t then Some b.meaning else find (seen bound) (bytes k)) itself in
    let no' : ⊥ = cc in no'

-- leaving binder by binder
pub left_one_more : {A : Type 0} (xs : List A) (count : ℕ) → count < length xs → drop (length (drop 1 xs) - count) (drop 1 xs) ≡ drop (length xs - count) xs
left_one_more [] count h = absurd (omega (arith, h))
left_one_more (x ∷ xs) count h = let e : length (x ∷ xs) - count ≡ suc (length xs - count) = omega (arith, h) in rw e refl

pub left_all : {A : Type 0} (xs : List A) (count : ℕ) → length xs ≤ count → xs ≡ drop (length xs - count) xs
left_all xs count h = let e : length xs - count ≡ 0 = omega (arith, h) in rw e refl

-- what is bound for a while is gone after it
pub left_is : {A : Type 0} (more xs : List A) → drop (length (more ++ xs) - length xs) (more ++ xs) ≡ xs
left_is {A = A} more xs = let e : length (more ++ xs) - length xs ≡ length more = omega (arith, length-append {A = A}) in rw e (drop-append_seam more xs)

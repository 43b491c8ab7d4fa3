-- A row of types, read one by one: the parts so far, and those that go on.
use Rattle.std.proofs.Common.{◌≡◌, ◌<◌, ◌≤◌, ℕ, max, List, [], ◌∷◌, ◌++◌, length, drop, refl, subst, sym, ap, ◌∙◌, arith}
use Rattle.ml_lexer.specs.declared.token.Token.{Token}
use Rattle.ml_tree.specs.declared.types.TyExpr.{TyExpr}
use Rattle.ml_cursor.specs.Fronts.{front}
use Rattle.ml_parse_types.specs.declared.looks.Row.{Row}
use Rattle.ml_parse_types.specs.declared.looks.After.{After}
use Rattle.ml_parse_types.specs.declared.looks.After.TheVariants.{Goes, Ends, Fails}
use Rattle.ml_parse_types.specs.Looks.{behind_part}
use Rattle.ml_parse_types.specs.Types.{Read, read, ReadsPart, ReadsList, row, ListBy, the_last, one_more}
use Rattle.ml_parse_types.specs.Readers.{IsFound, IsDeep}
use Rattle.ml_parse_types.proofs.Unique.{same_part}
use Rattle.ml_parse_types.proofs.Shorter.{part_rest, length-drop}

-- behind some parts of this depth
abbrev pub behind_parts : List TyExpr → ℕ → Read (List TyExpr) → Read (List TyExpr)
behind_parts acc d o = read (acc ++ o.value) (max d o.depth) o.rest

-- the row that goes on, and that it does
pub record RowGoesOn (k : Row) (ts : List Token) (acc : List TyExpr) (d : ℕ) (o : Read (List TyExpr)) : Type 0 where
  more : Read (List TyExpr)
  reads : ReadsList k ts more
  is : o ≡ behind_parts acc d more

-- the row from start on are these parts, and then those from ts on
pub record RowAlong (k : Row) (start ts : List Token) (acc : List TyExpr) (d : ℕ) : Type 0 where
  forth : (o : Read (List TyExpr)) → ReadsList k ts o → ReadsList k start (behind_parts acc d o)
  back : (o : Read (List TyExpr)) → ReadsList k start o → RowGoesOn k ts acc d o

max-zero : (d : ℕ) → max 0 d ≡ d
max-zero d = omega arith

max-more : (a b c : ℕ) → max (max a b) c ≡ max a (max b c)
max-more a b c = omega arith

nothing_before : (acc : List TyExpr) (o : Read (List TyExpr)) → acc ≡ [] → o ≡ behind_parts acc 0 o
nothing_before acc o e = ap (λ (d : ℕ). read o.value d o.rest) (sym (max-zero o.depth)) ∙ ap (λ (x : List TyExpr). behind_parts x 0 o) (sym e)

pub row_none : (k : Row) (ts : List Token) (acc : List TyExpr) → acc ≡ [] → RowAlong k ts ts acc 0
row_none k ts acc e = record {
  forth = λ o d. subst (ReadsList k ts) (nothing_before acc o e) d;
  back = λ o d. record { more = o; reads = d; is = nothing_before acc o e };
}

append-one : {A : Type 0} (xs ys : List A) (a : A) → (xs ++ a ∷ []) ++ ys ≡ xs ++ a ∷ ys
append-one [] ys a = refl
append-one (x ∷ xs) ys a = ap (λ (zs : List _). x ∷ zs) (append-one xs ys a)

by_look : {k : Row} {a : Read TyExpr} {l : Read (List TyExpr)} (w v : After) → w ≡ v → ListBy k w a l → ListBy k v a l
by_look {k = k} {a = a} {l = l} w v e d = subst (λ (x : After). ListBy k x a l) e d

opened : {k : Row} {ts : List Token} {o : Read (List TyExpr)} (a : Read TyExpr) → ReadsPart k ts a → (v : After) → behind_part k (front a.rest) ≡ v → ReadsList k ts o → ListBy k v a o
opened {k = k} {o = o} a i v e (row {a = b} j f) =
    by_look _ v e (subst (λ (x : Read TyExpr). ListBy k (behind_part k (front x.rest)) x o) (same_part j i) f)

-- a part and the row behind it
abbrev with_part : Read TyExpr → Read (List TyExpr) → Read (List TyExpr)
with_part a l = read (a.value ∷ l.value) (max a.depth l.depth) l.rest

record Goes_on (k : Row) (a : Read TyExpr) (o : Read (List TyExpr)) : Type 0 where
  more : Read (List TyExpr)
  reads : ReadsList k (drop 1 a.rest) more
  is : o ≡ with_part a more

ungoes : {k : Row} {a : Read TyExpr} {o : Read (List TyExpr)} → ListBy k Goes a o → Goes_on k a o
ungoes (one_more {l = l} d) = record { more = l; reads = d; is = refl }

none_fails : {k : Row} {a : Read TyExpr} {o : Read (List TyExpr)} → ListBy k Fails a o → ⊥
none_fails d = elim d [ ]

-- one part more in front of a row
regrouped : (acc more : List TyExpr) (d e : ℕ) (a : TyExpr) (f : ℕ) (o : Read (List TyExpr)) (r : List Token) → more ≡ acc ++ a ∷ [] → e ≡ max d f → behind_parts acc d (with_part (read a f r) o) ≡ behind_parts more e o
regrouped acc more d e a f o r m h =
    ap (λ (x : List TyExpr). read x (max d (max f o.depth)) o.rest) (sym (append-one acc o.value a) ∙ ap (λ (x : List TyExpr). x ++ o.value) (sym m)) ∙
    ap (λ (x : ℕ). read (more ++ o.value) x o.rest) (sym (max-more d f o.depth) ∙ ap (λ (x : ℕ). max x o.depth) (sym h))

pub row_more : (k : Row) (start ts us vs : List Token) (acc more : List TyExpr) (d e left : ℕ) (a : TyExpr) (f : ℕ) (w : After) → RowAlong k start ts acc d → IsFound (ReadsPart k ts) left (read a f us) → w ≡ behind_part k (front us) → w ≡ Goes → vs ≡ drop 1 us → more ≡ acc ++ a ∷ [] → e ≡ max d f → RowAlong k start vs more e
row_more k start ts us vs acc more d e left a f w along found h g v m x = record {
  forth = λ o p.
      let inner : ListBy k Goes (read a f us) (with_part (read a f us) o) = one_more (subst (λ (y : List Token). ReadsList k y o) v p) in
      let whole : ReadsList k ts (with_part (read a f us) o) = row found.reads (by_look Goes (behind_part k (front us)) (sym (sym h ∙ g)) inner) in
      subst (ReadsList k start) (regrouped acc more d e a f o us m x) (along.forth _ whole);
  back = λ o p.
      let far = along.back o p in
      let next = ungoes (opened (read a f us) found.reads Goes (sym h ∙ g) far.reads) in
      record {
        more = next.more;
        reads = subst (λ (y : List Token). ReadsList k y next.more) (sym v) next.reads;
        is = far.is ∙ (ap (behind_parts acc d) next.is ∙ regrouped acc more d e a f next.more us m x);
      };
}

pub row_end : (k : Row) (start ts us vs : List Token) (acc more : List TyExpr) (d e left : ℕ) (a : TyExpr) (f : ℕ) (w : After) (n : ℕ) → RowAlong k start ts acc d → d ≤ left → IsFound (ReadsPart k ts) left (read a f us) → w ≡ behind_part k (front us) → w ≡ Ends n → vs ≡ drop n us → more ≡ acc ++ a ∷ [] → e ≡ max d f → IsFound (ReadsList k start) left (read more e vs)
row_end k start ts us vs acc more d e left a f w n along small found h g v m x =
    let inner : ListBy k (Ends n) (read a f us) (read (a ∷ []) f (drop n us)) = the_last in
    let whole : ReadsList k ts (read (a ∷ []) f (drop n us)) = row found.reads (by_look (Ends n) (behind_part k (front us)) (sym (sym h ∙ g)) inner) in
    let far = along.forth _ whole in
    let at : read (acc ++ a ∷ []) (max d f) (drop n us) ≡ read more e vs = ap (λ (y : List TyExpr). read y (max d f) (drop n us)) (sym m) ∙ (ap (λ (y : ℕ). read more y (drop n us)) (sym x) ∙ ap (λ (y : List Token). read more e y) (sym v)) in
    record { reads = subst (ReadsList k start) at far; small = omega (arith, x, small, found.small) }

pub row_fail : (k : Row) (start ts us : List Token) (acc : List TyExpr) (d left : ℕ) (a : TyExpr) (f : ℕ) (w : After) → RowAlong k start ts acc d → IsFound (ReadsPart k ts) left (read a f us) → w ≡ behind_part k (front us) → w ≡ Fails → IsDeep (ReadsList k start) left
row_fail k start ts us acc d left a f w along found h g = record {
  deep = λ o p. absurd (none_fails (opened (read a f us) found.reads Fails (sym h ∙ g) (along.back o p).reads));
}

by_depth : {k : Row} {w : After} {a : Read TyExpr} {l : Read (List TyExpr)} → ListBy k w a l → a.depth ≤ l.depth
by_depth the_last = omega arith
by_depth (one_more {a = a} {l = l} d) = omega arith

list_depth : {k : Row} {ts : List Token} {left : ℕ} {o : Read (List TyExpr)} → IsDeep (ReadsPart k ts) left → ReadsList k ts o → left < o.depth
list_depth n (row {a = a} i f) = omega (arith, n.deep a i, by_depth f)

pub row_bad : (k : Row) (start ts : List Token) (acc : List TyExpr) (d left : ℕ) → RowAlong k start ts acc d → IsDeep (ReadsPart k ts) left → IsDeep (ReadsList k start) left
row_bad k start ts acc d left along n = record {
  deep = λ o p. let far = along.back o p in omega (arith, list_depth n far.reads, ap (λ (x : Read (List TyExpr)). x.depth) far.is);
}

pub row_small : (d e f left : ℕ) → d ≤ left → f ≤ left → e ≡ max d f → e ≤ left
row_small d e f left a b c = omega (arith, a, b, c)

pub row_shorter : (k : Row) (ts us vs : List Token) (left : ℕ) (a : TyExpr) (f : ℕ) → IsFound (ReadsPart k ts) left (read a f us) → vs ≡ drop 1 us → length vs < length ts
row_shorter k ts us vs left a f found v = omega (arith, ap length v, length-drop 1 us, part_rest found.reads)

-- Types that are built from the types of several shapes.
use Rattle.std.proofs.Common.{◌≡◌, ℕ, zero, suc, ◌+◌, List, [], ◌∷◌, ◌++◌, length, Option, Some, None, refl, sym, ap, ◌∙◌, subst, arith, add-one}
use Rattle.ml_types.specs.declared.node.TyId.{TyId}
use Rattle.ml_types.specs.declared.node.TyNode.TheVariants.{Con, Tuple, Arrow}
use Rattle.ml_types.specs.declared.declared.DeclInfo.{DeclInfo}
use Rattle.ml_types.specs.Types.{ConHead, TupleHead, ArrowHead}
use Rattle.ml_typing.specs.declared.equation.Unknown.TheVariants.{Fresh}
use Rattle.ml_typing.specs.Terms.{Shape, Is, Make, shapes, no_shapes, shape_and, fresh_from, made, product}
use Rattle.hm_terms.specs.Stores.{Store, AddsNode, IsReady, Grows}
use Rattle.hm_terms.specs.Shapes.{Holds, HoldAll, Lowers, LowersAll}
use Rattle.hm_terms.specs.Contexts.{vars_of}
use Rattle.hm_terms.proofs.Growth.{grows_same, grows_then}
use Rattle.hm_terms.proofs.Holding.{node_lowers, hold_all_grows, hold_length}

pub lowers_then : (a b c : Store) (h : Shape) (x : TyId) → Grows a b → Lowers b c h x → Lowers a c h x
lowers_then a b c h x g l = record { grows = grows_then a b c g l.grows; holds = l.holds }

hold_push : (s : Store) (hs : List Shape) (xs : List TyId) (h : Shape) (x : TyId) → HoldAll s hs xs → Holds s h x → HoldAll s (hs ++ h ∷ []) (xs ++ x ∷ [])
hold_push s [] [] h x k one = (one, tt)
hold_push s [] (y ∷ xs) h x k one = absurd k
hold_push s (g ∷ hs) [] h x k one = absurd k
hold_push s (g ∷ hs) (y ∷ xs) h x k one = (k.0, hold_push s hs xs h x k.1 one)

-- no shape yet
pub lowers_none : (s : Store) → LowersAll s s [] []
lowers_none s = record { grows = grows_same s; hold = tt }

-- one shape more
pub lowers_more : (a b c : Store) (hs gs : List Shape) (xs ys : List TyId) (h : Shape) (x : TyId) → IsReady a → LowersAll a b hs xs → Lowers b c h x → gs ≡ hs ++ h ∷ [] → ys ≡ xs ++ x ∷ [] → LowersAll a c gs ys
lowers_more a b c hs gs xs ys h x r l one e f =
    record {
      grows = grows_then a b c l.grows one.grows;
      hold = subst (λ (zs : List TyId). HoldAll c gs zs) (sym f) (subst (λ (zs : List Shape). HoldAll c zs (xs ++ x ∷ [])) (sym e) (hold_push c hs xs h x (hold_all_grows b c (l.grows.ready r) one.grows hs xs l.hold) one.holds));
    }

pub fresh_more : (node count at : ℕ) → fresh_from node (count + 1) at ≡ fresh_from node count at ++ Is (Fresh node (at + count)) ∷ []
fresh_more node count at = rw add-one (by node count at)
  where
    by : (node count at : ℕ) → fresh_from node (suc count) at ≡ fresh_from node count at ++ Is (Fresh node (at + count)) ∷ []
    by node zero at = ap (λ (n : ℕ). Is (Fresh node n) ∷ []) (omega arith)
    by node (suc count) at =
        let e : (at + 1) + count ≡ at + suc count = omega arith in
        ap (λ (ss : List Shape). Is (Fresh node at) ∷ ss) (by node count (at + 1) ∙ ap (λ (n : ℕ). fresh_from node count (at + 1) ++ Is (Fresh node n) ∷ []) e)

pub fresh_next : (node count : ℕ) → fresh_from node (count + 1) 0 ≡ fresh_from node count 0 ++ Is (Fresh node count) ∷ []
fresh_next node count = fresh_more node count 0 ∙ ap (λ (n : ℕ). fresh_from node count 0 ++ Is (Fresh node n) ∷ []) (omega arith)

fresh_count : (node count at : ℕ) → length (fresh_from node count at) ≡ count
fresh_count node zero at = refl
fresh_count node (suc count) at = ap suc (fresh_count node count (at + 1))

-- a declaration at the types of shapes
pub con_lowers : (old mid new : Store) (d : ℕ) (hs : List Shape) (xs : List TyId) (x : TyId) → IsReady old → LowersAll old mid hs xs → AddsNode mid new (Con d xs) x → Lowers old new (Make (ConHead d (length hs)) (shapes hs)) x
con_lowers old mid new d hs xs x r l a =
    let e : Some (ConHead d (length xs)) ≡ Some (ConHead d (length hs)) = ap (λ n. Some (ConHead d n)) (hold_length mid hs xs l.hold) in
    lowers_then old mid new (Make (ConHead d (length hs)) (shapes hs)) x l.grows (node_lowers mid new (Con d xs) (ConHead d (length hs)) x (l.grows.ready r) a e hs l.hold)

pub tuple_lowers : (old mid new : Store) (hs : List Shape) (xs : List TyId) (x : TyId) → IsReady old → LowersAll old mid hs xs → AddsNode mid new (Tuple xs) x → Lowers old new (Make (TupleHead (length hs)) (shapes hs)) x
tuple_lowers old mid new hs xs x r l a =
    let e : Some (TupleHead (length xs)) ≡ Some (TupleHead (length hs)) = ap (λ n. Some (TupleHead n)) (hold_length mid hs xs l.hold) in
    lowers_then old mid new (Make (TupleHead (length hs)) (shapes hs)) x l.grows (node_lowers mid new (Tuple xs) (TupleHead (length hs)) x (l.grows.ready r) a e hs l.hold)

pub lowers_all_same : (s : Store) (hs : List Shape) (xs : List TyId) → HoldAll s hs xs → LowersAll s s hs xs
lowers_all_same s hs xs k = record { grows = grows_same s; hold = k }

pub made_lowers : (old mid new : Store) (d node : ℕ) (o : Option DeclInfo) (xs : List TyId) (x : TyId) → IsReady old → LowersAll old mid (fresh_from node (vars_of o) 0) xs → AddsNode mid new (Con d xs) x → Lowers old new (made d node o) x
made_lowers old mid new d node None xs x r l a = con_lowers old mid new d [] xs x r l a
made_lowers old mid new d node (Some info) xs x r l a =
    subst (λ (n : ℕ). Lowers old new (Make (ConHead d n) (shapes (fresh_from node info.vars 0))) x) (fresh_count node info.vars 0) (con_lowers old mid new d (fresh_from node info.vars 0) xs x r l a)

-- one id is the product of one shape
pub only_product : (s : Store) (hs : List Shape) (xs : List TyId) (x : TyId) → xs ≡ x ∷ [] → HoldAll s hs xs → Lowers s s (product hs) x
only_product s hs xs x e k = by hs (subst (HoldAll s hs) e k)
  where
    by : (gs : List Shape) → HoldAll s gs (x ∷ []) → Lowers s s (product gs) x
    by [] j = absurd j
    by (g ∷ []) j = record { grows = grows_same s; holds = j.0 }
    by (g ∷ h ∷ gs) j = absurd j.1

pub several_product : (old new : Store) (hs : List Shape) (xs : List TyId) (x : TyId) → (length xs ≡ 1 → ⊥) → IsReady old → HoldAll old hs xs → AddsNode old new (Tuple xs) x → Lowers old new (product hs) x
several_product old new hs xs x not_one r k a = by hs (hold_length old hs xs k) (tuple_lowers old old new hs xs x r (lowers_all_same old hs xs k) a)
  where
    by : (gs : List Shape) → length xs ≡ length gs → Lowers old new (Make (TupleHead (length gs)) (shapes gs)) x → Lowers old new (product gs) x
    by [] e l = l
    by (g ∷ []) e l = absurd (not_one e)
    by (g ∷ h ∷ gs) e l =
        let n : suc (suc (length gs)) ≡ length gs + 2 = omega arith in
        subst (λ (i : ℕ). Lowers old new (Make (TupleHead i) (shape_and g (shape_and h (shapes gs)))) x) n l

-- one arrow more, from the right
pub arrow_lowers : (old new : Store) (slot : ℕ) (h r : Shape) (from to x : TyId) → IsReady old → Holds old h from → Holds old r to → AddsNode old new (Arrow slot from to) x → Lowers old new (Make ArrowHead (shape_and h (shape_and r no_shapes))) x
arrow_lowers old new slot h r from to x k one other a = node_lowers old new (Arrow slot from to) ArrowHead x k a refl (h ∷ r ∷ []) (one, (other, tt))

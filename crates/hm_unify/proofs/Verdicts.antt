-- What the sizes of closed classes say.
use Rattle.std.proofs.Common.{◌≡◌, ℕ, zero, suc, ◌<◌, ◌≤◌, ◌⊎◌, max, List, [], ◌∷◌, ◌++◌, length, Option, Some, None, refl, sym, ap, ◌∙◌, subst, inl, inr, ⊎_elim, arith}
use Rattle.ml_types.specs.declared.node.TyId.{TyId}
use Rattle.ml_types.specs.declared.node.TyNode.{TyNode}
use Rattle.ml_types.specs.Types.{tree_size}
use Rattle.hm_unify.specs.declared.classes.Classes.{Classes}
use Rattle.hm_unify.specs.Solutions.{Bound, Pairs, HasFinite, HasInfinite, IsIdOf, Fits, IsTooLarge, NoFinite, NoInfinite}
use Rattle.hm_unify.specs.States.{IsTabled}
use Rattle.hm_unify.specs.Closing.{Naming, class_of, IsClosure, PairsWithin}
use Rattle.hm_unify.specs.Shapes.{HasSize, AreMeasured, IsMarked, FindsAll, mark_at}
use Rattle.hm_unify.specs.declared.measure.Marks.{Marks}
use Rattle.hm_unify.specs.declared.measure.Mark.TheVariants.{Open, Done}
use Rattle.hm_unify.proofs.Equations.{IsIdOf-front, IsIdOf-back}
use Rattle.hm_unify.proofs.Searches.{Respected-closure, IsSolution-finite}
use Rattle.hm_unify.proofs.Finite.{Least, Least-closure, Shape-unique, Shape-least, HasInfinite-closure}

-- two sizes are those of one pair
pub AreMeasured-pair : (nodes : List TyNode) (name : Naming) (a b : TyId) (s u : ℕ) → HasSize nodes name (name a) s → HasSize nodes name (name b) u → AreMeasured nodes name ((a, b) ∷ []) (max s u)
AreMeasured-pair nodes name a b s u p q = record { each = each; reached = λ h. reached (cases s u) }
  where
    each : (z : TyId) → IsIdOf ((a, b) ∷ []) z → (m : ℕ) × HasSize nodes name (name z) m × (m ≤ max s u)
    each z (inl e) = (s, subst (λ v. HasSize nodes name (name v) s) (sym e) p, omega arith)
    each z (inr (inl e)) = (u, subst (λ v. HasSize nodes name (name v) u) (sym e) q, omega arith)
    each z (inr (inr e)) = absurd e

    cases : (x y : ℕ) → (max x y ≡ x) ⊎ (max x y ≡ y)
    cases x y = ⊎_elim (λ (h : y ≤ x). inl (omega arith)) (λ (h : x ≤ y). inr (omega arith)) (total x y)
      where
        total : (x y : ℕ) → (y ≤ x) ⊎ (x ≤ y)
        total zero y = inr (omega arith)
        total (suc x) zero = inl (omega arith)
        total (suc x) (suc y) = ⊎_elim (λ (h : y ≤ x). inl (omega arith)) (λ (h : x ≤ y). inr (omega arith)) (total x y)

    reached : (max s u ≡ s) ⊎ (max s u ≡ u) → (z : TyId) × IsIdOf ((a, b) ∷ []) z × HasSize nodes name (name z) (max s u)
    reached (inl e) = (a, inl refl, subst (HasSize nodes name (name a)) (sym e) p)
    reached (inr e) = (b, inr (inl refl), subst (HasSize nodes name (name b)) (sym e) q)

le_cases : (x y : ℕ) → (max x y ≡ x) ⊎ ((max x y ≡ y) × (x < y))
le_cases zero zero = inl refl
le_cases zero (suc y) = inr (omega arith, omega arith)
le_cases (suc x) zero = inl (omega arith)
le_cases (suc x) (suc y) = ⊎_elim (λ (h : max x y ≡ x). inl (omega arith)) (λ (h : (max x y ≡ y) × (x < y)). inr (omega arith, omega arith)) (le_cases x y)

id_cases : (ps qs : Pairs) (z : TyId) → IsIdOf (ps ++ qs) z → IsIdOf ps z ⊎ IsIdOf qs z
id_cases [] qs z h = inr h
id_cases (p ∷ ps) qs z (inl e) = inl (inl e)
id_cases (p ∷ ps) qs z (inr (inl e)) = inl (inr (inl e))
id_cases (p ∷ ps) qs z (inr (inr h)) = ⊎_elim (λ k. inl (inr (inr k))) (λ k. inr k) (id_cases ps qs z h)

-- one list behind another
pub AreMeasured-append : (nodes : List TyNode) (name : Naming) (ps qs : Pairs) (s u : ℕ) → AreMeasured nodes name ps s → AreMeasured nodes name qs u → AreMeasured nodes name (ps ++ qs) (max s u)
AreMeasured-append nodes name ps qs s u p q =
    record { each = λ z h. each z (id_cases ps qs z h); reached = λ h. reached h (le_cases s u) }
  where
    each : (z : TyId) → IsIdOf ps z ⊎ IsIdOf qs z → (m : ℕ) × HasSize nodes name (name z) m × (m ≤ max s u)
    each z (inl h) = let o = p.each z h in (o.0, o.1, omega (arith, o.2))
    each z (inr h) = let o = q.each z h in (o.0, o.1, omega (arith, o.2))

    reached : 0 < max s u → (max s u ≡ s) ⊎ ((max s u ≡ u) × (s < u)) → (z : TyId) × IsIdOf (ps ++ qs) z × HasSize nodes name (name z) (max s u)
    reached h (inl e) =
        let o = p.reached (omega arith) in
        (o.0, IsIdOf-front ps qs o.0 o.1, subst (HasSize nodes name (name o.0)) (sym e) o.2)
    reached h (inr e) =
        let o = q.reached (omega (arith, e.1)) in
        (o.0, IsIdOf-back ps qs o.0 o.1, subst (HasSize nodes name (name o.0)) (sym e.0) o.2)

pub AreMeasured-none : (nodes : List TyNode) (name : Naming) → AreMeasured nodes name [] 0
AreMeasured-none nodes name = record { each = λ z h. absurd h; reached = λ h. absurd (omega arith) }

Least-of : (nodes : List TyNode) (bound : Bound) → IsTabled nodes bound → HasFinite nodes bound [] → (pairs : Pairs) (classes : Classes) (seen : Pairs) (k : IsClosure nodes bound pairs classes [] seen) (s : ℕ) → AreMeasured nodes (class_of nodes bound k.root_of) seen s → Least nodes bound pairs (class_of nodes bound k.root_of)
Least-of nodes bound tabled old pairs classes seen k s all =
    Least-closure nodes bound tabled old pairs classes seen k (λ z h. (let o = all.each z h in (o.1.0, o.1.1)))

pub Fits-closure : (nodes : List TyNode) (bound : Bound) → IsTabled nodes bound → HasFinite nodes bound [] → (pairs : Pairs) (classes : Classes) (seen : Pairs) (k : IsClosure nodes bound pairs classes [] seen) (s u : ℕ) → AreMeasured nodes (class_of nodes bound k.root_of) seen s → AreMeasured nodes (class_of nodes bound k.root_of) pairs u → u ≤ 2000 → Fits nodes bound pairs
Fits-closure nodes bound tabled old pairs classes seen k s u all these small =
    let least = Least-of nodes bound tabled old pairs classes seen k s all in (
      least.tree,
      least.solves,
      least.equates,
      λ x h.
          (let o = these.each x h in
          let same : least.tree x ≡ o.1.0 = Shape-unique nodes (class_of nodes bound k.root_of) (class_of nodes bound k.root_of x) (least.tree x) o.1.0 (least.shape x) o.1.1 in
          omega (arith, ap tree_size same, o.1.2, o.2, small)),
    )

pub IsTooLarge-closure : (nodes : List TyNode) (bound : Bound) → IsTabled nodes bound → HasFinite nodes bound [] → (pairs : Pairs) (classes : Classes) (seen : Pairs) (k : IsClosure nodes bound pairs classes [] seen) (s u : ℕ) → AreMeasured nodes (class_of nodes bound k.root_of) seen s → AreMeasured nodes (class_of nodes bound k.root_of) pairs u → PairsWithin (length nodes) pairs → 2000 < u → IsTooLarge nodes bound pairs
IsTooLarge-closure nodes bound tabled old pairs classes seen k s u all these within large =
    let least = Least-of nodes bound tabled old pairs classes seen k s all in
    let o = these.reached (omega (arith, large)) in
    record {
      some = (least.tree, least.solves, least.equates);
      id = o.0;
      of_pairs = o.1;
      large = λ t sol eqs. (let least_size = Shape-least nodes (class_of nodes bound k.root_of) t (Respected-closure nodes bound pairs classes seen k t sol eqs) (class_of nodes bound k.root_of o.0) o.2.0 o.2.1 o.0 refl in omega (arith, least_size, o.2.2, large));
    }

pub NoFinite-infinite : (nodes : List TyNode) (bound : Bound) (pairs : Pairs) → NoInfinite nodes bound pairs → NoFinite nodes bound pairs
NoFinite-infinite nodes bound pairs none t s e = none t (IsSolution-finite nodes bound t s) e

pub IsMarked-new : (nodes : List TyNode) (name : Naming) (marks : Marks) → ((r : ℕ) → mark_at marks r ≡ None) → IsMarked nodes name marks []
IsMarked-new nodes name marks none =
    record {
      done = λ r s h. absurd (let g : None ≡ Some (Done s) = sym (none r) ∙ h in cc);
      opened = λ r h. absurd (let g : None ≡ Some Open = sym (none r) ∙ h in cc);
    }

-- what is known of the largest size in a list
abbrev pub Finding : List TyNode → Bound → Classes → Marks → Marks → Pairs → Option ℕ → Type 0
Finding nodes bound classes old new list o =
    (pairs seen : Pairs) (k : IsClosure nodes bound pairs classes [] seen) → IsMarked nodes (class_of nodes bound k.root_of) old [] → FindsAll nodes bound pairs (class_of nodes bound k.root_of) list new o

pub judged_first : (nodes : List TyNode) (bound : Bound) → IsTabled nodes bound → (pairs : Pairs) (classes : Classes) (seen list : Pairs) (m0 m1 : Marks) (o : Option ℕ) → IsClosure nodes bound pairs classes [] seen → ((r : ℕ) → mark_at m0 r ≡ None) → Finding nodes bound classes m0 m1 list o → o ≡ None → HasInfinite nodes bound pairs × NoFinite nodes bound pairs
judged_first nodes bound tabled pairs classes seen list m0 m1 o k none find is =
    (HasInfinite-closure nodes bound tabled pairs classes seen k, subst (FindsAll nodes bound pairs (class_of nodes bound k.root_of) list m1) is (find pairs seen k (IsMarked-new nodes (class_of nodes bound k.root_of) m0 none)))

pub judged_then : (nodes : List TyNode) (bound : Bound) → IsTabled nodes bound → (pairs : Pairs) (classes : Classes) (seen list : Pairs) (m0 m1 m2 : Marks) (o p : Option ℕ) (s : ℕ) → IsClosure nodes bound pairs classes [] seen → ((r : ℕ) → mark_at m0 r ≡ None) → Finding nodes bound classes m0 m1 list o → o ≡ Some s → Finding nodes bound classes m1 m2 pairs p → p ≡ None → HasInfinite nodes bound pairs × NoFinite nodes bound pairs
judged_then nodes bound tabled pairs classes seen list m0 m1 m2 o p s k none find is again then =
    let name = class_of nodes bound k.root_of in
    let a = subst (FindsAll nodes bound pairs name list m1) is (find pairs seen k (IsMarked-new nodes name m0 none)) in
    (HasInfinite-closure nodes bound tabled pairs classes seen k, subst (FindsAll nodes bound pairs name pairs m2) then (again pairs seen k a.1))

pub judged_large : (nodes : List TyNode) (bound : Bound) → IsTabled nodes bound → HasFinite nodes bound [] → (pairs : Pairs) (classes : Classes) (seen list : Pairs) (m0 m1 m2 : Marks) (o p : Option ℕ) (s u : ℕ) → IsClosure nodes bound pairs classes [] seen → list ≡ seen → ((r : ℕ) → mark_at m0 r ≡ None) → Finding nodes bound classes m0 m1 list o → o ≡ Some s → Finding nodes bound classes m1 m2 pairs p → p ≡ Some u → PairsWithin (length nodes) pairs → 2000 < u → IsTooLarge nodes bound pairs
judged_large nodes bound tabled old pairs classes seen list m0 m1 m2 o p s u k same none find is again then within large =
    let name = class_of nodes bound k.root_of in
    let a = subst (FindsAll nodes bound pairs name list m1) is (find pairs seen k (IsMarked-new nodes name m0 none)) in
    let b = subst (FindsAll nodes bound pairs name pairs m2) then (again pairs seen k a.1) in
    IsTooLarge-closure nodes bound tabled old pairs classes seen k s u (subst (λ v. AreMeasured nodes name v s) same a.0) b.0 within large

pub judged_small : (nodes : List TyNode) (bound : Bound) → IsTabled nodes bound → HasFinite nodes bound [] → (pairs : Pairs) (classes : Classes) (seen list : Pairs) (m0 m1 m2 : Marks) (o p : Option ℕ) (s u : ℕ) → IsClosure nodes bound pairs classes [] seen → list ≡ seen → ((r : ℕ) → mark_at m0 r ≡ None) → Finding nodes bound classes m0 m1 list o → o ≡ Some s → Finding nodes bound classes m1 m2 pairs p → p ≡ Some u → u ≤ 2000 → Fits nodes bound pairs
judged_small nodes bound tabled old pairs classes seen list m0 m1 m2 o p s u k same none find is again then small =
    let name = class_of nodes bound k.root_of in
    let a = subst (FindsAll nodes bound pairs name list m1) is (find pairs seen k (IsMarked-new nodes name m0 none)) in
    let b = subst (FindsAll nodes bound pairs name pairs m2) then (again pairs seen k a.1) in
    Fits-closure nodes bound tabled old pairs classes seen k s u (subst (λ v. AreMeasured nodes name v s) same a.0) b.0 small

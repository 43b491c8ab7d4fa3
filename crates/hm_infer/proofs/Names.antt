-- Solvers in which the unknowns are free, and what the types of their ids say of the shapes of pairs: which
-- shape has a tree, and that it is one alone.
use Rattle.std.proofs.Common.{◌≡◌, ℕ, ◌<◌, ◌⊎◌, List, [], ◌∷◌, length, Some, refl, sym, ap, ◌∙◌, inl, inr, ⊎_elim, subst}
use Rattle.ml_types.specs.declared.node.TyId.{TyId}
use Rattle.ml_types.specs.Types.{Head, Tree, Leaf, Node, Trees, Cons}
use Rattle.ml_typing.specs.declared.equation.Unknown.{Unknown}
use Rattle.ml_typing.specs.Terms.{Shape, Is, Make, Shapes, no_shapes, shape_and}
use Rattle.ml_typing.specs.Typing.{Assignment, Pair, tree_of, trees_of, at_types, StandsIn, StandsInAny}
use Rattle.ml_typing.specs.Refusals.{IsPart, IsPartOfAny, IsIn}
use Rattle.hm_unify.specs.Solutions.{Pairs, Stands, Solves}
use Rattle.hm_terms.specs.Stores.{Store, Reading, IsReady}
use Rattle.hm_terms.proofs.Holding.{unknown_cases}
use Rattle.hm_infer.specs.Running.{HoldPairs}
use Rattle.hm_infer.proofs.Trees.{tree_cases}

pub cons_same : (t r : Tree) (ts rs : Trees) → t ≡ r → ts ≡ rs → Cons t ts ≡ Cons r rs
cons_same t r ts rs p q = cc

-- ---- solvers with free unknowns

-- the pairs' ids are the types of their sides, the unknowns may have any types, and each id stands for a
-- type of which every other reading has an instance
pub record IsFree (s : Store) (ps : List Pair) (ids : Pairs) : Type 0 where
  pub ready : IsReady s
  pub hold : HoldPairs s ps ids
  pub free : (a : Assignment) → (t : TyId → Tree) × Reading s t a
  pub types : TyId → Tree
  pub shown : Assignment
  pub reading : Reading s types shown
  pub stands : (x : TyId) → x.0 < length s.nodes → Stands s.nodes s.bound x (types x)
  pub instances : (t : TyId → Tree) → Solves s.nodes s.bound t → (f : ℕ → Tree) × ((x : TyId) → x.0 < length s.nodes → t x ≡ at_types f (types x))

-- each unknown of the shape has come up
abbrev pub IsKnown : Store → Shape → Type 0
IsKnown s r = (u : Unknown) → StandsIn u r → (x : TyId) × (s.ids u ≡ Some x)

abbrev pub AreKnown : Store → Shapes → Type 0
AreKnown s rs = (u : Unknown) → StandsInAny u rs → (x : TyId) × (s.ids u ≡ Some x)

-- a part of the shape with this tree, where it has one
abbrev pub HasPart : Assignment → Shape → Tree → Type 0
HasPart a r w = ((q : Shape) × IsPart q r × (w ≡ tree_of a q)) ⊎ ((q : Shape) → IsPart q r → w ≡ tree_of a q → ⊥)

abbrev pub HasPartOfAny : Assignment → Shapes → Tree → Type 0
HasPartOfAny a rs w = ((q : Shape) × IsPartOfAny q rs × (w ≡ tree_of a q)) ⊎ ((q : Shape) → IsPartOfAny q rs → w ≡ tree_of a q → ⊥)

-- a type of the pairs with this tree, where they have one
abbrev pub HasType : Assignment → List Pair → Tree → Type 0
HasType a ps w = ((q : Shape) × IsIn q ps × (w ≡ tree_of a q)) ⊎ ((q : Shape) → IsIn q ps → w ≡ tree_of a q → ⊥)

make_by : (a : Assignment) (h : Head) (rs : Shapes) (w : Tree) → (w ≡ tree_of a (Make h rs)) ⊎ (w ≡ tree_of a (Make h rs) → ⊥) → HasPartOfAny a rs w → HasPart a (Make h rs) w
make_by a h rs w (inl e) below = inl (Make h rs, inl refl, e)
make_by a h rs w (inr d) (inl p) = inl (p.0, inr p.1, p.2)
make_by a h rs w (inr d) (inr n) = inr none
  where
    none : (q : Shape) → IsPart q (Make h rs) → w ≡ tree_of a q → ⊥
    none q (inl e) g = d (g ∙ ap (tree_of a) e)
    none q (inr p) g = n q p g

and_by : (a : Assignment) (r : Shape) (rs : Shapes) (w : Tree) → HasPart a r w → HasPartOfAny a rs w → HasPartOfAny a (shape_and r rs) w
and_by a r rs w (inl p) below = inl (p.0, inl p.1, p.2)
and_by a r rs w (inr d) (inl p) = inl (p.0, inr p.1, p.2)
and_by a r rs w (inr d) (inr n) = inr none
  where
    none : (q : Shape) → IsPartOfAny q (shape_and r rs) → w ≡ tree_of a q → ⊥
    none q (inl p) g = d q p g
    none q (inr p) g = n q p g

mutual
  part_cases : (a : Assignment) (r : Shape) (w : Tree) → HasPart a r w
  part_cases a (Is v) w = ⊎_elim (λ e. inl (Is v, refl, e)) (λ d. inr (λ q p g. d (g ∙ ap (tree_of a) p))) (tree_cases w (a v))
  part_cases a (Make h rs) w = make_by a h rs w (tree_cases w (tree_of a (Make h rs))) (parts_cases a rs w)

  parts_cases : (a : Assignment) (rs : Shapes) (w : Tree) → HasPartOfAny a rs w
  parts_cases a no_shapes w = inr (λ q p g. p)
  parts_cases a (shape_and r rs) w = and_by a r rs w (part_cases a r w) (parts_cases a rs w)

pair_by : (a : Assignment) (p : Pair) (ps : List Pair) (w : Tree) → HasPart a p.0 w → HasPart a p.1 w → HasType a ps w → HasType a (p ∷ ps) w
pair_by a p ps w (inl q) y z = inl (q.0, inl q.1, q.2)
pair_by a p ps w (inr d) (inl q) z = inl (q.0, inr (inl q.1), q.2)
pair_by a p ps w (inr d) (inr n) (inl q) = inl (q.0, inr (inr q.1), q.2)
pair_by a p ps w (inr d) (inr n) (inr m) = inr none
  where
    none : (q : Shape) → IsIn q (p ∷ ps) → w ≡ tree_of a q → ⊥
    none q (inl i) g = d q i g
    none q (inr (inl i)) g = n q i g
    none q (inr (inr i)) g = m q i g

pub type_cases : (a : Assignment) (ps : List Pair) (w : Tree) → HasType a ps w
type_cases a [] w = inr (λ q p g. p)
type_cases a (p ∷ ps) w = pair_by a p ps w (part_cases a p.0 w) (part_cases a p.1 w) (type_cases a ps w)

-- ---- parts

mutual
  pub part_known : (s : Store) (q r : Shape) → IsPart q r → IsKnown s r → IsKnown s q
  part_known s q (Is v) e k = λ u i. k u (subst (StandsIn u) e i)
  part_known s q (Make h rs) (inl e) k = λ u i. k u (subst (StandsIn u) e i)
  part_known s q (Make h rs) (inr p) k = any_known s q rs p k

  pub any_known : (s : Store) (q : Shape) (rs : Shapes) → IsPartOfAny q rs → AreKnown s rs → IsKnown s q
  any_known s q no_shapes p k = absurd p
  any_known s q (shape_and r rs) (inl p) k = part_known s q r p (λ u i. k u (inl i))
  any_known s q (shape_and r rs) (inr p) k = any_known s q rs p (λ u i. k u (inr i))

pub in_known : (s : Store) (ps : List Pair) (ids : Pairs) → HoldPairs s ps ids → (q : Shape) → IsIn q ps → IsKnown s q
in_known s [] ids k q i = absurd i
in_known s (p ∷ ps) [] k q i = absurd k
in_known s (p ∷ ps) (x ∷ ids) k q (inl i) = part_known s q p.0 i k.0.known
in_known s (p ∷ ps) (x ∷ ids) k q (inr (inl i)) = part_known s q p.1 i k.1.known
in_known s (p ∷ ps) (x ∷ ids) k q (inr (inr i)) = in_known s ps ids k.2 q i

pub itself : (r : Shape) → IsPart r r
itself (Is v) = refl
itself (Make h rs) = inl refl

mutual
  pub part_of_part : (q r z : Shape) → IsPart q r → IsPart r z → IsPart q z
  part_of_part q r (Is v) i j = subst (IsPart q) j i
  part_of_part q r (Make h zs) i (inl j) = subst (IsPart q) j i
  part_of_part q r (Make h zs) i (inr j) = inr (part_of_any q r zs i j)

  pub part_of_any : (q r : Shape) (zs : Shapes) → IsPart q r → IsPartOfAny r zs → IsPartOfAny q zs
  part_of_any q r no_shapes i j = j
  part_of_any q r (shape_and z zs) i (inl j) = inl (part_of_part q r z i j)
  part_of_any q r (shape_and z zs) i (inr j) = inr (part_of_any q r zs i j)

pub part_in : (q r : Shape) (ps : List Pair) → IsPart q r → IsIn r ps → IsIn q ps
part_in q r [] i j = j
part_in q r (p ∷ ps) i (inl j) = inl (part_of_part q r p.0 i j)
part_in q r (p ∷ ps) i (inr (inl j)) = inr (inl (part_of_part q r p.1 i j))
part_in q r (p ∷ ps) i (inr (inr j)) = inr (inr (part_in q r ps i j))

-- ---- shapes with one tree are one shape

module _ (s : Store) (ps : List Pair) (ids : Pairs) (k : IsFree s ps ids) where
  -- an unknown has the same type as its id in every reading
  at_unknown : (a : Assignment) (u : Unknown) (x : TyId) → s.ids u ≡ Some x → (r : (t : TyId → Tree) × Reading s t a) → a u ≡ at_types (k.instances r.0 r.1.solves).0 (k.shown u)
  at_unknown a u x p r =
      let f = k.instances r.0 r.1.solves in
      sym (r.1.reads u x p) ∙ f.1 x (k.ready.within u x p) ∙ ap (at_types f.0) (k.reading.reads u x p)

  pub unknown_leaf : (u : Unknown) (x : TyId) → s.ids u ≡ Some x → (h : Head) (ts : Trees) → k.shown u ≡ Node h ts → ⊥
  unknown_leaf u x p h ts e =
      let a : Assignment = λ v. Leaf 0 in
      let r = k.free a in
      let same = at_unknown a u x p r ∙ ap (at_types (k.instances r.0 r.1.solves).0) e in
      cc

  pub unknown_differs : (u v : Unknown) (x y : TyId) → s.ids u ≡ Some x → s.ids v ≡ Some y → (u ≡ v → ⊥) → k.shown u ≡ k.shown v → ⊥
  unknown_differs u v x y p q d e =
      let r = k.free a in
      let f = (k.instances r.0 r.1.solves).0 in
      let same : a u ≡ a v = at_unknown a u x p r ∙ ap (at_types f) e ∙ sym (at_unknown a v y q r) in
      let one : Leaf 0 ≡ Leaf 1 = sym (at_first (unknown_cases u u)) ∙ same ∙ at_other (unknown_cases v u) in
      cc
    where
      by : {w : Unknown} → (w ≡ u) ⊎ (w ≡ u → ⊥) → Tree
      by (inl i) = Leaf 0
      by (inr i) = Leaf 1

      a : Assignment
      a w = by (unknown_cases w u)

      at_first : (c : (u ≡ u) ⊎ (u ≡ u → ⊥)) → by c ≡ Leaf 0
      at_first (inl i) = refl
      at_first (inr i) = absurd (i refl)

      at_other : (c : (v ≡ u) ⊎ (v ≡ u → ⊥)) → by c ≡ Leaf 1
      at_other (inl i) = absurd (d (sym i))
      at_other (inr i) = refl

  mutual
    pub one_shape : (q r : Shape) → IsKnown s q → IsKnown s r → tree_of k.shown q ≡ tree_of k.shown r → q ≡ r
    one_shape (Is u) (Is v) i j e = by (unknown_cases u v)
      where
        by : (u ≡ v) ⊎ (u ≡ v → ⊥) → Is u ≡ Is v
        by (inl g) = ap Is g
        by (inr d) = absurd (unknown_differs u v (i u refl).0 (j v refl).0 (i u refl).1 (j v refl).1 d e)
    one_shape (Is u) (Make h rs) i j e = absurd (unknown_leaf u (i u refl).0 (i u refl).1 h (trees_of k.shown rs) e)
    one_shape (Make h qs) (Is v) i j e = absurd (unknown_leaf v (j v refl).0 (j v refl).1 h (trees_of k.shown qs) (sym e))
    one_shape (Make h qs) (Make g rs) i j e =
        let heads : h ≡ g = cc in
        let trees : trees_of k.shown qs ≡ trees_of k.shown rs = cc in
        let same : qs ≡ rs = same_shapes qs rs i j trees in
        cc

    pub same_shapes : (qs rs : Shapes) → AreKnown s qs → AreKnown s rs → trees_of k.shown qs ≡ trees_of k.shown rs → qs ≡ rs
    same_shapes no_shapes no_shapes i j e = refl
    same_shapes no_shapes (shape_and r rs) i j e = absurd cc
    same_shapes (shape_and q qs) no_shapes i j e = absurd cc
    same_shapes (shape_and q qs) (shape_and r rs) i j e =
        let one : tree_of k.shown q ≡ tree_of k.shown r = cc in
        let rest : trees_of k.shown qs ≡ trees_of k.shown rs = cc in
        let first : q ≡ r = one_shape q r (λ u h. i u (inl h)) (λ u h. j u (inl h)) one in
        let others : qs ≡ rs = same_shapes qs rs (λ u h. i u (inr h)) (λ u h. j u (inr h)) rest in
        cc

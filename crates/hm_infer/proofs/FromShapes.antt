-- Infinite types of the shapes of pairs are infinite types of their ids, where the unknowns are free.
use Rattle.std.proofs.Common.{◌≡◌, ℕ, zero, suc, List, [], ◌∷◌, Some, None, refl, sym, ap, ◌∙◌, inl, inr, subst}
use Rattle.std.specs.List.{slice_get}
use Rattle.ml_types.specs.declared.node.TyId.{TyId}
use Rattle.ml_types.specs.declared.node.TyNode.{TyNode}
use Rattle.ml_types.specs.Types.{Head, ArrowHead, head_of, parts_of, Tree, Leaf, Node, Trees, Nil, Cons, trees}
use Rattle.ml_typing.specs.Terms.{Shape, Is, Make, Shapes, no_shapes, shape_and}
use Rattle.ml_typing.specs.Typing.{Assignment, Pair, tree_of, trees_of}
use Rattle.ml_typing.specs.Refusals.{IsPart, IsPartOfAny, IsIn, names_of_all, IsInfinite, NoInfinite}
use Rattle.hm_unify.specs.Solutions as unify
use Rattle.hm_unify.specs.Solutions.{Pairs, node_at, IsSolution, Equates}
use Rattle.hm_terms.specs.Stores.{Store}
use Rattle.hm_infer.specs.Running.{HoldPairs}
use Rattle.hm_infer.proofs.Names.{IsFree, cons_same, HasType, type_cases, in_known, part_in, itself, one_shape, unknown_leaf}

-- a name of a type of the pairs, and one of a tree that none of them has; they are never equal
abbrev of_pairs : Tree → Tree
of_pairs w = Node ArrowHead (Cons w Nil)

abbrev of_node : Tree → Tree
of_node w = Node ArrowHead (Cons w (Cons (Leaf 0) Nil))

abbrev of_leaf : ℕ → Tree
of_leaf n = Node ArrowHead (Cons (Leaf n) (Cons (Leaf 0) (Cons (Leaf 0) Nil)))

-- the name of a type of the pairs where there is one with this tree, and another where there is none
abbrev picked : (a : Assignment) (ps : List Pair) → (Shape → Tree) → (w : Tree) → HasType a ps w → Tree → Tree
picked a ps c w (inl q) other = of_pairs (c q.0)
picked a ps c w (inr d) other = other

abbrev mutual
  named : (a : Assignment) (ps : List Pair) → (Shape → Tree) → Tree → Tree
  named a ps c (Leaf n) = picked a ps c (Leaf n) (type_cases a ps (Leaf n)) (of_leaf n)
  named a ps c (Node h ts) = picked a ps c (Node h ts) (type_cases a ps (Node h ts)) (of_node (Node h (all_named a ps c ts)))

  all_named : (a : Assignment) (ps : List Pair) → (Shape → Tree) → Trees → Trees
  all_named a ps c Nil = Nil
  all_named a ps c (Cons t ts) = Cons (named a ps c t) (all_named a ps c ts)

-- the names of these
abbrev tagged : (Shape → Tree) → Shapes → Trees
tagged c no_shapes = Nil
tagged c (shape_and r rs) = Cons (of_pairs (c r)) (tagged c rs)

tagged_same : (c : Shape → Tree) (qs rs : Shapes) → names_of_all c qs ≡ names_of_all c rs → tagged c qs ≡ tagged c rs
tagged_same c no_shapes no_shapes e = refl
tagged_same c no_shapes (shape_and r rs) e = absurd cc
tagged_same c (shape_and q qs) no_shapes e = absurd cc
tagged_same c (shape_and q qs) (shape_and r rs) e =
    let one : c q ≡ c r = cc in
    let rest : names_of_all c qs ≡ names_of_all c rs = cc in
    cons_same _ _ _ _ (ap of_pairs one) (tagged_same c qs rs rest)

-- the pair of a place
pair_in : (ps : List Pair) (i : ℕ) (p : Pair) → slice_get ps i ≡ Some p → IsIn p.0 ps × IsIn p.1 ps
pair_in [] i p e = absurd (let q : None ≡ Some p = e in cc)
pair_in (q ∷ ps) zero p e =
    let g : q ≡ p = cc in
    (inl (subst (λ (r : Pair). IsPart r.0 q.0) g (itself q.0)), inr (inl (subst (λ (r : Pair). IsPart r.1 q.1) g (itself q.1))))
pair_in (q ∷ ps) (suc i) p e = let r = pair_in ps i p e in (inr (inr r.0), inr (inr r.1))

module _ (s : Store) (ps : List Pair) (ids : Pairs) (k : IsFree s ps ids) (c : Shape → Tree) (inf : IsInfinite ps c) where
  abbrev name : Tree → Tree
  name = named k.shown ps c

  abbrev all_names : Trees → Trees
  all_names = all_named k.shown ps c

  picked_in : (q : Shape) → IsIn q ps → (w other : Tree) → w ≡ tree_of k.shown q → (h : HasType k.shown ps w) → picked k.shown ps c w h other ≡ of_pairs (c q)
  picked_in q i w other e (inl r) =
      let same : r.0 ≡ q = one_shape s ps ids k r.0 q (in_known s ps ids k.hold r.0 r.1) (in_known s ps ids k.hold q i) (sym r.2 ∙ e) in
      ap (λ (z : Shape). of_pairs (c z)) same
  picked_in q i w other e (inr d) = absurd (d q i e)

  -- a type of the pairs
  name_in : (q : Shape) (w : Tree) → IsIn q ps → w ≡ tree_of k.shown q → name w ≡ of_pairs (c q)
  name_in q (Leaf n) i e = picked_in q i (Leaf n) (of_leaf n) e (type_cases k.shown ps (Leaf n))
  name_in q (Node h ts) i e = picked_in q i (Node h ts) (of_node (Node h (all_names ts))) e (type_cases k.shown ps (Node h ts))

  names_in : (qs : Shapes) → ((q : Shape) → IsPartOfAny q qs → IsIn q ps) → all_names (trees_of k.shown qs) ≡ tagged c qs
  names_in no_shapes i = refl
  names_in (shape_and q qs) i = cons_same _ _ _ _ (name_in q (tree_of k.shown q) (i q (inl (itself q))) refl) (names_in qs (λ r j. i r (inr j)))

  -- the shape of a tree with a head has the head
  shape_with : (q : Shape) (h : Head) (ts : Trees) → IsIn q ps → Node h ts ≡ tree_of k.shown q → (qs : Shapes) × (q ≡ Make h qs) × (trees_of k.shown qs ≡ ts)
  shape_with (Is u) h ts i e =
      let x = in_known s ps ids k.hold (Is u) i u refl in
      absurd (unknown_leaf s ps ids k u x.0 x.1 h ts (sym e))
  shape_with (Make g qs) h ts i e =
      let heads : g ≡ h = cc in
      let rest : trees_of k.shown qs ≡ ts = cc in
      (qs, ap (λ (z : Head). Make z qs) heads, rest)

  below : (h : Head) (qs : Shapes) → IsIn (Make h qs) ps → (q : Shape) → IsPartOfAny q qs → IsIn q ps
  below h qs i q j = part_in q (Make h qs) ps (inr j) i

  both : (h g : Head) (qs rs : Shapes) → IsIn (Make h qs) ps → IsIn (Make g rs) ps → c (Make h qs) ≡ c (Make g rs) → (h ≡ g) × (all_names (trees_of k.shown qs) ≡ all_names (trees_of k.shown rs))
  both h g qs rs i j e = (
    inf.heads h g qs rs i j e,
    names_in qs (below h qs i) ∙ tagged_same c qs rs (inf.parts h g qs rs i j e) ∙ sym (names_in rs (below g rs j)),
  )

  picked_same : (h g : Head) (ts rs : Trees) → (x : HasType k.shown ps (Node h ts)) (y : HasType k.shown ps (Node g rs)) → picked k.shown ps c (Node h ts) x (of_node (Node h (all_names ts))) ≡ picked k.shown ps c (Node g rs) y (of_node (Node g (all_names rs))) → (h ≡ g) × (all_names ts ≡ all_names rs)
  picked_same h g ts rs (inl q) (inl r) e =
      let one = shape_with q.0 h ts q.1 q.2 in
      let two = shape_with r.0 g rs r.1 r.2 in
      let same : c q.0 ≡ c r.0 = cc in
      let found = both h g one.0 two.0 (subst (λ (z : Shape). IsIn z ps) one.1 q.1) (subst (λ (z : Shape). IsIn z ps) two.1 r.1) (ap c (sym one.1) ∙ same ∙ ap c two.1) in
      (found.0, ap all_names (sym one.2) ∙ found.1 ∙ ap all_names two.2)
  picked_same h g ts rs (inl q) (inr d) e = absurd cc
  picked_same h g ts rs (inr d) (inl r) e = absurd cc
  picked_same h g ts rs (inr d) (inr n) e = (cc, cc)

  name_same : (h g : Head) (ts rs : Trees) → name (Node h ts) ≡ name (Node g rs) → (h ≡ g) × (all_names ts ≡ all_names rs)
  name_same h g ts rs e = picked_same h g ts rs (type_cases k.shown ps (Node h ts)) (type_cases k.shown ps (Node g rs)) e

  abbrev names : TyId → Tree
  names x = name (k.types x)

  all_trees : (xs : List TyId) → trees names xs ≡ all_names (trees k.types xs)
  all_trees [] = refl
  all_trees (x ∷ xs) = ap (Cons (names x)) (all_trees xs)

  at_nodes : (x y : TyId) (n m : TyNode) (h g : Head) → node_at s.nodes x ≡ Some n → node_at s.nodes y ≡ Some m → head_of n ≡ Some h → head_of m ≡ Some g → names x ≡ names y → (h ≡ g) × (trees names (parts_of n) ≡ trees names (parts_of m))
  at_nodes x y n m h g p q i j e =
      let one = k.reading.solves.nodes_are x n h p i in
      let two = k.reading.solves.nodes_are y m g q j in
      let same = name_same h g (trees k.types (parts_of n)) (trees k.types (parts_of m)) (ap name (sym one) ∙ e ∙ ap name two) in
      (same.0, all_trees (parts_of n) ∙ same.1 ∙ sym (all_trees (parts_of m)))

  solution : IsSolution s.nodes s.bound names
  solution = record {
    heads = λ x y n m h g p q i j e. (at_nodes x y n m h g p q i j e).0;
    parts = λ x y n m h g p q i j e. (at_nodes x y n m h g p q i j e).1;
    one_variable = λ x y n p q. ap name (k.reading.solves.one_variable x y n p q);
    bound_is = λ x y p. ap name (k.reading.solves.bound_is x y p);
  }

  equates : (qs : List Pair) (xs : Pairs) → HoldPairs s qs xs → ((i : ℕ) (p : Pair) → slice_get qs i ≡ Some p → IsIn p.0 ps × IsIn p.1 ps × (c p.0 ≡ c p.1)) → Equates names xs
  equates [] [] hold h = tt
  equates [] (x ∷ xs) hold h = absurd hold
  equates (p ∷ qs) [] hold h = absurd hold
  equates (p ∷ qs) (x ∷ xs) hold h =
      let q = h 0 p refl in
      (name_in p.0 (k.types x.0) q.0 (hold.0.of k.types k.shown k.reading) ∙ ap of_pairs q.2 ∙ sym (name_in p.1 (k.types x.1) q.1 (hold.1.of k.types k.shown k.reading)), equates qs xs hold.2 (λ i r e. h (suc i) r e))

  pub some_infinite : unify.HasInfinite s.nodes s.bound ids
  some_infinite = (names, solution, equates ps ids k.hold at_place)
    where
      at_place : (i : ℕ) (p : Pair) → slice_get ps i ≡ Some p → IsIn p.0 ps × IsIn p.1 ps × (c p.0 ≡ c p.1)
      at_place i p e = let q = pair_in ps i p e in (q.0, q.1, inf.equal i p e)

pub no_infinite : (s : Store) (ps : List Pair) (ids : Pairs) → IsFree s ps ids → unify.NoInfinite s.nodes s.bound ids → NoInfinite ps
no_infinite s ps ids k none c inf = let h = some_infinite s ps ids k c inf in none h.0 h.1 h.2

-- Infinite types of the ids of pairs are infinite types of their shapes, where the unknowns are free.
use Rattle.std.proofs.Common.{◌≡◌, ℕ, zero, suc, ◌<◌, ◌⊎◌, List, [], ◌∷◌, length, Some, None, refl, sym, ap, ◌∙◌, inl, inr, subst, arith}
use Rattle.std.specs.List.{slice_get}
use Rattle.std.proofs.lemmas.Bool.{cases_eq}
use Rattle.ml_types.specs.declared.node.TyId.{TyId}
use Rattle.ml_types.specs.declared.node.TyNode.{TyNode}
use Rattle.ml_types.specs.declared.node.TyNode.TheVariants.{Var}
use Rattle.ml_types.specs.Types.{Head, head_of, parts_of, Tree, Leaf, Node, Trees, Nil, Cons, trees}
use Rattle.ml_typing.specs.Terms.{Shape, Is, Make, Shapes, no_shapes, shape_and}
use Rattle.ml_typing.specs.Typing.{Pair, tree_of, trees_of}
use Rattle.ml_typing.specs.Refusals.{IsPart, IsPartOfAny, IsIn, names_of_all, IsInfinite, HasInfinite}
use Rattle.hm_unify.specs.Solutions as unify
use Rattle.hm_unify.specs.Solutions.{Bound, Pairs, node_at, Ends, IsSolution, Equates, Stands, variable, built, StandAll, none, more}
use Rattle.hm_unify.proofs.Starts.{Ends-same, id-from}
use Rattle.hm_terms.specs.Stores.{Store}
use Rattle.hm_infer.specs.Running.{HoldPairs}
use Rattle.hm_infer.proofs.Trees.{tree_cases}
use Rattle.hm_infer.proofs.Congruent.{IsCongruent, congruent}
use Rattle.hm_infer.proofs.Names.{IsFree, cons_same}

-- what stands for a leaf, and what for a tree with a head
abbrev IsLeafAt : List TyNode → Bound → TyId → ℕ → Type 0
IsLeafAt nodes bound x n = (e : TyId) × Ends nodes bound x e × (node_at nodes e ≡ Some (Var n))

record IsNodeAt (nodes : List TyNode) (bound : Bound) (x : TyId) (h : Head) (ts : Trees) : Type 0 where
  end : TyId
  node : TyNode
  ends : Ends nodes bound x end
  at : node_at nodes end ≡ Some node
  head : head_of node ≡ Some h
  all : StandAll nodes bound (parts_of node) ts

leaf_at : (nodes : List TyNode) (bound : Bound) (x : TyId) (w : Tree) (n : ℕ) → Stands nodes bound x w → w ≡ Leaf n → IsLeafAt nodes bound x n
leaf_at nodes bound x w n (variable y e m ends at) i =
    let same : m ≡ n = cc in
    (e, ends, at ∙ ap (λ (k : ℕ). Some (Var k)) same)
leaf_at nodes bound x w n (built y e k h ts ends at head all) i = absurd cc

node_is_at : (nodes : List TyNode) (bound : Bound) (x : TyId) (w : Tree) (h : Head) (ts : Trees) → Stands nodes bound x w → w ≡ Node h ts → IsNodeAt nodes bound x h ts
node_is_at nodes bound x w h ts (variable y e m ends at) i = absurd cc
node_is_at nodes bound x w h ts (built y e k g rs ends at head all) i =
    let heads : g ≡ h = cc in
    let rest : rs ≡ ts = cc in
    record { end = e; node = k; ends = ends; at = at; head = head ∙ ap Some heads; all = subst (StandAll nodes bound (parts_of k)) rest all }

none_at : (nodes : List TyNode) (bound : Bound) (xs : List TyId) (ts : Trees) → StandAll nodes bound xs ts → ts ≡ Nil → xs ≡ []
none_at nodes bound xs ts none i = refl
none_at nodes bound xs ts (more x ys t us one all) i = absurd cc

more_at : (nodes : List TyNode) (bound : Bound) (xs : List TyId) (ts : Trees) (w : Tree) (ws : Trees) → StandAll nodes bound xs ts → ts ≡ Cons w ws → (y : TyId) × (ys : List TyId) × (xs ≡ y ∷ ys) × Stands nodes bound y w × StandAll nodes bound ys ws
more_at nodes bound xs ts w ws none i = absurd cc
more_at nodes bound xs ts w ws (more x ys t us one all) i =
    let first : t ≡ w = cc in
    let rest : us ≡ ws = cc in
    (x, ys, refl, subst (Stands nodes bound x) first one, subst (StandAll nodes bound ys) rest all)

-- ids that stand for one tree have one name
module _ (nodes : List TyNode) (bound : Bound) (d : TyId → Tree) (solution : IsSolution nodes bound d) (k : IsCongruent nodes d) where
  at_end : (x e : TyId) → Ends nodes bound x e → d x ≡ d e
  at_end x e ends = Ends-same nodes bound d solution.bound_is x e ends

  mutual
    one_name : (x y : TyId) (w : Tree) → Stands nodes bound x w → Stands nodes bound y w → d x ≡ d y
    one_name x y w (variable z e n ends at) other =
        let o = leaf_at nodes bound y (Leaf n) n other refl in
        at_end z e ends ∙ solution.one_variable e o.0 n at o.2 ∙ sym (at_end y o.0 o.1)
    one_name x y w (built z e n h ts ends at head all) other =
        let o = node_is_at nodes bound y (Node h ts) h ts other refl in
        at_end z e ends ∙ k.same e o.end n o.node h at o.at head o.head (all_one (parts_of n) (parts_of o.node) ts all o.all) ∙ sym (at_end y o.end o.ends)

    all_one : (xs ys : List TyId) (ts : Trees) → StandAll nodes bound xs ts → StandAll nodes bound ys ts → trees d xs ≡ trees d ys
    all_one xs ys ts none other = ap (trees d) (sym (none_at nodes bound ys Nil other refl))
    all_one xs ys ts (more x zs t us one all) other =
        let o = more_at nodes bound ys (Cons t us) t us other refl in
        cons_same _ _ _ _ (one_name x o.0 t one o.3) (all_one zs o.1 us all o.4) ∙ sym (ap (trees d) o.2)

-- ---- the name of the first id with a tree

abbrev id_at : ℕ → TyId
id_at n = record { 0 = n }

abbrev chosen : (v w : Tree) → (v ≡ w) ⊎ (v ≡ w → ⊥) → Tree → Tree → Tree
chosen v w (inl e) x y = x
chosen v w (inr e) x y = y

abbrev first_named : (TyId → Tree) → (TyId → Tree) → ℕ → Tree → Tree
first_named t d zero w = Leaf 0
first_named t d (suc n) w = chosen (t (id_at n)) w (tree_cases (t (id_at n)) w) (d (id_at n)) (first_named t d n w)

first_step : (t d : TyId → Tree) (n : ℕ) (x : TyId) → x.0 < suc n → (t (id_at n) ≡ t x → d (id_at n) ≡ d x) → (x.0 < n → first_named t d n (t x) ≡ d x) → (c : (t (id_at n) ≡ t x) ⊎ (t (id_at n) ≡ t x → ⊥)) → (x.0 ≡ n) ⊎ (x.0 ≡ n → ⊥) → chosen (t (id_at n)) (t x) c (d (id_at n)) (first_named t d n (t x)) ≡ d x
first_step t d n x h same ih (inl e) o = same e
first_step t d n x h same ih (inr e) (inl o) = absurd (e (ap t (id-from (id_at n) x (sym o))))
first_step t d n x h same ih (inr e) (inr o) = ih (omega (arith, h, o))

first_is : (t d : TyId → Tree) (n : ℕ) (x : TyId) → x.0 < n → ((y : TyId) → y.0 < n → t y ≡ t x → d y ≡ d x) → first_named t d n (t x) ≡ d x
first_is t d zero x h same = absurd (omega arith)
first_is t d (suc n) x h same =
    first_step t d n x h (same (id_at n) (omega arith)) (λ l. first_is t d n x l (λ y m e. same y (omega (arith, m)) e)) (tree_cases (t (id_at n)) (t x)) (cases_eq x.0 n)

-- ---- names of shapes

module _ (s : Store) (ps : List Pair) (ids : Pairs) (k : IsFree s ps ids) (d : TyId → Tree) (solution : IsSolution s.nodes s.bound d) (names : IsCongruent s.nodes d) where
  abbrev AreWithin : List TyId → Type 0
  AreWithin xs = (i : ℕ) (p : TyId) → slice_get xs i ≡ Some p → p.0 < length s.nodes

  abbrev name : Shape → Tree
  name q = first_named k.types d (length s.nodes) (tree_of k.shown q)

  -- the id of a shape
  abbrev HasId : Shape → Type 0
  HasId q = (x : TyId) × (x.0 < length s.nodes) × (k.types x ≡ tree_of k.shown q)

  name_is : (q : Shape) (x : TyId) → x.0 < length s.nodes → k.types x ≡ tree_of k.shown q → name q ≡ d x
  name_is q x h e =
      ap (first_named k.types d (length s.nodes)) (sym e)
      ∙ first_is k.types d (length s.nodes) x h (λ y m g. one_name s.nodes s.bound d solution names y x (k.types x) (subst (Stands s.nodes s.bound y) g (k.stands y m)) (k.stands x h))

  -- the node of a shape with a head
  record NodeOf (x : TyId) (h : Head) (rs : Shapes) : Type 0 where
    end : TyId
    node : TyNode
    at : node_at s.nodes end ≡ Some node
    head : head_of node ≡ Some h
    named : d x ≡ d end
    trees_are : trees k.types (parts_of node) ≡ trees_of k.shown rs
    within : AreWithin (parts_of node)

  node_of : (x : TyId) (h : Head) (rs : Shapes) → x.0 < length s.nodes → k.types x ≡ tree_of k.shown (Make h rs) → NodeOf x h rs
  node_of x h rs l e =
      let n = node_is_at s.nodes s.bound x (k.types x) h (trees_of k.shown rs) (k.stands x l) e in
      let same : k.types x ≡ k.types n.end = Ends-same s.nodes s.bound k.types k.reading.solves.bound_is x n.end n.ends in
      let whole : Node h (trees k.types (parts_of n.node)) ≡ Node h (trees_of k.shown rs) = sym (k.reading.solves.nodes_are n.end n.node h n.at n.head) ∙ sym same ∙ e in
      record {
        end = n.end;
        node = n.node;
        at = n.at;
        head = n.head;
        named = at_end s.nodes s.bound d solution names x n.end n.ends;
        trees_are = cc;
        within = λ i p q. k.ready.closed.parts_in n.end n.node i p n.at q;
      }

  mutual
    part_id : (q r : Shape) → IsPart q r → (x : TyId) → x.0 < length s.nodes → k.types x ≡ tree_of k.shown r → HasId q
    part_id q (Is v) i x l e = (x, l, e ∙ ap (tree_of k.shown) (sym i))
    part_id q (Make h rs) (inl i) x l e = (x, l, e ∙ ap (tree_of k.shown) (sym i))
    part_id q (Make h rs) (inr i) x l e =
        let n = node_of x h rs l e in any_id q rs i (parts_of n.node) n.within n.trees_are

    any_id : (q : Shape) (rs : Shapes) → IsPartOfAny q rs → (xs : List TyId) → AreWithin xs → trees k.types xs ≡ trees_of k.shown rs → HasId q
    any_id q no_shapes i xs w e = absurd i
    any_id q (shape_and r rs) i [] w e = absurd cc
    any_id q (shape_and r rs) (inl i) (x ∷ xs) w e = let one : k.types x ≡ tree_of k.shown r = cc in part_id q r i x (w 0 x refl) one
    any_id q (shape_and r rs) (inr i) (x ∷ xs) w e =
        let rest : trees k.types xs ≡ trees_of k.shown rs = cc in any_id q rs i xs (λ j p g. w (suc j) p g) rest

  in_id : (qs : List Pair) (xs : Pairs) → HoldPairs s qs xs → (q : Shape) → IsIn q qs → HasId q
  in_id [] xs hold q i = absurd i
  in_id (p ∷ qs) [] hold q i = absurd hold
  in_id (p ∷ qs) (x ∷ xs) hold q (inl i) = part_id q p.0 i x.0 hold.0.within (hold.0.of k.types k.shown k.reading)
  in_id (p ∷ qs) (x ∷ xs) hold q (inr (inl i)) = part_id q p.1 i x.1 hold.1.within (hold.1.of k.types k.shown k.reading)
  in_id (p ∷ qs) (x ∷ xs) hold q (inr (inr i)) = in_id qs xs hold.2 q i

  names_are : (rs : Shapes) (xs : List TyId) → AreWithin xs → trees k.types xs ≡ trees_of k.shown rs → names_of_all name rs ≡ trees d xs
  names_are no_shapes [] w e = refl
  names_are no_shapes (x ∷ xs) w e = absurd cc
  names_are (shape_and r rs) [] w e = absurd cc
  names_are (shape_and r rs) (x ∷ xs) w e =
      let one : k.types x ≡ tree_of k.shown r = cc in
      let rest : trees k.types xs ≡ trees_of k.shown rs = cc in
      cons_same _ _ _ _ (name_is r x (w 0 x refl) one) (names_are rs xs (λ j p g. w (suc j) p g) rest)

  equal_at : (qs : List Pair) (xs : Pairs) → HoldPairs s qs xs → Equates d xs → (i : ℕ) (p : Pair) → slice_get qs i ≡ Some p → name p.0 ≡ name p.1
  equal_at [] xs hold same i p e = absurd (let q : None ≡ Some p = e in cc)
  equal_at (q ∷ qs) [] hold same i p e = absurd hold
  equal_at (q ∷ qs) (x ∷ xs) hold same zero p e =
      let g : q ≡ p = cc in
      let both : name q.0 ≡ name q.1 = name_is q.0 x.0 hold.0.within (hold.0.of k.types k.shown k.reading) ∙ same.0 ∙ sym (name_is q.1 x.1 hold.1.within (hold.1.of k.types k.shown k.reading)) in
      subst (λ (r : Pair). name r.0 ≡ name r.1) g both
  equal_at (q ∷ qs) (x ∷ xs) hold same (suc i) p e = equal_at qs xs hold.2 same.1 i p e

  both : (h g : Head) (qs rs : Shapes) → IsIn (Make h qs) ps → IsIn (Make g rs) ps → name (Make h qs) ≡ name (Make g rs) → (h ≡ g) × (names_of_all name qs ≡ names_of_all name rs)
  both h g qs rs i j e =
      let x = in_id ps ids k.hold (Make h qs) i in
      let y = in_id ps ids k.hold (Make g rs) j in
      let n = node_of x.0 h qs x.1 x.2 in
      let m = node_of y.0 g rs y.1 y.2 in
      let same : d n.end ≡ d m.end = sym n.named ∙ sym (name_is (Make h qs) x.0 x.1 x.2) ∙ e ∙ name_is (Make g rs) y.0 y.1 y.2 ∙ m.named in (
        solution.heads n.end m.end n.node m.node h g n.at m.at n.head m.head same,
        names_are qs (parts_of n.node) n.within n.trees_are ∙ solution.parts n.end m.end n.node m.node h g n.at m.at n.head m.head same ∙ sym (names_are rs (parts_of m.node) m.within m.trees_are),
      )

  infinite : Equates d ids → IsInfinite ps name
  infinite same = record {
    equal = λ i p e. equal_at ps ids k.hold same i p e;
    heads = λ h g qs rs i j e. (both h g qs rs i j e).0;
    parts = λ h g qs rs i j e. (both h g qs rs i j e).1;
  }

equates_too : (c d : TyId → Tree) → ((x y : TyId) → c x ≡ c y → d x ≡ d y) → (xs : Pairs) → Equates c xs → Equates d xs
equates_too c d h [] e = tt
equates_too c d h (x ∷ xs) e = (h x.0 x.1 e.0, equates_too c d h xs e.1)

pub has_infinite : (s : Store) (ps : List Pair) (ids : Pairs) → IsFree s ps ids → unify.HasInfinite s.nodes s.bound ids → HasInfinite ps
has_infinite s ps ids k (c, solution, same) =
    let d = congruent s.nodes s.bound c solution in
    (name s ps ids k d.0 d.1 d.2, infinite s ps ids k d.0 d.1 d.2 (equates_too c d.0 d.3 ids same))

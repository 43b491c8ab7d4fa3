-- Closed classes whose parts have shapes have a finite solution, and it is the least.
use Rattle.std.proofs.Common.{◌≡◌, ℕ, zero, suc, ◌<◌, ◌≤◌, ◌⊎◌, List, [], ◌∷◌, Option, Some, None, refl, sym, ap, ◌∙◌, subst, inl, inr, arith, get_or}
use Rattle.std.specs.List.{slice_get}
use Rattle.std.specs.Option.{option_and_then}
use Rattle.ml_types.specs.declared.node.TyId.{TyId}
use Rattle.ml_types.specs.declared.node.TyNode.{TyNode}
use Rattle.ml_types.specs.declared.node.TyNode.TheVariants.{Var}
use Rattle.ml_types.specs.Types.{Head, head_of, parts_of, Tree, Leaf, Node, Trees, Nil, Cons, trees, tree_size, trees_size}
use Rattle.hm_unify.specs.declared.classes.End.{End}
use Rattle.hm_unify.specs.declared.classes.End.TheVariants.{Free, Built}
use Rattle.hm_unify.specs.declared.classes.Classes.{Classes}
use Rattle.hm_unify.specs.Solutions.{Bound, Pairs, node_at, number_at, variable_of, link, Solves, HasFinite, HasInfinite, IsSolution, Equates, IsIdOf}
use Rattle.hm_unify.specs.States.{IsTabled}
use Rattle.hm_unify.specs.Classes.{up, code}
use Rattle.hm_unify.specs.Closing.{Naming, kind, kind_by, end_at, class_of, Respects, HasRoot, IsClosure}
use Rattle.hm_unify.specs.Shapes.{Shape, Shapes, free_shape, past_shape, built_shape, no_shape, more_shapes}
use Rattle.hm_unify.proofs.Ends.{Ends-end_at, Ends-end, end_at-link, end_at-self, var-number, headed}
use Rattle.hm_unify.proofs.Joins.{code-injective}
use Rattle.hm_unify.proofs.Starts.{Ends-same}
use Rattle.hm_unify.proofs.Shapes.{Respected, root_id}

-- a closed naming relates the ids of one variable, and each bound variable to its id
pub class-link : (nodes : List TyNode) (bound : Bound) → IsTabled nodes bound → (f : End → End) (x y : TyId) → link nodes bound x ≡ Some y → class_of nodes bound f x ≡ class_of nodes bound f y
class-link nodes bound tabled f x y h = ap (λ e. f (kind nodes e)) (end_at-link nodes bound tabled x y h)

link_cases : (o : Option TyId) → ((y : TyId) × (o ≡ Some y)) ⊎ (o ≡ None)
link_cases None = inr refl
link_cases (Some y) = inl (y, refl)

pub class-variable : (nodes : List TyNode) (bound : Bound) → IsTabled nodes bound → (f : End → End) (x y : TyId) (n : ℕ) → node_at nodes x ≡ Some (Var n) → node_at nodes y ≡ Some (Var n) → class_of nodes bound f x ≡ class_of nodes bound f y
class-variable nodes bound tabled f x y n p q = by (link_cases (link nodes bound x))
  where
    nx : number_at nodes x ≡ Some n
    nx = var-number nodes x n p

    ny : number_at nodes y ≡ Some n
    ny = var-number nodes y n q

    links : link nodes bound y ≡ link nodes bound x
    links = ap (option_and_then (λ k. get_or bound k None)) (ny ∙ sym nx)

    by : ((z : TyId) × (link nodes bound x ≡ Some z)) ⊎ (link nodes bound x ≡ None) → class_of nodes bound f x ≡ class_of nodes bound f y
    by (inl h) = class-link nodes bound tabled f x h.0 h.1 ∙ sym (class-link nodes bound tabled f y h.0 (links ∙ h.1))
    by (inr h) =
        ap (λ e. f (kind nodes e)) (end_at-self nodes bound tabled x h) ∙ ap (λ o. f (kind_by x o)) nx ∙ sym (ap (λ o. f (kind_by y o)) ny) ∙ sym (ap (λ e. f (kind nodes e)) (end_at-self nodes bound tabled y (links ∙ h)))

-- closed classes are a solution among infinite types
pub HasInfinite-closure : (nodes : List TyNode) (bound : Bound) → IsTabled nodes bound → (pairs : Pairs) (classes : Classes) (seen : Pairs) → IsClosure nodes bound pairs classes [] seen → HasInfinite nodes bound pairs
HasInfinite-closure nodes bound tabled pairs classes seen k = (c, solution, k.closing.covers c respects tt)
  where
    name : Naming
    name = class_of nodes bound k.root_of

    c : TyId → Tree
    c x = Leaf (code (name x))

    respects : Respects name c
    respects x y e = ap (λ v. Leaf (code v)) e

    names : (x y : TyId) → c x ≡ c y → name x ≡ name y
    names x y e = let w : code (name x) ≡ code (name y) = cc in code-injective (name x) (name y) w

    agree : (x y : TyId) (n m : TyNode) (h j : Head) → HasRoot nodes name [] x n h → HasRoot nodes name [] y m j → c x ≡ c y → (h ≡ j) × (trees c (parts_of n) ≡ trees c (parts_of m))
    agree x y n m h j a b e =
        let w : Built a.root ≡ Built b.root = sym a.is_root ∙ names x y e ∙ b.is_root in
        let same : a.root ≡ b.root = cc in
        let v : Some a.node ≡ Some b.node = sym a.at_root ∙ ap (slice_get nodes) same ∙ b.at_root in
        let node : a.node ≡ b.node = cc in
        let u : Some h ≡ Some j = sym a.head ∙ ap head_of node ∙ b.head in
        (cc, a.parts c respects tt ∙ ap (λ z. trees c (parts_of z)) node ∙ sym (b.parts c respects tt))

    solution : IsSolution nodes bound c
    solution =
        record {
          heads = λ x y n m h j p q a b e. (agree x y n m h j (k.closing.roots x n h p a) (k.closing.roots y m j q b) e).0;
          parts = λ x y n m h j p q a b e. (agree x y n m h j (k.closing.roots x n h p a) (k.closing.roots y m j q b) e).1;
          one_variable = λ x y n p q. respects x y (class-variable nodes bound tabled k.root_of x y n p q);
          bound_is = λ x y h. respects x y (class-link nodes bound tabled k.root_of x y h);
        }

mutual
  -- every solution of the classes is at least as large as their shapes
  pub Shape-least : (nodes : List TyNode) (name : Naming) (t : TyId → Tree) → Respected nodes name t → (e : End) (s : Tree) → Shape nodes name e s → (x : TyId) → name x ≡ e → tree_size s ≤ tree_size (t x)
  Shape-least nodes name t k e s (free_shape n) x h = one (t x)
    where
      one : (u : Tree) → 1 ≤ tree_size u
      one (Leaf m) = omega arith
      one (Node j ts) = omega arith
  Shape-least nodes name t k e s (past_shape r p) x h = one (t x)
    where
      one : (u : Tree) → 1 ≤ tree_size u
      one (Leaf m) = omega arith
      one (Node j ts) = omega arith
  Shape-least nodes name t k e s (built_shape r n j ts p q i w) x h =
      let same : t x ≡ t (root_id r) = k.respects x (root_id r) (h ∙ sym i) in
      let whole : t (root_id r) ≡ Node j (trees t (parts_of n)) = k.nodes_are (root_id r) n j p q in
      omega (arith, Shapes-least nodes name t k (parts_of n) ts w, ap tree_size same, ap tree_size whole)

  pub Shapes-least : (nodes : List TyNode) (name : Naming) (t : TyId → Tree) → Respected nodes name t → (xs : List TyId) (ts : Trees) → Shapes nodes name xs ts → trees_size ts ≤ trees_size (trees t xs)
  Shapes-least nodes name t k xs ts no_shape = omega arith
  Shapes-least nodes name t k xs ts (more_shapes x ys u us p q) =
      omega (arith, Shape-least nodes name t k (name x) u p x refl, Shapes-least nodes name t k ys us q)

free_inverse : (nodes : List TyNode) (name : Naming) (e : End) (s : Tree) (n : ℕ) → Shape nodes name e s → e ≡ Free n → s ≡ Leaf n
free_inverse nodes name e s n (free_shape m) h = let w : m ≡ n = cc in ap Leaf w
free_inverse nodes name e s n (past_shape r p) h = absurd cc
free_inverse nodes name e s n (built_shape r k j ts p q i w) h = absurd cc

past_inverse : (nodes : List TyNode) (name : Naming) (e : End) (s : Tree) (r : ℕ) → Shape nodes name e s → e ≡ Built r → slice_get nodes r ≡ None → s ≡ Leaf 0
past_inverse nodes name e s r (free_shape m) h o = absurd cc
past_inverse nodes name e s r (past_shape v p) h o = refl
past_inverse nodes name e s r (built_shape v k j ts p q i w) h o =
    let same : v ≡ r = cc in
    absurd (let g : Some k ≡ None = sym p ∙ ap (slice_get nodes) same ∙ o in cc)

built_inverse : (nodes : List TyNode) (name : Naming) (e : End) (s : Tree) (r : ℕ) (n : TyNode) (h : Head) → Shape nodes name e s → e ≡ Built r → slice_get nodes r ≡ Some n → head_of n ≡ Some h → (ts : Trees) × Shapes nodes name (parts_of n) ts × (s ≡ Node h ts)
built_inverse nodes name e s r n h (free_shape m) i a b = absurd cc
built_inverse nodes name e s r n h (past_shape v p) i a b =
    let same : v ≡ r = cc in
    absurd (let g : None ≡ Some n = sym p ∙ ap (slice_get nodes) same ∙ a in cc)
built_inverse nodes name e s r n h (built_shape v k j ts p q z w) i a b =
    let same : v ≡ r = cc in
    let g : Some k ≡ Some n = sym p ∙ ap (slice_get nodes) same ∙ a in
    let kn : k ≡ n = cc in
    let hj : Some j ≡ Some h = sym q ∙ ap head_of kn ∙ b in
    let jh : j ≡ h = cc in
    (ts, subst (λ v. Shapes nodes name (parts_of v) ts) kn w, ap (λ v. Node v ts) jh)

nil_inverse : (nodes : List TyNode) (name : Naming) (xs : List TyId) (ts : Trees) → Shapes nodes name xs ts → xs ≡ [] → ts ≡ Nil
nil_inverse nodes name xs ts no_shape h = refl
nil_inverse nodes name xs ts (more_shapes x ys u us p q) h = absurd cc

cons_inverse : (nodes : List TyNode) (name : Naming) (xs : List TyId) (ts : Trees) (y : TyId) (ys : List TyId) → Shapes nodes name xs ts → xs ≡ y ∷ ys → (u : Tree) × (us : Trees) × Shape nodes name (name y) u × Shapes nodes name ys us × (ts ≡ Cons u us)
cons_inverse nodes name xs ts y ys no_shape h = absurd cc
cons_inverse nodes name xs ts y ys (more_shapes x zs u us p q) h =
    let a : x ≡ y = cc in
    let b : zs ≡ ys = cc in
    (u, us, subst (λ v. Shape nodes name (name v) u) a p, subst (λ v. Shapes nodes name v us) b q, refl)

mutual
  pub Shape-unique : (nodes : List TyNode) (name : Naming) (e : End) (s u : Tree) → Shape nodes name e s → Shape nodes name e u → s ≡ u
  Shape-unique nodes name e s u (free_shape n) k = sym (free_inverse nodes name (Free n) u n k refl)
  Shape-unique nodes name e s u (past_shape r p) k = sym (past_inverse nodes name (Built r) u r k refl p)
  Shape-unique nodes name e s u (built_shape r n h ts p q i w) k =
      let o = built_inverse nodes name (Built r) u r n h k refl p q in
      ap (Node h) (Shapes-unique nodes name (parts_of n) ts o.0 w o.1) ∙ sym o.2

  pub Shapes-unique : (nodes : List TyNode) (name : Naming) (xs : List TyId) (ts us : Trees) → Shapes nodes name xs ts → Shapes nodes name xs us → ts ≡ us
  Shapes-unique nodes name xs ts us no_shape k = sym (nil_inverse nodes name [] us k refl)
  Shapes-unique nodes name xs ts us (more_shapes x ys t rest p q) k =
      let o = cons_inverse nodes name (x ∷ ys) us x ys k refl in
      ap (λ v. Cons v rest) (Shape-unique nodes name (name x) t o.0 p o.2) ∙ ap (Cons o.0) (Shapes-unique nodes name ys rest o.1 q o.3) ∙ sym o.4

abbrev Shaped : List TyNode → Naming → TyId → Type 0
Shaped nodes name x = (t : Tree) × Shape nodes name (name x) t

shapes_all : (nodes : List TyNode) (name : Naming) (t : TyId → Tree) (n : ℕ) → ((p : TyId) → tree_size (t p) < n → Shaped nodes name p) → (xs : List TyId) → trees_size (trees t xs) < n → (ts : Trees) × Shapes nodes name xs ts
shapes_all nodes name t n ih [] h = (Nil, no_shape)
shapes_all nodes name t n ih (x ∷ xs) h =
    let a : Shaped nodes name x = ih x (omega arith) in
    let b : (ts : Trees) × Shapes nodes name xs ts = shapes_all nodes name t n ih xs (omega arith) in
    (Cons a.0 b.0, more_shapes x xs a.0 b.0 a.1 b.1)

end_cases : (o : Option End) → ((g : End) × (o ≡ Some g)) ⊎ (o ≡ None)
end_cases None = inr refl
end_cases (Some g) = inl (g, refl)

number_cases : (o : Option ℕ) → ((n : ℕ) × (o ≡ Some n)) ⊎ (o ≡ None)
number_cases None = inr refl
number_cases (Some n) = inl (n, refl)

node_cases : (o : Option TyNode) → ((n : TyNode) × (o ≡ Some n)) ⊎ (o ≡ None)
node_cases None = inr refl
node_cases (Some n) = inl (n, refl)

-- every id has a shape, where all that came up have one and the bindings had a solution
shaped_step : (nodes : List TyNode) (bound : Bound) → IsTabled nodes bound → (pairs : Pairs) (classes : Classes) (seen : Pairs) (k : IsClosure nodes bound pairs classes [] seen) → ((z : TyId) → IsIdOf seen z → Shaped nodes (class_of nodes bound k.root_of) z) → (t : TyId → Tree) → Solves nodes bound t → (n : ℕ) → ((p : TyId) → tree_size (t p) < n → Shaped nodes (class_of nodes bound k.root_of) p) → (x : TyId) → tree_size (t x) < suc n → Shaped nodes (class_of nodes bound k.root_of) x
shaped_step nodes bound tabled pairs classes seen k came t s n ih x h = by (end_cases (up classes g))
  where
    name : Naming
    name = class_of nodes bound k.root_of

    e : TyId
    e = end_at nodes bound x

    g : End
    g = kind nodes e

    same : t x ≡ t e
    same = Ends-same nodes bound t s.bound_is x e (Ends-end_at nodes bound tabled x)

    own : name e ≡ k.root_of g
    own = ap (λ v. k.root_of (kind nodes v)) (end_at-self nodes bound tabled e (Ends-end nodes bound x e (Ends-end_at nodes bound tabled x)))

    built_by : number_at nodes e ≡ None → k.root_of g ≡ Built e.0 → ((m : TyNode) × (node_at nodes e ≡ Some m)) ⊎ (node_at nodes e ≡ None) → Shaped nodes name x
    built_by o is (inl w) =
        let v : variable_of w.0 ≡ None = sym (ap (option_and_then variable_of) w.1) ∙ o in
        let hd = headed w.0 v in
        let whole : t e ≡ Node hd.0 (trees t (parts_of w.0)) = s.nodes_are e w.0 hd.0 w.1 hd.1 in
        let ps = shapes_all nodes name t n ih (parts_of w.0) (omega (arith, h, ap tree_size same, ap tree_size whole)) in
        (Node hd.0 ps.0, subst (λ q. Shape nodes name q (Node hd.0 ps.0)) (sym is) (built_shape e.0 w.0 hd.0 ps.0 w.1 hd.1 (own ∙ is) ps.1))
    built_by o is (inr w) = (Leaf 0, subst (λ q. Shape nodes name q (Leaf 0)) (sym is) (past_shape e.0 w))

    root_by : k.root_of g ≡ g → ((m : ℕ) × (number_at nodes e ≡ Some m)) ⊎ (number_at nodes e ≡ None) → Shaped nodes name x
    root_by is (inl w) = (Leaf w.0, subst (λ q. Shape nodes name q (Leaf w.0)) (sym (is ∙ ap (kind_by e) w.1)) (free_shape w.0))
    root_by is (inr w) = built_by w (is ∙ ap (kind_by e) w) (node_cases (node_at nodes e))

    by : ((q : End) × (up classes g ≡ Some q)) ⊎ (up classes g ≡ None) → Shaped nodes name x
    by (inl w) =
        let o = k.are_seen g w.0 w.1 in
        let z = came o.0 o.1 in
        (z.0, subst (λ q. Shape nodes name q z.0) (sym o.2) z.1)
    by (inr w) = root_by (k.forest.root g w) (number_cases (number_at nodes e))

shaped_by : (nodes : List TyNode) (bound : Bound) → IsTabled nodes bound → (pairs : Pairs) (classes : Classes) (seen : Pairs) (k : IsClosure nodes bound pairs classes [] seen) → ((z : TyId) → IsIdOf seen z → Shaped nodes (class_of nodes bound k.root_of) z) → (t : TyId → Tree) → Solves nodes bound t → (n : ℕ) (x : TyId) → tree_size (t x) < n → Shaped nodes (class_of nodes bound k.root_of) x
shaped_by nodes bound tabled pairs classes seen k came t s zero x h = absurd (omega arith)
shaped_by nodes bound tabled pairs classes seen k came t s (suc n) x h =
    shaped_step nodes bound tabled pairs classes seen k came t s n (λ p q. shaped_by nodes bound tabled pairs classes seen k came t s n p q) x h

-- the least solution: each id has the tree of its class
pub record Least (nodes : List TyNode) (bound : Bound) (pairs : Pairs) (name : Naming) : Type 0 where
  pub tree : TyId → Tree
  pub solves : Solves nodes bound tree
  pub equates : Equates tree pairs
  pub shape : (x : TyId) → Shape nodes name (name x) (tree x)

pub Least-closure : (nodes : List TyNode) (bound : Bound) → IsTabled nodes bound → HasFinite nodes bound [] → (pairs : Pairs) (classes : Classes) (seen : Pairs) (k : IsClosure nodes bound pairs classes [] seen) → ((z : TyId) → IsIdOf seen z → (t : Tree) × Shape nodes (class_of nodes bound k.root_of) (class_of nodes bound k.root_of z) t) → Least nodes bound pairs (class_of nodes bound k.root_of)
Least-closure nodes bound tabled old pairs classes seen k came =
    record { tree = tree; solves = solves; equates = k.closing.covers tree respects tt; shape = λ x. (shaped x).1 }
  where
    name : Naming
    name = class_of nodes bound k.root_of

    shaped : (x : TyId) → Shaped nodes name x
    shaped x = shaped_by nodes bound tabled pairs classes seen k came old.0 old.1 (suc (tree_size (old.0 x))) x (omega arith)

    tree : TyId → Tree
    tree x = (shaped x).0

    respects : Respects name tree
    respects x y e = Shape-unique nodes name (name y) (tree x) (tree y) (subst (λ v. Shape nodes name v (tree x)) e (shaped x).1) (shaped y).1

    all_trees : (xs : List TyId) (ts : Trees) → Shapes nodes name xs ts → trees tree xs ≡ ts
    all_trees xs ts no_shape = refl
    all_trees xs ts (more_shapes x ys u us p q) = ap (λ v. Cons v (trees tree ys)) (Shape-unique nodes name (name x) (tree x) u (shaped x).1 p) ∙ ap (Cons u) (all_trees ys us q)

    nodes_by : (x : TyId) (n : TyNode) (h : Head) → HasRoot nodes name [] x n h → tree x ≡ Node h (trees tree (parts_of n))
    nodes_by x n h o =
        let w = built_inverse nodes name (name x) (tree x) o.root o.node h (shaped x).1 o.is_root o.at_root o.head in
        w.2 ∙ ap (Node h) (sym (all_trees (parts_of o.node) w.0 w.1) ∙ sym (o.parts tree respects tt))

    solves : Solves nodes bound tree
    solves =
        record {
          nodes_are = λ x n h p q. nodes_by x n h (k.closing.roots x n h p q);
          one_variable = λ x y n p q. respects x y (class-variable nodes bound tabled k.root_of x y n p q);
          bound_is = λ x y h. respects x y (class-link nodes bound tabled k.root_of x y h);
        }

-- The steps of a walk.
use Rattle.std.proofs.Common.{◌≡◌, ℕ, zero, suc, ◌+◌, ◌-◌, ◌<◌, ◌≤◌, List, [], ◌∷◌, length, Option, Some, None, sym, ap, ◌∙◌, subst, arith, set}
use Rattle.std.specs.List.{slice_get}
use Rattle.ml_types.specs.declared.node.TyId.{TyId}
use Rattle.ml_types.specs.declared.node.TyNode.{TyNode}
use Rattle.ml_types.specs.declared.node.TyNode.TheVariants.{Var, Con, Tuple, Arrow}
use Rattle.ml_types.specs.Types.{Head, head_of, parts_of, Tree, Leaf, Node, trees, tree_size, trees_size}
use Rattle.hm_unify.specs.Solutions.{Bound, node_at, variable_of, Ends, Solves}
use Rattle.hm_unify.specs.States.{IsTabled, rank}
use Rattle.hm_unify.specs.Walks.{Walk, WalkAll, left, right, parts}
use Rattle.hm_unify.proofs.Ends.{headed}
use Rattle.hm_unify.proofs.Starts.{Ends-same}
use Rattle.hm_unify.proofs.Equations.{trees-at}
use Rattle.hm_unify.proofs.Walks.{IsTabled-bind}

pub variable-is : (n : TyNode) (k : ℕ) → variable_of n ≡ Some k → n ≡ Var k
variable-is (Var m) k h = let e : m ≡ k = cc in ap Var e
variable-is (Con d args) k h = absurd cc
variable-is (Tuple ps) k h = absurd cc
variable-is (Arrow slot a b) k h = absurd cc

pub at_variable : (nodes : List TyNode) (x : TyId) (n : TyNode) (k : ℕ) (o : Option ℕ) → node_at nodes x ≡ Some n → o ≡ variable_of n → o ≡ Some k → node_at nodes x ≡ Some (Var k)
at_variable nodes x n k o p q r = p ∙ ap Some (variable-is n k (sym q ∙ r))

-- the number of a variable is that of its node
pub one_number : (nodes : List TyNode) (y : TyId) (n : TyNode) (k : ℕ) → node_at nodes y ≡ Some n → node_at nodes y ≡ Some (Var k) → variable_of n ≡ Some k
one_number nodes y n k p q = let g : Some n ≡ Some (Var k) = sym p ∙ q in let e : n ≡ Var k = cc in ap variable_of e

pub record Stepped (nodes : List TyNode) (m : Bound) (a b : TyId) (m' : Bound) : Type 0 where
  pub walk : Walk nodes m a b m'
  pub tabled : IsTabled nodes m'

pub step-left : (nodes : List TyNode) (m m' : Bound) (a b x y : TyId) (n : ℕ) → IsTabled nodes m → Ends nodes m a x → Ends nodes m b y → node_at nodes x ≡ Some (Var n) → ((k : ℕ) → node_at nodes y ≡ Some (Var k) → rank n < rank k) → y.0 < length nodes → m' ≡ set m n (Some y) → Stepped nodes m a b m'
step-left nodes m m' a b x y n k ex ey at rises y_in e =
    let lt = k.variables_in x n at in
    record {
      walk = subst (Walk nodes m a b) (sym e) (left x y n ex ey at (λ h. (let g = rises n h in absurd (omega (arith, g)))) lt);
      tabled = subst (IsTabled nodes) (sym e) (IsTabled-bind nodes m y n k lt y_in rises);
    }

pub step-right : (nodes : List TyNode) (m m' : Bound) (a b x y : TyId) (n : ℕ) → IsTabled nodes m → Ends nodes m a x → Ends nodes m b y → node_at nodes y ≡ Some (Var n) → ((k : ℕ) → node_at nodes x ≡ Some (Var k) → rank n < rank k) → x.0 < length nodes → m' ≡ set m n (Some x) → Stepped nodes m a b m'
step-right nodes m m' a b x y n k ex ey at rises x_in e =
    let lt = k.variables_in y n at in
    record {
      walk = subst (Walk nodes m a b) (sym e) (right x y n ex ey at (λ h. (let g = rises n h in absurd (omega (arith, g)))) lt);
      tabled = subst (IsTabled nodes) (sym e) (IsTabled-bind nodes m x n k lt x_in rises);
    }

-- a node that is no variable meets no demand on variables
pub no_rise : (nodes : List TyNode) (y : TyId) (n : TyNode) (i : ℕ) → node_at nodes y ≡ Some n → variable_of n ≡ None → (k : ℕ) → node_at nodes y ≡ Some (Var k) → rank i < rank k
no_rise nodes y n i p q k h = absurd (let g : None ≡ Some k = sym q ∙ one_number nodes y n k p h in cc)

pub one_rise : (nodes : List TyNode) (y : TyId) (i j : ℕ) → node_at nodes y ≡ Some (Var j) → rank i < rank j → (k : ℕ) → node_at nodes y ≡ Some (Var k) → rank i < rank k
one_rise nodes y i j p lt k h =
    let g : Some (Var j) ≡ Some (Var k) = sym p ∙ h in
    let v : Var j ≡ Var k = cc in
    let e : j ≡ k = cc in
    subst (λ z. rank i < rank z) e lt

abbrev pub Instance : List TyNode → Bound → TyId → TyId → ℕ → Type 0
Instance nodes m a b most = (t : TyId → Tree) × Solves nodes m t × (t a ≡ t b) × (tree_size (t a) ≤ most)

abbrev pub PartsInstance : List TyNode → Bound → List TyId → List TyId → ℕ → Type 0
PartsInstance nodes m ps qs most = (t : TyId → Tree) × Solves nodes m t × (trees t ps ≡ trees t qs) × (trees_size (trees t ps) < most)

-- two nodes that have a common instance share their head, and so do their parts
both_built : (nodes : List TyNode) (m : Bound) (a b x y : TyId) (n k : TyNode) (most : ℕ) → Ends nodes m a x → Ends nodes m b y → node_at nodes x ≡ Some n → node_at nodes y ≡ Some k → variable_of n ≡ None → variable_of k ≡ None → Instance nodes m a b most → (h : Head) × (head_of n ≡ Some h) × (head_of k ≡ Some h) × PartsInstance nodes m (parts_of n) (parts_of k) most
both_built nodes m a b x y n k most ex ey p q u v (t, s, e, small) =
    let i = headed n u in
    let j = headed k v in
    let ta : t a ≡ Node i.0 (trees t (parts_of n)) = Ends-same nodes m t s.bound_is a x ex ∙ s.nodes_are x n i.0 p i.1 in
    let tb : t b ≡ Node j.0 (trees t (parts_of k)) = Ends-same nodes m t s.bound_is b y ey ∙ s.nodes_are y k j.0 q j.1 in
    let g : Node i.0 (trees t (parts_of n)) ≡ Node j.0 (trees t (parts_of k)) = sym ta ∙ e ∙ tb in
    let same : i.0 ≡ j.0 = cc in
    let ts : trees t (parts_of n) ≡ trees t (parts_of k) = cc in
    (i.0, i.1, j.1 ∙ ap Some (sym same), (t, s, ts, omega (arith, small, ap tree_size ta)))

pub parts-instance : (nodes : List TyNode) (m : Bound) (a b x y : TyId) (n k : TyNode) (most : ℕ) → Ends nodes m a x → Ends nodes m b y → node_at nodes x ≡ Some n → node_at nodes y ≡ Some k → variable_of n ≡ None → variable_of k ≡ None → Instance nodes m a b most → PartsInstance nodes m (parts_of n) (parts_of k) most
parts-instance nodes m a b x y n k most ex ey p q u v w = (both_built nodes m a b x y n k most ex ey p q u v w).3

pub step-parts : (nodes : List TyNode) (m m' : Bound) (a b x y : TyId) (n k : TyNode) (most : ℕ) → Ends nodes m a x → Ends nodes m b y → node_at nodes x ≡ Some n → node_at nodes y ≡ Some k → variable_of n ≡ None → variable_of k ≡ None → Instance nodes m a b most → WalkAll nodes m (parts_of n) (parts_of k) m' → Walk nodes m a b m'
step-parts nodes m m' a b x y n k most ex ey p q u v w all =
    let o = both_built nodes m a b x y n k most ex ey p q u v w in
    parts x y n k o.0 ex ey p q o.1 o.2 all

one_node : (t : Tree) → 1 ≤ tree_size t
one_node (Leaf n) = omega arith
one_node (Node h ts) = omega arith

pub length-trees : (t : TyId → Tree) (xs : List TyId) → length xs ≤ trees_size (trees t xs)
length-trees t [] = omega arith
length-trees t (x ∷ xs) = omega (arith, length-trees t xs, one_node (t x))

pub size-at : (t : TyId → Tree) (xs : List TyId) (i : ℕ) (x : TyId) → slice_get xs i ≡ Some x → tree_size (t x) ≤ trees_size (trees t xs)
size-at t [] i x h = absurd cc
size-at t (y ∷ xs) zero x h = let e : y ≡ x = cc in subst (λ v. tree_size (t v) ≤ tree_size (t y) + trees_size (trees t xs)) e (omega arith)
size-at t (y ∷ xs) (suc i) x h = omega (arith, size-at t xs i x h)

-- lists with equal trees have as many places
pub none-at : (t : TyId → Tree) (xs ys : List TyId) (i : ℕ) (x : TyId) → trees t xs ≡ trees t ys → slice_get xs i ≡ Some x → slice_get ys i ≡ None → ⊥
none-at t [] ys i x e p q = cc
none-at t (v ∷ xs) [] i x e p q = cc
none-at t (v ∷ xs) (w ∷ ys) zero x e p q = cc
none-at t (v ∷ xs) (w ∷ ys) (suc i) x e p q = let a : trees t xs ≡ trees t ys = cc in none-at t xs ys i x a p q

-- the next part of a node
pub instance-at : (nodes : List TyNode) (m0 m : Bound) (ps qs : List TyId) (most i : ℕ) (p q : TyId) → PartsInstance nodes m0 ps qs most → ((t : TyId → Tree) → Solves nodes m0 t → trees t ps ≡ trees t qs → Solves nodes m t) → slice_get ps i ≡ Some p → slice_get qs i ≡ Some q → Instance nodes m p q (most - 1)
instance-at nodes m0 m ps qs most i p q (t, s, e, small) solved a b =
    (t, solved t s e, trees-at t ps qs i p q e a b, omega (arith, small, size-at t ps i p a))

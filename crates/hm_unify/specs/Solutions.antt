-- Bindings as a table of nodes and a finite map from bound variables to ids, and what solves them.
use Rattle.std.specs.Prelude.{◌≡◌, ℕ, ◌+◌, ◌<◌, ◌≤◌, ◌⊎◌, List, [], ◌∷◌, length, take, Option, Some, None, slice_get, slice_index_or}
use Rattle.std.specs.Option.{option_and_then}
use Rattle.ml_types.specs.declared.node.TyId.{TyId}
use Rattle.ml_types.specs.declared.node.TyNode.{TyNode}
use Rattle.ml_types.specs.declared.node.TyNode.TheVariants.{Var, Con, Tuple, Arrow}
use Rattle.ml_types.specs.Types.{Head, head_of, parts_of, Tree, Leaf, Node, Trees, trees, tree_size}

-- a finite map from the numbers of variables to ids; a number past the end is not bound
abbrev pub Bound : Type 0
Bound = List (Option TyId)

abbrev pub Pairs : Type 0
Pairs = List (TyId × TyId)

abbrev pub node_at : List TyNode → TyId → Option TyNode
node_at nodes x = slice_get nodes x.0

-- the number of a variable
abbrev pub variable_of : TyNode → Option ℕ
variable_of (Var n) = Some n
variable_of (Con d args) = None
variable_of (Tuple parts) = None
variable_of (Arrow slot from to) = None

-- the number of the variable at an id
abbrev pub number_at : List TyNode → TyId → Option ℕ
number_at nodes x = option_and_then variable_of (node_at nodes x)

-- the id to which the variable at an id is bound
abbrev pub link : List TyNode → Bound → TyId → Option TyId
link nodes bound x = option_and_then (λ n. slice_index_or bound n None) (number_at nodes x)

-- the bindings, followed from one id, end at another
pub data Ends (nodes : List TyNode) (bound : Bound) : TyId → TyId → Type 0 where
  here : (x : TyId) → link nodes bound x ≡ None → Ends nodes bound x x
  there : (x y e : TyId) → link nodes bound x ≡ Some y → Ends nodes bound y e → Ends nodes bound x e

-- finite types of all ids that fit the nodes and the bindings
pub record Solves (nodes : List TyNode) (bound : Bound) (t : TyId → Tree) : Type 0 where
  pub nodes_are : (x : TyId) (n : TyNode) (h : Head) → node_at nodes x ≡ Some n → head_of n ≡ Some h → t x ≡ Node h (trees t (parts_of n))
  pub one_variable : (x y : TyId) (n : ℕ) → node_at nodes x ≡ Some (Var n) → node_at nodes y ≡ Some (Var n) → t x ≡ t y
  pub bound_is : (x y : TyId) → link nodes bound x ≡ Some y → t x ≡ t y

-- an equivalence of the ids, by a name for each class: what infinite types, too, must meet. It relates
-- each bound variable to its id and the ids of one variable, it relates the parts of related nodes,
-- and it relates no two nodes with different heads. The finite types of a solution are such names.
pub record IsSolution (nodes : List TyNode) (bound : Bound) (c : TyId → Tree) : Type 0 where
  pub heads : (x y : TyId) (n m : TyNode) (h k : Head) → node_at nodes x ≡ Some n → node_at nodes y ≡ Some m → head_of n ≡ Some h → head_of m ≡ Some k → c x ≡ c y → h ≡ k
  pub parts : (x y : TyId) (n m : TyNode) (h k : Head) → node_at nodes x ≡ Some n → node_at nodes y ≡ Some m → head_of n ≡ Some h → head_of m ≡ Some k → c x ≡ c y → trees c (parts_of n) ≡ trees c (parts_of m)
  pub one_variable : (x y : TyId) (n : ℕ) → node_at nodes x ≡ Some (Var n) → node_at nodes y ≡ Some (Var n) → c x ≡ c y
  pub bound_is : (x y : TyId) → link nodes bound x ≡ Some y → c x ≡ c y

-- the two of each pair are equal
abbrev pub Equates : (TyId → Tree) → Pairs → Type 0
Equates t [] = Unit {0}
Equates t (p ∷ ps) = (t p.0 ≡ t p.1) × Equates t ps

-- some id of the pairs
abbrev pub IsIdOf : Pairs → TyId → Type 0
IsIdOf [] x = ⊥
IsIdOf (p ∷ ps) x = (x ≡ p.0) ⊎ ((x ≡ p.1) ⊎ IsIdOf ps x)

-- a finite solution in which the two of each pair are equal
abbrev pub Solution : List TyNode → Bound → Pairs → Type 0
Solution nodes bound pairs = (t : TyId → Tree) × Solves nodes bound t × Equates t pairs

abbrev pub HasFinite : List TyNode → Bound → Pairs → Type 0
HasFinite nodes bound pairs = Solution nodes bound pairs

abbrev pub NoFinite : List TyNode → Bound → Pairs → Type 0
NoFinite nodes bound pairs = (t : TyId → Tree) → Solves nodes bound t → Equates t pairs → ⊥

-- one among infinite types, and none
abbrev pub HasInfinite : List TyNode → Bound → Pairs → Type 0
HasInfinite nodes bound pairs = (c : TyId → Tree) × IsSolution nodes bound c × Equates c pairs

abbrev pub NoInfinite : List TyNode → Bound → Pairs → Type 0
NoInfinite nodes bound pairs = (c : TyId → Tree) → IsSolution nodes bound c → Equates c pairs → ⊥

-- pair k is the first that, with those before it, leaves no finite solution
pub record IsFirstFault (nodes : List TyNode) (bound : Bound) (pairs : Pairs) (k : ℕ) : Type 0 where
  pub within : k < length pairs
  pub before : HasFinite nodes bound (take k pairs)
  pub fault : NoFinite nodes bound (take (k + 1) pairs)

-- every finite solution gives this id of the pairs more than 2,000 nodes; the most general one, whose
-- types are the least, gives it the fewest
pub record IsTooLarge (nodes : List TyNode) (bound : Bound) (pairs : Pairs) : Type 0 where
  pub some : HasFinite nodes bound pairs
  pub id : TyId
  pub of_pairs : IsIdOf pairs id
  pub large : (t : TyId → Tree) → Solves nodes bound t → Equates t pairs → 2000 < tree_size (t id)

-- a finite solution in which no id of the pairs has more than 2,000 nodes
abbrev pub Fits : List TyNode → Bound → Pairs → Type 0
Fits nodes bound pairs = (t : TyId → Tree) × Solves nodes bound t × Equates t pairs × ((x : TyId) → IsIdOf pairs x → tree_size (t x) ≤ 2000)

-- the tree for which an id stands under the bindings, its free variables as leaves
mutual
  pub data Stands (nodes : List TyNode) (bound : Bound) : TyId → Tree → Type 0 where
    variable : (x e : TyId) (n : ℕ) → Ends nodes bound x e → node_at nodes e ≡ Some (Var n) → Stands nodes bound x (Leaf n)
    built : (x e : TyId) (n : TyNode) (h : Head) (ts : Trees) → Ends nodes bound x e → node_at nodes e ≡ Some n → head_of n ≡ Some h → StandAll nodes bound (parts_of n) ts → Stands nodes bound x (Node h ts)

  pub data StandAll (nodes : List TyNode) (bound : Bound) : List TyId → Trees → Type 0 where
    none : StandAll nodes bound [] Rattle.ml_types.specs.Types.Nil
    more : (x : TyId) (xs : List TyId) (t : Tree) (ts : Trees) → Stands nodes bound x t → StandAll nodes bound xs ts → StandAll nodes bound (x ∷ xs) (Rattle.ml_types.specs.Types.Cons t ts)

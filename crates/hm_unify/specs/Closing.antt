-- Classes that are being closed under equations.
use Rattle.std.specs.Prelude.{◌≡◌, ℕ, zero, suc, ◌+◌, ◌<◌, ◌^◌, List, [], ◌∷◌, length, Option, Some, None, slice_get, ◌⊎◌}
use Rattle.ml_types.specs.declared.node.TyId.{TyId}
use Rattle.ml_types.specs.declared.node.TyNode.{TyNode}
use Rattle.ml_types.specs.Types.{Head, head_of, parts_of, Tree, trees}
use Rattle.hm_unify.specs.declared.classes.End.{End}
use Rattle.hm_unify.specs.declared.classes.End.TheVariants.{Free, Built}
use Rattle.hm_unify.specs.declared.classes.Classes.{Classes}
use Rattle.hm_unify.specs.Solutions.{Bound, Pairs, node_at, link, number_at, IsSolution, Equates, IsIdOf}
use Rattle.hm_unify.specs.Classes.{up, IsForest, joined}

-- the end of the bindings from an id, within so many steps
unfoldable pub follow : List TyNode → Bound → ℕ → TyId → TyId
follow nodes bound zero x = x
follow nodes bound (suc k) x = elim (link nodes bound x) [ None ↦ x | Some y ↦ follow nodes bound k y ]

unfoldable pub end_at : List TyNode → Bound → TyId → TyId
end_at nodes bound x = follow nodes bound (2 ^ 64 + 1) x

abbrev pub kind_by : TyId → Option ℕ → End
kind_by x None = Built x.0
kind_by x (Some n) = Free n

-- what stands at an id where the bindings end
abbrev pub kind : List TyNode → TyId → End
kind nodes x = kind_by x (number_at nodes x)

abbrev pub Naming : Type 0
Naming = TyId → End

-- the class of each id, where f gives each end its root
abbrev pub class_of : List TyNode → Bound → (End → End) → Naming
class_of nodes bound f x = f (kind nodes (end_at nodes bound x))

-- what c relates, d relates
abbrev pub Respects : Naming → (TyId → Tree) → Type 0
Respects name d = (x y : TyId) → name x ≡ name y → d x ≡ d y

-- the root of a node's class: a node with the same head, whose parts are equal to its own in all that
-- respects the classes and the equations still to do
pub record HasRoot (nodes : List TyNode) (name : Naming) (todo : Pairs) (x : TyId) (n : TyNode) (h : Head) : Type 0 where
  pub root : ℕ
  pub node : TyNode
  pub is_root : name x ≡ Built root
  pub at_root : slice_get nodes root ≡ Some node
  pub head : head_of node ≡ Some h
  pub parts : (d : TyId → Tree) → Respects name d → Equates d todo → trees d (parts_of n) ≡ trees d (parts_of node)

-- a class named by a node: it has a head, and is its own root
pub record IsBuiltRoot (nodes : List TyNode) (name : Naming) (r : ℕ) : Type 0 where
  pub node : TyNode
  pub head : Head
  pub at_root : slice_get nodes r ≡ Some node
  pub has_head : head_of node ≡ Some head
  pub itself : name (record { 0 = r }) ≡ Built r

pub record IsClosing (nodes : List TyNode) (bound : Bound) (pairs : Pairs) (name : Naming) (todo : Pairs) : Type 0 where
  pub respected : (d : TyId → Tree) → IsSolution nodes bound d → Equates d pairs → Respects name d
  pub forced : (d : TyId → Tree) → IsSolution nodes bound d → Equates d pairs → Equates d todo
  pub covers : (d : TyId → Tree) → Respects name d → Equates d todo → Equates d pairs
  pub roots : (x : TyId) (n : TyNode) (h : Head) → node_at nodes x ≡ Some n → head_of n ≡ Some h → HasRoot nodes name todo x n h
  pub built : (x : TyId) (r : ℕ) → x.0 < length nodes → name x ≡ Built r → IsBuiltRoot nodes name r

-- each linked end is in the class of an id that came up
abbrev pub IsSeen : Classes → (End → End) → Naming → Pairs → Type 0
IsSeen classes f name seen = (e g : End) → up classes e ≡ Some g → (z : TyId) × IsIdOf seen z × (f e ≡ name z)

-- all ids of the pairs lie in the table
abbrev pub PairsWithin : ℕ → Pairs → Type 0
PairsWithin count [] = Unit {0}
PairsWithin count (p ∷ ps) = (p.0.0 < count) × (p.1.0 < count) × PairsWithin count ps

-- a state of the closure
pub record IsClosure (nodes : List TyNode) (bound : Bound) (pairs : Pairs) (classes : Classes) (todo seen : Pairs) : Type 0 where
  pub root_of : End → End
  pub forest : IsForest classes root_of
  pub closing : IsClosing nodes bound pairs (class_of nodes bound root_of) todo
  pub are_seen : IsSeen classes root_of (class_of nodes bound root_of) seen
  pub todo_within : PairsWithin (length nodes) todo
  pub seen_within : PairsWithin (length nodes) seen

abbrev pub SomeClosure : List TyNode → Bound → Classes → Pairs → Type 0
SomeClosure nodes bound classes todo = (pairs : Pairs) × (seen : Pairs) × IsClosure nodes bound pairs classes todo seen

-- a root that is a node has a head
abbrev pub IsBuiltIn : List TyNode → End → Type 0
IsBuiltIn nodes (Free n) = Unit {0}
IsBuiltIn nodes (Built r) = (n : TyNode) × (h : Head) × (slice_get nodes r ≡ Some n) × (head_of n ≡ Some h)

-- a node is linked to nodes alone
abbrev pub MayLink : End → End → Type 0
MayLink (Free n) to = Unit {0}
MayLink (Built r) (Free n) = ⊥
MayLink (Built r) (Built s) = Unit {0}

-- one root is linked to another, one way or the other
pub record LinksTo (old new : Classes) (from to : End) : Type 0 where
  pub may : MayLink from to
  pub forest : (f : End → End) → IsForest old f → IsForest new (joined f from to)
  pub links : (e g : End) → up new e ≡ Some g → (e ≡ from) ⊎ (up old e ≡ Some g)

abbrev pub Links : Classes → Classes → End → End → Type 0
Links old new left right = LinksTo old new left right ⊎ LinksTo old new right left

-- two nodes have different heads
abbrev pub Clashes : List TyNode → End → End → Type 0
Clashes nodes left right = (r s : ℕ) × (n m : TyNode) × (h k : Head) × (left ≡ Built r) × (right ≡ Built s) × (slice_get nodes r ≡ Some n) × (slice_get nodes s ≡ Some m) × (head_of n ≡ Some h) × (head_of m ≡ Some k) × (h ≡ k → ⊥)

-- what is still to do after two nodes with one head are in one class: their parts
pub record DoesParts (todo todo' : Pairs) (n m : TyNode) : Type 0 where
  pub old : (d : TyId → Tree) → Equates d todo' → Equates d todo
  pub parts : (d : TyId → Tree) → Equates d todo' → trees d (parts_of n) ≡ trees d (parts_of m)
  pub new : (d : TyId → Tree) → Equates d todo → trees d (parts_of n) ≡ trees d (parts_of m) → Equates d todo'
  pub within : (count : ℕ) → ((i : ℕ) (p : TyId) → slice_get (parts_of n) i ≡ Some p → p.0 < count) → ((i : ℕ) (p : TyId) → slice_get (parts_of m) i ≡ Some p → p.0 < count) → PairsWithin count todo → PairsWithin count todo'

pub data ToDo (nodes : List TyNode) (todo todo' : Pairs) (left right : End) : Type 0 where
  no_parts : ((n : ℕ) × (left ≡ Free n)) ⊎ ((n : ℕ) × (right ≡ Free n)) → todo' ≡ todo → ToDo nodes todo todo' left right
  their_parts : (r s : ℕ) (n m : TyNode) (h : Head) → left ≡ Built r → right ≡ Built s → slice_get nodes r ≡ Some n → slice_get nodes s ≡ Some m → head_of n ≡ Some h → head_of m ≡ Some h → DoesParts todo todo' n m → ToDo nodes todo todo' left right

pub record Merges (nodes : List TyNode) (old new : Classes) (todo todo' : Pairs) (left right : End) : Type 0 where
  pub links : Links old new left right
  pub to_do : ToDo nodes todo todo' left right

-- The types of a program as a table.
use Rattle.std.specs.Prelude.{◌≡◌, ℕ, ◌+◌, ◌<◌, Bool, true, cond, nat_eq, false, List, [], ◌∷◌, ◌++◌, length, reverse, Option, Some, None, is_some, slice_get}
use Rattle.ml_types.specs.declared.node.TyId.{TyId}
use Rattle.ml_types.specs.declared.node.TyNode.{TyNode}
use Rattle.ml_types.specs.declared.node.TyNode.TheVariants.{Var, Con, Tuple, Arrow}
use Rattle.ml_types.specs.declared.node.Scheme.{Scheme}
use Rattle.ml_types.specs.Types.{parts_of, Tree, Leaf, Node, Trees, Nil, Cons}
use Rattle.ml_typing.specs.declared.typed.Typed.{Typed}
use Rattle.hm_unify.specs.Solutions.{Bound, Stands}

-- the numbers of a list with those of another behind them, each once
abbrev pub is_in : List ℕ → ℕ → Bool
is_in [] n = false
is_in (m ∷ ms) n = cond (nat_eq m n) true (is_in ms n)

abbrev pub with_number : List ℕ → ℕ → List ℕ
with_number seen n = cond (is_in seen n) seen (seen ++ n ∷ [])

-- the variables of a type in the order of first use, behind those that were seen
abbrev mutual
  pub uses_behind : List ℕ → Tree → List ℕ
  uses_behind seen (Leaf n) = with_number seen n
  uses_behind seen (Node h ts) = all_uses_behind seen ts

  pub all_uses_behind : List ℕ → Trees → List ℕ
  all_uses_behind seen Nil = seen
  all_uses_behind seen (Cons t ts) = all_uses_behind (uses_behind seen t) ts

abbrev pub variables : Tree → List ℕ
variables t = uses_behind [] t

-- the numbers of these variables are known to have come up, and no others
abbrev pub HasSeen : (ℕ → Option Bool) → List ℕ → Type 0
HasSeen seen vars = (n : ℕ) → is_some (seen n) ≡ is_in vars n

-- the variables behind a node, its parts aside
abbrev pub with_own : List ℕ → TyNode → List ℕ
with_own vars (Var n) = with_number vars n
with_own vars (Con d args) = vars
with_own vars (Tuple parts) = vars
with_own vars (Arrow slot from to) = vars

-- a step of the walk of a type: the node's own variable is used, and its parts come next, the first of
-- them on top
pub record Visits (node : TyNode) (vars more : List ℕ) (stack deeper : List TyId) : Type 0 where
  pub used : more ≡ with_own vars node
  pub next : deeper ≡ stack ++ reverse (parts_of node)

-- the slots of a table's arrows lie below a number
abbrev pub AreSlotsBelow : List TyNode → ℕ → Type 0
AreSlotsBelow nodes slots = (i slot : ℕ) (from to : TyId) → slice_get nodes i ≡ Some (Arrow slot from to) → slot < slots

-- every variable of the type is generalised, in the order of first use
pub record IsScheme (ty : TyId) (w : Tree) (s : Scheme) : Type 0 where
  pub ty_is : s.ty ≡ ty
  pub vars_are : s.vars ≡ variables w

-- a scheme whose id stands for a type
abbrev pub IsSchemeIn : List TyNode → Bound → Tree → Scheme → Type 0
IsSchemeIn nodes bound w s = Stands nodes bound s.ty w × (s.vars ≡ variables w)

-- the schemes of the names below a number, in the order of their numbers
pub data Collects (nodes : List TyNode) (bound : Bound) (named : ℕ → Option Tree) : ℕ → List Scheme → Type 0 where
  none_yet : Collects nodes bound named 0 []
  no_name : (n : ℕ) (ss : List Scheme) → named n ≡ None → Collects nodes bound named n ss → Collects nodes bound named (n + 1) ss
  a_name : (n : ℕ) (w : Tree) (s : Scheme) (ss : List Scheme) → named n ≡ Some w → IsSchemeIn nodes bound w s → Collects nodes bound named n ss → Collects nodes bound named (n + 1) (ss ++ s ∷ [])

-- the ids of all nodes below a number
pub record AreNoted (nodes : ℕ → Option TyId) (count : ℕ) (ids : List TyId) : Type 0 where
  pub node_count : length ids ≡ count
  pub each : (n : ℕ) (x : TyId) → slice_get ids n ≡ Some x → nodes n ≡ Some x

-- a table with the types of the nodes and the schemes of the names
pub record Fills (noted named : ℕ → Option Tree) (count : ℕ) (typed : Typed) : Type 0 where
  pub node_count : length typed.node ≡ count
  pub nodes : (n : ℕ) (x : TyId) → slice_get typed.node n ≡ Some x → (w : Tree) × (noted n ≡ Some w) × Stands typed.table.nodes [] x w
  pub schemes : Collects typed.table.nodes [] named count typed.schemes
  pub slots : AreSlotsBelow typed.table.nodes typed.slots

-- The solver of one item as what it knows: the bindings, the types of unknowns and of names, and which
-- nodes were there before the item.
use Rattle.std.specs.Prelude.{◌≡◌, ◌⊎◌, ℕ, ◌<◌, ◌≤◌, List, [], ◌∷◌, ◌++◌, length, Option, Some, None, slice_get, slice_index_or, nat_eq, ◌&&◌, ◌==◌}
use Rattle.std.specs.HashMap.{get}
use Rattle.ml_types.specs.declared.node.TyId.{TyId}
use Rattle.ml_types.specs.declared.node.TyNode.{TyNode}
use Rattle.ml_types.specs.declared.node.TyNode.TheVariants.{Var}
use Rattle.ml_types.specs.Types.{parts_of, Tree}
use Rattle.ml_typing.specs.declared.equation.Unknown.{Unknown}
use Rattle.ml_typing.specs.declared.equation.Unknown.TheVariants.{Node, Binder, Fresh}
use Rattle.ml_typing.specs.Typing.{Assignment}
use Rattle.hm_unify.specs.Solutions.{Bound, node_at, Ends, Solves}
use Rattle.hm_unify.specs.States.{State, Adds, AddsFresh, PartsWithin}
use Rattle.hm_terms.specs.declared.ids.Ids.{Ids}
use Rattle.hm_terms.specs.declared.solver.Solver.{Solver}

-- the type of an unknown that has come up
abbrev pub id_of : Ids → Unknown → Option TyId
id_of ids (Node n) = get nat_eq ids.nodes n
id_of ids (Binder n) = get nat_eq ids.binders n
id_of ids (Fresh n k) = get (λ x y. x.0 == y.0 && x.1 == y.1) ids.fresh (n, k)

pub record Store : Type 0 where
  pub nodes : List TyNode
  pub bound : Bound
  pub ids : Unknown → Option TyId
  pub schemes : ℕ → Option TyId
  pub operations : List TyId
  pub declared : ℕ → Option TyId
  pub mark : ℕ

abbrev pub store : Solver → Store
store s = record { nodes = s.table.bindings.nodes; bound = s.table.bindings.bound; ids = id_of s.ids; schemes = get nat_eq s.schemes; operations = s.operations.items; declared = get nat_eq s.declared; mark = s.mark }

abbrev pub state : Store → State
state s = record { nodes = s.nodes; bound = s.bound }

-- the same names, operations and declared types, and the same mark
pub record SameNames (old new : Store) : Type 0 where
  pub schemes : (b : ℕ) → new.schemes b ≡ old.schemes b
  pub operations : new.operations ≡ old.operations
  pub declared : (n : ℕ) → new.declared n ≡ old.declared n
  pub mark : new.mark ≡ old.mark

-- one node more, whose parts were there
pub record AddsNode (old new : Store) (node : TyNode) (id : TyId) : Type 0 where
  pub adds : Adds (state old) (state new) node id
  pub within : PartsWithin (length old.nodes) node
  pub ids : (u : Unknown) → new.ids u ≡ old.ids u
  pub names : SameNames old new

-- a variable more that no node had, the type of an unknown that had none
pub record AddsUnknown (old new : Store) (u : Unknown) (id : TyId) : Type 0 where
  pub none : old.ids u ≡ None
  pub adds : AddsFresh (state old) (state new) id
  pub there : new.ids u ≡ Some id
  pub others : (v : Unknown) → (v ≡ u → ⊥) → new.ids v ≡ old.ids v
  pub names : SameNames old new

-- the type that an unknown had, or a new variable
abbrev pub Knows : Store → Store → Unknown → TyId → Type 0
Knows old new u id = ((old.ids u ≡ Some id) × (new ≡ old)) ⊎ AddsUnknown old new u id

-- parts and links lead to ids of the table
pub record IsClosed (nodes : List TyNode) (bound : Bound) : Type 0 where
  pub parts_in : (x : TyId) (n : TyNode) (i : ℕ) (p : TyId) → node_at nodes x ≡ Some n → slice_get (parts_of n) i ≡ Some p → p.0 < length nodes
  pub targets_in : (n : ℕ) (y : TyId) → slice_index_or bound n None ≡ Some y → y.0 < length nodes

-- finite types of all ids, and types of the unknowns, that fit what is known
pub record Reading (s : Store) (t : TyId → Tree) (a : Assignment) : Type 0 where
  pub solves : Solves s.nodes s.bound t
  pub reads : (u : Unknown) (x : TyId) → s.ids u ≡ Some x → t x ≡ a u

-- a free variable that is reached from an id
pub data Reaches (nodes : List TyNode) (bound : Bound) : TyId → ℕ → Type 0 where
  at_end : (x e : TyId) (n : ℕ) → Ends nodes bound x e → node_at nodes e ≡ Some (Var n) → Reaches nodes bound x n
  in_part : (x e p : TyId) (k : TyNode) (i n : ℕ) → Ends nodes bound x e → node_at nodes e ≡ Some k → slice_get (parts_of k) i ≡ Some p → Reaches nodes bound p n → Reaches nodes bound x n

-- a variable that one of the nodes from before the item has
abbrev pub IsBefore : Store → ℕ → Type 0
IsBefore s n = (z : TyId) × (z.0 < s.mark) × (node_at s.nodes z ≡ Some (Var n))

-- an id of the item's own: no free variable from before the item is reached from it, so that no equation
-- of the item binds one
abbrev pub IsOwn : Store → TyId → Type 0
IsOwn s x = (n : ℕ) → Reaches s.nodes s.bound x n → IsBefore s n → ⊥

-- what holds of a solver at any time
pub record IsReady (s : Store) : Type 0 where
  pub closed : IsClosed s.nodes s.bound
  pub mark_within : s.mark ≤ length s.nodes
  pub within : (u : Unknown) (x : TyId) → s.ids u ≡ Some x → x.0 < length s.nodes
  pub own : (u : Unknown) (x : TyId) → s.ids u ≡ Some x → IsOwn s x

-- a reading of what became of a solver, which agrees with one of before
pub record Extended (old new : Store) (t : TyId → Tree) (a : Assignment) : Type 0 where
  pub types : TyId → Tree
  pub reading : Reading new types a
  pub agrees : (x : TyId) → x.0 < length old.nodes → types x ≡ t x

-- more nodes at the end and more unknowns with types, and nothing else; every reading goes on, so that
-- nothing was made equal
pub record Grows (old new : Store) : Type 0 where
  pub more : List TyNode
  pub nodes : new.nodes ≡ old.nodes ++ more
  pub bound : (n : ℕ) → slice_index_or new.bound n None ≡ slice_index_or old.bound n None
  pub ids : (u : Unknown) (x : TyId) → old.ids u ≡ Some x → new.ids u ≡ Some x
  pub names : SameNames old new
  pub ready : IsReady old → IsReady new
  pub extends : IsReady old → (t : TyId → Tree) (a : Assignment) → Reading old t a → Extended old new t a

-- a name more has a scheme, or another one
pub record Generalises (old new : Store) (binder : ℕ) (id : TyId) : Type 0 where
  pub nodes : new.nodes ≡ old.nodes
  pub bound : new.bound ≡ old.bound
  pub ids : (u : Unknown) → new.ids u ≡ old.ids u
  pub there : new.schemes binder ≡ Some id
  pub others : (b : ℕ) → (b ≡ binder → ⊥) → new.schemes b ≡ old.schemes b
  pub operations : new.operations ≡ old.operations
  pub declared : (n : ℕ) → new.declared n ≡ old.declared n
  pub mark : new.mark ≡ old.mark

-- an operation more has a type
pub record AddsOperation (old new : Store) (id : TyId) : Type 0 where
  pub nodes : new.nodes ≡ old.nodes
  pub bound : new.bound ≡ old.bound
  pub ids : (u : Unknown) → new.ids u ≡ old.ids u
  pub schemes : (b : ℕ) → new.schemes b ≡ old.schemes b
  pub operations : new.operations ≡ old.operations ++ id ∷ []
  pub declared : (n : ℕ) → new.declared n ≡ old.declared n
  pub mark : new.mark ≡ old.mark

-- no unknown has come up, and all nodes are from before
pub record Forgets (old new : Store) : Type 0 where
  pub nodes : new.nodes ≡ old.nodes
  pub bound : new.bound ≡ old.bound
  pub none : (u : Unknown) → new.ids u ≡ None
  pub schemes : (b : ℕ) → new.schemes b ≡ old.schemes b
  pub operations : new.operations ≡ old.operations
  pub declared : (n : ℕ) → new.declared n ≡ old.declared n
  pub mark : new.mark ≡ length old.nodes

-- a declared type more has an id
pub record Declares (old new : Store) (n : ℕ) (id : TyId) : Type 0 where
  pub nodes : new.nodes ≡ old.nodes
  pub bound : new.bound ≡ old.bound
  pub ids : (u : Unknown) → new.ids u ≡ old.ids u
  pub schemes : (b : ℕ) → new.schemes b ≡ old.schemes b
  pub operations : new.operations ≡ old.operations
  pub there : new.declared n ≡ Some id
  pub others : (k : ℕ) → (k ≡ n → ⊥) → new.declared k ≡ old.declared k
  pub mark : new.mark ≡ old.mark

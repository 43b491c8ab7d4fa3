-- Copies of types in which arrows keep their slots.
use Rattle.std.specs.Prelude.{◌≡◌, ◌⊎◌, ℕ, List, [], ◌∷◌, Some, None, slice_get}
use Rattle.ml_types.specs.declared.node.TyId.{TyId}
use Rattle.ml_types.specs.declared.node.TyNode.{TyNode}
use Rattle.ml_types.specs.declared.node.TyNode.TheVariants.{Var, Tuple}
use Rattle.ml_types.specs.Types.{Head, head_of, parts_of}
use Rattle.ml_typing.specs.declared.equation.Unknown.TheVariants.{Fresh}
use Rattle.hm_unify.specs.Solutions.{node_at, Ends}
use Rattle.hm_terms.specs.Stores.{Store, Grows}
use Rattle.hm_terms.specs.Copies.{Table, slot_of}
use Rattle.hm_terms.specs.declared.instances.Put.{Put}
use Rattle.hm_terms.specs.declared.instances.Put.TheVariants.{Arguments, Fresh as FreshAt}

-- what is put for the variables of a type: the fresh types of a node, or arguments
pub data Places : Type 0 where
  at_fresh_of : ℕ → Places
  at_arguments : List TyId → Places

abbrev pub places : Put → Places
places (Arguments args) = at_arguments args.now
places (FreshAt node) = at_fresh_of node

-- the empty product, for what is not there
abbrev pub IsNothing : Store → TyId → Type 0
IsNothing s x = node_at s.nodes x ≡ Some (Tuple [])

-- the type that is put for a variable
abbrev pub IsPut : Store → Places → ℕ → TyId → Type 0
IsPut s (at_fresh_of node) n x = s.ids (Fresh node n) ≡ Some x
IsPut s (at_arguments args) n x = (slice_get args n ≡ Some x) ⊎ ((slice_get args n ≡ None) × IsNothing s x)

-- The second id is a copy of the first: other types are put for variables, and each arrow has the slot
-- of the arrow whose copy it is.
mutual
  pub data IsCopy (s : Store) (p : Places) : TyId → TyId → Type 0 where
    of_variable : (y e x : TyId) (n : ℕ) → Ends s.nodes s.bound y e → node_at s.nodes e ≡ Some (Var n) → IsPut s p n x → IsCopy s p y x
    of_node : (y e x u : TyId) (n m : TyNode) (h : Head) → Ends s.nodes s.bound y e → node_at s.nodes e ≡ Some n → head_of n ≡ Some h → Ends s.nodes s.bound x u → node_at s.nodes u ≡ Some m → head_of m ≡ Some h → slot_of m ≡ slot_of n → AreCopiesOf s p (parts_of n) (parts_of m) → IsCopy s p y x

  pub data AreCopiesOf (s : Store) (p : Places) : List TyId → List TyId → Type 0 where
    no_copy : AreCopiesOf s p [] []
    copy_and : (y : TyId) (ys : List TyId) (x : TyId) (xs : List TyId) → IsCopy s p y x → AreCopiesOf s p ys xs → AreCopiesOf s p (y ∷ ys) (x ∷ xs)

-- the solver grows, and the second id is a copy of the first
pub record MakesCopy (old new : Store) (p : Places) (y x : TyId) : Type 0 where
  pub grows : Grows old new
  pub copy : IsCopy new p y x

-- the solver grows, and the type of the variable is there
pub record MakesPut (old new : Store) (p : Places) (n : ℕ) (x : TyId) : Type 0 where
  pub grows : Grows old new
  pub put : IsPut new p n x

-- the copies that the walk has made keep the slots
abbrev pub KeepSlots : Store → Places → Table → Type 0
KeepSlots s p copies = (k : ℕ) (x : TyId) → copies k ≡ Some x → IsCopy s p (record { 0 = k }) x

-- no id has a copy
abbrev pub none_copied : Table
none_copied k = None

-- a step of the walk
pub record StepKeeps (old new : Store) (p : Places) (copies more : Table) : Type 0 where
  pub grows : Grows old new
  pub keeps : KeepSlots old p copies → KeepSlots new p more

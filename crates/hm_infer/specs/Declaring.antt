-- The declared types as the solver has them.
use Rattle.std.specs.Prelude.{◌≡◌, ℕ, ◌<◌, List, [], length, Option, Some, None, IfSome, slice_index_or, slice_get}
use Rattle.ml_types.specs.declared.node.TyId.{TyId}
use Rattle.ml_types.specs.declared.node.TyNode.{TyNode}
use Rattle.ml_types.specs.declared.node.TyNode.TheVariants.{Var}
use Rattle.ml_types.specs.declared.declared.DeclInfo.{DeclInfo}
use Rattle.ml_types.specs.Types.{Head, head_of, parts_of, Tree, Leaf, Node, Trees, Nil, Cons, trees}
use Rattle.ml_typing.specs.declared.equation.Unknown.{Unknown}
use Rattle.ml_typing.specs.declared.equation.Unknown.TheVariants.{Fresh}
use Rattle.ml_typing.specs.Terms.{at_fresh}
use Rattle.ml_typing.specs.Typing.{Reads}
use Rattle.hm_unify.specs.Solutions.{Stands}
use Rattle.hm_unify.specs.States.{IsHead}
use Rattle.hm_terms.specs.Stores.{Store, state, IsReady}
use Rattle.hm_terms.specs.Shapes.{Holds}

-- a solver without nodes
pub record IsBare (s : Store) : Type 0 where
  pub nodes : s.nodes ≡ []
  pub bound : (n : ℕ) → slice_index_or s.bound n None ≡ None
  pub ids : (u : Unknown) → s.ids u ≡ None
  pub schemes : (b : ℕ) → s.schemes b ≡ None
  pub operations : s.operations ≡ []
  pub declared : (n : ℕ) → s.declared n ≡ None
  pub mark : s.mark ≡ 0

-- declared types have ids that stand for them
pub record AreDeclared (old new : Store) (declared : TyId → Tree) : Type 0 where
  pub ready : IsReady new
  pub free : (n : ℕ) → slice_index_or new.bound n None ≡ None
  pub stand : (x y : TyId) → new.declared x.0 ≡ Some y → Stands new.nodes new.bound y (declared x)
  pub schemes : (b : ℕ) → new.schemes b ≡ old.schemes b
  pub operations : new.operations ≡ old.operations

-- the variables of a table are below a number
abbrev pub AreBelow : List TyNode → ℕ → Type 0
AreBelow nodes count = (i v : ℕ) → slice_get nodes i ≡ Some (Var v) → v < count

-- the type of a node that abbreviates nothing
pub record IsBuilt (declared : TyId → Tree) (n : TyNode) (w : Tree) : Type 0 where
  pub made : (h : Head) → head_of n ≡ Some h → w ≡ Node h (trees declared (parts_of n))
  pub variable : (v : ℕ) → n ≡ Var v → w ≡ Leaf v

-- each variable of a type is that of a fresh type of node 0, of the same number
abbrev mutual
  pub AreNamed : Store → Tree → Type 0
  AreNamed s (Leaf n) = (y : TyId) × (s.ids (Fresh 0 n) ≡ Some y) × Stands s.nodes s.bound y (Leaf n)
  AreNamed s (Node h ts) = AllNamed s ts

  pub AllNamed : Store → Trees → Type 0
  AllNamed s Nil = Unit {0}
  AllNamed s (Cons t ts) = AreNamed s t × AllNamed s ts

-- the id of the variable of a number
abbrev pub IsVariable : Store → ℕ → TyId → Type 0
IsVariable s n x = (s.ids (Fresh 0 n) ≡ Some x) × IsHead (state s) x (Var n)

-- the id of a type with such variables
pub record Expands (s : Store) (w : Tree) (y : TyId) : Type 0 where
  pub holds : Holds s (at_fresh 0 w) y
  pub named : AreNamed s w

-- the declared types that have ids so far, of a solver that was bare
pub record AreExpanded (first s : Store) (declared : TyId → Tree) : Type 0 where
  pub ready : IsReady s
  pub free : (n : ℕ) → slice_index_or s.bound n None ≡ None
  pub each : (x y : TyId) → s.declared x.0 ≡ Some y → Expands s (declared x) y
  pub schemes : (b : ℕ) → s.schemes b ≡ first.schemes b
  pub operations : s.operations ≡ first.operations

-- an id of a type, if any was found; the solver grew
abbrev pub Finds : Store → Store → (TyId → Tree) → Tree → Option TyId → Type 0
Finds old new declared w o = (first : Store) → AreExpanded first old declared → AreExpanded first new declared × IfSome o (λ y. Expands new w y)

-- more declared types have ids
abbrev pub DeclaresMore : List DeclInfo → List TyNode → Store → Store → Type 0
DeclaresMore decls nodes old new = (first : Store) (declared : TyId → Tree) → Reads decls nodes declared → AreExpanded first old declared → AreExpanded first new declared

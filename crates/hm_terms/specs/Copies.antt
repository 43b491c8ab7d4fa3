-- What the walk of a type that makes an instance of it has copied.
use Rattle.std.specs.Prelude.{◌≡◌, ◌⊎◌, ℕ, List, map, Option, Some, None}
use Rattle.ml_types.specs.declared.node.TyId.{TyId}
use Rattle.ml_types.specs.declared.node.TyNode.{TyNode}
use Rattle.ml_types.specs.declared.node.TyNode.TheVariants.{Var, Con, Tuple, Arrow}
use Rattle.ml_types.specs.Types.{Head, head_of, parts_of, Tree}
use Rattle.ml_typing.specs.Terms.{Shape, with_shapes}
use Rattle.hm_unify.specs.Solutions.{Stands}
use Rattle.hm_unify.specs.States.{IsHead}
use Rattle.hm_terms.specs.Stores.{Store, state, IsReady, Grows, AddsNode}
use Rattle.hm_terms.specs.Shapes.{Holds, Puts}
use Rattle.hm_terms.specs.declared.instances.Put.{Put}

-- the ids that have copies, with these
abbrev pub Table : Type 0
Table = ℕ → Option TyId

-- a copy is the type for which its id stood when the walk began, with f for its variables
abbrev pub Copied : Store → Store → (ℕ → Shape) → Table → Type 0
Copied first s f copies = (k : ℕ) (y : TyId) → copies k ≡ Some y → (w : Tree) → Stands first.nodes first.bound (record { 0 = k }) w → Holds s (with_shapes f w) y

-- a step of the walk
abbrev pub Copies : Store → Store → Put → Table → Table → Type 0
Copies old new put copies more = (first : Store) (f : ℕ → Shape) → IsReady first → Grows first old → Puts first put f → Copied first old f copies → Grows old new × Copied first new f more

-- the slot of an arrow
abbrev pub slot_of : TyNode → Option ℕ
slot_of (Var n) = None
slot_of (Con d args) = None
slot_of (Tuple parts) = None
slot_of (Arrow slot from to) = Some slot

-- the copy of each part
abbrev pub AreCopies : Table → List TyId → List TyId → Type 0
AreCopies copies parts others = map (λ (p : TyId). copies p.0) parts ≡ map Some others

-- a node with copies for its parts, or the node itself where each part is its own copy
pub record Rebuilt (old new : Store) (copies : Table) (id x : TyId) : Type 0 where
  pub node : TyNode
  pub head : Head
  pub is_head : IsHead (state old) id node
  pub has_head : head_of node ≡ Some head
  pub others : List TyId
  pub copied : AreCopies copies (parts_of node) others
  pub made : ((new ≡ old) × (x ≡ id) × (parts_of node ≡ others)) ⊎ ((m : TyNode) × (head_of m ≡ Some head) × (parts_of m ≡ others) × AddsNode old new m x × (slot_of m ≡ slot_of node))

-- The least trees of closed classes.
use Rattle.std.specs.Prelude.{◌≡◌, ℕ, ◌<◌, ◌≤◌, min, List, [], ◌∷◌, take, Option, Some, None, slice_get, nat_eq, ◌⊎◌}
use Rattle.std.specs.HashMap.{get}
use Rattle.ml_types.specs.declared.node.TyId.{TyId}
use Rattle.ml_types.specs.declared.node.TyNode.{TyNode}
use Rattle.ml_types.specs.Types.{Head, head_of, parts_of, Tree, Leaf, Node, Trees, Nil, Cons, tree_size, trees_size}
use Rattle.hm_unify.specs.declared.classes.End.{End}
use Rattle.hm_unify.specs.declared.classes.End.TheVariants.{Free, Built}
use Rattle.hm_unify.specs.declared.measure.Mark.{Mark}
use Rattle.hm_unify.specs.declared.measure.Mark.TheVariants.{Open, Done}
use Rattle.hm_unify.specs.declared.measure.Marks.{Marks}
use Rattle.hm_unify.specs.declared.measure.Frame.{Frame}
use Rattle.hm_unify.specs.declared.measure.Step.{Step}
use Rattle.hm_unify.specs.declared.measure.Step.TheVariants.{Goes, Measured, Cycle}
use Rattle.hm_unify.specs.Solutions.{Bound, Pairs, NoFinite, IsIdOf}
use Rattle.hm_unify.specs.Closing.{Naming}

-- the tree of a class, where the names of the parts' classes are given
mutual
  pub data Shape (nodes : List TyNode) (name : Naming) : End → Tree → Type 0 where
    free_shape : (n : ℕ) → Shape nodes name (Free n) (Leaf n)
    past_shape : (r : ℕ) → slice_get nodes r ≡ None → Shape nodes name (Built r) (Leaf 0)
    built_shape : (r : ℕ) (n : TyNode) (h : Head) (ts : Trees) → slice_get nodes r ≡ Some n → head_of n ≡ Some h → name (record { 0 = r }) ≡ Built r → Shapes nodes name (parts_of n) ts → Shape nodes name (Built r) (Node h ts)

  pub data Shapes (nodes : List TyNode) (name : Naming) : List TyId → Trees → Type 0 where
    no_shape : Shapes nodes name [] Nil
    more_shapes : (x : TyId) (xs : List TyId) (t : Tree) (ts : Trees) → Shape nodes name (name x) t → Shapes nodes name xs ts → Shapes nodes name (x ∷ xs) (Cons t ts)

-- s is the number of nodes of a class as a tree, up to 2,001
abbrev pub HasSize : List TyNode → Naming → End → ℕ → Type 0
HasSize nodes name e s = (t : Tree) × Shape nodes name e t × (s ≡ min (tree_size t) 2001)

abbrev pub mark_at : Marks → ℕ → Option Mark
mark_at marks r = get nat_eq marks.table r

-- a node whose parts before `next` are measured
pub record IsFrame (nodes : List TyNode) (name : Naming) (f : Frame) : Type 0 where
  pub node : TyNode
  pub head : Head
  pub found : slice_get nodes f.node ≡ Some node
  pub has_head : head_of node ≡ Some head
  pub itself : name (record { 0 = f.node }) ≡ Built f.node
  pub trees : Trees
  pub shapes : Shapes nodes name (take f.next (parts_of node)) trees
  pub size : f.size ≡ min (trees_size trees) 2000

abbrev pub AreFrames : List TyNode → Naming → List Frame → Type 0
AreFrames nodes name [] = Unit {0}
AreFrames nodes name (f ∷ fs) = IsFrame nodes name f × AreFrames nodes name fs

abbrev pub FramesWithin : ℕ → List Frame → Type 0
FramesWithin count [] = Unit {0}
FramesWithin count (f ∷ fs) = (f.node < count) × FramesWithin count fs

-- the part of a frame that is next is in the class of this root
pub record IsBelow (nodes : List TyNode) (name : Naming) (f : Frame) (r : ℕ) : Type 0 where
  pub node : TyNode
  pub part : TyId
  pub found : slice_get nodes f.node ≡ Some node
  pub next : slice_get (parts_of node) f.next ≡ Some part
  pub class : name part ≡ Built r
  pub itself : name (record { 0 = r }) ≡ Built r

abbrev pub first_of : List Frame → ℕ → ℕ
first_of [] r = r
first_of (f ∷ fs) r = f.node

-- each frame's next part is in the class of the frame above it, that of the last in the class of r
abbrev pub Leads : List TyNode → Naming → List Frame → ℕ → Type 0
Leads nodes name [] r = Unit {0}
Leads nodes name (f ∷ fs) r = IsBelow nodes name f (first_of fs r) × Leads nodes name fs r

abbrev pub LinkedFrom : List TyNode → Naming → Frame → List Frame → Type 0
LinkedFrom nodes name f [] = Unit {0}
LinkedFrom nodes name f (g ∷ gs) = IsBelow nodes name f g.node × LinkedFrom nodes name g gs

-- each frame's next part is in the class of the frame above it
abbrev pub Linked : List TyNode → Naming → List Frame → Type 0
Linked nodes name [] = Unit {0}
Linked nodes name (f ∷ fs) = LinkedFrom nodes name f fs

abbrev pub IsNodeOf : List Frame → ℕ → Type 0
IsNodeOf [] r = ⊥
IsNodeOf (f ∷ fs) r = (f.node ≡ r) ⊎ IsNodeOf fs r

-- sizes are right, and the open classes are on the stack
pub record IsMarked (nodes : List TyNode) (name : Naming) (marks : Marks) (stack : List Frame) : Type 0 where
  pub done : (r s : ℕ) → mark_at marks r ≡ Some (Done s) → HasSize nodes name (Built r) s
  pub opened : (r : ℕ) → mark_at marks r ≡ Some Open → IsNodeOf stack r

-- a search that began at the class of `top`
pub record IsSearching (nodes : List TyNode) (name : Naming) (marks : Marks) (stack : List Frame) (top : ℕ) : Type 0 where
  pub frames : AreFrames nodes name stack
  pub linked : Linked nodes name stack
  pub bottom : first_of stack top ≡ top
  pub marked : IsMarked nodes name marks stack

-- what a step of the search leaves
abbrev pub Advances : List TyNode → Bound → Pairs → Naming → Marks → List Frame → ℕ → Step → Type 0
Advances nodes bound pairs name marks stack top Goes = IsSearching nodes name marks stack top
Advances nodes bound pairs name marks stack top (Measured s) = HasSize nodes name (Built top) s × IsMarked nodes name marks []
Advances nodes bound pairs name marks stack top Cycle = NoFinite nodes bound pairs

-- what a search finds of the class of an id
abbrev pub Finds : List TyNode → Bound → Pairs → Naming → TyId → Marks → Option ℕ → Type 0
Finds nodes bound pairs name id marks None = NoFinite nodes bound pairs
Finds nodes bound pairs name id marks (Some s) = HasSize nodes name (name id) s × IsMarked nodes name marks []

-- what a search finds that began at a root
abbrev pub FindsRoot : List TyNode → Bound → Pairs → Naming → ℕ → Marks → Option ℕ → Type 0
FindsRoot nodes bound pairs name top marks None = NoFinite nodes bound pairs
FindsRoot nodes bound pairs name top marks (Some s) = HasSize nodes name (Built top) s × IsMarked nodes name marks []

-- sizes of all ids of pairs, and the largest of them
pub record AreMeasured (nodes : List TyNode) (name : Naming) (pairs : Pairs) (s : ℕ) : Type 0 where
  pub each : (z : TyId) → IsIdOf pairs z → (m : ℕ) × HasSize nodes name (name z) m × (m ≤ s)
  pub reached : 0 < s → (z : TyId) × IsIdOf pairs z × HasSize nodes name (name z) s

abbrev pub FindsAll : List TyNode → Bound → Pairs → Naming → Pairs → Marks → Option ℕ → Type 0
FindsAll nodes bound pairs name list marks None = NoFinite nodes bound pairs
FindsAll nodes bound pairs name list marks (Some s) = AreMeasured nodes name list s × IsMarked nodes name marks []

-- Declarations over a table of types.
use Rattle.std.specs.Prelude.{◌≡◌, ℕ, ◌<◌, List, [], ◌∷◌, ◌++◌, map, length, Option, Some, None, slice_get, slice_index_or}
use Rattle.ml_tree.specs.declared.types.Decl.{Decl}
use Rattle.ml_tree.specs.declared.reference.TyRef.{TyRef}
use Rattle.ml_types.specs.declared.node.TyId.{TyId}
use Rattle.ml_types.specs.declared.node.TyNode.{TyNode}
use Rattle.ml_types.specs.declared.node.TyNode.TheVariants.{Var, Con, Tuple, Arrow}
use Rattle.ml_types.specs.declared.declared.DeclInfo.{DeclInfo}
use Rattle.ml_types.specs.declared.declared.ConInfo.{ConInfo}
use Rattle.ml_types.specs.declared.declared.FieldInfo.{FieldInfo}
use Rattle.ml_types.specs.declared.declared.ArgInfo.{ArgInfo}
use Rattle.ml_types.specs.Types.{ConHead, TupleHead, ArrowHead, parts_of, Tree, Leaf, Node, Nil, Cons, trees}
use Rattle.ml_decls.specs.Said.{SaidArg, SaidCon, SaidField, Said, said, predefined}

-- ---- the types of the ids of a table, in which the parts of a node stand before it

abbrev pub tree_in : List Tree → TyId → Tree
tree_in ts x = slice_index_or ts x.0 (Leaf 0)

-- the type of a node, where ts are the types of those before it
abbrev pub tree_of : List Tree → TyNode → Tree
tree_of ts (Var v) = Leaf v
tree_of ts (Con d args) = Node (ConHead d (length args)) (trees (tree_in ts) args)
tree_of ts (Tuple parts) = Node (TupleHead (length parts)) (trees (tree_in ts) parts)
tree_of ts (Arrow slot from to) = Node ArrowHead (Cons (tree_in ts from) (Cons (tree_in ts to) Nil))

abbrev pub trees_from : List Tree → List TyNode → List Tree
trees_from ts [] = ts
trees_from ts (n ∷ ns) = trees_from (ts ++ tree_of ts n ∷ []) ns

abbrev pub trees_of : List TyNode → List Tree
trees_of nodes = trees_from [] nodes

-- the id has this type
abbrev pub HasType : List TyNode → TyId → Tree → Type 0
HasType nodes x t = slice_get (trees_of nodes) x.0 ≡ Some t

-- the parts of a node stand before it, so that no id reaches itself
abbrev pub PartsBefore : List TyNode → Type 0
PartsBefore nodes = (i : ℕ) (n : TyNode) (k : ℕ) (p : TyId) → slice_get nodes i ≡ Some n → slice_get (parts_of n) k ≡ Some p → p.0 < i

-- ---- the slots of the arrows

abbrev pub slot_of : TyNode → List ℕ
slot_of (Var n) = []
slot_of (Con d args) = []
slot_of (Tuple parts) = []
slot_of (Arrow slot from to) = slot ∷ []

abbrev pub slots : List TyNode → List ℕ
slots [] = []
slots (n ∷ ns) = slot_of n ++ slots ns

-- each arrow has a slot of its own: they are counted from 0 on
abbrev pub OwnSlots : List TyNode → Type 0
OwnSlots nodes = (i s : ℕ) → slice_get (slots nodes) i ≡ Some s → s ≡ i

-- what holds of a table in the making that has so many arrows
pub record IsMaking (nodes : List TyNode) (arrows : ℕ) : Type 0 where
  pub before : PartsBefore nodes
  pub own_slots : OwnSlots nodes
  pub counted : length (slots nodes) ≡ arrows

-- ---- what a declaration over a table says

-- the items of two lists are related one by one
abbrev pub Each : {A B : Type 0} → (A → B → Type 0) → List A → List B → Type 0
Each R [] [] = Unit {0}
Each R [] (y ∷ ys) = ⊥
Each R (x ∷ xs) [] = ⊥
Each R (x ∷ xs) (y ∷ ys) = R x y × Each R xs ys

module _ (nodes : List TyNode) where
  pub record ArgSays (a : ArgInfo) (said : SaidArg) : Type 0 where
    pub words : a.words ≡ said.words
    pub ty : HasType nodes a.ty said.ty

  pub record ConSays (c : ConInfo) (said : SaidCon) : Type 0 where
    pub name : c.name ≡ said.name
    pub args : Each ArgSays c.args said.args

  pub record FieldSays (f : FieldInfo) (said : SaidField) : Type 0 where
    pub name : f.name ≡ said.name
    pub arg : ArgSays f.arg said.arg

  abbrev pub AliasSays : Option TyId → Option Tree → Type 0
  AliasSays None None = Unit {0}
  AliasSays None (Some t) = ⊥
  AliasSays (Some x) None = ⊥
  AliasSays (Some x) (Some t) = HasType nodes x t

  pub record Says (d : DeclInfo) (said : Said) : Type 0 where
    pub name : d.name ≡ said.name
    pub vars : d.vars ≡ said.vars
    pub cons : Each ConSays d.cons said.cons
    pub fields : Each FieldSays d.fields said.fields
    pub alias : AliasSays d.alias said.alias

-- the predefined and the written declarations at their types, in the order of their numbers
pub record Declares (types : List (ℕ × TyRef)) (ds : List Decl) (infos : List DeclInfo) (nodes : List TyNode) : Type 0 where
  pub before : PartsBefore nodes
  pub own_slots : OwnSlots nodes
  pub say : Each (Says nodes) infos (predefined ++ map (said types) ds)

-- the table grew at its end
pub record Grows (before after : List TyNode) : Type 0 where
  pub more : List TyNode
  pub is : after ≡ before ++ more

-- declarations that say what these do were added to a list, while the table grew
pub record Adds (types : List (ℕ × TyRef)) (start now : List TyNode) (begun infos : List DeclInfo) (ds : List Decl) : Type 0 where
  pub grows : Grows start now
  pub say : (before : List Said) → Each (Says start) begun before → Each (Says now) infos (before ++ map (said types) ds)

-- What a node of a table says of its type: its head and its parts; and finite types as trees.
use Rattle.std.specs.Prelude.{ℕ, ◌+◌, List, [], ◌∷◌, length, Option, Some, None}
use Rattle.ml_types.specs.declared.node.TyId.{TyId}
use Rattle.ml_types.specs.declared.node.TyNode.{TyNode}
use Rattle.ml_types.specs.declared.node.TyNode.TheVariants.{Var, Con, Tuple, Arrow}

-- what two types must share to be equal, their parts aside: the kind, with the declaration and the
-- number of parts; an arrow's slot is no part of it
pub data Head : Type 0 where
  ConHead : ℕ → ℕ → Head
  TupleHead : ℕ → Head
  ArrowHead : Head

-- the head of a node; a variable has none
abbrev pub head_of : TyNode → Option Head
head_of (Var n) = None
head_of (Con d args) = Some (ConHead d (length args))
head_of (Tuple parts) = Some (TupleHead (length parts))
head_of (Arrow slot from to) = Some ArrowHead

-- the parts of a node, from left to right
abbrev pub parts_of : TyNode → List TyId
parts_of (Var n) = []
parts_of (Con d args) = args
parts_of (Tuple parts) = parts
parts_of (Arrow slot from to) = from ∷ to ∷ []

-- finite types: a leaf is a variable
mutual
  pub data Tree : Type 0 where
    Leaf : ℕ → Tree
    Node : Head → Trees → Tree

  pub data Trees : Type 0 where
    Nil : Trees
    Cons : Tree → Trees → Trees

-- the trees of a list of ids, where t gives each id's tree
abbrev pub trees : (TyId → Tree) → List TyId → Trees
trees t [] = Nil
trees t (p ∷ ps) = Cons (t p) (trees t ps)

-- how many nodes a tree has, and those of a list
abbrev mutual
  pub tree_size : Tree → ℕ
  tree_size (Leaf n) = 1
  tree_size (Node h ts) = trees_size ts + 1

  pub trees_size : Trees → ℕ
  trees_size Nil = 0
  trees_size (Cons t ts) = tree_size t + trees_size ts

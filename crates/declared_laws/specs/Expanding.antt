-- The types of a table of declarations, in which the names of abbreviations are replaced by the types
-- that they stand for.
use Rattle.std.specs.Prelude.{ℕ, zero, suc, List, [], ◌∷◌, length, Option, Some, None, option_map, slice_get}
use Rattle.ml_types.specs.declared.node.TyId.{TyId}
use Rattle.ml_types.specs.declared.node.TyNode.{TyNode}
use Rattle.ml_types.specs.declared.declared.DeclInfo.{DeclInfo}
use Rattle.ml_types.specs.Types.{Head, ConHead, TupleHead, ArrowHead, Tree, Leaf, Node, Trees, Nil, Cons}
use Rattle.ml_decls.specs.Tables.{tree_in, trees_of}
use Rattle.ml_typing.specs.Typing.{at_types, tree_at, alias_of}

abbrev pub items_of : Trees → List Tree
items_of Nil = []
items_of (Cons t ts) = t ∷ items_of ts

abbrev pub body_at : (ℕ → Option Tree) → Head → Option Tree
body_at bodies (ConHead d n) = bodies d
body_at bodies (TupleHead n) = None
body_at bodies ArrowHead = None

-- a node, or the type that its name stands for at these parts
abbrev pub applied : Head → Trees → Option Tree → Tree
applied h ts None = Node h ts
applied h ts (Some body) = at_types (tree_at (items_of ts)) body

abbrev mutual
  pub expand : (ℕ → Option Tree) → Tree → Tree
  expand bodies (Leaf v) = Leaf v
  expand bodies (Node h ts) = applied h (expand_all bodies ts) (body_at bodies h)

  pub expand_all : (ℕ → Option Tree) → Trees → Trees
  expand_all bodies Nil = Nil
  expand_all bodies (Cons t ts) = Cons (expand bodies t) (expand_all bodies ts)

-- the types of abbreviations, expanded through so many layers
abbrev pub layers : (ℕ → Option Tree) → ℕ → ℕ → Option Tree
layers bodies zero = bodies
layers bodies (suc k) = λ d. option_map (expand (layers bodies k)) (bodies d)

-- the types that abbreviations are declared as, in which the names of abbreviations stand as they are
abbrev pub bodies : List DeclInfo → List TyNode → ℕ → Option Tree
bodies decls nodes d = option_map (tree_in (trees_of nodes)) (alias_of (slice_get decls d))

-- the type of each id, through as many layers as there are declarations
abbrev pub declared_types : List DeclInfo → List TyNode → TyId → Tree
declared_types decls nodes x = expand (layers (bodies decls nodes) (length decls)) (tree_in (trees_of nodes) x)

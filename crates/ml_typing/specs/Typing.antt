-- Typings: finite types for which all equations hold, and which typings are principal.
use Rattle.std.specs.Prelude.{◌≡◌, ◌⊎◌, ℕ, zero, suc, false, true, Bool, List, [], ◌∷◌, ◌++◌, map, Option, Some, None, cond, nat_eq, slice_get}
use Rattle.ml_types.specs.declared.node.TyId.{TyId}
use Rattle.ml_types.specs.declared.node.TyNode.{TyNode}
use Rattle.ml_types.specs.declared.node.TyNode.TheVariants.{Var, Con, Tuple, Arrow}
use Rattle.ml_types.specs.declared.declared.DeclInfo.{DeclInfo}
use Rattle.ml_types.specs.Types.{Head, ConHead, TupleHead, ArrowHead, head_of, parts_of, Tree, Leaf, Node, Trees, Nil, Cons, trees}
use Rattle.ml_tree.specs.declared.reference.Ref.{Ref}
use Rattle.ml_tree.specs.declared.reference.TyRef.{TyRef}
use Rattle.ml_tree.specs.declared.reference.Op.{Op}
use Rattle.ml_tree.specs.declared.reference.Op.TheVariants.{PrintString, PrintInt, PrintChar, PrerrString, StringOfInt, IntOfChar, CharOfInt, StringLength, StringGet, Exit, Failwith}
use Rattle.ml_tree.specs.declared.program.Item.{Item}
use Rattle.ml_typing.specs.declared.equation.Unknown.{Unknown}
use Rattle.ml_typing.specs.declared.equation.Unknown.TheVariants.{Binder}
use Rattle.ml_typing.specs.declared.equation.Equation.{Equation}
use Rattle.ml_typing.specs.declared.equation.Step.{Step}
use Rattle.ml_typing.specs.Terms.{Shape, Is, Make, Shapes, no_shapes, shape_and, Context, shape_of}
use Rattle.ml_typing.specs.Written.{Names}
use Rattle.ml_typing.specs.Steps.{item_steps, kind_names}

-- types for all unknowns
abbrev pub Assignment : Type 0
Assignment = Unknown → Tree

-- the type that a type over unknowns then is
abbrev mutual
  pub tree_of : Assignment → Shape → Tree
  tree_of a (Is u) = a u
  tree_of a (Make h ss) = Node h (trees_of a ss)

  pub trees_of : Assignment → Shapes → Trees
  trees_of a no_shapes = Nil
  trees_of a (shape_and s ss) = Cons (tree_of a s) (trees_of a ss)

-- two types over unknowns that are to be equal
abbrev pub Pair : Type 0
Pair = Shape × Shape

abbrev pub Satisfies : Assignment → List Pair → Type 0
Satisfies a [] = Unit {0}
Satisfies a (p ∷ ps) = (tree_of a p.0 ≡ tree_of a p.1) × Satisfies a ps

abbrev pub pair_of : Context → Equation → Pair
pair_of c q = (Is q.left, shape_of c q.right)

abbrev pub step_pairs : Context → Step → List Pair
step_pairs c s = map (pair_of c) s.equations

abbrev pub pairs : Context → List Step → List Pair
pairs c [] = []
pairs c (s ∷ ss) = step_pairs c s ++ pairs c ss

-- a type at other types of its variables
abbrev mutual
  pub at_types : (ℕ → Tree) → Tree → Tree
  at_types f (Leaf n) = f n
  at_types f (Node h ts) = Node h (all_at_types f ts)

  pub all_at_types : (ℕ → Tree) → Trees → Trees
  all_at_types f Nil = Nil
  all_at_types f (Cons t ts) = Cons (at_types f t) (all_at_types f ts)

-- an unknown that stands in the pairs
abbrev mutual
  pub StandsIn : Unknown → Shape → Type 0
  StandsIn u (Is v) = u ≡ v
  StandsIn u (Make h ss) = StandsInAny u ss

  pub StandsInAny : Unknown → Shapes → Type 0
  StandsInAny u no_shapes = ⊥
  StandsInAny u (shape_and s ss) = StandsIn u s ⊎ StandsInAny u ss

abbrev pub Occurs : Unknown → List Pair → Type 0
Occurs u [] = ⊥
Occurs u (p ∷ ps) = StandsIn u p.0 ⊎ (StandsIn u p.1 ⊎ Occurs u ps)

-- b is a with its variables at other types
pub record IsInstance (a b : Assignment) (ps : List Pair) : Type 0 where
  pub types : ℕ → Tree
  pub each : (u : Unknown) → Occurs u ps → b u ≡ at_types types (a u)

-- a typing, of which every other one is an instance
pub record IsPrincipal (ps : List Pair) (a : Assignment) : Type 0 where
  pub typing : Satisfies a ps
  pub instances : (b : Assignment) → Satisfies b ps → IsInstance a b ps

-- the names that an item binds, and its steps
pub record ItemSteps : Type 0 where
  pub binders : List ℕ
  pub steps : List Step

abbrev pub is_among : List ℕ → ℕ → Bool
is_among [] n = false
is_among (m ∷ ms) n = cond (nat_eq m n) true (is_among ms n)

-- behind an item the names that it binds have schemes, in which every variable is generalised
abbrev pub behind : Context → Assignment → List ℕ → Context
behind c a binders = record c { scheme = λ b. cond (is_among binders b) (Some (a (Binder b))) (c.scheme b) }

-- behind items, each with an assignment of its own
abbrev pub behind_all : Context → List Assignment → List ItemSteps → Context
behind_all c [] items = c
behind_all c (a ∷ types) [] = c
behind_all c (a ∷ types) (i ∷ is) = behind_all (behind c a i.binders) types is

-- each item has a principal typing of its own, where the names of earlier items have their schemes
abbrev pub IsTyped : Context → List Assignment → List ItemSteps → Type 0
IsTyped c [] [] = Unit {0}
IsTyped c [] (i ∷ is) = ⊥
IsTyped c (a ∷ types) [] = ⊥
IsTyped c (a ∷ types) (i ∷ is) = IsPrincipal (pairs c i.steps) a × IsTyped (behind c a i.binders) types is

-- what a program is read by

-- the value at a number
abbrev pub find : {A : Type 0} → List (ℕ × A) → ℕ → Option A
find [] n = None
find (p ∷ ps) n = cond (nat_eq p.0 n) (Some p.1) (find ps n)

abbrev pub names_of : List (ℕ × Ref) → List (ℕ × TyRef) → ℕ → Names
names_of refs types item = record { target = find refs; type_target = find types; item = item }

abbrev pub steps_of_item : List (ℕ × Ref) → List (ℕ × TyRef) → Item → ItemSteps
steps_of_item refs types item = record { binders = kind_names item.kind; steps = item_steps (names_of refs types item.id) item }

abbrev pub plain_type : ℕ → Tree
plain_type d = Node (ConHead d 0) Nil

abbrev pub arrow_type : Tree → Tree → Tree
arrow_type from to = Node ArrowHead (Cons from (Cons to Nil))

-- the types of the operations: int is 0, char 1, string 2, unit 4
abbrev pub operation_type : Op → Tree
operation_type PrintString = arrow_type (plain_type 2) (plain_type 4)
operation_type PrintInt = arrow_type (plain_type 0) (plain_type 4)
operation_type PrintChar = arrow_type (plain_type 1) (plain_type 4)
operation_type PrerrString = arrow_type (plain_type 2) (plain_type 4)
operation_type StringOfInt = arrow_type (plain_type 0) (plain_type 2)
operation_type IntOfChar = arrow_type (plain_type 1) (plain_type 0)
operation_type CharOfInt = arrow_type (plain_type 0) (plain_type 1)
operation_type StringLength = arrow_type (plain_type 2) (plain_type 0)
operation_type StringGet = arrow_type (plain_type 2) (arrow_type (plain_type 0) (plain_type 1))
operation_type Exit = arrow_type (plain_type 0) (Leaf 0)
operation_type Failwith = arrow_type (plain_type 2) (Leaf 0)

-- what a node of a table abbreviates
abbrev pub alias_of : Option DeclInfo → Option TyId
alias_of None = None
alias_of (Some d) = d.alias

abbrev pub abbreviated : List DeclInfo → TyNode → Option TyId
abbreviated decls (Var v) = None
abbreviated decls (Con d args) = alias_of (slice_get decls d)
abbreviated decls (Tuple parts) = None
abbreviated decls (Arrow slot from to) = None

-- the argument at a place; the empty product past the last
abbrev pub tree_at : List Tree → ℕ → Tree
tree_at [] n = Node (TupleHead 0) Nil
tree_at (t ∷ ts) zero = t
tree_at (t ∷ ts) (suc n) = tree_at ts n

-- the type of each id of a table, its variables as leaves, and abbreviations as the types that they
-- stand for
pub record Reads (decls : List DeclInfo) (nodes : List TyNode) (declared : TyId → Tree) : Type 0 where
  pub made : (x : TyId) (n : TyNode) (h : Head) → slice_get nodes x.0 ≡ Some n → head_of n ≡ Some h → abbreviated decls n ≡ None → declared x ≡ Node h (trees declared (parts_of n))
  pub expanded : (x : TyId) (n : TyNode) (b : TyId) → slice_get nodes x.0 ≡ Some n → abbreviated decls n ≡ Some b → declared x ≡ at_types (tree_at (map declared (parts_of n))) (declared b)
  pub variable : (x : TyId) (v : ℕ) → slice_get nodes x.0 ≡ Some (Var v) → declared x ≡ Leaf v

-- before the first item no name has a scheme
abbrev pub first_context : List DeclInfo → (TyId → Tree) → Context
first_context decls declared = record { decls = decls; declared = declared; operation = operation_type; scheme = λ b. None }

-- The type that a term makes, with the slots of its arrows.
use Rattle.std.specs.Prelude.{◌≡◌, ◌⊎◌, ℕ, ◌+◌, List, [], ◌∷◌, length, Option, Some, None, slice_get}
use Rattle.ml_types.specs.declared.node.TyId.{TyId}
use Rattle.ml_types.specs.declared.node.TyNode.TheVariants.{Con, Tuple, Arrow}
use Rattle.ml_types.specs.declared.declared.ArgInfo.{ArgInfo}
use Rattle.ml_types.specs.declared.declared.ConInfo.{ConInfo}
use Rattle.ml_types.specs.declared.declared.FieldInfo.{FieldInfo}
use Rattle.ml_types.specs.declared.declared.DeclInfo.{DeclInfo}
use Rattle.ml_tree.specs.declared.reference.Op.{Op}
use Rattle.ml_typing.specs.declared.equation.Unknown.{Unknown}
use Rattle.ml_typing.specs.declared.equation.Unknown.TheVariants.{Binder, Fresh}
use Rattle.ml_typing.specs.declared.equation.Term.{Term}
use Rattle.ml_typing.specs.declared.equation.Term.TheVariants as v
use Rattle.ml_typing.specs.Terms.{cons_of, fields_of}
use Rattle.ml_typing.specs.Typing.{alias_of}
use Rattle.hm_unify.specs.Solutions.{node_at}
use Rattle.hm_terms.specs.Stores.{Store}
use Rattle.hm_terms.specs.Contexts.{op_place, vars_of}
use Rattle.hm_terms.specs.Slots.{at_fresh_of, at_arguments, IsNothing, IsCopy}

-- a copy, at the fresh types of a node, of a type that there is
abbrev pub IsAtFresh : Store → ℕ → Option TyId → TyId → Type 0
IsAtFresh s node o x = (y : TyId) × (o ≡ Some y) × IsCopy s (at_fresh_of node) y x

-- the type of a name of an item: its own unknown in its item, and a copy of its scheme behind that
abbrev pub IsTop : Store → ℕ → ℕ → TyId → Type 0
IsTop s binder node x = ((s.schemes binder ≡ None) × (s.ids (Binder binder) ≡ Some x)) ⊎ IsAtFresh s node (s.schemes binder) x

abbrev pub IsOperation : Store → Op → ℕ → TyId → Type 0
IsOperation s op node x = IsAtFresh s node (slice_get s.operations (op_place op)) x

-- the first fresh types of a node
pub record AreFresh (s : Store) (node count : ℕ) (xs : List TyId) : Type 0 where
  pub count_is : length xs ≡ count
  pub fresh : (i : ℕ) (x : TyId) → slice_get xs i ≡ Some x → s.ids (Fresh node i) ≡ Some x

-- a declaration at the fresh types of a node
pub record IsMade (s : Store) (decl node count : ℕ) (x : TyId) : Type 0 where
  pub arguments : List TyId
  pub are_fresh : AreFresh s node count arguments
  pub node_is : node_at s.nodes x ≡ Some (Con decl arguments)

-- a copy of each declared type
abbrev pub AreAtFresh : Store → ℕ → List ArgInfo → List TyId → Type 0
AreAtFresh s node [] [] = Unit {0}
AreAtFresh s node [] (x ∷ xs) = ⊥
AreAtFresh s node (a ∷ args) [] = ⊥
AreAtFresh s node (a ∷ args) (x ∷ xs) = IsAtFresh s node (s.declared a.ty.0) x × AreAtFresh s node args xs

-- the product of several types, or the one type
abbrev pub IsProduct : Store → List TyId → TyId → Type 0
IsProduct s xs x = (xs ≡ x ∷ []) ⊎ ((length xs ≡ 1 → ⊥) × (node_at s.nodes x ≡ Some (Tuple xs)))

pub record IsWhole (s : Store) (node : ℕ) (args : List ArgInfo) (x : TyId) : Type 0 where
  pub parts : List TyId
  pub are_copies : AreAtFresh s node args parts
  pub product_is : IsProduct s parts x

-- the whole argument of a constructor
abbrev pub IsArgument : Store → ℕ → Option ConInfo → TyId → Type 0
IsArgument s node None x = IsNothing s x
IsArgument s node (Some con) x = IsWhole s node con.args x

abbrev pub IsField : Store → ℕ → Option FieldInfo → TyId → Type 0
IsField s node None x = IsNothing s x
IsField s node (Some f) x = IsAtFresh s node (s.declared f.arg.ty.0) x

-- a copy of a declared type, in which abbreviations are expanded, with arguments for its parameters
abbrev pub IsExpanded : Store → TyId → List TyId → TyId → Type 0
IsExpanded s body args x = (y : TyId) × (s.declared body.0 ≡ Some y) × IsCopy s (at_arguments args) y x

-- a declaration at arguments: a node, or the copy of what it abbreviates
abbrev pub IsNamed : Store → ℕ → Option TyId → List TyId → TyId → Type 0
IsNamed s decl None args x = node_at s.nodes x ≡ Some (Con decl args)
IsNamed s decl (Some body) args x = IsExpanded s body args x

-- arrows from parameters to a result, made from the last parameter to the first, each with the next slot
pub data Arrows (s : Store) : ℕ → List TyId → TyId → ℕ → TyId → Type 0 where
  no_arrow : (k : ℕ) (to : TyId) → Arrows s k [] to k to
  arrow_from : (k m : ℕ) (from : TyId) (params : List TyId) (to y x : TyId) → Arrows s k params to m y → node_at s.nodes x ≡ Some (Arrow m from y) → Arrows s k (from ∷ params) to (m + 1) x

-- The id is the type that the term makes. The arrows that the term itself makes have the slots from the
-- first number up to but not including the second, each one of them once, in the order in which they
-- are made; copies keep the slots of what they are copies of; and an unknown makes no arrow.
mutual
  pub data Spells (s : Store) (decls : List DeclInfo) : ℕ → Term → ℕ → TyId → Type 0 where
    is_unknown : (k : ℕ) (t : Term) (x : TyId) (u : Unknown) → t ≡ v.Of u → s.ids u ≡ Some x → Spells s decls k t k x
    is_top : (k : ℕ) (t : Term) (x : TyId) (binder node : ℕ) → t ≡ v.Top binder node → IsTop s binder node x → Spells s decls k t k x
    is_operation : (k : ℕ) (t : Term) (x : TyId) (op : Op) (node : ℕ) → t ≡ v.Operation op node → IsOperation s op node x → Spells s decls k t k x
    is_made : (k : ℕ) (t : Term) (x : TyId) (decl node : ℕ) → t ≡ v.Made decl node → IsMade s decl node (vars_of (slice_get decls decl)) x → Spells s decls k t k x
    is_argument : (k : ℕ) (t : Term) (x : TyId) (decl con node : ℕ) → t ≡ v.Argument decl con node → IsArgument s node (slice_get (cons_of (slice_get decls decl)) con) x → Spells s decls k t k x
    is_field : (k : ℕ) (t : Term) (x : TyId) (decl field node : ℕ) → t ≡ v.Field decl field node → IsField s node (slice_get (fields_of (slice_get decls decl)) field) x → Spells s decls k t k x
    is_named : (k m : ℕ) (t : Term) (x : TyId) (decl : ℕ) (args : List Term) (xs : List TyId) → t ≡ v.Con decl args → SpellAll s decls k args m xs → IsNamed s decl (alias_of (slice_get decls decl)) xs x → Spells s decls k t m x
    is_tuple : (k m : ℕ) (t : Term) (x : TyId) (parts : List Term) (xs : List TyId) → t ≡ v.Tuple parts → SpellAll s decls k parts m xs → node_at s.nodes x ≡ Some (Tuple xs) → Spells s decls k t m x
    is_function : (k l m n : ℕ) (t : Term) (x : TyId) (params : List Term) (result : Term) (xs : List TyId) (y : TyId) → t ≡ v.Function params result → SpellAll s decls k params l xs → Spells s decls l result m y → Arrows s m xs y n x → Spells s decls k t n x

  pub data SpellAll (s : Store) (decls : List DeclInfo) : ℕ → List Term → ℕ → List TyId → Type 0 where
    no_term : (k : ℕ) → SpellAll s decls k [] k []
    term_and : (k m n : ℕ) (t : Term) (ts : List Term) (x : TyId) (xs : List TyId) → Spells s decls k t m x → SpellAll s decls m ts n xs → SpellAll s decls k (t ∷ ts) n (x ∷ xs)

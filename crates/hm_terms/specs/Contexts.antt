-- What terms are read by, as what the solver knows of it.
use Rattle.std.specs.Prelude.{◌≡◌, ℕ, ◌<◌, List, Option, Some, None, slice_get}
use Rattle.ml_types.specs.declared.node.TyId.{TyId}
use Rattle.ml_types.specs.declared.node.TyNode.{TyNode}
use Rattle.ml_types.specs.Types.{Tree, parts_of}
use Rattle.ml_types.specs.declared.declared.DeclInfo.{DeclInfo}
use Rattle.ml_tree.specs.declared.reference.Op.{Op}
use Rattle.ml_tree.specs.declared.reference.Op.TheVariants.{PrintString, PrintInt, PrintChar, PrerrString, StringOfInt, IntOfChar, CharOfInt, StringLength, StringGet, Exit, Failwith}
use Rattle.ml_typing.specs.Terms.{Context}
use Rattle.hm_unify.specs.Solutions.{Stands, node_at, link}
use Rattle.hm_terms.specs.Stores.{Store, IsReady}

-- an id from before the item, under which this type stands
pub record Shows (s : Store) (x : TyId) (w : Tree) : Type 0 where
  pub before : x.0 < s.mark
  pub stands : Stands s.nodes s.bound x w

-- the place of an operation
abbrev pub op_place : Op → ℕ
op_place PrintString = 0
op_place PrintInt = 1
op_place PrintChar = 2
op_place PrerrString = 3
op_place StringOfInt = 4
op_place IntOfChar = 5
op_place CharOfInt = 6
op_place StringLength = 7
op_place StringGet = 8
op_place Exit = 9
op_place Failwith = 10

-- the type of a name of an earlier item, where it has one
abbrev pub ShowsAny : Store → Option TyId → Option Tree → Type 0
ShowsAny s None w = w ≡ None
ShowsAny s (Some x) w = (t : Tree) × (w ≡ Some t) × Shows s x t

-- the declarations, the declared types that have ids, the operations and the schemes are those of the context
pub record IsRead (s : Store) (decls : List DeclInfo) (c : Context) : Type 0 where
  pub ready : IsReady s
  pub decls_are : c.decls ≡ decls
  pub declared : (x y : TyId) → s.declared x.0 ≡ Some y → Shows s y (c.declared x)
  pub schemes : (b : ℕ) → ShowsAny s (s.schemes b) (c.scheme b)
  pub operations : (op : Op) (x : TyId) → slice_get s.operations (op_place op) ≡ Some x → Shows s x (c.operation op)
  pub closed_links : (x y : TyId) → x.0 < s.mark → link s.nodes s.bound x ≡ Some y → y.0 < s.mark
  pub closed_parts : (x p : TyId) (n : TyNode) (i : ℕ) → x.0 < s.mark → node_at s.nodes x ≡ Some n → slice_get (parts_of n) i ≡ Some p → p.0 < s.mark

-- how many parameters a declaration has
abbrev pub vars_of : Option DeclInfo → ℕ
vars_of None = 0
vars_of (Some d) = d.vars

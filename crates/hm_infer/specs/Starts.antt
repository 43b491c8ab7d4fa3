-- What inference begins with.
use Rattle.std.specs.Prelude.{◌≡◌, ℕ, List, ◌++◌, [], ◌∷◌, None, slice_index_or}
use Rattle.ml_types.specs.declared.node.TyId.{TyId}
use Rattle.ml_types.specs.declared.node.TyNode.{TyNode}
use Rattle.ml_types.specs.declared.node.TyNode.TheVariants.{Arrow}
use Rattle.ml_types.specs.Types.{Tree, Leaf}
use Rattle.ml_tree.specs.declared.reference.Op.TheVariants.{PrintString, PrintInt, PrintChar, PrerrString, StringOfInt, IntOfChar, CharOfInt, StringLength, StringGet, Exit, Failwith}
use Rattle.ml_typing.specs.Typing.{plain_type, operation_type}
use Rattle.hm_unify.specs.Solutions.{Stands}
use Rattle.hm_terms.specs.Stores.{Store, AddsNode, AddsOperation, IsClosed}
use Rattle.hm_infer.specs.declared.operations.Basic.{Basic}

-- the next operation is a function from one type to another
pub record AddsFunction (old new : Store) (from to : TyId) : Type 0 where
  pub middle : Store
  pub slot : ℕ
  pub id : TyId
  pub node : AddsNode old middle (Arrow slot from to) id
  pub operation : AddsOperation middle new id

-- no variable is bound, and no operation has a type yet
pub record IsFirst (s : Store) : Type 0 where
  pub closed : IsClosed s.nodes s.bound
  pub free : (n : ℕ) → slice_index_or s.bound n None ≡ None
  pub no_operations : s.operations ≡ []

-- ids that stand for these types
abbrev pub AllStand : Store → List TyId → List Tree → Type 0
AllStand s [] [] = Unit {0}
AllStand s [] (w ∷ ws) = ⊥
AllStand s (x ∷ xs) [] = ⊥
AllStand s (x ∷ xs) (w ∷ ws) = Stands s.nodes s.bound x w × AllStand s xs ws

-- more nodes at the end, where no variable is bound, and these types for the first operations
pub record HaveTypes (old new : Store) (types : List Tree) : Type 0 where
  pub more : List TyNode
  pub nodes : new.nodes ≡ old.nodes ++ more
  pub closed : IsClosed new.nodes new.bound
  pub free : (n : ℕ) → slice_index_or new.bound n None ≡ None
  pub schemes : (b : ℕ) → new.schemes b ≡ old.schemes b
  pub declared : (n : ℕ) → new.declared n ≡ old.declared n
  pub mark : new.mark ≡ old.mark
  pub typed : AllStand new new.operations types

-- the types of which those of the operations are made
pub record AreBasic (s : Store) (b : Basic) : Type 0 where
  pub int : Stands s.nodes s.bound b.int (plain_type 0)
  pub char : Stands s.nodes s.bound b.char (plain_type 1)
  pub string : Stands s.nodes s.bound b.string (plain_type 2)
  pub unit : Stands s.nodes s.bound b.unit (plain_type 4)
  pub any : Stands s.nodes s.bound b.any (Leaf 0)

-- the types of all operations, in their order
abbrev pub operation_types : List Tree
operation_types = operation_type PrintString ∷ operation_type PrintInt ∷ operation_type PrintChar ∷ operation_type PrerrString ∷ operation_type StringOfInt ∷ operation_type IntOfChar ∷ operation_type CharOfInt ∷ operation_type StringLength ∷ operation_type StringGet ∷ operation_type Exit ∷ operation_type Failwith ∷ []

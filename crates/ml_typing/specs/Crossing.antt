-- The axes of modes that a type crosses.
use Rattle.std.specs.Prelude.{ℕ, Bool, true, false, cond, nat_eq, List, [], ◌∷◌, Option, Some, None, slice_get}
use Rattle.ml_types.specs.declared.node.TyId.{TyId}
use Rattle.ml_types.specs.declared.node.TyNode.{TyNode}
use Rattle.ml_types.specs.declared.node.TyNode.TheVariants.{Var, Con, Tuple, Arrow}
use Rattle.ml_types.specs.declared.declared.DeclInfo.{DeclInfo}
use Rattle.ml_types.specs.declared.declared.ConInfo.{ConInfo}
use Rattle.ml_types.specs.declared.declared.ArgInfo.{ArgInfo}
use Rattle.ml_typing.specs.declared.crossing.Cross.{Cross}

abbrev pub no_axis : Cross
no_axis = record { loc = false; uni = false; aff = false }

abbrev pub all_axes : Cross
all_axes = record { loc = true; uni = true; aff = true }

-- a text is never copied to another place, so it does not cross locality
abbrev pub text_axes : Cross
text_axes = record { loc = false; uni = true; aff = true }

abbrev pub is_constant : List ArgInfo → Bool
is_constant [] = true
is_constant (a ∷ as_) = false

abbrev pub all_constant : List ConInfo → Bool
all_constant [] = true
all_constant (c ∷ cs) = cond (is_constant c.args) (all_constant cs) false

-- a variant whose constructors all have no field
abbrev pub is_enumeration : List ConInfo → Bool
is_enumeration [] = false
is_enumeration (c ∷ cs) = all_constant (c ∷ cs)

abbrev pub cons_of : Option DeclInfo → List ConInfo
cons_of None = []
cons_of (Some info) = info.cons

-- int is 0, char is 1 and string is 2; bool and unit are enumerations
abbrev pub declared_axes : List DeclInfo → ℕ → Cross
declared_axes decls d = cond (nat_eq d 0) all_axes (cond (nat_eq d 1) all_axes (cond (nat_eq d 2) text_axes (cond (is_enumeration (cons_of (slice_get decls d))) all_axes no_axis)))

abbrev pub axes : List DeclInfo → Option TyNode → Cross
axes decls None = no_axis
axes decls (Some (Var v)) = no_axis
axes decls (Some (Con d args)) = declared_axes decls d
axes decls (Some (Tuple parts)) = no_axis
axes decls (Some (Arrow slot from to)) = no_axis

-- the node that a table has at an id
abbrev pub type_of_node : List TyNode → Option TyId → Option TyNode
type_of_node table None = None
type_of_node table (Some x) = slice_get table x.0

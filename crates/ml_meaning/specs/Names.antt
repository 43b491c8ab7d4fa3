-- What the nodes of a program name, and the constructors of its declarations.
use Rattle.std.specs.Prelude.{ℕ, List, [], ◌∷◌, Option, Some, None, ◌==◌, if◌then◌else◌}
use Rattle.ml_tree.specs.declared.reference.Ref.{Ref}
use Rattle.ml_tree.specs.declared.reference.Ref.TheVariants as ref
use Rattle.ml_tree.specs.declared.pattern.ConName.{ConName}
use Rattle.ml_tree.specs.declared.pattern.ConName.TheVariants as con

-- the value that stands with this number, the first where it stands several times
abbrev pub lookup : {A : Type 0} → ℕ → List (ℕ × A) → Option A
lookup n [] = None
lookup n (x ∷ xs) = if x.0 == n then Some x.1 else lookup n xs

-- what the nodes name
abbrev pub References : Type 0
References = ℕ → Option Ref

-- the constructor that this node names, by its place in its declaration
abbrev pub place_of : Option Ref → Option ℕ
place_of (Some (ref.Con decl place)) = Some place
place_of _ = None

abbrev pub constructor_place : References → ConName → ℕ → Option ℕ
constructor_place names (con.Named name) node = place_of (names node)
constructor_place names con.True node = Some 1
constructor_place names con.False node = Some 0
constructor_place names con.Unit node = Some 0
constructor_place names con.Nil node = Some 0

abbrev pub field_of : Option Ref → Option ℕ
field_of (Some (ref.Field decl place)) = Some place
field_of _ = None

-- the place in its record of the field that this node names
abbrev pub field_place : References → ℕ → Option ℕ
field_place names node = field_of (names node)

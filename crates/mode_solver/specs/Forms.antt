-- Lists of forms, apart from the rules and spans of their clauses.
use Rattle.std.specs.Prelude.{◌≡◌, ℕ, Bool, List, [], ◌∷◌, Some, slice_get}
use Rattle.mode_lattice.specs.declared.clause.Bit.{Bit}
use Rattle.mode_lattice.specs.declared.clause.Form.{Form}
use Rattle.mode_lattice.specs.declared.clause.Form.TheVariants.{Imply, Force, Forbid}
use Rattle.mode_lattice.specs.Clauses.{Holds, IsBelow}

-- a table obeys each of the forms
pub record Fits (t : ℕ → Bool) (forms : List Form) : Type 0 where
  pub each : (i : ℕ) (f : Form) → slice_get forms i ≡ Some f → Holds t f

-- each bit of the forms is below this number
pub record AllBelow (bits : ℕ) (forms : List Form) : Type 0 where
  pub each : (i : ℕ) (f : Form) → slice_get forms i ≡ Some f → IsBelow bits f

-- the numbers of forms that lead from a bit by implications to a forbidden one
abbrev pub Leads : List Form → Bit → List ℕ → Type 0
Leads forms bit [] = ⊥
Leads forms bit (n ∷ []) = slice_get forms n ≡ Some (Forbid bit)
Leads forms bit (n ∷ m ∷ rest) = (next : Bit) × (slice_get forms n ≡ Some (Imply bit next)) × Leads forms next (m ∷ rest)

-- the numbers of forms that lead from a forced bit by implications to a forbidden one
abbrev pub IsPath : List Form → List ℕ → Type 0
IsPath forms [] = ⊥
IsPath forms (n ∷ rest) = (bit : Bit) × (slice_get forms n ≡ Some (Force bit)) × Leads forms bit rest

-- the form that a table fits where the table with the opposite bits fits this one
abbrev pub turned : Form → Form
turned (Imply x y) = Imply y x
turned (Force x) = Forbid x
turned (Forbid x) = Force x

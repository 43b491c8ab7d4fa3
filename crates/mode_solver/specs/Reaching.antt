-- The bits that the forms so far make true, in the order in which they were found.
use Rattle.std.specs.Prelude.{◌≡◌, ℕ, ◌+◌, ◌<◌, ◌≤◌, List, [], ◌∷◌, ◌++◌, length, Option, Some, None, slice_get, slice_set, ◌⊎◌, reverse}
use Rattle.mode_lattice.specs.declared.clause.Bit.{Bit}
use Rattle.mode_lattice.specs.declared.clause.Form.{Form}
use Rattle.mode_lattice.specs.declared.clause.Form.TheVariants.{Imply, Force}
use Rattle.mode_solver.specs.declared.reach.Reached.{Reached}
use Rattle.mode_solver.specs.Forms.{Leads, IsPath}
use Rattle.mode_solver.specs.Graph.{entry}

-- how many bits have no place yet
abbrev pub room : List (Option ℕ) → ℕ
room [] = 0
room (None ∷ rest) = room rest + 1
room (Some p ∷ rest) = room rest

-- the bit has a place among those reached
abbrev pub IsOn : List (Option ℕ) → Bit → Type 0
IsOn place b = (p : ℕ) × (entry place b.0 ≡ Some p)

-- Why the bit at place p is true: a form forces it, or one implies it from a bit at an earlier place.
abbrev pub Cause : List Form → List (Option ℕ) → ℕ → Reached → Type 0
Cause seen place p e = (slice_get seen e.clause ≡ Some (Force e.bit)) ⊎ ((a : Bit) × (q : ℕ) × (slice_get seen e.clause ≡ Some (Imply a e.bit)) × (entry place a.0 ≡ Some q) × (q < p))

pub record IsReach (seen : List Form) (place : List (Option ℕ)) (reached : List Reached) : Type 0 where
  pub at : (p : ℕ) (e : Reached) → slice_get reached p ≡ Some e → entry place e.bit.0 ≡ Some p
  pub cause : (p : ℕ) (e : Reached) → slice_get reached p ≡ Some e → Cause seen place p e
  pub on : (b : Bit) (p : ℕ) → entry place b.0 ≡ Some p → (e : Reached) × (slice_get reached p ≡ Some e) × (e.bit ≡ b)
  pub rooms : room place + length reached ≡ length place

-- The bits reached stay so, at their places.
pub record Grows (place : List (Option ℕ)) (reached : List Reached) (place' : List (Option ℕ)) (reached' : List Reached) : Type 0 where
  pub on : (b : Bit) (p : ℕ) → entry place b.0 ≡ Some p → entry place' b.0 ≡ Some p
  pub kept : (p : ℕ) (e : Reached) → slice_get reached p ≡ Some e → slice_get reached' p ≡ Some e
  pub count : length place' ≡ length place
  pub longer : length reached ≤ length reached'

-- A bit was reached by a clause, unless it was reached before.
pub data Marks (place : List (Option ℕ)) (reached : List Reached) (bit : Bit) (clause : ℕ) (place' : List (Option ℕ)) (reached' : List Reached) : Type 0 where
  Before : (p : ℕ) → entry place bit.0 ≡ Some p → place' ≡ place → reached' ≡ reached → Marks place reached bit clause place' reached'
  Now : entry place bit.0 ≡ None → place' ≡ slice_set place bit.0 (Some (length reached)) → reached' ≡ reached ++ record { bit = bit; clause = clause } ∷ [] → Marks place reached bit clause place' reached'

-- Each bit that a form forces is reached. At the places below `done`, the bits that are implied are
-- reached, and none is forbidden.
pub record IsDone (seen : List Form) (forbidden place : List (Option ℕ)) (reached : List Reached) (done : ℕ) : Type 0 where
  pub forced : (b : Bit) (j : ℕ) → slice_get seen j ≡ Some (Force b) → IsOn place b
  pub implied : (p : ℕ) (e : Reached) → p < done → slice_get reached p ≡ Some e → (b : Bit) (j : ℕ) → slice_get seen j ≡ Some (Imply e.bit b) → IsOn place b
  pub free : (p : ℕ) (e : Reached) → p < done → slice_get reached p ≡ Some e → entry forbidden e.bit.0 ≡ None

-- how far a walk down clauses or places has to go
abbrev pub rank : Option ℕ → ℕ
rank None = 0
rank (Some p) = p + 1

-- A walk over the implications from a bit: those above the next one have been followed.
pub record IsWalk (seen : List Form) (place : List (Option ℕ)) (bit : Bit) (edge : Option ℕ) : Type 0 where
  pub here : (j : ℕ) → edge ≡ Some j → (b : Bit) × (slice_get seen j ≡ Some (Imply bit b))
  pub rest : (b : Bit) (j : ℕ) → slice_get seen j ≡ Some (Imply bit b) → IsOn place b ⊎ ((m : ℕ) × (edge ≡ Some m) × (j ≤ m))

-- A path read backwards from a forbidden bit: it leads on from the bit at the next place, or is whole.
abbrev pub Trail : List Form → List Reached → Option ℕ → List ℕ → Type 0
Trail seen reached None path = IsPath seen (reverse path)
Trail seen reached (Some p) path = (e : Reached) × (slice_get reached p ≡ Some e) × Leads seen e.bit (reverse path)

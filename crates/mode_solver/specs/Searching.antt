-- What a search keeps of the forms that were taken, and what its answer says.
use Rattle.std.specs.Prelude.{◌≡◌, ℕ, ◌+◌, ◌<◌, Bool, true, false, List, length, slice_index_or, take}
use Rattle.mode_lattice.specs.declared.clause.Bit.{Bit}
use Rattle.mode_lattice.specs.declared.clause.Form.{Form}
use Rattle.mode_solver.specs.declared.search.Search.{Search}
use Rattle.mode_solver.specs.declared.search.Outcome.{Outcome}
use Rattle.mode_solver.specs.declared.search.Outcome.TheVariants.{Least, Conflict}
use Rattle.mode_solver.specs.Forms.{Fits, IsPath}
use Rattle.mode_solver.specs.Graph.{IsGraph, IsMarked}
use Rattle.mode_solver.specs.Reaching.{IsOn, IsReach, IsDone}

-- The search has taken these forms, and has followed the implications from the places below `done`.
pub record IsSearch (seen : List Form) (s : Search) (done : ℕ) : Type 0 where
  pub graph : IsGraph seen s.implications.first.items s.implications.next.items
  pub marked : IsMarked seen s.forbidden.items
  pub reach : IsReach seen s.reach.place.items s.reach.reached.items
  pub followed : IsDone seen s.forbidden.items s.reach.place.items s.reach.reached.items done
  pub first_count : length s.implications.first.items ≡ length s.reach.place.items
  pub forbidden_count : length s.forbidden.items ≡ length s.reach.place.items

-- The search has taken these forms and followed every implication, and has met no forbidden bit.
abbrev pub IsComplete : List Form → Search → Type 0
IsComplete seen s = IsSearch seen s (length s.reach.reached.items)

-- This bit must be true, and is forbidden.
pub record IsBlocked (seen : List Form) (s : Search) (bit : Bit) : Type 0 where
  pub marked : IsMarked seen s.forbidden.items
  pub reach : IsReach seen s.reach.place.items s.reach.reached.items
  pub on : IsOn s.reach.place.items bit
  pub forbids : IsOn s.forbidden.items bit
  pub forbidden_count : length s.forbidden.items ≡ length s.reach.place.items

-- The table has the bits that each table which fits the forms has, and fits them.
pub record IsLeastOf (bits : ℕ) (forms : List Form) (table : List Bool) : Type 0 where
  pub count : length table ≡ bits
  pub fits : Fits (λ b. slice_index_or table b false) forms
  pub least : (t : ℕ → Bool) → Fits t forms → (b : ℕ) → b < bits → slice_index_or table b false ≡ true → t b ≡ true

-- The table has the bits that some table which fits the forms has, and fits them.
pub record IsGreatestOf (bits : ℕ) (forms : List Form) (table : List Bool) : Type 0 where
  pub count : length table ≡ bits
  pub fits : Fits (λ b. slice_index_or table b false) forms
  pub greatest : (t : ℕ → Bool) → Fits t forms → (b : ℕ) → b < bits → t b ≡ true → slice_index_or table b false ≡ true

-- Form k ends the shortest beginning that no table fits, and the path shows it.
pub record IsConflictOf (forms : List Form) (k : ℕ) (path : List ℕ) : Type 0 where
  pub within : k < length forms
  pub before : (t : ℕ → Bool) × Fits t (take k forms)
  pub path_is : IsPath (take (k + 1) forms) path

abbrev pub IsOutcome : ℕ → List Form → Outcome → Type 0
IsOutcome bits forms (Least table) = IsLeastOf bits forms table.items
IsOutcome bits forms (Conflict last path) = IsConflictOf forms last path

-- What the lists of implications and of forbidden bits keep of the forms that were taken.
use Rattle.std.specs.Prelude.{◌≡◌, ℕ, ◌<◌, ◌≤◌, List, length, Option, Some, None, slice_get, slice_index_or}
use Rattle.mode_lattice.specs.declared.clause.Bit.{Bit}
use Rattle.mode_lattice.specs.declared.clause.Form.{Form}
use Rattle.mode_lattice.specs.declared.clause.Form.TheVariants.{Imply, Forbid}

-- what a list of entries has at a number
abbrev pub entry : List (Option ℕ) → ℕ → Option ℕ
entry list i = slice_index_or list i None

-- From the last implication of a bit, which `first` has, `next` leads to all earlier ones, downwards.
pub record IsGraph (seen : List Form) (first next : List (Option ℕ)) : Type 0 where
  pub count : length next ≡ length seen
  pub first_is : (a : Bit) (j : ℕ) → entry first a.0 ≡ Some j → (b : Bit) × (slice_get seen j ≡ Some (Imply a b))
  pub next_is : (a b : Bit) (j m : ℕ) → slice_get seen j ≡ Some (Imply a b) → entry next j ≡ Some m → (m < j) × ((c : Bit) × (slice_get seen m ≡ Some (Imply a c)))
  pub first_all : (a b : Bit) (j : ℕ) → slice_get seen j ≡ Some (Imply a b) → (m : ℕ) × (entry first a.0 ≡ Some m) × (j ≤ m)
  pub next_all : (a b c : Bit) (j m : ℕ) → slice_get seen m ≡ Some (Imply a c) → slice_get seen j ≡ Some (Imply a b) → j < m → (l : ℕ) × (entry next m ≡ Some l) × (j ≤ l)

-- `forbidden` has a form that forbids the bit, for each bit that one forbids.
pub record IsMarked (seen : List Form) (forbidden : List (Option ℕ)) : Type 0 where
  pub is : (b : Bit) (j : ℕ) → entry forbidden b.0 ≡ Some j → slice_get seen j ≡ Some (Forbid b)
  pub all : (b : Bit) (j : ℕ) → slice_get seen j ≡ Some (Forbid b) → (m : ℕ) × (entry forbidden b.0 ≡ Some m)

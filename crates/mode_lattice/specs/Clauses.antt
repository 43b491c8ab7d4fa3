-- When a table of bits obeys a list of clauses, and what shows that none does.
use Rattle.std.specs.Prelude.{◌≡◌, ℕ, ◌<◌, Bool, true, false, List, [], ◌∷◌, length, Option, Some, slice_get, slice_index_or, take, ◌+◌}
use Rattle.std.specs.Option.{option_map}
use Rattle.oxml_base.specs.declared.refusal.Refusal.{Refusal}
use Rattle.mode_lattice.specs.declared.clause.Bit.{Bit}
use Rattle.mode_lattice.specs.declared.clause.Clause.{Clause}
use Rattle.mode_lattice.specs.declared.clause.ClauseList.{ClauseList}
use Rattle.mode_lattice.specs.declared.clause.Form.{Form}
use Rattle.mode_lattice.specs.declared.clause.Form.TheVariants.{Imply, Force, Forbid}
use Rattle.mode_lattice.specs.declared.table.Table.{Table}

-- a table gives each bit's number a value
abbrev pub Holds : (ℕ → Bool) → Form → Type 0
Holds t (Imply x y) = t x.0 ≡ true → t y.0 ≡ true
Holds t (Force x) = t x.0 ≡ true
Holds t (Forbid x) = t x.0 ≡ false

pub record Obeys (t : ℕ → Bool) (list : List Clause) : Type 0 where
  pub each : (i : ℕ) (c : Clause) → slice_get list i ≡ Some c → Holds t c.form

abbrev pub IsBelow : ℕ → Form → Type 0
IsBelow bits (Imply x y) = (x.0 < bits) × (y.0 < bits)
IsBelow bits (Force x) = x.0 < bits
IsBelow bits (Forbid x) = x.0 < bits

-- each bit of the clauses is one of the list's bits
pub record IsClosed (c : ClauseList) : Type 0 where
  pub each : (i : ℕ) (clause : Clause) → slice_get c.list i ≡ Some clause → IsBelow c.bits clause.form

-- the value that a table gives a bit
abbrev pub value : Table → ℕ → Bool
value table bit = slice_index_or table.bits bit false

-- the least of the tables that obey the clauses: a bit that it has is a bit of each of them
pub record IsLeast (c : ClauseList) (table : Table) : Type 0 where
  pub count : length table.bits ≡ c.bits
  pub obeys : Obeys (value table) c.list
  pub least : (t : ℕ → Bool) → Obeys t c.list → (bit : ℕ) → bit < c.bits → value table bit ≡ true → t bit ≡ true

-- the greatest of the tables that obey the clauses: it has each bit that one of them has
pub record IsGreatest (c : ClauseList) (table : Table) : Type 0 where
  pub count : length table.bits ≡ c.bits
  pub obeys : Obeys (value table) c.list
  pub greatest : (t : ℕ → Bool) → Obeys t c.list → (bit : ℕ) → bit < c.bits → t bit ≡ true → value table bit ≡ true

abbrev pub form_at : List Clause → ℕ → Option Form
form_at list n = option_map (λ c. c.form) (slice_get list n)

-- the numbers of clauses that lead from a bit by implications to one that is forbidden
abbrev pub LeadsToForbidden : List Clause → Bit → List ℕ → Type 0
LeadsToForbidden list bit [] = ⊥
LeadsToForbidden list bit (n ∷ []) = form_at list n ≡ Some (Forbid bit)
LeadsToForbidden list bit (n ∷ m ∷ rest) = (next : Bit) × (form_at list n ≡ Some (Imply bit next)) × LeadsToForbidden list next (m ∷ rest)

-- the numbers of clauses that lead from a forced bit by implications to a forbidden one
abbrev pub IsConflict : List Clause → List ℕ → Type 0
IsConflict list [] = ⊥
IsConflict list (n ∷ rest) = (bit : Bit) × (form_at list n ≡ Some (Force bit)) × LeadsToForbidden list bit rest

-- No table obeys the clauses: clause k ends the shortest beginning of the list that none obeys, the
-- refusal is by that clause, and the path shows it. It stands in the first k + 1 clauses, so none of its
-- numbers is above k.
pub record IsRefused (c : ClauseList) (k : ℕ) (refusal : Refusal) (path : List ℕ) : Type 0 where
  pub last : (clause : Clause) × (slice_get c.list k ≡ Some clause) × (refusal.rule ≡ clause.rule) × (refusal.span ≡ clause.span)
  pub before : (t : ℕ → Bool) × Obeys t (take k c.list)
  pub none : (t : ℕ → Bool) → Obeys t (take (k + 1) c.list) → ⊥
  pub path_is : IsConflict (take (k + 1) c.list) path

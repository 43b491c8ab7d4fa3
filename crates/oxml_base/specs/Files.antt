-- The files of the system, as the outside is seen: they tell no bytes.
use Rattle.std.specs.Prelude.{◌≡◌, ℕ, ◌+◌, ◌≤◌, ◌++◌, List, false, None, string_bytes}
use Rattle.oxml_base.specs.Outside.{ShelfView}
use Rattle.oxml_base.specs.declared.file_shelf.Progress.{Progress}
use Rattle.oxml_base.specs.declared.file_shelf.Progress.TheVariants.{Some, End, TooLong}
use Rattle.oxml_base.specs.declared.last_fault.LastFault.{LastFault}

-- what is seen of a shelf with this count of faults and this last one
abbrev pub file_view : ℕ → LastFault → ShelfView
file_view faults last_fault = record {
  tells = false;
  held = λ _. None;
  faults = faults;
  last_fault = record { call = last_fault.call; name = string_bytes last_fault.name };
}

-- bytes came behind those that were there
pub record Grows (old new : List ℕ) : Type 0 where
  pub more : List ℕ
  pub appended : new ≡ old ++ more

-- what a call of `read` gave changes the length of the room by what it says
abbrev pub Takes : Progress → ℕ → ℕ → ℕ → Type 0
Takes (Some n) before after left = (n ≤ left) × (after ≡ before + n)
Takes End before after left = after ≡ before
Takes TooLong before after left = Unit {0}

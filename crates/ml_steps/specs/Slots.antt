-- The places of a record while they are filled with values.
use Rattle.std.specs.Prelude.{ℕ, zero, suc, List, [], ◌∷◌, Option, Some, None, map}
use Rattle.std.specs.Option.{option_map}
use Rattle.ml_meaning.specs.Values.{Value}
use Rattle.ml_values.specs.declared.value.Word.{Word}
use Rattle.ml_values.specs.Shown.{value}

abbrev pub shown : List (Option Word) → List (Option Value)
shown slots = map (option_map value) slots

-- the value that is there, else this one
abbrev pub value_or : Option Value → Value → Value
value_or None v = v
value_or (Some u) v = u

-- the value of a place that has none yet; the first one stays
abbrev pub filled : List (Option Value) → ℕ → Value → List (Option Value)
filled [] place v = []
filled (slot ∷ slots) zero v = Some (value_or slot v) ∷ slots
filled (slot ∷ slots) (suc place) v = slot ∷ filled slots place v

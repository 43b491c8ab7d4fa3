-- The events that are told, as the meaning tells them.
use Rattle.std.specs.Prelude.{ℕ, List, [], ◌∷◌}
use Rattle.std.specs.List.{flat_map}
use Rattle.ml_meaning.specs.declared.event.Event.{Event}
use Rattle.ml_meaning.specs.declared.event.Event.TheVariants as event
use Rattle.ml_meaning.specs.Tellings as t
use Rattle.ml_values.specs.declared.told.Failure.{Failure}
use Rattle.ml_values.specs.declared.told.Failure.TheVariants as failure
use Rattle.ml_values.specs.declared.told.Mode.{Mode}
use Rattle.ml_values.specs.declared.told.Mode.TheVariants as mode

abbrev pub failure_of : Failure → t.Failure
failure_of failure.ByZero = t.ByZero
failure_of failure.NoMatch = t.NoMatch
failure_of failure.Failed = t.Failed
failure_of failure.Invalid = t.Invalid

abbrev pub mode_of : Mode → t.Mode
mode_of mode.Inner = t.Inner
mode_of (mode.Last weight) = t.Last weight

-- the bytes that are written on a channel
abbrev pub puts : ℕ → List ℕ → List Event
puts channel bytes = flat_map (λ b. event.Put channel b ∷ []) bytes

-- the end of a region, and of a call, in tail position
abbrev pub closes : Mode → List Event
closes mode.Inner = []
closes (mode.Last weight) = event.Close ∷ []

abbrev pub leaves : Mode → List Event
leaves mode.Inner = []
leaves (mode.Last weight) = event.Leave weight ∷ []

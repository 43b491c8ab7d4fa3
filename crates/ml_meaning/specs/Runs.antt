-- A run: the events that were told, in order, with the value that it gave or how it stopped.
use Rattle.std.specs.Prelude.{List, ◌++◌}
use Rattle.ml_meaning.specs.declared.event.Ending.{Ending}

-- how a run stops: as programs end, or where no rule of the language applies
pub data Stopped : Type 0 where
  Ended : Ending → Stopped
  Stuck : Stopped

pub data Run (E A : Type 0) : Type 0 where
  Done : List E → A → Run E A
  Stop : List E → Stopped → Run E A

-- these events come first
abbrev pub after : {E A : Type 0} → List E → Run E A → Run E A
after es (Done fs a) = Done (es ++ fs) a
after es (Stop fs end) = Stop (es ++ fs) end

infixl 30 ◌>>=◌
-- the first run, and then the one that its value gives
abbrev pub ◌>>=◌ : {E A B : Type 0} → Run E A → (A → Run E B) → Run E B
(Done es a) >>= f = after es (f a)
(Stop es end) >>= f = Stop es end

-- the events of a run
abbrev pub trace : {E A : Type 0} → Run E A → List E
trace (Done es a) = es
trace (Stop es end) = es

-- How the runs of a program at two numbers of fuel lie to one another.
use Rattle.std.specs.Prelude.{◌≡◌, List, ◌++◌}
use Rattle.ml_meaning.specs.declared.event.Ending.TheVariants as ending
use Rattle.ml_meaning.specs.Runs.{Run, Done, Stop, Ended, Stuck, trace}

-- the first list begins the second
abbrev pub Begins : {A : Type 0} → List A → List A → Type 0
Begins {A} xs ys = (rest : List A) × (xs ++ rest ≡ ys)

-- A run that wants fuel begins the other; each other run is the other.
abbrev pub GoesOn : {E A : Type 0} → Run E A → Run E A → Type 0
GoesOn (Done es a) r = r ≡ Done es a
GoesOn (Stop es (Ended ending.More)) r = Begins es (trace r)
GoesOn (Stop es (Ended (ending.Exit status))) r = r ≡ Stop es (Ended (ending.Exit status))
GoesOn (Stop es Stuck) r = r ≡ Stop es Stuck

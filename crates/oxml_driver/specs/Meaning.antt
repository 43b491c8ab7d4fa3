-- What the program of a source means, as an executable has to agree with it.
use Rattle.std.specs.Prelude.{ℕ}
use Rattle.ml_tree.specs.declared.scoped.Scoped.{Scoped}
use Rattle.ml_meaning.specs.declared.event.Ending.TheVariants as ending
use Rattle.ml_meaning.specs.Programs.{eval}
use Rattle.ml_meaning.specs.Runs.{Stopped, Ended}
use Rattle.ml_meaning.specs.Traces.{bytes}
use Rattle.x64_table.specs.Agreement.{Meant, Outcome, Ends, More}

-- how an evaluation that stopped ends; one that wants fuel, or where no rule applies, has not ended
abbrev pub outcome : Stopped → Outcome
outcome (Ended (ending.Exit status)) = Ends status
outcome _ = More

-- the ending and the bytes of the pure meaning with so much fuel
abbrev pub meaning_of : Scoped → ℕ → Meant
meaning_of s fuel = record { ending = outcome (eval fuel s).1; out = bytes (eval fuel s).0 }

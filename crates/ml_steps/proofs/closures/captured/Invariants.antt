use Rattle.ml_values.specs.Shown.{names, values_list}
use Rattle.ml_steps.specs.Worlds.{setting_of}
use Rattle.ml_steps.proofs.Lists.{Captures}
use Rattle.ml_steps.proofs.closures.captured.Given as goal

abbrev pub invariant-loop-name : goal.invariant-loop-name
invariant-loop-name l = Captures (setting_of l.world) l.captures l.name-iterator.iter.rest.now (names l.env) (values_list l.words)

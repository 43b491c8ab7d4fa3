use Rattle.ml_values.specs.Shown.{value}
use Rattle.ml_steps.specs.Worlds.{setting_of}
use Rattle.ml_steps.proofs.Passing.{Passes}
use Rattle.ml_steps.proofs.arms.choose.Given as goal

abbrev pub invariant-loop-at : goal.invariant-loop-at
invariant-loop-at l = Passes (setting_of l.world) l.arms l.from l.at l.here (value l.word)

use Rattle.std.proofs.Common.{length}
use Rattle.ml_values.specs.Shown.{values_list}
use Rattle.ml_steps.specs.Worlds.{setting_of}
use Rattle.ml_run.specs.Stack.{Tells, values_onto, values_run}
use Rattle.ml_run.proofs.items.item_words.Given as goal

abbrev pub invariant-loop-bind : goal.invariant-loop-bind
invariant-loop-bind l =
    Tells l.fn.out.items l.out.items (values_run (setting_of l.world) l.binds l.fuel) (values_onto (setting_of l.world) l.left l.fuel (values_list l.words))

abbrev pub decreases-loop-bind : goal.decreases-loop-bind
decreases-loop-bind l = length l.left

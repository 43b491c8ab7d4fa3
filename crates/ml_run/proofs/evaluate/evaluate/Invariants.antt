use Rattle.std.proofs.Common.{◌≡◌, []}
use Rattle.ml_steps.specs.Left.{next_run}
use Rattle.ml_steps.specs.Worlds.{setting_of}
use Rattle.ml_run.specs.Stack.{Tells, left_run}
use Rattle.ml_run.proofs.evaluate.evaluate.Given as goal

abbrev pub invariant-turns : goal.invariant-turns
invariant-turns l = record {
  none_told : l.told.items ≡ [];
  left : Tells l.fn.out.items l.out.items (next_run (setting_of l.world) l.first) (left_run (setting_of l.world) l.frames.items l.next);
}

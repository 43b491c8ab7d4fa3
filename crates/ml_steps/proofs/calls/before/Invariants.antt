use Rattle.std.proofs.Common.{map, ◌++◌}
use Rattle.ml_values.specs.Shown.{value, values_list}
use Rattle.ml_steps.proofs.Lists.{Befores}
use Rattle.ml_steps.proofs.calls.before.Given as goal

abbrev pub invariant-loop-word : goal.invariant-loop-word
invariant-loop-word l = Befores l.word-iterator.iter.rest.now (values_list l.all) (map value l.list ++ values_list l.fn.rest)

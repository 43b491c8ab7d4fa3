use Rattle.std.proofs.Common.{◌≡◌, length}
use Rattle.ml_values.specs.Shown.{values_list}
use Rattle.ml_steps.proofs.Lists.{Takes}
use Rattle.ml_steps.proofs.calls.split.Given as goal

abbrev pub invariant-loop : goal.invariant-loop
invariant-loop l = record { taken : Takes l.list.items l.rest (values_list l.words); many : length l.list.items ≡ l.counter }

use Rattle.std.proofs.Common.{◌≡◌, ◌++◌}
use Rattle.ml_values.specs.Shown.{names}
use Rattle.ml_run.specs.Whole.{tops_of}
use Rattle.ml_run.proofs.items.listed.Given as goal

abbrev pub invariant-loop-rest : goal.invariant-loop-rest
invariant-loop-rest l = tops_of l.list.items ++ names l.rest ≡ names l.env

use Rattle.std.proofs.Common.{◌≡◌, map, drop}
use Rattle.ml_scope.specs.Journal.{each}
use Rattle.ml_scope.specs.Patterns.{param_binders}
use Rattle.ml_scope.proofs.binder.of_params.Given as goal

abbrev pub invariant-loop-one : goal.invariant-loop-one
invariant-loop-one l = each (map param_binders (drop l.one-index l.params)) l.list ≡ each (map param_binders l.params) l.initial.list

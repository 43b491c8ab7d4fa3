use Rattle.std.proofs.Common.{◌≡◌, map, drop}
use Rattle.ml_scope.specs.Journal.{each}
use Rattle.ml_scope.specs.Patterns.{binders, field_binders}
use Rattle.ml_scope.proofs.binder.+binders.Given as goal

abbrev pub invariant-of_patterns-loop-one : goal.invariant-of_patterns-loop-one
invariant-of_patterns-loop-one l = each (map binders (drop l.one-index l.parts)) l.list ≡ each (map binders l.parts) l.initial.list

abbrev pub invariant-of_fields-loop-one : goal.invariant-of_fields-loop-one
invariant-of_fields-loop-one l = each (map field_binders (drop l.one-index l.parts)) l.list ≡ each (map field_binders l.parts) l.initial.list

use Rattle.std.proofs.Common.{◌≡◌, map, drop}
use Rattle.ml_scope.specs.Journal.{each}
use Rattle.ml_scope.specs.Types.{type_look}
use Rattle.ml_scope.proofs.types.+types.Given as goal

abbrev pub invariant-type_exprs-loop-one : goal.invariant-type_exprs-loop-one
invariant-type_exprs-loop-one l = each (map (type_look l.known) (drop l.one-index l.list)) l.journal ≡ each (map (type_look l.known) l.list) l.initial.journal

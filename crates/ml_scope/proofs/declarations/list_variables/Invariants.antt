use Rattle.std.proofs.Common.{◌≡◌, map, drop}
use Rattle.ml_scope.specs.Journal.{each}
use Rattle.ml_scope.specs.Items.{lists}
use Rattle.ml_scope.proofs.declarations.list_variables.Given as goal

abbrev pub invariant-loop-one : goal.invariant-loop-one
invariant-loop-one l = each (map lists (drop l.one-index l.list)) l.journal ≡ each (map lists l.list) l.initial.journal

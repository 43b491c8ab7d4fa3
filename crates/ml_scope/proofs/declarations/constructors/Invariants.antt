use Rattle.std.proofs.Common.{◌≡◌, map, drop}
use Rattle.ml_scope.specs.Journal.{each}
use Rattle.ml_scope.specs.Items.{con_look}
use Rattle.ml_scope.proofs.declarations.constructors.Given as goal

abbrev pub invariant-loop-one : goal.invariant-loop-one
invariant-loop-one l = each (map (con_look l.known) (drop l.one-index l.list)) l.journal ≡ each (map (con_look l.known) l.list) l.initial.journal

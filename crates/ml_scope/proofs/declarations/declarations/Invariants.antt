use Rattle.std.proofs.Common.{◌≡◌, map, drop}
use Rattle.ml_scope.specs.Journal.{each}
use Rattle.ml_scope.specs.Items.{decl_look}
use Rattle.ml_scope.proofs.declarations.declarations.Given as goal

abbrev pub invariant-loop-one : goal.invariant-loop-one
invariant-loop-one l = each (map (decl_look l.known) (drop l.one-index l.list)) l.journal ≡ each (map (decl_look l.known) l.list) l.initial.journal

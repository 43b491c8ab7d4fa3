use Rattle.std.proofs.Common.{◌≡◌, map, drop}
use Rattle.ml_scope.specs.Journal.{each}
use Rattle.ml_scope.specs.Items.{item_look, program_look}
use Rattle.ml_scope.proofs.items.program.Given as goal

abbrev pub invariant-loop-one : goal.invariant-loop-one
invariant-loop-one l = each (map item_look (drop l.one-index l.items)) l.world ≡ program_look l.text l.items

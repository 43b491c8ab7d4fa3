use Rattle.std.proofs.Common.{drop}
use Rattle.ml_tree.specs.declared.scoped.Scoped.{Scoped}
use Rattle.ml_run.specs.Whole.{IsProgram}
use Rattle.ml_run.proofs.Wholes.{Went}
use Rattle.ml_run.proofs.program.run_items.Given as goal

abbrev pub invariant-loop-item : goal.invariant-loop-item
invariant-loop-item l =
    (s : Scoped) → IsProgram s l.tables → Went s l.fuel l.fn.out.items l.out.items l.tops.items (drop l.item-index l.item-items)

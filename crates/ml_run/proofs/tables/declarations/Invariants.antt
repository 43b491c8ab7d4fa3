use Rattle.std.proofs.Common.{◌≡◌, take}
use Rattle.std.specs.List.{flat_map}
use Rattle.ml_meaning.specs.Programs.{declarations_of}
use Rattle.ml_run.specs.Whole.{decls_of}
use Rattle.ml_run.proofs.tables.declarations.Given as goal

abbrev pub invariant-loop-item : goal.invariant-loop-item
invariant-loop-item l = decls_of l.list.items ≡ flat_map (λ i. declarations_of i.kind) (take l.item-index l.items)

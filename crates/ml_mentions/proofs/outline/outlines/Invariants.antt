use Rattle.std.proofs.Common.{◌≡◌, ◌++◌, map, drop}
use Rattle.ml_mentions.specs.Programs.{declarations, outline}
use Rattle.ml_mentions.proofs.outline.outlines.Given as goal

abbrev pub invariant-loop-item : goal.invariant-loop-item
invariant-loop-item l = l.made ++ map outline (declarations (drop l.item-index l.items)) ≡ map outline (declarations l.items)

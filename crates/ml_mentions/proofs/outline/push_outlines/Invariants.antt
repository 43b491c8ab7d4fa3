use Rattle.std.proofs.Common.{◌≡◌, ◌++◌, map, drop}
use Rattle.ml_mentions.specs.Programs.{outline}
use Rattle.ml_mentions.proofs.outline.push_outlines.Given as goal

abbrev pub invariant-loop-one : goal.invariant-loop-one
invariant-loop-one l = l.made ++ map outline (drop l.one-index l.list) ≡ l.initial.made ++ map outline l.list

use Rattle.std.proofs.Common.{◌≡◌, ◌++◌, map, drop}
use Rattle.ml_mentions.specs.Lists.{all}
use Rattle.ml_mentions.specs.Programs.{con_mentions}
use Rattle.ml_mentions.proofs.outline.push_cons.Given as goal

abbrev pub invariant-loop-one : goal.invariant-loop-one
invariant-loop-one l = l.list ++ all (map con_mentions (drop l.one-index l.cons)) ≡ l.initial.list ++ all (map con_mentions l.cons)

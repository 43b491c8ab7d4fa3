use Rattle.std.proofs.Common.{◌≡◌, ◌++◌, map, drop}
use Rattle.ml_mentions.specs.Lists.{all}
use Rattle.ml_mentions.specs.Mentions.{mentions}
use Rattle.ml_mentions.proofs.mentions.+types.Given as goal

abbrev pub invariant-push_types-loop-one : goal.invariant-push_types-loop-one
invariant-push_types-loop-one l = l.list ++ all (map mentions (drop l.one-index l.types)) ≡ l.initial.list ++ all (map mentions l.types)

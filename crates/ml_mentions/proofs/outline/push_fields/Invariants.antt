use Rattle.std.proofs.Common.{◌≡◌, ◌++◌, map, drop}
use Rattle.ml_mentions.specs.Lists.{all}
use Rattle.ml_mentions.specs.Programs.{field_mentions}
use Rattle.ml_mentions.proofs.outline.push_fields.Given as goal

abbrev pub invariant-loop-one : goal.invariant-loop-one
invariant-loop-one l = l.list ++ all (map field_mentions (drop l.one-index l.fields)) ≡ l.initial.list ++ all (map field_mentions l.fields)

use Rattle.std.proofs.Common.{◌≡◌, ◌++◌, map, drop}
use Rattle.ml_mentions.specs.Lists.{all}
use Rattle.ml_mentions.specs.Written.{in_field_pattern}
use Rattle.ml_mentions.specs.Written.{in_pattern}
use Rattle.ml_mentions.proofs.written.+patterns.Given as goal

abbrev pub invariant-patterns-loop-one : goal.invariant-patterns-loop-one
invariant-patterns-loop-one l = l.found ++ all (map in_pattern (drop l.one-index l.list)) ≡ l.initial.found ++ all (map in_pattern l.list)

abbrev pub invariant-field_patterns-loop-one : goal.invariant-field_patterns-loop-one
invariant-field_patterns-loop-one l = l.found ++ all (map in_field_pattern (drop l.one-index l.list)) ≡ l.initial.found ++ all (map in_field_pattern l.list)

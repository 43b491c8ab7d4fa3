use Rattle.std.proofs.Common.{◌≡◌, ◌++◌, map, drop}
use Rattle.ml_mentions.specs.Lists.{all}
use Rattle.ml_mentions.specs.Written.{in_arm}
use Rattle.ml_mentions.specs.Written.{in_bind}
use Rattle.ml_mentions.specs.Written.{in_expr}
use Rattle.ml_mentions.specs.Written.{in_field}
use Rattle.ml_mentions.proofs.written.+expressions.Given as goal

abbrev pub invariant-expressions-loop-one : goal.invariant-expressions-loop-one
invariant-expressions-loop-one l = l.found ++ all (map in_expr (drop l.one-index l.list)) ≡ l.initial.found ++ all (map in_expr l.list)

abbrev pub invariant-fields-loop-one : goal.invariant-fields-loop-one
invariant-fields-loop-one l = l.found ++ all (map in_field (drop l.one-index l.list)) ≡ l.initial.found ++ all (map in_field l.list)

abbrev pub invariant-arms-loop-one : goal.invariant-arms-loop-one
invariant-arms-loop-one l = l.found ++ all (map in_arm (drop l.one-index l.list)) ≡ l.initial.found ++ all (map in_arm l.list)

abbrev pub invariant-bindings-loop-one : goal.invariant-bindings-loop-one
invariant-bindings-loop-one l = l.found ++ all (map in_bind (drop l.one-index l.list)) ≡ l.initial.found ++ all (map in_bind l.list)

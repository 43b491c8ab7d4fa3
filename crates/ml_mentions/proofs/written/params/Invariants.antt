use Rattle.std.proofs.Common.{◌≡◌, ◌++◌, map, drop}
use Rattle.ml_mentions.specs.Lists.{all}
use Rattle.ml_mentions.specs.Written.{in_param}
use Rattle.ml_mentions.proofs.written.params.Given as goal

abbrev pub invariant-loop-one : goal.invariant-loop-one
invariant-loop-one l = l.found ++ all (map in_param (drop l.one-index l.list)) ≡ l.initial.found ++ all (map in_param l.list)

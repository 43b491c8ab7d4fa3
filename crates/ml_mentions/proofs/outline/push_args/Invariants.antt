use Rattle.std.proofs.Common.{◌≡◌, ◌++◌, map, drop}
use Rattle.ml_mentions.specs.Lists.{all}
use Rattle.ml_mentions.specs.Mentions.{arg_mentions}
use Rattle.ml_mentions.proofs.outline.push_args.Given as goal

abbrev pub invariant-loop-one : goal.invariant-loop-one
invariant-loop-one l = l.list ++ all (map arg_mentions (drop l.one-index l.args)) ≡ l.initial.list ++ all (map arg_mentions l.args)

use Rattle.std.proofs.Common.{◌≡◌, ◌++◌, map, drop}
use Rattle.ml_mentions.specs.Lists.{all}
use Rattle.ml_decls.specs.Verdicts.{target}
use Rattle.ml_decls.proofs.cycles.named.Given as goal

abbrev pub invariant-loop-one : goal.invariant-loop-one
invariant-loop-one l = l.list ++ all (map (target l.s.types) (drop l.one-index l.mentions)) ≡ all (map (target l.s.types) l.mentions)

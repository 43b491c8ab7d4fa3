use Rattle.std.proofs.Common.{◌≡◌, ◌++◌, map, drop}
use Rattle.ml_mentions.specs.Lists.{all}
use Rattle.ml_decls.specs.Verdicts.{verdict}
use Rattle.ml_decls.proofs.references.report_mentions.Given as goal

abbrev pub invariant-loop-one : goal.invariant-loop-one
invariant-loop-one l = l.offences ++ all (map (verdict l.s.types l.counts l.listed) (drop l.one-index l.mentions)) ≡ l.initial.offences ++ all (map (verdict l.s.types l.counts l.listed) l.mentions)

use Rattle.std.proofs.Common.{◌≡◌, ◌++◌, map, drop}
use Rattle.ml_mentions.specs.Lists.{all}
use Rattle.ml_decls.specs.Verdicts.{outline_verdicts}
use Rattle.ml_decls.proofs.references.report_outlines.Given as goal

abbrev pub invariant-loop-one : goal.invariant-loop-one
invariant-loop-one l = l.offences ++ all (map (outline_verdicts l.s.types l.counts) (drop l.one-index l.outlines)) ≡ l.initial.offences ++ all (map (outline_verdicts l.s.types l.counts) l.outlines)

use Rattle.std.proofs.Common.{◌≡◌, ◌++◌, map, drop}
use Rattle.ml_mentions.specs.declared.outline.Outline.{Outline}
use Rattle.ml_decls.specs.Verdicts.{outline_counts}
use Rattle.ml_decls.proofs.references.variable_counts.Given as goal

abbrev pub invariant-loop-one : goal.invariant-loop-one
invariant-loop-one l = l.counts ++ map (λ (o : Outline). o.variables) (drop l.one-index l.outlines) ≡ outline_counts l.outlines

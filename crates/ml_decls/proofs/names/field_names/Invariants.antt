use Rattle.std.proofs.Common.{◌≡◌, ◌++◌, map, drop}
use Rattle.ml_mentions.specs.Lists.{all}
use Rattle.ml_mentions.specs.declared.outline.Outline.{Outline}
use Rattle.ml_decls.proofs.names.field_names.Given as goal

abbrev pub invariant-loop-one : goal.invariant-loop-one
invariant-loop-one l = l.names ++ all (map (λ (o : Outline). o.fields) (drop l.one-index l.outlines)) ≡ all (map (λ (o : Outline). o.fields) l.outlines)

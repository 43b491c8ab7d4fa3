use Rattle.std.proofs.Common.{◌≡◌, ◌++◌, map, drop}
use Rattle.ml_mentions.specs.declared.outline.Outline.{Outline}
use Rattle.ml_decls.proofs.names.type_names.Given as goal

abbrev pub invariant-loop-one : goal.invariant-loop-one
invariant-loop-one l = l.names ++ map (λ (o : Outline). o.name) (drop l.one-index l.outlines) ≡ map (λ (o : Outline). o.name) l.outlines

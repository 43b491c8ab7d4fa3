use Rattle.std.proofs.Common.{◌≡◌, ◌++◌, map, drop}
use Rattle.ml_tree.specs.declared.types.FieldDecl.{FieldDecl}
use Rattle.ml_mentions.proofs.outline.field_names.Given as goal

abbrev pub invariant-loop-one : goal.invariant-loop-one
invariant-loop-one l = l.names ++ map (λ (f : FieldDecl). f.name) (drop l.one-index l.fields) ≡ map (λ (f : FieldDecl). f.name) l.fields

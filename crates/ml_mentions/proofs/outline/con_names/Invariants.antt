use Rattle.std.proofs.Common.{◌≡◌, ◌++◌, map, drop}
use Rattle.ml_tree.specs.declared.types.ConDecl.{ConDecl}
use Rattle.ml_mentions.proofs.outline.con_names.Given as goal

abbrev pub invariant-loop-one : goal.invariant-loop-one
invariant-loop-one l = l.names ++ map (λ (c : ConDecl). c.name) (drop l.one-index l.cons) ≡ map (λ (c : ConDecl). c.name) l.cons

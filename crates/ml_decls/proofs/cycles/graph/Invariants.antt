use Rattle.std.proofs.Common.{◌≡◌, ◌++◌, map, drop}
use Rattle.ml_decls.specs.Verdicts.{targets}
use Rattle.ml_decls.proofs.cycles.graph.Given as goal

abbrev pub invariant-loop-one : goal.invariant-loop-one
invariant-loop-one l = l.graph ++ map (targets l.s.types) (drop l.one-index l.outlines) ≡ map (targets l.s.types) l.outlines

use Rattle.std.proofs.Common.{◌≡◌, ◌++◌, map, drop}
use Rattle.ml_typing.specs.Written.{Names}
use Rattle.ml_typing.specs.Rows.{each_is, at}
use Rattle.ml_typing.specs.Steps.{expression}
use Rattle.hm_steps.proofs.expression_rows.elements.Given as goal

abbrev pub invariant-loop-e : goal.invariant-loop-e
invariant-loop-e l = (names : Names) → l.all ++ each_is (at l.n 0) (map (expression names) (drop l.e-index l.parts)) ≡ l.fn.list ++ each_is (at l.n 0) (map (expression names) l.parts)

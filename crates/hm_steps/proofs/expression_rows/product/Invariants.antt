use Rattle.std.proofs.Common.{◌≡◌, ◌++◌, map, drop}
use Rattle.ml_typing.specs.Written.{Names}
use Rattle.ml_typing.specs.Rows.{type_of}
use Rattle.ml_typing.specs.Steps.{expression}
use Rattle.hm_steps.proofs.expression_rows.product.Given as goal

abbrev pub invariant-loop-e : goal.invariant-loop-e
invariant-loop-e l = (names : Names) → l.terms ++ map type_of (map (expression names) (drop l.e-index l.list)) ≡ map type_of (map (expression names) l.list)

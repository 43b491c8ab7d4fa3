use Rattle.std.proofs.Common.{◌≡◌, ◌++◌, map, drop}
use Rattle.ml_typing.specs.Written.{Names}
use Rattle.ml_typing.specs.Rows.{pattern, type_of}
use Rattle.hm_steps.proofs.pattern_rows.product.Given as goal

abbrev pub invariant-loop-q : goal.invariant-loop-q
invariant-loop-q l = (names : Names) → l.terms ++ map type_of (map (pattern names) (drop l.q-index l.list)) ≡ map type_of (map (pattern names) l.list)

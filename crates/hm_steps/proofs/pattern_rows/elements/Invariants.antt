use Rattle.std.proofs.Common.{◌≡◌, ◌++◌, map, drop}
use Rattle.ml_typing.specs.Written.{Names}
use Rattle.ml_typing.specs.Rows.{pattern, each_is, at}
use Rattle.hm_steps.proofs.pattern_rows.elements.Given as goal

abbrev pub invariant-loop-q : goal.invariant-loop-q
invariant-loop-q l = (names : Names) → l.all ++ each_is (at l.n 0) (map (pattern names) (drop l.q-index l.parts)) ≡ l.fn.list ++ each_is (at l.n 0) (map (pattern names) l.parts)

use Rattle.std.proofs.Common.{◌≡◌, ◌++◌, map, drop}
use Rattle.ml_typing.specs.Written.{Names}
use Rattle.ml_typing.specs.Rows.{type_of}
use Rattle.ml_typing.specs.Steps.{param_parts}
use Rattle.hm_steps.proofs.pattern_rows.types_of.Given as goal

abbrev pub invariant-loop-param : goal.invariant-loop-param
invariant-loop-param l = (names : Names) → l.terms ++ map type_of (param_parts names (drop l.param-index l.list)) ≡ map type_of (param_parts names l.list)

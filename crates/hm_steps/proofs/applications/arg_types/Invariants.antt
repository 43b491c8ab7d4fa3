use Rattle.std.proofs.Common.{◌≡◌, ◌++◌, map, drop}
use Rattle.ml_typing.specs.Written.{Names}
use Rattle.ml_typing.specs.Steps.{expression, args_are}
use Rattle.hm_steps.proofs.applications.arg_types.Given as goal

abbrev pub invariant-loop-number : goal.invariant-loop-number
invariant-loop-number l = (names : Names) → l.all ++ args_are l.n l.number (map (expression names) (drop l.number l.args)) ≡ l.fn.list ++ args_are l.n 0 (map (expression names) l.args)

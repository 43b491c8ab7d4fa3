use Rattle.std.proofs.Common.{◌≡◌, ◌++◌, drop}
use Rattle.ml_typing.specs.Rows.{all_steps}
use Rattle.ml_typing.specs.Steps.{param_parts}
use Rattle.ml_typing.specs.Typing.{names_of}
use Rattle.hm_steps.proofs.patterns.params.Given as goal

abbrev pub invariant-loop-param : goal.invariant-loop-param
invariant-loop-param l = l.steps ++ all_steps (param_parts (names_of l.s.refs l.s.types l.item) (drop l.param-index l.list)) ≡ l.fn.steps ++ all_steps (param_parts (names_of l.s.refs l.s.types l.item) l.list)

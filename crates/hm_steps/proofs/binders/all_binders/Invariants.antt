use Rattle.std.proofs.Common.{◌≡◌, ◌++◌, drop}
use Rattle.ml_typing.specs.Steps.{bind_binders}
use Rattle.hm_steps.proofs.binders.all_binders.Given as goal

abbrev pub invariant-loop-bind : goal.invariant-loop-bind
invariant-loop-bind l = l.numbers ++ bind_binders (drop l.bind-index l.list) ≡ bind_binders l.list

use Rattle.hm_unify.specs.Closing.{IsClosure}
use Rattle.hm_unify.proofs.closure.close.Given as goal

abbrev pub invariant-loop-step : goal.invariant-loop-step
invariant-loop-step l = IsClosure l.nodes l.bound l.pairs l.classes l.todo.items l.seen.items

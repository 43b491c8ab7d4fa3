use Rattle.graph_cycles.specs.Walks.{IsWalk}
use Rattle.graph_cycles.proofs.walk.Walk.explore.Given as goal

abbrev pub invariant-loop : goal.invariant-loop
invariant-loop l = IsWalk l.graph l.self

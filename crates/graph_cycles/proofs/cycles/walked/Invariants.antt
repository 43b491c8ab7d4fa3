use Rattle.graph_cycles.specs.Groups.{Sound}
use Rattle.graph_cycles.proofs.cycles.walked.Given as goal

abbrev pub invariant-loop-root : goal.invariant-loop-root
invariant-loop-root l = Sound l.graph l.walk.cyclic.items

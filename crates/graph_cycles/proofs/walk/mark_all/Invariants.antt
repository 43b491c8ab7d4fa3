use Rattle.std.proofs.Common.{ℕ, List}
use Rattle.graph_cycles.specs.Groups.{Sound, AllCyclic}
use Rattle.graph_cycles.proofs.walk.mark_all.Given as goal

abbrev pub invariant-loop-node : goal.invariant-loop-node
invariant-loop-node l = (graph : List (List ℕ)) → Sound graph l.initial.cyclic.items → AllCyclic graph l.nodes → Sound graph l.cyclic.items

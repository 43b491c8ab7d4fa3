use Rattle.std.proofs.Common.{◌≡◌, ◌<◌, ℕ, Some, slice_get}
use Rattle.graph_cycles.specs.Groups.{Fits}
use Rattle.graph_cycles.proofs.certificate.is_node_certified.Given as goal

abbrev pub invariant-loop-to : goal.invariant-loop-to
invariant-loop-to l = (k b : ℕ) → k < l.to-index → slice_get l.successors k ≡ Some b → b < l.count → Fits l.ranks l.cyclic l.from b

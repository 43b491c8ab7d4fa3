use Rattle.std.proofs.Common.{◌≡◌, ◌<◌, ℕ, length}
use Rattle.graph_cycles.specs.Paths.{Edge}
use Rattle.graph_cycles.specs.Groups.{Fits}
use Rattle.graph_cycles.proofs.certificate.is_certified.Given as goal

abbrev pub invariant-loop-successors : goal.invariant-loop-successors
invariant-loop-successors l = record {
  place : l.from ≡ l.successors-index;
  so_far : (a b : ℕ) → a < l.successors-index → Edge l.graph a b → b < length l.graph → Fits l.ranks l.cyclic a b;
}

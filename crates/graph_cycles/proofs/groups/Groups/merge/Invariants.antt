use Rattle.std.proofs.Common.{◌≡◌}
use Rattle.graph_cycles.specs.Groups.{IsMerged}
use Rattle.graph_cycles.proofs.groups.Groups.merge.Given as goal

abbrev pub invariant-loop : goal.invariant-loop
invariant-loop l = record {
  nodes : l.self.nodes.items ≡ l.initial.self.nodes.items;
  begins : IsMerged l.initial.self.begins.items l.self.begins.items l.place;
}

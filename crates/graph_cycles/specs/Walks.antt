-- What holds of a walk over a graph.
use Rattle.std.specs.Prelude.{List, ℕ}
use Rattle.graph_cycles.specs.declared.walk.Walk.{Walk}
use Rattle.graph_cycles.specs.Groups.{IsGrouped, Sound}

pub record IsWalk (graph : List (List ℕ)) (walk : Walk) : Type 0 where
  pub grouped : IsGrouped graph walk.groups.nodes.items walk.groups.begins.items
  pub sound : Sound graph walk.cyclic.items

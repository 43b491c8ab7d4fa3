-- Paths one behind the other.
use Rattle.std.proofs.Common.{ℕ, ◌<◌, List, length}
use Rattle.std.proofs.lemmas.Option.{slice_get_within}
use Rattle.graph_cycles.specs.Paths.{Path, by_edge, then_on}

pub joined : {graph : List (List ℕ)} → (a b c : ℕ) → Path graph a b → Path graph b c → Path graph a c
joined a b c (by_edge _ _ e) q = then_on a b c e q
joined a b c (then_on _ m _ e p) q = then_on a m c e (joined m b c p q)

-- a path leads away from a node
pub from_node : {graph : List (List ℕ)} → (a b : ℕ) → Path graph a b → a < length graph
from_node a b (by_edge _ _ e) = slice_get_within _ _ _ e.has
from_node a b (then_on _ m _ e p) = slice_get_within _ _ _ e.has

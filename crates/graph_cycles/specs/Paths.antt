-- Paths in a graph, which is the list of each node's successors.
use Rattle.std.specs.Prelude.{◌≡◌, ℕ, List, Some, slice_get}

-- an edge leads from a to b
pub record Edge (graph : List (List ℕ)) (a b : ℕ) : Type 0 where
  pub successors : List ℕ
  pub place : ℕ
  pub has : slice_get graph a ≡ Some successors
  pub leads : slice_get successors place ≡ Some b

-- one edge or several lead from a to b
pub data Path (graph : List (List ℕ)) : ℕ → ℕ → Type 0 where
  by_edge : (a b : ℕ) → Edge graph a b → Path graph a b
  then_on : (a b c : ℕ) → Edge graph a b → Path graph b c → Path graph a c

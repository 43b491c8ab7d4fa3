-- What a walk over a graph keeps, and what its answer is checked by.
use Rattle.std.specs.Prelude.{◌≡◌, ◌⊎◌, ℕ, ◌<◌, ◌≤◌, ◌+◌, List, Some, true, Bool, slice_get, slice_index_or, length}
use Rattle.graph_cycles.specs.Paths.{Edge, Path}

abbrev pub Rise : List ℕ → Type 0
Rise begins = (i j s t : ℕ) → i < j → slice_get begins i ≡ Some s → slice_get begins j ≡ Some t → s ≤ t

-- no group begins behind place i and up to place j
abbrev pub Together : List ℕ → ℕ → ℕ → Type 0
Together begins i j = (k s : ℕ) → slice_get begins k ≡ Some s → i < s → s ≤ j → ⊥

-- each open node leads to those behind it, and those of one group lead to each other
pub record IsGrouped (graph : List (List ℕ)) (nodes : List ℕ) (begins : List ℕ) : Type 0 where
  pub along : (i j a b : ℕ) → i < j → slice_get nodes i ≡ Some a → slice_get nodes j ≡ Some b → Path graph a b
  pub back : (i j a b : ℕ) → i < j → slice_get nodes i ≡ Some a → slice_get nodes j ≡ Some b → Together begins i j → Path graph b a
  pub rise : Rise begins

-- no group begins behind this place
abbrev pub NoneBehind : List ℕ → ℕ → Type 0
NoneBehind begins place = (k s : ℕ) → slice_get begins k ≡ Some s → s ≤ place

-- the node stands at this place, in the last group
pub record IsInLast (nodes : List ℕ) (begins : List ℕ) (node : ℕ) (place : ℕ) : Type 0 where
  pub stands : slice_get nodes place ≡ Some node
  pub last : NoneBehind begins place

-- the last group begins here
abbrev pub IsLastBegin : List ℕ → ℕ → Type 0
IsLastBegin begins begin = (k s : ℕ) → k + 1 ≡ length begins → slice_get begins k ≡ Some s → s ≡ begin

-- begins behind this place were dropped, and the others kept
pub record IsMerged (before after : List ℕ) (place : ℕ) : Type 0 where
  pub kept : (k s : ℕ) → slice_get after k ≡ Some s → slice_get before k ≡ Some s
  pub dropped : (k s : ℕ) → slice_get before k ≡ Some s → (slice_get after k ≡ Some s) ⊎ (place < s)

-- each node that is marked leads to itself
abbrev pub Sound : List (List ℕ) → List Bool → Type 0
Sound graph cyclic = (v : ℕ) → slice_get cyclic v ≡ Some true → Path graph v v

-- each of these nodes leads to itself
abbrev pub AllCyclic : List (List ℕ) → List ℕ → Type 0
AllCyclic graph nodes = (k v : ℕ) → slice_get nodes k ≡ Some v → Path graph v v

-- the rank of the target is not greater, and where it is the same the source is marked
pub record Fits (ranks : List ℕ) (cyclic : List Bool) (from to : ℕ) : Type 0 where
  pub falls : slice_index_or ranks to 0 ≤ slice_index_or ranks from 0
  pub marked : slice_index_or ranks to 0 ≡ slice_index_or ranks from 0 → slice_get cyclic from ≡ Some true

-- each edge between nodes fits
abbrev pub Certified : List (List ℕ) → List ℕ → List Bool → Type 0
Certified graph ranks cyclic = (a b : ℕ) → Edge graph a b → b < length graph → Fits ranks cyclic a b

-- Bindings as callers see them, and what each call leaves.
use Rattle.std.specs.Prelude.{◌≡◌, ℕ, ◌+◌, ◌*◌, ◌%◌, ◌<◌, List, [], ◌∷◌, ◌++◌, length, Some, None, slice_get, slice_index_or}
use Rattle.ml_types.specs.declared.node.TyId.{TyId}
use Rattle.ml_types.specs.declared.node.TyNode.{TyNode}
use Rattle.ml_types.specs.declared.node.TyNode.TheVariants.{Var}
use Rattle.ml_types.specs.Types.{parts_of, Tree}
use Rattle.hm_unify.specs.declared.error.UnifyErr.{UnifyErr}
use Rattle.hm_unify.specs.declared.error.UnifyErr.TheVariants.{Clash, Cycle, TooLarge, NoMemory}
use Rattle.hm_unify.specs.Solutions.{Bound, Pairs, node_at, Ends, HasFinite, HasInfinite, NoInfinite, Solves, Equates, Fits, IsFirstFault, IsTooLarge}
use Rattle.hm_unify.specs.Walks.{WalkPairs}

pub record State : Type 0 where
  pub nodes : List TyNode
  pub bound : Bound

-- the same nodes and the same map
pub record IsUnchanged (old new : State) : Type 0 where
  pub nodes : new.nodes ≡ old.nodes
  pub bound : (n : ℕ) → slice_index_or new.bound n None ≡ slice_index_or old.bound n None

-- one node more, at the end; no variable is bound or freed
pub record Adds (old new : State) (node : TyNode) (id : TyId) : Type 0 where
  pub nodes : new.nodes ≡ old.nodes ++ node ∷ []
  pub at_end : id.0 ≡ length old.nodes
  pub bound : (n : ℕ) → slice_index_or new.bound n None ≡ slice_index_or old.bound n None

-- a variable that no node had and that is not bound
pub record AddsFresh (old new : State) (id : TyId) : Type 0 where
  pub number : ℕ
  pub adds : Adds old new (Var number) id
  pub unused : (x : TyId) → node_at old.nodes x ≡ Some (Var number) → ⊥
  pub free : slice_index_or new.bound number None ≡ None

-- a mixed order of variables: chains of variables, bound in it, stay short in practice
abbrev pub priority : ℕ → ℕ
priority n = (n * 2654435769) % 4294967296

abbrev pub rank : ℕ → ℕ
rank n = priority n * 4294967296 + n % 4294967296

-- the tables have fewer nodes than ids can name; every id and variable lies in its table, and chains of bound variables rise in rank
pub record IsTabled (nodes : List TyNode) (bound : Bound) : Type 0 where
  pub parts_in : (x : TyId) (n : TyNode) (i : ℕ) (p : TyId) → node_at nodes x ≡ Some n → slice_get (parts_of n) i ≡ Some p → p.0 < length nodes
  pub variables_in : (x : TyId) (n : ℕ) → node_at nodes x ≡ Some (Var n) → n < length bound
  pub targets_in : (n : ℕ) (y : TyId) → slice_index_or bound n None ≡ Some y → y.0 < length nodes
  pub rising : (n k : ℕ) (y : TyId) → slice_index_or bound n None ≡ Some y → node_at nodes y ≡ Some (Var k) → rank n < rank k

pub record IsSound (nodes : List TyNode) (bound : Bound) : Type 0 where
  pub tabled : IsTabled nodes bound
  pub solvable : HasFinite nodes bound []

-- a table whose ids lie in it, and where no id reaches itself: heights fall from a node to its parts
pub record IsTable (nodes : List TyNode) : Type 0 where
  pub parts_in : (x : TyId) (n : TyNode) (i : ℕ) (p : TyId) → node_at nodes x ≡ Some n → slice_get (parts_of n) i ≡ Some p → p.0 < length nodes
  pub height : TyId → ℕ
  pub falls : (x : TyId) (n : TyNode) (i : ℕ) (p : TyId) → node_at nodes x ≡ Some n → slice_get (parts_of n) i ≡ Some p → height p < height x

-- bindings over a table, in which no variable is bound
pub record IsNew (table : List TyNode) (new : State) : Type 0 where
  pub nodes : new.nodes ≡ table
  pub free : (n : ℕ) → slice_index_or new.bound n None ≡ None

-- the parts of a node lie in the table
abbrev pub PartsWithin : ℕ → TyNode → Type 0
PartsWithin count n = (i : ℕ) (p : TyId) → slice_get (parts_of n) i ≡ Some p → p.0 < count

-- the node that stands for an id under the bindings
abbrev pub IsHead : State → TyId → TyNode → Type 0
IsHead s x n = (e : TyId) × Ends s.nodes s.bound x e × (node_at s.nodes e ≡ Some n)

-- the table in which each id has the node that stands for it
pub record IsTableOf (s : State) (nodes : List TyNode) : Type 0 where
  pub count : length nodes ≡ length s.nodes
  pub heads : (x : TyId) (n : TyNode) → node_at nodes x ≡ Some n → IsHead s x n

-- after the pairs were made equal: they were walked in order, bound variables keep their ids, the
-- solutions are exactly those before in which the two of each pair are equal, and one of these gives
-- no id of the pairs more than 2,000 nodes
pub record Equated (old new : State) (pairs : Pairs) : Type 0 where
  pub nodes : new.nodes ≡ old.nodes
  pub walk : WalkPairs old.nodes old.bound pairs new.bound
  pub keeps : (n : ℕ) (y : TyId) → slice_index_or old.bound n None ≡ Some y → slice_index_or new.bound n None ≡ Some y
  pub forth : (t : TyId → Tree) → Solves old.nodes new.bound t → Solves old.nodes old.bound t × Equates t pairs
  pub back : (t : TyId → Tree) → Solves old.nodes old.bound t → Equates t pairs → Solves old.nodes new.bound t
  pub small : Fits old.nodes old.bound pairs

-- why pairs were refused
abbrev pub Refused : State → Pairs → UnifyErr → Type 0
Refused s pairs (Clash k) = NoInfinite s.nodes s.bound pairs × IsFirstFault s.nodes s.bound pairs k
Refused s pairs (Cycle k) = HasInfinite s.nodes s.bound pairs × IsFirstFault s.nodes s.bound pairs k
Refused s pairs (TooLarge n) = IsTooLarge s.nodes s.bound pairs × (n ≡ 2001)
Refused s pairs NoMemory = Unit {0}

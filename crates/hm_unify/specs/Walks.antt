-- The order in which equations bind variables.
use Rattle.std.specs.Prelude.{◌≡◌, ℕ, ◌<◌, List, [], ◌∷◌, length, Some, slice_set}
use Rattle.ml_types.specs.declared.node.TyId.{TyId}
use Rattle.ml_types.specs.declared.node.TyNode.{TyNode}
use Rattle.ml_types.specs.declared.node.TyNode.TheVariants.{Var}
use Rattle.ml_types.specs.Types.{Head, head_of, parts_of}
use Rattle.hm_unify.specs.Solutions.{Bound, Pairs, Ends, node_at}

-- Making a and b equal takes the bindings m to m'. What stands for a meets what stands for b: the same
-- node or variable binds nothing; a variable that meets another node is bound to its id; two nodes
-- with one head make their parts equal, from the left.
mutual
  pub data Walk (nodes : List TyNode) : Bound → TyId → TyId → Bound → Type 0 where
    same_node : {m : Bound} {a b : TyId} (x : TyId) → Ends nodes m a x → Ends nodes m b x → Walk nodes m a b m
    same_variable : {m : Bound} {a b : TyId} (x y : TyId) (n : ℕ) → Ends nodes m a x → Ends nodes m b y → node_at nodes x ≡ Some (Var n) → node_at nodes y ≡ Some (Var n) → Walk nodes m a b m
    left : {m : Bound} {a b : TyId} (x y : TyId) (n : ℕ) → Ends nodes m a x → Ends nodes m b y → node_at nodes x ≡ Some (Var n) → (node_at nodes y ≡ Some (Var n) → ⊥) → n < length m → Walk nodes m a b (slice_set m n (Some y))
    right : {m : Bound} {a b : TyId} (x y : TyId) (n : ℕ) → Ends nodes m a x → Ends nodes m b y → node_at nodes y ≡ Some (Var n) → (node_at nodes x ≡ Some (Var n) → ⊥) → n < length m → Walk nodes m a b (slice_set m n (Some x))
    parts : {m m' : Bound} {a b : TyId} (x y : TyId) (n k : TyNode) (h : Head) → Ends nodes m a x → Ends nodes m b y → node_at nodes x ≡ Some n → node_at nodes y ≡ Some k → head_of n ≡ Some h → head_of k ≡ Some h → WalkAll nodes m (parts_of n) (parts_of k) m' → Walk nodes m a b m'

  pub data WalkAll (nodes : List TyNode) : Bound → List TyId → List TyId → Bound → Type 0 where
    done : {m : Bound} → WalkAll nodes m [] [] m
    step : {m m1 m2 : Bound} {a b : TyId} {ps qs : List TyId} → Walk nodes m a b m1 → WalkAll nodes m1 ps qs m2 → WalkAll nodes m (a ∷ ps) (b ∷ qs) m2

-- the pairs are walked in order
pub data WalkPairs (nodes : List TyNode) : Bound → Pairs → Bound → Type 0 where
  all_walked : {m : Bound} → WalkPairs nodes m [] m
  next_pair : {m m1 m2 : Bound} (a b : TyId) {ps : Pairs} → Walk nodes m a b m1 → WalkPairs nodes m1 ps m2 → WalkPairs nodes m ((a, b) ∷ ps) m2

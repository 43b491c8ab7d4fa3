-- What an item leaves.
use Rattle.std.specs.Prelude.{◌≡◌, ℕ, Bool, true, false, cond, nat_eq, List, [], ◌∷◌, Option, Some, None}
use Rattle.std.specs.HashMap.{get}
use Rattle.oxml_base.specs.declared.span.Span.{Span}
use Rattle.ml_types.specs.declared.node.TyId.{TyId}
use Rattle.ml_typing.specs.declared.equation.Unknown.TheVariants.{Node, Binder}
use Rattle.ml_typing.specs.declared.equation.Step.{Step}
use Rattle.ml_typing.specs.Typing.{Assignment, is_among}
use Rattle.hm_terms.specs.Stores.{Store, Grows, Forgets}
use Rattle.hm_infer.specs.Running.{IsShown}
use Rattle.hm_infer.specs.Compared.{FirstBad}
use Rattle.hm_infer.specs.declared.items.Found.{Found}

-- each of these names has the type of its unknown as its scheme, and other names have what they had
pub record Closes (old new : Store) (binders : List ℕ) : Type 0 where
  pub middle : Store
  pub grows : Grows old middle
  pub nodes : new.nodes ≡ middle.nodes
  pub bound : new.bound ≡ middle.bound
  pub operations : new.operations ≡ middle.operations
  pub declared : (n : ℕ) → new.declared n ≡ middle.declared n
  pub named : (b : ℕ) → is_among binders b ≡ true → (x : TyId) × (middle.ids (Binder b) ≡ Some x) × (new.schemes b ≡ Some x)
  pub others : (b : ℕ) → is_among binders b ≡ false → new.schemes b ≡ old.schemes b

-- whether a number is that of the node of one of these steps
abbrev pub is_node : Option ℕ → ℕ → Bool
is_node None n = false
is_node (Some m) n = nat_eq m n

abbrev pub has_node : List Step → ℕ → Bool
has_node [] n = false
has_node (s ∷ ss) n = cond (is_node s.node n) true (has_node ss n)

-- each node of these steps has the type of its unknown, and other nodes have what they had
pub record Notes (s : Store) (steps : List Step) (old new : ℕ → Option TyId) : Type 0 where
  pub theirs : (n : ℕ) → has_node steps n ≡ true → (x : TyId) × (s.ids (Node n) ≡ Some x) × (new n ≡ Some x)
  pub others : (n : ℕ) → has_node steps n ≡ false → new n ≡ old n

-- the first bad comparison of all, where the first of the items before is known
abbrev pub Compared : Store → List Step → Option Span → Option Span → Type 0
Compared s steps None bad = (a : Assignment) → IsShown s a → FirstBad steps a bad
Compared s steps (Some span) bad = bad ≡ Some span

-- an item is left: its comparisons, its nodes and its names are noted, and its unknowns are forgotten
pub record Leaves (old new : Store) (steps : List Step) (binders : List ℕ) (found more : Found) : Type 0 where
  pub compared : Compared old steps found.bad more.bad
  pub noted : Notes old steps (get nat_eq found.nodes) (get nat_eq more.nodes)
  pub closed : Store
  pub closes : Closes old closed binders
  pub forgets : Forgets closed new

-- What the laws of typing speak of.
use Rattle.std.specs.Prelude.{◌≡◌, ℕ, Bool, true, false, cond, nat_eq, List, [], ◌∷◌, Option, Some, None, slice_get}
use Rattle.ml_types.specs.Types.{Tree, Leaf}
use Rattle.ml_typing.specs.declared.equation.Unknown.{Unknown}
use Rattle.ml_typing.specs.declared.equation.Unknown.TheVariants as u
use Rattle.ml_typing.specs.declared.equation.Term.{Term, fold-Term}
use Rattle.ml_typing.specs.declared.equation.Term.TheOpen as t
use Rattle.ml_typing.specs.declared.equation.Term.TheOpen.{Term-F}
use Rattle.ml_typing.specs.declared.equation.Equation.{Equation}
use Rattle.ml_typing.specs.declared.equation.Step.{Step}
use Rattle.ml_typing.specs.Terms.{Shape, Is, Context}
use Rattle.ml_typing.specs.Typing.{Assignment, Pair, Satisfies, StandsIn, Occurs, ItemSteps, is_among, pairs, tree_of, at_types}

-- an assignment at other types of its variables
abbrev pub through : (ℕ → Tree) → Assignment → Assignment
through f a = λ v. at_types f (a v)

-- a type for each unknown, over unknowns that stand for themselves, such that exactly the assignments
-- that agree with it are solutions
pub record IsMostGeneral (ps : List Pair) (m : Unknown → Shape) : Type 0 where
  pub solves : (b : Assignment) → ((v : Unknown) → b v ≡ tree_of b (m v)) → Satisfies b ps
  pub forces : (b : Assignment) → Satisfies b ps → (v : Unknown) → b v ≡ tree_of b (m v)
  pub resolved : (w v : Unknown) → StandsIn v (m w) → m v ≡ Is v

-- its types, where each unknown that is left is a variable of its own
abbrev pub typing_of : (Unknown → Shape) → (Unknown → ℕ) → Assignment
typing_of m number = λ w. tree_of (λ v. Leaf (number v)) (m w)

-- the fresh types of a use of an item's name: `uses` gives the name that a node names so
abbrev pub names_none : Option ℕ → Bool
names_none None = true
names_none (Some b) = false

abbrev pub names_this : Option ℕ → ℕ → Bool
names_this None b = false
names_this (Some m) b = nat_eq m b

-- an unknown that is none of these
abbrev pub is_own : (ℕ → Option ℕ) → Unknown → Bool
is_own uses (u.Node n) = true
is_own uses (u.Binder n) = true
is_own uses (u.Fresh n k) = names_none (uses n)

abbrev pub all_true : List Bool → Bool
all_true [] = true
all_true (x ∷ xs) = cond x (all_true xs) false

abbrev pub apart_step : (ℕ → Option ℕ) → Term-F Bool → Bool
apart_step uses (t.Of v) = is_own uses v
apart_step uses (t.Top binder node) = names_this (uses node) binder
apart_step uses (t.Operation op node) = names_none (uses node)
apart_step uses (t.Made d node) = names_none (uses node)
apart_step uses (t.Argument d con node) = names_none (uses node)
apart_step uses (t.Field d f node) = names_none (uses node)
apart_step uses (t.Con d args) = all_true args
apart_step uses (t.Tuple parts) = all_true parts
apart_step uses (t.Function params result) = cond (all_true params) result false

-- a term that speaks of such fresh types only by the use itself
abbrev pub apart : (ℕ → Option ℕ) → Term → Bool
apart uses term = fold-Term Bool (apart_step uses) term

abbrev pub AllApart : (ℕ → Option ℕ) → List Equation → Type 0
AllApart uses [] = Unit {0}
AllApart uses (e ∷ es) = (is_own uses e.left ≡ true) × (apart uses e.right ≡ true) × AllApart uses es

abbrev pub StepsApart : (ℕ → Option ℕ) → List Step → Type 0
StepsApart uses [] = Unit {0}
StepsApart uses (s ∷ ss) = AllApart uses s.equations × StepsApart uses ss

-- an item in which the fresh types of a use stand in no other place, and whose names and compared
-- operands stand in its equations, as in a program whose nodes have numbers of their own
pub record IsApart (uses : ℕ → Option ℕ) (item : ItemSteps) : Type 0 where
  pub steps : StepsApart uses item.steps
  pub binders : (c : Context) (b : ℕ) → is_among item.binders b ≡ true → Occurs (u.Binder b) (pairs c item.steps)
  pub operands : (c : Context) (i : ℕ) (s : Step) (v : Unknown) → slice_get item.steps i ≡ Some s → s.compared ≡ Some v → Occurs v (pairs c item.steps)
  pub operands_own : (i : ℕ) (s : Step) (v : Unknown) → slice_get item.steps i ≡ Some s → s.compared ≡ Some v → is_own uses v ≡ true

abbrev pub ItemsApart : (ℕ → Option ℕ) → List ItemSteps → Type 0
ItemsApart uses [] = Unit {0}
ItemsApart uses (i ∷ is) = IsApart uses i × ItemsApart uses is

-- what the equations of these steps are about has under b the types that it has under a, with other types
-- for the variables
pub record IsSameTypes (steps : List Step) (a b : Assignment) : Type 0 where
  pub types : ℕ → Tree
  pub each : (j : ℕ) (s : Step) (k : ℕ) (e : Equation) → slice_get steps j ≡ Some s → slice_get s.equations k ≡ Some e → b e.left ≡ at_types types (a e.left)

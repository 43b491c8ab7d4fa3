-- The steps of an item as they are run: what the solver knows says what the equations say.
use Rattle.std.specs.Prelude.{◌≡◌, ℕ, ◌+◌, ◌<◌, List, [], ◌∷◌, ◌++◌, length, take, Some, None, slice_get}
use Rattle.oxml_base.specs.declared.span.Span.{Span}
use Rattle.ml_types.specs.declared.node.TyId.{TyId}
use Rattle.ml_types.specs.declared.declared.DeclInfo.{DeclInfo}
use Rattle.ml_types.specs.Types.{Tree, tree_size}
use Rattle.ml_typing.specs.declared.equation.Unknown.{Unknown}
use Rattle.ml_typing.specs.declared.equation.Equation.{Equation}
use Rattle.ml_typing.specs.declared.equation.Step.{Step}
use Rattle.ml_typing.specs.Terms.{Context}
use Rattle.ml_typing.specs.Typing.{Assignment, Pair, Satisfies, Occurs, pairs, step_pairs}
use Rattle.ml_typing.specs.Refusals.{HasSolution, NoSolution}
use Rattle.hm_unify.specs.Solutions.{Pairs, Stands}
use Rattle.hm_terms.specs.Stores.{Store, Reading, Grows}
use Rattle.hm_terms.specs.Shapes.{Holds}
use Rattle.hm_terms.specs.Contexts.{IsRead, Shows}
use Rattle.hm_infer.specs.declared.run.Outcome.{Outcome}
use Rattle.hm_infer.specs.declared.run.Outcome.TheVariants.{Holds as Went, Unsolved, Large}
use Rattle.hm_infer.specs.declared.run.Progress.{Progress}

-- the ids of each pair are the types of its two sides
abbrev pub HoldPairs : Store → List Pair → Pairs → Type 0
HoldPairs s [] [] = Unit {0}
HoldPairs s [] (p ∷ ps) = ⊥
HoldPairs s (q ∷ qs) [] = ⊥
HoldPairs s (q ∷ qs) (p ∷ ps) = Holds s q.0 p.0 × Holds s q.1 p.1 × HoldPairs s qs ps

-- the solver grows, and the ids of each pair are the types of its two sides
pub record LowersPairs (old new : Store) (ps : List Pair) (ids : Pairs) : Type 0 where
  pub grows : Grows old new
  pub hold : HoldPairs new ps ids

-- no unknown of the item has come up
abbrev pub HasNoIds : Store → Type 0
HasNoIds s = (u : Unknown) → s.ids u ≡ None

-- what the solver knows is what these pairs say: in each reading the unknowns have types that satisfy
-- them, and all types that satisfy them are so read
pub record Agrees (s : Store) (ps : List Pair) : Type 0 where
  pub forth : (t : TyId → Tree) (a : Assignment) → Reading s t a → Satisfies a ps
  pub back : (a : Assignment) → Satisfies a ps → (t : TyId → Tree) × Reading s t a
  pub known : (u : Unknown) → Occurs u ps → (x : TyId) × (s.ids u ≡ Some x)

-- a gives each unknown that has come up the type for which its id stands
abbrev pub IsShown : Store → Assignment → Type 0
IsShown s a = (u : Unknown) (x : TyId) → s.ids u ≡ Some x → Stands s.nodes s.bound x (a u)

-- what was there before the item still stands for what it did
abbrev pub Keeps : Store → Store → Type 0
Keeps old new = (x : TyId) (w : Tree) → Shows old x w → Shows new x w

-- behind these pairs the step has no solution, and the span is that of its first part whose equation
-- leaves none
pub record Fails (c : Context) (before : List Pair) (step : Step) (span : Span) : Type 0 where
  pub part : ℕ
  pub equation : Equation
  pub equation_at : slice_get step.equations part ≡ Some equation
  pub still : HasSolution (before ++ take part (step_pairs c step))
  pub fails : NoSolution (before ++ take (part + 1) (step_pairs c step))
  pub span_is : span ≡ equation.part

-- behind these pairs the step has solutions, and each gives what one of its equations is about more
-- than 2,000 nodes
pub record Outgrows (c : Context) (before : List Pair) (step : Step) : Type 0 where
  pub solvable : HasSolution (before ++ step_pairs c step)
  pub part : ℕ
  pub equation : Equation
  pub equation_at : slice_get step.equations part ≡ Some equation
  pub large : (a : Assignment) → Satisfies a (before ++ step_pairs c step) → 2000 < tree_size (a equation.left)

-- the solver knows what these pairs say
pub record Knowing (s : Store) (decls : List DeclInfo) (c : Context) (ps : List Pair) : Type 0 where
  pub read : IsRead s decls c
  pub agrees : Agrees s ps

-- what comes of a step behind these pairs
abbrev pub Comes : Store → List DeclInfo → Context → List Pair → Step → Outcome → Type 0
Comes s decls c before step Went = Knowing s decls c (before ++ step_pairs c step)
Comes s decls c before step (Unsolved span) = Knowing s decls c before × Fails c before step span
Comes s decls c before step Large = Knowing s decls c before × Outgrows c before step

-- why the steps went no further than this
abbrev pub Stops : Context → List Step → ℕ → Outcome → Type 0
Stops c steps done Went = done ≡ length steps
Stops c steps done (Unsolved span) = (step : Step) × (slice_get steps done ≡ Some step) × Fails c (pairs c (take done steps)) step span
Stops c steps done Large = (step : Step) × (slice_get steps done ≡ Some step) × Outgrows c (pairs c (take done steps)) step

-- steps were run from the first on, as far as they hold
pub record Runs (s : Store) (decls : List DeclInfo) (c : Context) (steps : List Step) (p : Progress) : Type 0 where
  pub knows : Knowing s decls c (pairs c (take p.done steps))
  pub stops : Stops c steps p.done p.outcome

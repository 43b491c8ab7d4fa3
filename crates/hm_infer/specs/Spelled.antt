-- The steps of an item as they are run, with the slots of arrows: which arrow stands for a variable is
-- the order in which the pairs are walked.
use Rattle.std.specs.Prelude.{◌≡◌, ℕ, List, [], ◌∷◌, ◌++◌, Some}
use Rattle.ml_types.specs.declared.node.TyId.{TyId}
use Rattle.ml_types.specs.declared.declared.DeclInfo.{DeclInfo}
use Rattle.ml_typing.specs.declared.equation.Unknown.{Unknown}
use Rattle.ml_typing.specs.declared.equation.Equation.{Equation}
use Rattle.ml_typing.specs.declared.equation.Step.{Step}
use Rattle.ml_typing.specs.Typing.{ItemSteps}
use Rattle.hm_unify.specs.Solutions.{Pairs}
use Rattle.hm_unify.specs.Walks.{WalkPairs}
use Rattle.ml_typing.specs.declared.typed.Typed.{Typed}
use Rattle.ml_typing.specs.Terms.{Context}
use Rattle.hm_unify.specs.States.{IsTableOf}
use Rattle.hm_terms.specs.Stores.{Store, state, Grows, SameNames, Forgets}
use Rattle.hm_terms.specs.Contexts.{IsRead}
use Rattle.hm_infer.specs.Running.{HasNoIds}
use Rattle.hm_terms.specs.Spelling.{Spells}
use Rattle.hm_infer.specs.Closing.{Closes}

-- the two sides of an equation: the arrows that its term makes have the slots from the first number up
-- to but not including the second
pub record SpellsPair (s : Store) (decls : List DeclInfo) (k : ℕ) (e : Equation) (m : ℕ) (p : TyId × TyId) : Type 0 where
  pub left : s.ids e.left ≡ Some p.0
  pub right : Spells s decls k e.right m p.1

-- those of equations, from the first on
pub data SpellsPairs (s : Store) (decls : List DeclInfo) : ℕ → List Equation → ℕ → Pairs → Type 0 where
  no_pair : (k : ℕ) → SpellsPairs s decls k [] k []
  pair_and : (k m n : ℕ) (e : Equation) (es : List Equation) (p : TyId × TyId) (ps : Pairs) → SpellsPair s decls k e m p → SpellsPairs s decls m es n ps → SpellsPairs s decls k (e ∷ es) n (p ∷ ps)

-- the solver grows, and pairs are put behind those that there were
pub record PushesSpelled (old new : Store) (decls : List DeclInfo) (k : ℕ) (es : List Equation) (m : ℕ) (before behind : Pairs) : Type 0 where
  pub grows : Grows old new
  pub pairs : Pairs
  pub pushed : behind ≡ before ++ pairs
  pub spelled : SpellsPairs new decls k es m pairs

-- a step that holds: its equations are written down, and their pairs are walked in order
pub record StepRuns (decls : List DeclInfo) (old : Store) (k : ℕ) (step : Step) (new : Store) (m : ℕ) : Type 0 where
  pub middle : Store
  pub grows : Grows old middle
  pub pairs : Pairs
  pub spelled : SpellsPairs middle decls k step.equations m pairs
  pub walked : WalkPairs middle.nodes middle.bound pairs new.bound
  pub nodes : new.nodes ≡ middle.nodes
  pub ids : (u : Unknown) → new.ids u ≡ middle.ids u
  pub names : SameNames middle new

-- steps that hold, from the first on
pub data StepsRun (decls : List DeclInfo) : Store → ℕ → List Step → Store → ℕ → Type 0 where
  no_step : (s : Store) (k : ℕ) → StepsRun decls s k [] s k
  step_and : (s a b : Store) (k m n : ℕ) (step : Step) (steps : List Step) → StepRuns decls s k step a m → StepsRun decls a m steps b n → StepsRun decls s k (step ∷ steps) b n

-- an item whose steps hold, and that is left: its names have schemes, and its unknowns are forgotten
pub record ItemRuns (decls : List DeclInfo) (old : Store) (k : ℕ) (item : ItemSteps) (new : Store) (m : ℕ) : Type 0 where
  pub behind_steps : Store
  pub closed : Store
  pub runs : StepsRun decls old k item.steps behind_steps m
  pub closes : Closes behind_steps closed item.binders
  pub forgets : Forgets closed new

-- items that are run, from the first on
pub data ItemsRun (decls : List DeclInfo) : Store → ℕ → List ItemSteps → Store → ℕ → Type 0 where
  no_item : (s : Store) (k : ℕ) → ItemsRun decls s k [] s k
  item_and : (s a b : Store) (k m n : ℕ) (item : ItemSteps) (items : List ItemSteps) → ItemRuns decls s k item a m → ItemsRun decls a m items b n → ItemsRun decls s k (item ∷ items) b n

-- the slots of a program's types: from a solver that knows what its terms are read by, with the first
-- slot that no arrow has, the items were run, and the table has the nodes that then stand for the ids
pub record ProgramRuns (c : Context) (decls : List DeclInfo) (items : List ItemSteps) (typed : Typed) : Type 0 where
  pub first : Store
  pub first_slot : ℕ
  pub read : IsRead first decls c
  pub forgotten : HasNoIds first
  pub last : Store
  pub last_slot : ℕ
  pub runs : ItemsRun decls first first_slot items last last_slot
  pub table : IsTableOf (state last) typed.table.nodes

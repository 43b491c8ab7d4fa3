-- Types that are too large.
use Rattle.std.specs.Prelude.{◌≡◌, ℕ, ◌+◌, ◌<◌, ◌≤◌, List, length, take, Some, slice_get}
use Rattle.ml_types.specs.declared.node.TyId.{TyId}
use Rattle.ml_types.specs.declared.declared.DeclInfo.{DeclInfo}
use Rattle.ml_types.specs.Types.{tree_size}
use Rattle.ml_typing.specs.declared.equation.Unknown.{Unknown}
use Rattle.ml_typing.specs.declared.equation.Equation.{Equation}
use Rattle.ml_typing.specs.declared.equation.Step.{Step}
use Rattle.ml_typing.specs.Terms.{Context}
use Rattle.ml_typing.specs.Typing.{Assignment, Satisfies, pairs}
use Rattle.ml_typing.specs.Refusals.{HasSolution, IsTypeAt, IsTypeOf, Fits}
use Rattle.hm_terms.specs.Stores.{Store}
use Rattle.hm_terms.specs.Contexts.{IsRead}
use Rattle.hm_infer.specs.declared.limit.Bracket.{Bracket}

-- an unknown that has come up has more than 2,000 nodes
abbrev pub IsLarge : Store → Assignment → Unknown → Type 0
IsLarge s a v = (x : TyId) × (s.ids v ≡ Some x) × (2000 < tree_size (a v))

abbrev pub HasLargeLeft : Store → List Equation → Assignment → Type 0
HasLargeLeft s equations a = (i : ℕ) × (e : Equation) × (slice_get equations i ≡ Some e) × IsLarge s a e.left

abbrev pub AreSmallLefts : List Equation → Assignment → Type 0
AreSmallLefts equations a = (i : ℕ) (e : Equation) → slice_get equations i ≡ Some e → tree_size (a e.left) ≤ 2000

-- a type that the step has is too large
abbrev pub HasLargeAt : Store → Step → Assignment → Type 0
HasLargeAt s step a = (v : Unknown) × IsTypeAt step v × IsLarge s a v

abbrev pub IsSmallAt : Step → Assignment → Type 0
IsSmallAt step a = (v : Unknown) → IsTypeAt step v → tree_size (a v) ≤ 2000

-- a type that one of the steps has is too large
abbrev pub HasLarge : Store → List Step → Assignment → Type 0
HasLarge s steps a = (v : Unknown) × IsTypeOf steps v × IsLarge s a v

-- the steps have solutions, and each makes one type too large
pub record MakesLarge (c : Context) (steps : List Step) : Type 0 where
  pub solvable : HasSolution (pairs c steps)
  pub type : Unknown
  pub of_steps : IsTypeOf steps type
  pub large : (a : Assignment) → Satisfies a (pairs c steps) → 2000 < tree_size (a type)

-- the first steps make no type too large, and more of them make one
pub record Narrows (s : Store) (decls : List DeclInfo) (c : Context) (steps : List Step) (b : Bracket) : Type 0 where
  pub read : IsRead s decls c
  pub order : b.low < b.high
  pub within : b.high ≤ length steps
  pub fits : Fits c (take b.low steps)
  pub makes : MakesLarge c (take b.high steps)

-- step k is the first behind which a type of the steps so far is too large
pub record IsFirstLarge (c : Context) (steps : List Step) (k : ℕ) : Type 0 where
  pub within : k < length steps
  pub fits : Fits c (take k steps)
  pub makes : MakesLarge c (take (k + 1) steps)

-- The first comparison of an item at a type that has none.
use Rattle.std.specs.Prelude.{◌≡◌, ℕ, ◌<◌, List, [], take, Option, Some, None, slice_get}
use Rattle.oxml_base.specs.declared.span.Span.{Span}
use Rattle.ml_types.specs.declared.node.TyNode.{TyNode}
use Rattle.ml_types.specs.declared.node.TyNode.TheVariants.{Var, Con, Tuple, Arrow}
use Rattle.ml_typing.specs.declared.equation.Unknown.{Unknown}
use Rattle.ml_typing.specs.declared.equation.Step.{Step}
use Rattle.ml_typing.specs.Typing.{Assignment}
use Rattle.ml_typing.specs.Refusals.{CanCompare, Compares}

-- one of the first five declarations, int, char, string, bool and unit, without arguments
abbrev pub IsPlain : TyNode → Type 0
IsPlain (Var n) = ⊥
IsPlain (Con number args) = (number < 5) × (args ≡ [])
IsPlain (Tuple parts) = ⊥
IsPlain (Arrow slot from to) = ⊥

-- the operands of a step, where it compares any, have a type that can be compared, or one that can not
abbrev pub IsGoodAt : Step → Assignment → Type 0
IsGoodAt step a = (v : Unknown) → step.compared ≡ Some v → CanCompare (a v)

abbrev pub IsBadAt : Step → Assignment → Type 0
IsBadAt step a = (v : Unknown) × (step.compared ≡ Some v) × (CanCompare (a v) → ⊥)

pub record IsBadAmong (steps : List Step) (a : Assignment) (span : Span) : Type 0 where
  pub k : ℕ
  pub step : Step
  pub operands : Unknown
  pub at : slice_get steps k ≡ Some step
  pub compares : step.compared ≡ Some operands
  pub bad : CanCompare (a operands) → ⊥
  pub steps_before : Compares (take k steps) a
  pub span_is : span ≡ step.span

-- all comparisons are good, or this is the first that is not
abbrev pub FirstBad : List Step → Assignment → Option Span → Type 0
FirstBad steps a None = Compares steps a
FirstBad steps a (Some span) = IsBadAmong steps a span

-- What the answers of inference mean.
use Rattle.std.specs.Prelude.{◌≡◌, ◌⊎◌, ℕ, ◌+◌, cond, nat_eq, List, [], ◌∷◌, map, take, Option, Some, None, slice_get}
use Rattle.std.specs.HashMap.{get}
use Rattle.oxml_base.specs.Rules.{rule_number}
use Rattle.oxml_base.specs.declared.span.Span.{Span}
use Rattle.oxml_base.specs.declared.refusal.Limit.TheVariants.{TypeSize}
use Rattle.oxml_base.specs.declared.rule.Rule.TheVariants.{Comparison}
use Rattle.ml_tree.specs.declared.scoped.Scoped.{Scoped}
use Rattle.ml_types.specs.declared.declared.DeclInfo.{DeclInfo}
use Rattle.ml_types.specs.Types.{Tree}
use Rattle.ml_typing.specs.declared.equation.Unknown.TheVariants.{Node}
use Rattle.ml_typing.specs.declared.equation.Step.{Step}
use Rattle.ml_typing.specs.declared.typed.Typed.{Typed}
use Rattle.ml_typing.specs.Terms.{Context}
use Rattle.ml_typing.specs.Typing.{Assignment, ItemSteps, pairs, behind_all, steps_of_item}
use Rattle.ml_typing.specs.Refusals.{IsRuleOf, IsUnsolved, IsTooLarge, IsSmall, HasTypes, FirstFault, AllCompare, IsBadComparison}
use Rattle.hm_terms.specs.Stores.{Store}
use Rattle.hm_terms.specs.Contexts.{IsRead, ShowsAny}
use Rattle.hm_infer.specs.declared.error.InferErr.{InferErr}
use Rattle.hm_infer.specs.declared.error.InferErr.TheVariants.{Refused, Limit, NoMemory}
use Rattle.hm_infer.specs.declared.items.Found.{Found}
use Rattle.hm_infer.specs.Running.{HasNoIds, IsShown, Knowing}
use Rattle.hm_infer.specs.Closing.{has_node}
use Rattle.hm_infer.specs.Tables.{Fills}

-- ---- one item

-- the steps of an item hold, and no type is too large
pub record Checked (s : Store) (decls : List DeclInfo) (c : Context) (steps : List Step) : Type 0 where
  pub knows : Knowing s decls c (pairs c steps)
  pub small : (a : Assignment) → IsShown s a → IsSmall steps a

-- why an item has no types
abbrev pub IsItemFault : Context → List Step → InferErr → Type 0
IsItemFault c steps (Refused r) = IsUnsolved c steps (rule_number r.rule) r.span
IsItemFault c steps (Limit l span) = (l ≡ TypeSize 2001) × IsTooLarge c steps span
IsItemFault c steps NoMemory = Unit {0}

-- the limit at the step of a place
abbrev pub IsLimitAt : List Step → ℕ → InferErr → Type 0
IsLimitAt steps place (Refused r) = ⊥
IsLimitAt steps place (Limit l span) = (l ≡ TypeSize 2001) × (step : Step) × (slice_get steps place ≡ Some step) × (span ≡ step.span)
IsLimitAt steps place NoMemory = Unit {0}

-- the rule of the steps up to that of a place, at a part of the program
abbrev pub IsRefusedAt : Context → List Step → ℕ → Span → InferErr → Type 0
IsRefusedAt c steps place span (Refused r) = IsRuleOf (rule_number r.rule) (pairs c (take (place + 1) steps)) × (r.span ≡ span)
IsRefusedAt c steps place span (Limit l other) = ⊥
IsRefusedAt c steps place span NoMemory = Unit {0}

-- ---- the items so far

-- the type of a node: where several items have a node of one number, the last of them gives it
abbrev pub noted : List Assignment → List ItemSteps → ℕ → Option Tree
noted [] items n = None
noted (a ∷ types) [] n = None
noted (a ∷ types) (i ∷ is) n = elim (noted types is n) [ None ↦ cond (has_node i.steps n) (Some (a (Node n))) None | Some w ↦ Some w ]

-- the first bad comparison of items
abbrev pub AreCompared : List ItemSteps → List Assignment → Option Span → Type 0
AreCompared items types None = AllCompare types items
AreCompared items types (Some span) = IsBadComparison items types span

-- items have these types, and the solver behind them knows what it is to know of them
pub record Behind (s : Store) (decls : List DeclInfo) (c : Context) (items : List ItemSteps) (types : List Assignment) (found : Found) : Type 0 where
  pub typed : HasTypes c items types
  pub read : IsRead s decls (behind_all c types items)
  pub forgotten : HasNoIds s
  pub nodes : (n : ℕ) → ShowsAny s (get nat_eq found.nodes n) (noted types items n)
  pub compared : AreCompared items types found.bad

abbrev pub SomeBehind : Store → List DeclInfo → Context → List ItemSteps → Found → Type 0
SomeBehind s decls c items found = (types : List Assignment) × Behind s decls c items types found

-- ---- the program

-- the names and steps of the items of a program
abbrev pub items_of : Scoped → List ItemSteps
items_of s = map (steps_of_item s.refs s.types) s.program.items

-- the principal types of a program in which no type is too large and all comparisons are good, as a
-- table: those of its nodes, and the schemes of its names
pub record IsTypedAs (c : Context) (items : List ItemSteps) (count : ℕ) (typed : Typed) : Type 0 where
  pub types : List Assignment
  pub has : HasTypes c items types
  pub compare : AllCompare types items
  pub fills : Fills (noted types items) (behind_all c types items).scheme count typed

-- a program with types but for a comparison
abbrev pub ComparesBadly : Context → List ItemSteps → Span → Type 0
ComparesBadly c items span = (types : List Assignment) × HasTypes c items types × IsBadComparison items types span

-- why a program is refused
abbrev pub IsRefusedBy : Context → List ItemSteps → InferErr → Type 0
IsRefusedBy c items (Refused r) = FirstFault c items (λ e steps. IsUnsolved e steps (rule_number r.rule) r.span) ⊎ ((r.rule ≡ Comparison) × ComparesBadly c items r.span)
IsRefusedBy c items (Limit l span) = (l ≡ TypeSize 2001) × FirstFault c items (λ e steps. IsTooLarge e steps span)
IsRefusedBy c items NoMemory = Unit {0}

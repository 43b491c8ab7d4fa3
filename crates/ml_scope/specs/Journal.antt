-- What a walk over a program finds, in the order of the source.
use Rattle.std.specs.Prelude.{List, [], ◌∷◌, ◌++◌, Option, Some, None, Bool, true, false}
use Rattle.oxml_base.specs.declared.span.Span.{Span}
use Rattle.oxml_base.specs.declared.rule.Rule.{Rule}
use Rattle.ml_scope.specs.declared.found.Found.{Found}
use Rattle.ml_scope.specs.declared.found.Found.TheVariants.{Offends}

abbrev pub Journal : Type 0
Journal = List Found

-- one thing more
abbrev pub add : Journal → Found → Journal
add js found = js ++ found ∷ []

-- a violation of a rule at a place
abbrev pub offence : Rule → Span → Journal → Journal
offence rule place js = add js (Offends (record { rule = rule; span = place }))

-- the same, where it is one
abbrev pub offence_where : Bool → Rule → Span → Journal → Journal
offence_where true rule place js = offence rule place js
offence_where false rule place js = js

-- each part in turn
abbrev pub each : {A : Type 0} → List (A → A) → A → A
each [] state = state
each (part ∷ parts) state = each parts (part state)

-- a part that may be left out
abbrev pub perhaps : {A : Type 0} → Option (A → A) → A → A
perhaps None state = state
perhaps (Some part) state = part state

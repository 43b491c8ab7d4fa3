-- What the journal of a program says: its references, its violations, and the captures of its functions.
use Rattle.std.specs.Prelude.{◌≡◌, ℕ, List, [], ◌∷◌, ◌++◌, map, length, Option, Some, None, Bool, false, ◌&&◌, ◌||◌, ◌==◌, if◌then◌else◌, nat_lt, ◌⊎◌}
use Rattle.std.specs.Option.{option_map_or}
use Rattle.oxml_base.specs.declared.refusal.Refusal.{Refusal}
use Rattle.oxml_base.specs.Rules.{rule_number}
use Rattle.ml_tree.specs.declared.reference.Ref.{Ref}
use Rattle.ml_tree.specs.declared.reference.Ref.TheVariants as r
use Rattle.ml_tree.specs.declared.reference.TyRef.{TyRef}
use Rattle.ml_tree.specs.declared.reference.TyRef.TheVariants.{Decl, Var}
use Rattle.ml_scope.specs.declared.meaning.Meaning.{Meaning}
use Rattle.ml_scope.specs.declared.found.Found.{Found}
use Rattle.ml_scope.specs.declared.found.Found.TheVariants.{Names, NamesType, Variable, Anew, Lists, Offends}
use Rattle.ml_scope.specs.declared.references.TypeNames.{TypeNames}
use Rattle.ml_scope.specs.Names.{Name, Env, find, spelling}
use Rattle.ml_scope.specs.Journal.{Journal, each}

-- ---- references

-- what the nodes name
abbrev pub with_reference : Found → List (ℕ × Ref) → List (ℕ × Ref)
with_reference (Names node target) refs = refs ++ (node, target) ∷ []
with_reference _ refs = refs

abbrev pub references : Journal → List (ℕ × Ref)
references js = each (map with_reference js) []

-- a type variable is numbered by its place among those of its item or declaration, in the order of first use
abbrev pub variable_at : ℕ → Meaning
variable_at place = record { target = r.Local place; declaration = 0; place = place; parts = 0 }

abbrev pub variable_place : Env → Name → ℕ
variable_place variables name = option_map_or (λ m. m.place) (find variables name) (length variables)

abbrev pub with_variable : Env → Name → Env
with_variable variables name = option_map_or (λ m. variables) (find variables name) ((name, variable_at (length variables)) ∷ variables)

module _ (text : List ℕ) where
  -- what the type expressions name
  abbrev pub with_type_reference : Found → TypeNames → TypeNames
  with_type_reference (NamesType id declaration) t = record { variables = t.variables; list = t.list ++ (id, Decl declaration) ∷ [] }
  with_type_reference (Variable id name) t = record { variables = with_variable t.variables (spelling text name); list = t.list ++ (id, Var (variable_place t.variables (spelling text name))) ∷ [] }
  with_type_reference (Lists name) t = record { variables = with_variable t.variables (spelling text name); list = t.list }
  with_type_reference Anew t = record { variables = []; list = t.list }
  with_type_reference _ t = t

  abbrev pub type_references : Journal → List (ℕ × TyRef)
  type_references js = (each (map with_type_reference js) (record { variables = []; list = [] })).list

-- ---- violations

-- the rules that are violated
abbrev pub offences : Journal → List Refusal
offences [] = []
offences (Offends refusal ∷ js) = refusal ∷ offences js
offences (_ ∷ js) = offences js

-- by the start, then the number of the rule, then the end
abbrev pub comes_before : Refusal → Refusal → Bool
comes_before a b = nat_lt a.span.start b.span.start || ((a.span.start == b.span.start) && (nat_lt (rule_number a.rule) (rule_number b.rule) || ((rule_number a.rule == rule_number b.rule) && nat_lt a.span.end b.span.end)))

abbrev pub Among : Refusal → List Refusal → Type 0
Among refusal [] = ⊥
Among refusal (other ∷ others) = (refusal ≡ other) ⊎ Among refusal others

abbrev pub NoneBefore : Refusal → List Refusal → Type 0
NoneBefore refusal [] = Unit {0}
NoneBefore refusal (other ∷ others) = (comes_before other refusal ≡ false) × NoneBefore refusal others

-- one of these, which none of them comes before
pub record IsFirst (refusal : Refusal) (all : List Refusal) : Type 0 where
  pub among : Among refusal all
  pub first : NoneBefore refusal all

-- the first of those so far and one more
abbrev pub earlier : Option Refusal → Refusal → Refusal
earlier None more = more
earlier (Some one) more = if comes_before more one then more else one

abbrev pub noted : Option Refusal → Found → Option Refusal
noted first (Offends refusal) = Some (earlier first refusal)
noted first _ = first

abbrev pub earliest : Option Refusal → Journal → Option Refusal
earliest first [] = first
earliest first (found ∷ js) = earliest (noted first found) js

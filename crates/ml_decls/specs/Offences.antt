-- The violations of the rules on declarations, and the first of them.
use Rattle.std.specs.Prelude.{◌≡◌, ◌≢◌, ◌⊎◌, ℕ, ◌+◌, ◌-◌, ◌<◌, ◌≤◌, List, take, drop, length, Option, Some, None, true, slice_get}
use Rattle.oxml_base.specs.declared.span.Span.{Span}
use Rattle.oxml_base.specs.declared.refusal.Refusal.{Refusal}
use Rattle.oxml_base.specs.declared.rule.Rule.{Rule}
use Rattle.oxml_base.specs.declared.rule.Rule.TheVariants.{ArgumentCount, UnboundVariable, DeclaredTwice, CyclicAbbreviation}
use Rattle.oxml_base.specs.Rules.{rule_number}
use Rattle.ml_tree.specs.declared.types.Decl.{Decl}
use Rattle.ml_tree.specs.declared.program.Item.{Item}
use Rattle.ml_tree.specs.declared.reference.TyRef.{TyRef}
use Rattle.ml_tree.specs.declared.reference.TyRef.TheVariants as r
use Rattle.ml_mentions.specs.declared.mentions.Mention.TheVariants.{Named, Variable}
use Rattle.ml_decls.specs.Lists.{IsIn, find}
use Rattle.ml_mentions.specs.Programs.{declarations, type_names, constructor_names, field_names, variable_counts, body_mentions, all_mentions, abbreviates}

-- the bytes of a text at a place
abbrev pub spelling : List ℕ → Span → List ℕ
spelling text place = take (place.end - place.start) (drop place.start text)

-- a name stands at this place at more or fewer arguments than its declaration has variables
pub record IsWrongCount (types : List (ℕ × TyRef)) (items : List Item) (place : Span) : Type 0 where
  pub id : ℕ
  pub arguments : ℕ
  pub declaration : ℕ
  pub variables : ℕ
  pub stands : IsIn (Named id place arguments) (all_mentions items)
  pub names : find types id ≡ Some (r.Decl declaration)
  pub declared : slice_get (variable_counts (declarations items)) declaration ≡ Some variables
  pub differ : arguments ≢ variables

-- a variable stands at this place in a declaration that does not list it: the variables that it lists have the first numbers
pub record IsUnlisted (types : List (ℕ × TyRef)) (items : List Item) (place : Span) : Type 0 where
  pub declaration : Decl
  pub id : ℕ
  pub number : ℕ
  pub declared : IsIn declaration (declarations items)
  pub stands : IsIn (Variable id place) (body_mentions declaration.body)
  pub names : find types id ≡ Some (r.Var number)
  pub behind : length declaration.vars ≤ number

-- the name of the declaration e stands in the type that the declaration d abbreviates; written declarations are numbered from 7 on
pub record Abbreviates (types : List (ℕ × TyRef)) (items : List Item) (d e : ℕ) : Type 0 where
  pub place : ℕ
  pub declaration : Decl
  pub id : ℕ
  pub whole : Span
  pub arguments : ℕ
  pub number : d ≡ place + 7
  pub declared : slice_get (declarations items) place ≡ Some declaration
  pub is_abbreviation : abbreviates declaration.body ≡ true
  pub stands : IsIn (Named id whole arguments) (body_mentions declaration.body)
  pub names : find types id ≡ Some (r.Decl e)

-- the same through any number of abbreviations
pub data Reaches (types : List (ℕ × TyRef)) (items : List Item) : ℕ → ℕ → Type 0 where
  at_once : (d e : ℕ) → Abbreviates types items d e → Reaches types items d e
  through : (d e f : ℕ) → Abbreviates types items d e → Reaches types items e f → Reaches types items d f

-- the name at this place is that of an abbreviation that reaches itself
pub record IsCyclic (types : List (ℕ × TyRef)) (items : List Item) (name : Span) : Type 0 where
  pub place : ℕ
  pub declaration : Decl
  pub declared : slice_get (declarations items) place ≡ Some declaration
  pub at_name : declaration.name ≡ name
  pub itself : Reaches types items (place + 7) (place + 7)

-- a name of a list stands in it before
pub record IsRepeated (text : List ℕ) (names : List Span) (name : Span) : Type 0 where
  pub earlier : ℕ
  pub later : ℕ
  pub other : Span
  pub order : earlier < later
  pub first : slice_get names earlier ≡ Some other
  pub second : slice_get names later ≡ Some name
  pub same : spelling text other ≡ spelling text name

-- a name of one kind that is declared before
abbrev pub IsDeclaredTwice : List ℕ → List Decl → Span → Type 0
IsDeclaredTwice text ds name = IsRepeated text (type_names ds) name ⊎ (IsRepeated text (constructor_names ds) name ⊎ IsRepeated text (field_names ds) name)

-- the rule is violated at this place
abbrev pub Violates : List ℕ → List (ℕ × TyRef) → List Item → Rule → Span → Type 0
Violates text types items ArgumentCount place = IsWrongCount types items place
Violates text types items UnboundVariable place = IsUnlisted types items place
Violates text types items DeclaredTwice place = IsDeclaredTwice text (declarations items) place
Violates text types items CyclicAbbreviation place = IsCyclic types items place
Violates text types items _ place = ⊥

abbrev pub Offends : List ℕ → List (ℕ × TyRef) → List Item → Refusal → Type 0
Offends text types items refusal = Violates text types items refusal.rule refusal.span

-- one comes before another: by the start, then the number of the rule, then the end
abbrev pub ComesBefore : Refusal → Refusal → Type 0
ComesBefore a b = (a.span.start < b.span.start) ⊎ ((a.span.start ≡ b.span.start) × ((rule_number a.rule < rule_number b.rule) ⊎ ((rule_number a.rule ≡ rule_number b.rule) × (a.span.end < b.span.end))))

-- a violation before which there is none
pub record IsFirst (text : List ℕ) (types : List (ℕ × TyRef)) (items : List Item) (refusal : Refusal) : Type 0 where
  pub offends : Offends text types items refusal
  pub least : (other : Refusal) → Offends text types items other → ComesBefore other refusal → ⊥

-- there is no violation, or this one is the first
abbrev pub NoneOrFirst : List ℕ → List (ℕ × TyRef) → List Item → Option Refusal → Type 0
NoneOrFirst text types items None = (refusal : Refusal) → Offends text types items refusal → ⊥
NoneOrFirst text types items (Some refusal) = IsFirst text types items refusal

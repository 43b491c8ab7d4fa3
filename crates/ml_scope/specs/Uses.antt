-- What a use of a value, a constructor or a field points to, and the rules that it may violate.
use Rattle.std.specs.Prelude.{ℕ, List, [], ◌∷◌, Option, Some, None, Bool, true, false, not, ◌==◌, ◌&&◌, ◌||◌, ◌++◌, map, length, nat_eq}
use Rattle.std.specs.List.{list_any}
use Rattle.std.specs.Option.{option_map_or}
use Rattle.oxml_base.specs.declared.span.Span.{Span}
use Rattle.oxml_base.specs.declared.rule.Rule.TheVariants.{UnboundValue, UnboundConstructor, FieldCount}
use Rattle.ml_tree.specs.declared.reference.Ref.TheVariants.{Con, Decl}
use Rattle.ml_tree.specs.declared.pattern.ConName.{ConName}
use Rattle.ml_tree.specs.declared.pattern.ConName.TheVariants.{Named, True, False, Unit, Nil}
use Rattle.ml_scope.specs.declared.meaning.Meaning.{Meaning}
use Rattle.ml_scope.specs.declared.shape.Shape.{Shape}
use Rattle.ml_scope.specs.declared.found.Found.TheVariants.{Names}
use Rattle.ml_scope.specs.Names.{Known, Env, find, spelling}
use Rattle.ml_scope.specs.Journal.{Journal, add, offence, offence_where}
use Rattle.ml_scope.specs.Shapes.{miscounts}

-- a name of a value
abbrev pub value_meant : ℕ → Span → Option Meaning → Journal → Journal
value_meant id place None js = offence UnboundValue place js
value_meant id place (Some m) js = add js (Names id m.target)

-- a name of a constructor, with what it is given
abbrev pub constructor_meant : ℕ → Span → Span → Option Shape → Option Meaning → Journal → Journal
constructor_meant id place whole given None js = offence UnboundConstructor place js
constructor_meant id place whole given (Some m) js = offence_where (miscounts m.parts given) FieldCount whole (add js (Names id m.target))

-- a name of a field
abbrev pub field_meant : ℕ → Span → Option Meaning → Journal → Journal
field_meant id place None js = offence UnboundConstructor place js
field_meant id place (Some m) js = add js (Names id m.target)

-- a constant of a predefined type: its declaration and its place there
abbrev pub constant : ℕ → ℕ → Meaning
constant declaration place = record { target = Con declaration place; declaration = declaration; place = place; parts = 0 }

-- the span of a written constructor; a constant is always bound
abbrev pub written : ConName → Span → Span
written (Named name) whole = name
written True whole = whole
written False whole = whole
written Unit whole = whole
written Nil whole = whole

-- the declaration that a record names: that of its first field
abbrev pub record_meant : ℕ → Option Meaning → Journal → Journal
record_meant id None js = js
record_meant id (Some m) js = add js (Names id (Decl m.declaration))

-- whether a number stands a second time; those before are seen
abbrev pub repeats : List ℕ → List ℕ → Bool
repeats seen [] = false
repeats seen (n ∷ ns) = list_any (nat_eq n) seen || repeats (seen ++ n ∷ []) ns

abbrev pub of_one : ℕ → List Meaning → Bool
of_one declaration [] = true
of_one declaration (m ∷ ms) = (m.declaration == declaration) && of_one declaration ms

-- whether these fields are each field of one declaration once; a pattern with `_` may leave some out
abbrev pub fits : Bool → List Meaning → Bool
fits whole [] = true
fits whole (m ∷ ms) = of_one m.declaration (m ∷ ms) && ((not whole || (length (m ∷ ms) == m.parts)) && not (repeats [] (map (λ f. f.place) (m ∷ ms))))

abbrev pub misfits : Bool → Option (List Meaning) → Bool
misfits whole None = false
misfits whole (Some ms) = not (fits whole ms)

module _ (k : Known) where
  abbrev pub value_named : Env → ℕ → Span → Journal → Journal
  value_named env id name js = value_meant id name (find env (spelling k.text name)) js

  abbrev pub constructor_of : ConName → Option Meaning
  constructor_of (Named name) = find k.constructors (spelling k.text name)
  constructor_of True = Some (constant 3 1)
  constructor_of False = Some (constant 3 0)
  constructor_of Unit = Some (constant 4 0)
  constructor_of Nil = Some (constant 5 0)

  abbrev pub constructor_named : ℕ → Span → ConName → Option Shape → Journal → Journal
  constructor_named id whole name given js = constructor_meant id (written name whole) whole given (constructor_of name) js

  abbrev pub field_of : Span → Option Meaning
  field_of name = find k.fields (spelling k.text name)

  abbrev pub field_named : ℕ → Span → Journal → Journal
  field_named id name js = field_meant id name (field_of name) js

  -- the meanings of all names, behind those that are there; none where a name has none
  abbrev pub fields_of : List Span → List Meaning → Option (List Meaning)
  fields_of [] ms = Some ms
  fields_of (name ∷ names) ms = option_map_or (λ m. fields_of names (ms ++ m ∷ [])) (field_of name) None

  abbrev pub first_of : List Span → Option Meaning
  first_of [] = None
  first_of (name ∷ names) = field_of name

  -- a record with fields of these names
  abbrev pub record_named : ℕ → Span → Bool → List Span → Journal → Journal
  record_named id span whole names js = offence_where (misfits whole (fields_of names [])) FieldCount span (record_meant id (first_of names) js)

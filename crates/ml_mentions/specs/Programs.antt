-- What a program declares, and where it names types.
use Rattle.std.specs.Prelude.{ℕ, List, [], ◌∷◌, ◌++◌, map, length, Bool, true, false}
use Rattle.oxml_base.specs.declared.span.Span.{Span}
use Rattle.ml_tree.specs.declared.types.ConDecl.{ConDecl}
use Rattle.ml_tree.specs.declared.types.FieldDecl.{FieldDecl}
use Rattle.ml_tree.specs.declared.types.Decl.{Decl}
use Rattle.ml_tree.specs.declared.types.DeclBody.{DeclBody}
use Rattle.ml_tree.specs.declared.types.DeclBody.TheVariants.{Variant, Fields, Alias}
use Rattle.ml_tree.specs.declared.program.Item.{Item}
use Rattle.ml_tree.specs.declared.program.ItemKind.{ItemKind}
use Rattle.ml_tree.specs.declared.program.ItemKind.TheVariants.{Types, Let}
use Rattle.ml_mentions.specs.declared.mentions.Mention.{Mention}
use Rattle.ml_mentions.specs.declared.outline.Outline.{Outline}
use Rattle.ml_mentions.specs.Lists.{all}
use Rattle.ml_mentions.specs.Mentions.{mentions, arg_mentions}
use Rattle.ml_mentions.specs.Written.{in_bind}

-- ---- what is declared, in the order of the source

abbrev pub kind_declarations : ItemKind → List Decl
kind_declarations (Types ds) = ds
kind_declarations (Let recursive bs) = []

abbrev pub declarations : List Item → List Decl
declarations items = all (map (λ (item : Item). kind_declarations item.kind) items)

abbrev pub body_constructors : DeclBody → List Span
body_constructors (Variant cs) = map (λ (c : ConDecl). c.name) cs
body_constructors (Fields fs) = []
body_constructors (Alias ty) = []

abbrev pub body_fields : DeclBody → List Span
body_fields (Variant cs) = []
body_fields (Fields fs) = map (λ (f : FieldDecl). f.name) fs
body_fields (Alias ty) = []

-- the places of the names of types, of constructors and of fields
abbrev pub type_names : List Decl → List Span
type_names ds = map (λ (d : Decl). d.name) ds

abbrev pub constructor_names : List Decl → List Span
constructor_names ds = all (map (λ (d : Decl). body_constructors d.body) ds)

abbrev pub field_names : List Decl → List Span
field_names ds = all (map (λ (d : Decl). body_fields d.body) ds)

-- how many variables each declaration has, at its number: int, char, string, bool, unit, list and option, and then the written ones
abbrev pub variable_counts : List Decl → List ℕ
variable_counts ds = 0 ∷ 0 ∷ 0 ∷ 0 ∷ 0 ∷ 1 ∷ 1 ∷ map (λ (d : Decl). length d.vars) ds

-- ---- where types are named

abbrev pub con_mentions : ConDecl → List Mention
con_mentions c = all (map arg_mentions c.args)

abbrev pub field_mentions : FieldDecl → List Mention
field_mentions f = arg_mentions f.arg

abbrev pub body_mentions : DeclBody → List Mention
body_mentions (Variant cs) = all (map con_mentions cs)
body_mentions (Fields fs) = all (map field_mentions fs)
body_mentions (Alias ty) = mentions ty

-- in the types that are written in patterns and expressions
abbrev pub kind_annotations : ItemKind → List Mention
kind_annotations (Types ds) = []
kind_annotations (Let recursive bs) = all (map in_bind bs)

abbrev pub annotations : List Item → List Mention
annotations items = all (map (λ (item : Item). kind_annotations item.kind) items)

abbrev pub all_mentions : List Item → List Mention
all_mentions items = all (map (λ (d : Decl). body_mentions d.body) (declarations items)) ++ annotations items

-- ---- what a declaration says to the rules

abbrev pub abbreviates : DeclBody → Bool
abbreviates (Variant cs) = false
abbreviates (Fields fs) = false
abbreviates (Alias ty) = true

abbrev pub outline : Decl → Outline
outline d = record { name = d.name; variables = length d.vars; is_abbreviation = abbreviates d.body; mentions = body_mentions d.body; constructors = body_constructors d.body; fields = body_fields d.body }

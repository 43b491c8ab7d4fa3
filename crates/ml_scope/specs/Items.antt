-- What the items of a program use and declare. Items see the items before them, and the declarations of one item each other.
use Rattle.std.specs.Prelude.{ℕ, List, [], ◌∷◌, ◌+◌, map, length, codes, Bool, true}
use Rattle.oxml_base.specs.declared.span.Span.{Span}
use Rattle.ml_tree.specs.declared.types.Decl.{Decl}
use Rattle.ml_tree.specs.declared.types.DeclBody.{DeclBody}
use Rattle.ml_tree.specs.declared.types.DeclBody.TheVariants.{Variant, Fields, Alias}
use Rattle.ml_tree.specs.declared.types.ConDecl.{ConDecl}
use Rattle.ml_tree.specs.declared.types.FieldDecl.{FieldDecl}
use Rattle.ml_tree.specs.declared.program.Item.{Item}
use Rattle.ml_tree.specs.declared.program.ItemKind.{ItemKind}
use Rattle.ml_tree.specs.declared.program.ItemKind.TheVariants.{Types, Let}
use Rattle.ml_tree.specs.declared.expr.Bind.{Bind}
use Rattle.ml_tree.specs.declared.reference.Ref.TheVariants as r
use Rattle.ml_tree.specs.declared.reference.Op.{Op}
use Rattle.ml_tree.specs.declared.reference.Op.TheVariants.{PrintString, PrintInt, PrintChar, PrerrString, StringOfInt, IntOfChar, CharOfInt, Exit, Failwith}
use Rattle.ml_scope.specs.declared.binder.Binder.{Binder}
use Rattle.ml_scope.specs.declared.meaning.Meaning.{Meaning}
use Rattle.ml_scope.specs.declared.found.Found.TheVariants.{Anew, Lists}
use Rattle.ml_scope.specs.declared.world.World.{World}
use Rattle.ml_scope.specs.Names.{Known, Env, spelling}
use Rattle.ml_scope.specs.Journal.{Journal, add, each}
use Rattle.ml_scope.specs.Types.{type_look, arg_look}
use Rattle.ml_scope.specs.Binding.{bound, twice}
use Rattle.ml_scope.specs.Expressions.{bind_seen, bind_names, group_look}

-- ---- what a declaration declares: n is its number, i the place of a constructor or of a field

abbrev pub type_at : ℕ → Meaning
type_at n = record { target = r.Decl n; declaration = n; place = 0; parts = 0 }

abbrev pub constructor_at : ℕ → ℕ → ℕ → Meaning
constructor_at n i parts = record { target = r.Con n i; declaration = n; place = i; parts = parts }

abbrev pub field_at : ℕ → ℕ → ℕ → Meaning
field_at n i parts = record { target = r.Field n i; declaration = n; place = i; parts = parts }

module _ (text : List ℕ) where
  abbrev pub with_types : ℕ → List Decl → Env → Env
  with_types n [] env = env
  with_types n (d ∷ ds) env = with_types (n + 1) ds ((spelling text d.name, type_at n) ∷ env)

  abbrev pub constructors_from : ℕ → ℕ → List ConDecl → Env → Env
  constructors_from n i [] env = env
  constructors_from n i (c ∷ cs) env = constructors_from n (i + 1) cs ((spelling text c.name, constructor_at n i (length c.args)) ∷ env)

  abbrev pub fields_from : ℕ → ℕ → ℕ → List FieldDecl → Env → Env
  fields_from n i parts [] env = env
  fields_from n i parts (f ∷ fs) env = fields_from n (i + 1) parts fs ((spelling text f.name, field_at n i parts) ∷ env)

  abbrev pub body_constructors : ℕ → DeclBody → Env → Env
  body_constructors n (Variant cs) env = constructors_from n 0 cs env
  body_constructors n (Fields fs) env = env
  body_constructors n (Alias ty) env = env

  abbrev pub body_fields : ℕ → DeclBody → Env → Env
  body_fields n (Variant cs) env = env
  body_fields n (Fields fs) env = fields_from n 0 (length fs) fs env
  body_fields n (Alias ty) env = env

  abbrev pub with_constructors : ℕ → List Decl → Env → Env
  with_constructors n [] env = env
  with_constructors n (d ∷ ds) env = with_constructors (n + 1) ds (body_constructors n d.body env)

  abbrev pub with_fields : ℕ → List Decl → Env → Env
  with_fields n [] env = env
  with_fields n (d ∷ ds) env = with_fields (n + 1) ds (body_fields n d.body env)

-- ---- what a declaration uses

-- a variable of a declaration, as a name of a group
abbrev pub variable : Span → Binder
variable name = record { name = name; node = 0 }

abbrev pub lists : Span → Journal → Journal
lists name js = add js (Lists name)

module _ (k : Known) where
  abbrev pub con_look : ConDecl → Journal → Journal
  con_look c js = each (map (arg_look k) c.args) js

  abbrev pub field_look : FieldDecl → Journal → Journal
  field_look f js = arg_look k f.arg js

  abbrev pub body_look : DeclBody → Journal → Journal
  body_look (Variant cs) js = each (map con_look cs) js
  body_look (Fields fs) js = each (map field_look fs) js
  body_look (Alias ty) js = type_look k ty js

  -- the variables of one declaration are its own, each listed once
  abbrev pub decl_look : Decl → Journal → Journal
  decl_look d js = body_look d.body (twice k [] (map variable d.vars) (each (map lists d.vars) (add js Anew)))

-- ---- the items

abbrev pub types_item : List Decl → World → World
types_item ds w =
    let inner : Known = record { text = w.known.text; constructors = w.known.constructors; fields = w.known.fields; types = with_types w.known.text w.next ds w.known.types } in
    record {
      known = record { text = w.known.text; constructors = with_constructors w.known.text w.next ds w.known.constructors; fields = with_fields w.known.text w.next ds w.known.fields; types = inner.types };
      values = w.values;
      next = w.next + length ds;
      journal = each (map (decl_look inner) ds) w.journal;
    }

abbrev pub let_item : Bool → List Bind → World → World
let_item recursive bs w = record {
  known = w.known;
  values = bound w.known true (bind_names w.known (map (bind_seen w.known) bs)) w.values;
  next = w.next;
  journal = group_look w.known true recursive (map (bind_seen w.known) bs) w.values (add w.journal Anew);
}

abbrev pub kind_item : ItemKind → World → World
kind_item (Types ds) w = types_item ds w
kind_item (Let recursive bs) w = let_item recursive bs w

abbrev pub item_look : Item → World → World
item_look item w = kind_item item.kind w

-- ---- what is predefined

abbrev pub operation : Op → Meaning
operation op = record { target = r.Operation op; declaration = 0; place = 0; parts = 0 }

abbrev pub predefined_types : Env
predefined_types = (codes "option", type_at 6) ∷ (codes "list", type_at 5) ∷ (codes "unit", type_at 4) ∷ (codes "bool", type_at 3) ∷ (codes "string", type_at 2) ∷ (codes "char", type_at 1) ∷ (codes "int", type_at 0) ∷ []

abbrev pub predefined_constructors : Env
predefined_constructors = (codes "Some", constructor_at 6 1 1) ∷ (codes "None", constructor_at 6 0 0) ∷ []

abbrev pub predefined_values : Env
predefined_values =
    (codes "failwith", operation Failwith) ∷ (codes "exit", operation Exit) ∷ (codes "char_of_int", operation CharOfInt) ∷
    (codes "int_of_char", operation IntOfChar) ∷ (codes "string_of_int", operation StringOfInt) ∷ (codes "prerr_string", operation PrerrString) ∷
    (codes "print_char", operation PrintChar) ∷ (codes "print_int", operation PrintInt) ∷ (codes "print_string", operation PrintString) ∷ []

abbrev pub start : List ℕ → World
start text = record {
  known = record { text = text; constructors = predefined_constructors; fields = []; types = predefined_types };
  values = predefined_values;
  next = 7;
  journal = [];
}

-- what a program uses and declares
abbrev pub program_look : List ℕ → List Item → World
program_look text items = each (map item_look items) (start text)

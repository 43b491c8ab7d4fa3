-- A whole program, by the tables that the evaluator has of it.
use Rattle.std.specs.Prelude.{◌≡◌, ℕ, List, [], ◌∷◌, ◌++◌, Option, Some, None, map, slice_get}
use Rattle.std.specs.List.{flat_map}
use Rattle.ml_tree.specs.declared.program.Item.{Item}
use Rattle.ml_tree.specs.declared.program.ItemKind.{ItemKind}
use Rattle.ml_tree.specs.declared.types.Decl.{Decl}
use Rattle.ml_tree.specs.declared.scoped.Scoped.{Scoped}
use Rattle.ml_meaning.specs.declared.event.Event.{Event}
use Rattle.ml_meaning.specs.declared.event.Ending.{Ending}
use Rattle.ml_meaning.specs.Names.{lookup}
use Rattle.ml_meaning.specs.Patterns.{Env}
use Rattle.ml_meaning.specs.Functions.{functions_of}
use Rattle.ml_meaning.specs.Runs.{Run, Done, Stop, Stopped, Ended}
use Rattle.ml_meaning.specs.Tellings.{Setting}
use Rattle.ml_meaning.specs.Programs as m
use Rattle.ml_words.specs.Named.{targets}
use Rattle.ml_functions.specs.Table.{IsTable}
use Rattle.ml_values.specs.declared.value.Word.{Word}
use Rattle.ml_values.specs.Shown.{value}
use Rattle.ml_steps.specs.declared.world.Written.{Written}
use Rattle.ml_steps.specs.Worlds.{top_value}
use Rattle.ml_run.specs.declared.items.Top.{Top}
use Rattle.ml_run.specs.Stack.{Tells}
use Rattle.ml_run.specs.declared.tables.Tables.{Tables}

-- the declarations that a list points to
abbrev pub decls_of : List Written → List Decl
decls_of list = map (λ w. w.decl.now) list

-- the tables are those of the program
pub record IsProgram (s : Scoped) (t : Tables) : Type 0 where
  pub scoped : t.tools.scoped.now ≡ s
  pub functions : IsTable t.functions.places.now t.functions.list.now (functions_of (targets s) s.program.items)
  pub decls : decls_of t.decls.now ≡ flat_map (λ i. m.declarations_of i.kind) s.program.items
  pub append : t.append ≡ m.first_binder (slice_get s.program.items 6)

-- the values of the top-level names are those that these names stand for
abbrev pub Holds : List (Option Word) → Env → Type 0
Holds tops env = (n : ℕ) → top_value (slice_get tops n) ≡ lookup n env

-- what an item of a program is evaluated in, with these names
abbrev pub program_setting : Scoped → Env → Setting Event
program_setting s env = m.setting Event (λ e. e ∷ []) [] s env

-- An item was evaluated with these names: the names hold that it bound before them, or the program is
-- at its end.
abbrev pub Advanced : Setting Event → ℕ → ItemKind → Env → List Event → List Event → List (Option Word) → Option Ending → Type 0
Advanced s fuel kind env before now tops None = (xs : Env) × (Tells before now (m.item_evaluated Event s fuel kind) (Done [] xs) × Holds tops (xs ++ env))
Advanced s fuel kind env before now tops (Some ending) = Tells before now (m.item_evaluated Event s fuel kind) (Stop [] (Ended ending))

-- the names of a list with their values
abbrev pub tops_of : List Top → Env
tops_of list = map (λ t. (t.name, value t.word)) list

-- the items from here on, evaluated with these names
abbrev pub items_from : Scoped → ℕ → List Item → Env → Run Event Env
items_from s fuel items env = m.items_run Event (λ e. e ∷ []) [] s fuel items env

-- the events of the trace were appended, and the ending is its ending
abbrev pub Ran : List Event → List Event → Ending → List Event × Stopped → Type 0
Ran before now end trace = (now ≡ before ++ trace.0) × (trace.1 ≡ Ended end)

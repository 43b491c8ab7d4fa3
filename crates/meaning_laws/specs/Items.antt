-- Items that do one thing: bind functions that capture nothing, or print a text.
use Rattle.std.specs.Prelude.{◌≡◌, ℕ, Bool, false, List, [], ◌∷◌, map, flat_map, Option, Some, None, All}
use Rattle.oxml_base.specs.declared.literal.Lit.{Lit}
use Rattle.oxml_base.specs.declared.span.Span.{Span}
use Rattle.ml_tree.specs.declared.words.Words.{Words}
use Rattle.ml_tree.specs.declared.expr.Bind.{Bind, out-Bind}
use Rattle.ml_tree.specs.declared.expr.Expr.{Expr}
use Rattle.ml_tree.specs.declared.expr.ExprKind.TheVariants.{Apply, Name, Text}
use Rattle.ml_tree.specs.declared.pattern.ConName.TheVariants.{Unit as UnitName}
use Rattle.ml_tree.specs.declared.pattern.Param.{Param}
use Rattle.ml_tree.specs.declared.pattern.Pat.{Pat}
use Rattle.ml_tree.specs.declared.pattern.PatKind.TheVariants.{Con, Name as Binds}
use Rattle.ml_tree.specs.declared.program.Item.{Item}
use Rattle.ml_tree.specs.declared.program.ItemKind.TheVariants.{Let}
use Rattle.ml_tree.specs.declared.reference.Op.TheVariants.{PrintString}
use Rattle.ml_tree.specs.declared.reference.Ref.TheVariants.{Operation}
use Rattle.ml_tree.specs.declared.scoped.Scoped.{Scoped}
use Rattle.ml_meaning.specs.Functions.{FunctionCode, functions_of}
use Rattle.ml_meaning.specs.Names.{lookup}
use Rattle.ml_meaning.specs.Patterns.{Env}
use Rattle.ml_meaning.specs.Programs.{item_evaluated, item_weight, setting}
use Rattle.ml_meaning.specs.Runs.{Done}
use Rattle.ml_meaning.specs.Tellings.{Setting}
use Rattle.ml_meaning.specs.declared.event.Event.{Event}
use Rattle.ml_meaning.specs.declared.event.Event.TheVariants as event

-- ---- items that bind functions

-- the function of this node
abbrev pub code_at : Scoped → ℕ → Option FunctionCode
code_at s node = lookup node (functions_of (λ k. lookup k s.refs) s.program.items)

-- the bind has a name and parameters, and its function captures nothing
pub record BindsFunction (s : Scoped) (bind : Bind) : Type 0 where
  pub words : Words
  pub name : Span
  pub is_name : (out-Bind bind).pat.kind ≡ Binds words name
  pub first : Param
  pub others : List Param
  pub has_params : (out-Bind bind).params ≡ first ∷ others
  pub code : FunctionCode
  pub is_code : code_at s (out-Bind bind).pat.id ≡ Some code
  pub captures_none : code.captures ≡ []

-- the item is a `let` of such binds alone
pub record BindsFunctions (s : Scoped) (item : Item) : Type 0 where
  pub recursive : Bool
  pub binds : List Bind
  pub is_let : item.kind ≡ Let recursive binds
  pub are_functions : All (BindsFunction s) binds

-- what is told of an item that does nothing else
abbrev pub call_alone : ℕ → List Event
call_alone weight = event.Enter weight ∷ event.Open ∷ event.Close ∷ event.Leave weight ∷ []

-- what an item of a program is evaluated in, behind items that bound these names; each event is told
abbrev pub setting_of : Scoped → Env → Setting Event
setting_of s tops = setting Event (λ e. e ∷ []) [] s tops

-- The item runs, behind items that bound these names, by binding names and telling of its call alone.
pub record BindsOnly (s : Scoped) (n : ℕ) (tops : Env) (item : Item) : Type 0 where
  pub names : Env
  pub run : item_evaluated Event (setting_of s tops) n item.kind ≡ Done (call_alone (item_weight Event (setting_of s tops) item.kind)) names

-- ---- items that print

-- the expression is a name that stands for `print_string`
pub record IsPrintString (s : Scoped) (e : Expr) : Type 0 where
  pub name : Span
  pub is_name : e.kind ≡ Name name
  pub stands_for : lookup e.id s.refs ≡ Some (Operation PrintString)

-- the expression is `print_string TEXT`
pub record Prints (s : Scoped) (e : Expr) (bytes : List ℕ) : Type 0 where
  pub head : Expr
  pub argument : Expr
  pub applies : e.kind ≡ Apply head (argument ∷ [])
  pub print_string : IsPrintString s head
  pub literal : Lit
  pub is_text : argument.kind ≡ Text literal
  pub bytes_are : bytes ≡ literal.bytes

-- the item is a `let` without `rec` of this bind alone, which has no parameter and no written type
pub record IsOnlyBind (item : Item) (bind : Bind) : Type 0 where
  pub is_let : item.kind ≡ Let false (bind ∷ [])
  pub no_params : (out-Bind bind).params ≡ []
  pub no_result : (out-Bind bind).result ≡ None

-- the pattern is `()`
abbrev pub IsUnit : Pat → Type 0
IsUnit pat = pat.kind ≡ Con UnitName None

-- the item is `let () = print_string TEXT`
pub record PrintsText (s : Scoped) (item : Item) (bytes : List ℕ) : Type 0 where
  pub bind : Bind
  pub is_only : IsOnlyBind item bind
  pub unit : IsUnit (out-Bind bind).pat
  pub prints : Prints s (out-Bind bind).body bytes

-- ---- programs of such items

-- these items bind functions or print texts, which are these in order
pub data PrintTexts (s : Scoped) : List Item → List (List ℕ) → Type 0 where
  nothing : PrintTexts s [] []
  functions : {item : Item} {items : List Item} {texts : List (List ℕ)} →
      BindsFunctions s item → PrintTexts s items texts → PrintTexts s (item ∷ items) texts
  text_and : {item : Item} {items : List Item} {bytes : List ℕ} {texts : List (List ℕ)} →
      PrintsText s item bytes → PrintTexts s items texts → PrintTexts s (item ∷ items) (bytes ∷ texts)

-- the bytes of a text, each on channel 1
abbrev pub on_1 : List ℕ → List (ℕ × ℕ)
on_1 bytes = map (λ byte. (1, byte)) bytes

-- the texts, one after another
abbrev pub joined : List (List ℕ) → List ℕ
joined texts = flat_map (λ text. text) texts

-- The programs that can be compiled today: each item of the file prints a text, and each built-in
-- definition binds functions.
use Rattle.std.specs.Prelude.{◌≡◌, ℕ, ◌<◌, ◌≤◌, List, [], ◌∷◌, ◌++◌, Option, Some}
use Rattle.oxml_base.specs.declared.span.Span.{Span}
use Rattle.ml_tree.specs.declared.pattern.Pat.{Pat}
use Rattle.ml_tree.specs.declared.pattern.PatKind.TheVariants.{Name as Binds}
use Rattle.ml_tree.specs.declared.words.Words.{Words}
use Rattle.ml_tree.specs.declared.program.Item.{Item}
use Rattle.ml_tree.specs.declared.scoped.Scoped.{Scoped}
use Rattle.ml_meaning.specs.Functions.{FunctionCode, functions_of}
use Rattle.ml_words.specs.Named.{targets}
use Rattle.ml_functions.specs.declared.function.Functions.{Functions}
use Rattle.ml_functions.specs.Table.{IsTable}
use Rattle.meaning_laws.specs.Items.{BindsFunctions, PrintsText}
use Rattle.oxml_driver.specs.declared.form.Form.{Form}
use Rattle.oxml_driver.specs.declared.form.Form.TheVariants.{BuiltIn, Printing, Other}
use Rattle.oxml_driver.specs.declared.form.FormErr.{FormErr}
use Rattle.oxml_driver.specs.declared.form.FormErr.TheVariants.{LeftOut as FirstLeftOut, NoMemory}

-- the functions that were found are those of the program
abbrev pub AreFunctions : Scoped → Functions → Type 0
AreFunctions s functions = IsTable functions.places.now functions.list.now (functions_of (targets s) s.program.items)

-- the pattern is a name alone
pub record BindsName (pat : Pat) : Type 0 where
  pub words : Words
  pub name : Span
  pub is_name : pat.kind ≡ Binds words name

-- there is a function, and it captures nothing
pub record CapturesNothing (function : Option FunctionCode) : Type 0 where
  pub code : FunctionCode
  pub is_code : function ≡ Some code
  pub captures_none : code.captures ≡ []

-- the item is one of the file, which takes up so many bytes at the front of the text
abbrev pub IsOfFile : ℕ → Item → Type 0
IsOfFile size item = item.span.start < size

-- what an item adds to the texts that are printed: nothing where it is not of the file
pub data ItemPrints (s : Scoped) (size : ℕ) (item : Item) : List (List ℕ) → Type 0 where
  built_in : size ≤ item.span.start → BindsFunctions s item → ItemPrints s size item []
  prints : {bytes : List ℕ} → IsOfFile size item → PrintsText s item bytes → ItemPrints s size item (bytes ∷ [])

-- the items of the file among these print these texts, in order
pub data PrintTexts (s : Scoped) (size : ℕ) : List Item → List (List ℕ) → Type 0 where
  nothing : PrintTexts s size [] []
  item_and : {item : Item} {items : List Item} {first texts : List (List ℕ)} →
      ItemPrints s size item first → PrintTexts s size items texts →
      PrintTexts s size (item ∷ items) (first ++ texts)

-- the item is one of the file and prints no text, or a built-in definition that does not bind functions
-- which capture nothing
pub data IsLeftOut (s : Scoped) (size : ℕ) (item : Item) : Type 0 where
  prints_none : IsOfFile size item → ((bytes : List ℕ) → PrintsText s item bytes → ⊥) → IsLeftOut s size item
  binds_other : size ≤ item.span.start → (BindsFunctions s item → ⊥) → IsLeftOut s size item

-- the first item among these that is left out has this span
pub data LeftOut (s : Scoped) (size : ℕ) : List Item → Span → Type 0 where
  here : {item : Item} {items : List Item} → IsLeftOut s size item → LeftOut s size (item ∷ items) item.span
  behind : {item : Item} {items : List Item} {first : List (List ℕ)} {span : Span} →
      ItemPrints s size item first → LeftOut s size items span → LeftOut s size (item ∷ items) span

-- what an item is
abbrev pub IsForm : Scoped → ℕ → Item → Form → Type 0
IsForm s size item BuiltIn = ItemPrints s size item []
IsForm s size item (Printing literal) = ItemPrints s size item (literal.now.bytes ∷ [])
IsForm s size item Other = IsLeftOut s size item

-- why an item adds no text that is had
abbrev pub ItemFails : Scoped → ℕ → Item → FormErr → Type 0
ItemFails s size item (FirstLeftOut span) = IsLeftOut s size item × (span ≡ item.span)
ItemFails s size item NoMemory = Unit {0}

-- what an item adds to the texts
abbrev pub AddsText : Scoped → ℕ → Item → List (List ℕ) → List (List ℕ) → Type 0
AddsText s size item old new = (first : List (List ℕ)) × ItemPrints s size item first × (new ≡ old ++ first)

-- why the texts are not had
abbrev pub FormFails : Scoped → ℕ → List Item → FormErr → Type 0
FormFails s size items (FirstLeftOut span) = LeftOut s size items span
FormFails s size items NoMemory = Unit {0}

-- Two programs that are the same, with names that stand for the same, print the same.
use Rattle.std.proofs.Common.{◌≡◌, ℕ, List, Some, sym, ap, ◌∙◌, subst}
use Rattle.ml_tree.specs.declared.expr.Bind.{Bind, out-Bind}
use Rattle.ml_tree.specs.declared.expr.Expr.{Expr}
use Rattle.ml_tree.specs.declared.program.Item.{Item}
use Rattle.ml_tree.specs.declared.reference.Op.TheVariants.{PrintString}
use Rattle.ml_tree.specs.declared.reference.Ref.TheVariants.{Operation}
use Rattle.ml_tree.specs.declared.scoped.Scoped.{Scoped}
use Rattle.ml_meaning.specs.Functions.{functions_of}
use Rattle.ml_meaning.specs.Names.{lookup}
use Rattle.meaning_laws.specs.Items.{BindsFunction, BindsFunctions, IsPrintString, Prints, PrintsText, code_at}
use Rattle.oxml_driver.specs.Form.{ItemPrints, PrintTexts, built_in, item_and, nothing, prints}

module _ (s t : Scoped) (program : s.program ≡ t.program) (refs : s.refs ≡ t.refs) where
  same_code : (node : ℕ) → code_at s node ≡ code_at t node
  same_code node =
      ap (λ names. lookup node (functions_of (λ k. lookup k names) s.program.items)) refs
      ∙ ap (λ p. lookup node (functions_of (λ k. lookup k t.refs) p.items)) program

  name_too : (e : Expr) → IsPrintString s e → IsPrintString t e
  name_too e is = record {
    name = is.name;
    is_name = is.is_name;
    stands_for = subst (λ names. lookup e.id names ≡ Some (Operation PrintString)) refs is.stands_for;
  }

  prints_too : (e : Expr) (bytes : List ℕ) → Prints s e bytes → Prints t e bytes
  prints_too e bytes p = record {
    head = p.head;
    argument = p.argument;
    applies = p.applies;
    print_string = name_too p.head p.print_string;
    literal = p.literal;
    is_text = p.is_text;
    bytes_are = p.bytes_are;
  }

  text_too : (item : Item) (bytes : List ℕ) → PrintsText s item bytes → PrintsText t item bytes
  text_too item bytes p = record {
    bind = p.bind;
    is_only = p.is_only;
    unit = p.unit;
    prints = prints_too (out-Bind p.bind).body bytes p.prints;
  }

  function_too : (bind : Bind) → BindsFunction s bind → BindsFunction t bind
  function_too bind f = record {
    words = f.words;
    name = f.name;
    is_name = f.is_name;
    first = f.first;
    others = f.others;
    has_params = f.has_params;
    code = f.code;
    is_code = sym (same_code (out-Bind bind).pat.id) ∙ f.is_code;
    captures_none = f.captures_none;
  }

  functions_too : (item : Item) → BindsFunctions s item → BindsFunctions t item
  functions_too item f = record {
    recursive = f.recursive;
    binds = f.binds;
    is_let = f.is_let;
    are_functions = λ k d less. function_too _ (f.are_functions k d less);
  }

  item_too : (size : ℕ) {item : Item} {texts : List (List ℕ)} → ItemPrints s size item texts → ItemPrints t size item texts
  item_too size (built_in behind f) = built_in behind (functions_too _ f)
  item_too size (prints of_file p) = prints of_file (text_too _ _ p)

  pub print_too : (size : ℕ) {items : List Item} {texts : List (List ℕ)} → PrintTexts s size items texts → PrintTexts t size items texts
  print_too size nothing = nothing
  print_too size (item_and one rest) = item_and (item_too size one) (print_too size rest)

-- The items that print texts.
use Rattle.std.proofs.Common.{◌≡◌, ◌≤◌, ◌<◌, ◌+◌, ℕ, Bool, List, [], ◌∷◌, ◌++◌, length, drop, get_or, arith, Option, Some, None, IfSome, IfNone, refl, sym, ◌∙◌, ap, subst, append-nil, append_assoc}
use Rattle.std.specs.Bool.{Decides}
use Rattle.std.proofs.lemmas.List.{drop_more}
use Rattle.std.specs.Borrow.{Bor}
use Rattle.oxml_base.specs.declared.literal.Lit.{Lit}
use Rattle.ml_tree.specs.declared.expr.Bind.{Bind, out-Bind}
use Rattle.ml_tree.specs.declared.expr.Expr.{Expr}
use Rattle.ml_tree.specs.declared.expr.ExprKind.TheVariants.{Apply, Name, Text}
use Rattle.ml_tree.specs.declared.program.Item.{Item}
use Rattle.ml_tree.specs.declared.reference.Op.TheVariants.{PrintString}
use Rattle.ml_tree.specs.declared.reference.Ref.{Ref}
use Rattle.ml_tree.specs.declared.reference.Ref.TheVariants.{Operation}
use Rattle.ml_tree.specs.declared.scoped.Scoped.{Scoped}
use Rattle.ml_meaning.specs.Names.{lookup}
use Rattle.meaning_laws.specs.Items.{IsOnlyBind, IsPrintString, IsUnit, Prints, PrintsText}
use Rattle.oxml_base.specs.declared.span.Span.{Span}
use Rattle.oxml_driver.specs.declared.form.FormErr.{FormErr}
use Rattle.oxml_driver.specs.declared.form.FormErr.TheVariants.{LeftOut as FirstLeftOut, NoMemory}
use Rattle.oxml_driver.specs.Form.{AddsText, FormFails, ItemFails, ItemPrints, LeftOut, PrintTexts, nothing, behind, here, item_and}

-- a name is `print_string` where that is what its node names
pub stands_for : (s : Scoped) (e : Expr) (name : Span) (found : Option Ref) (answer : Bool) → e.kind ≡ Name name → found ≡ lookup e.id s.refs → Decides answer (found ≡ Some (Operation PrintString)) → Decides answer (IsPrintString s e)
stands_for s e name found answer is at (named, tells) = (
  λ t. record { name = name; is_name = is; stands_for = sym at ∙ named t },
  λ printed. tells (at ∙ printed.stands_for),
)

single : {X : Type 0} (xs : List X) (x : X) → 1 ≤ length xs → length xs < 2 → x ≡ get_or xs 0 x → xs ≡ x ∷ []
single [] x some one is = absurd (omega arith)
single (y ∷ []) x some one is = ap (λ z. z ∷ []) (sym is)
single (y ∷ z ∷ ys) x some one is = absurd (omega arith)

-- what `print_string TEXT` prints is what its argument is
pub prints_some : (s : Scoped) (e head argument : Expr) (arguments : List Expr) (literal : Option (Bor Lit)) → e.kind ≡ Apply head arguments → 1 ≤ length arguments → length arguments < 2 → argument ≡ get_or arguments 0 argument → IsPrintString s head → IfSome literal (λ l. argument.kind ≡ Text l.now) → IfSome literal (λ l. Prints s e l.now.bytes)
prints_some s e head argument arguments None applies some one first is text_is = tt
prints_some s e head argument arguments (Some l) applies some one first is text_is = record {
  head = head;
  argument = argument;
  applies = applies ∙ ap (λ es. Apply head es) (single arguments argument some one first);
  print_string = is;
  literal = l.now;
  is_text = text_is;
  bytes_are = refl;
}

pub item_some : (s : Scoped) (item : Item) (bind : Bind) (literal : Option (Bor Lit)) → IsOnlyBind item bind → IsUnit (out-Bind bind).pat → IfSome literal (λ l. Prints s (out-Bind bind).body l.now.bytes) → IfSome literal (λ l. PrintsText s item l.now.bytes)
item_some s item bind None only unit prints = tt
item_some s item bind (Some l) only unit prints =
    record { bind = bind; is_only = only; unit = unit; prints = prints }

same_bind : {item : Item} {one other : Bind} → IsOnlyBind item one → IsOnlyBind item other → one ≡ other
same_bind {item} {one} {other} a b = let e = sym a.is_let ∙ b.is_let in cc

pub item_none : {X : Type 0} (s : Scoped) (item : Item) (bind : Bind) (literal : Option X) → IsOnlyBind item bind → IfNone literal ((bytes : List ℕ) → Prints s (out-Bind bind).body bytes → ⊥) → IfNone literal ((bytes : List ℕ) → PrintsText s item bytes → ⊥)
item_none s item bind None only none = λ bytes printed.
    none bytes (subst (λ b. Prints s (out-Bind b).body bytes) (same_bind printed.is_only only) printed.prints)
item_none s item bind (Some l) only none = tt

-- what is told once the items from a place on are told
pub record Told (s : Scoped) (size : ℕ) (items rest : List Item) (texts : List (List ℕ)) : Type 0 where
  pub print : (us : List (List ℕ)) → PrintTexts s size rest us → PrintTexts s size items (texts ++ us)
  pub left_out : (span : Span) → LeftOut s size rest span → LeftOut s size items span

pub told_first : (s : Scoped) (size : ℕ) (items : List Item) → Told s size items items []
told_first s size items = record { print = λ us p. p; left_out = λ span l. l }

pub told_next : (s : Scoped) (size : ℕ) (items : List Item) (item : Item) (rest : List Item) (texts first : List (List ℕ)) → ItemPrints s size item first → Told s size items (item ∷ rest) texts → Told s size items rest (texts ++ first)
told_next s size items item rest texts first one told = record {
  print = λ us p. subst (λ ts. PrintTexts s size items ts) (sym (append_assoc texts first us)) (told.print (first ++ us) (item_and one p));
  left_out = λ span l. told.left_out span (behind one l);
}

pub told_all : (s : Scoped) (size : ℕ) (items : List Item) (texts : List (List ℕ)) → Told s size items [] texts → PrintTexts s size items texts
told_all s size items texts told =
    subst (λ ts. PrintTexts s size items ts) (append-nil texts) (told.print [] nothing)

-- the item at a place of the list, and those behind it
at_place : (items : List Item) (item : Item) (i : ℕ) → i < length items → item ≡ get_or items i item → drop i items ≡ item ∷ drop (i + 1) items
at_place items item i inside is =
    drop_more items i item inside ∙ ap (λ x. x ∷ drop (i + 1) items) (sym is)

-- the loop's step: the item at its place added its s
pub told_step : (s : Scoped) (size : ℕ) (items : List Item) (item : Item) (i : ℕ) (old new : List (List ℕ)) → i < length items → item ≡ get_or items i item → AddsText s size item old new → Told s size items (drop i items) old → Told s size items (drop (i + 1) items) new
told_step s size items item i old new inside is (first, one, added) told =
    let from = subst (λ rest. Told s size items rest old) (at_place items item i inside is) told in
    subst (λ ts. Told s size items (drop (i + 1) items) ts) (sym added) (told_next s size items item (drop (i + 1) items) old first one from)

pub told_error : (s : Scoped) (size : ℕ) (items : List Item) (item : Item) (i : ℕ) (texts : List (List ℕ)) (e : FormErr) → i < length items → item ≡ get_or items i item → ItemFails s size item e → Told s size items (drop i items) texts → FormFails s size items e
told_error s size items item i texts (FirstLeftOut span) inside is (left, same) told =
    let from = subst (λ rest. Told s size items rest texts) (at_place items item i inside is) told in
    subst (λ at. LeftOut s size items at) (sym same) (from.left_out item.span (here left))
told_error s size items item i texts NoMemory inside is fails told = tt

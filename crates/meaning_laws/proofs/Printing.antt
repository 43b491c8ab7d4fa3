-- Items that print a text, and programs of such items.
use Rattle.std.proofs.Common.{◌≡◌, ℕ, false, List, [], ◌∷◌, ◌++◌, take, drop, flat_map, Some, refl, sym, ap, ◌∙◌, append-nil, append_assoc}
use Rattle.ml_tree.specs.declared.expr.Bind.{Bind, out-Bind}
use Rattle.ml_tree.specs.declared.expr.Expr.{Expr}
use Rattle.ml_tree.specs.declared.program.Item.{Item}
use Rattle.ml_tree.specs.declared.program.ItemKind.TheVariants.{Let as ItemLet}
use Rattle.ml_tree.specs.declared.reference.Op.TheVariants.{PrintString}
use Rattle.ml_tree.specs.declared.scoped.Scoped.{Scoped}
use Rattle.ml_meaning.specs.declared.event.Ending.TheVariants.{Exit}
use Rattle.ml_meaning.specs.declared.event.Event.{Event}
use Rattle.ml_meaning.specs.declared.event.Event.TheVariants as event
use Rattle.ml_meaning.specs.Evaluation.{ExprMeaning, Named, application, closure, operation_named, operation_result, values}
use Rattle.ml_meaning.specs.Operations.{operate}
use Rattle.ml_meaning.specs.Patterns.{Env, all_fit, both_fit}
use Rattle.ml_meaning.specs.Programs.{answer, bind_meaning, bound, calls, eval, expr_meaning, item_evaluated, item_run, item_weight, items_run}
use Rattle.ml_meaning.specs.Runs.{Done, Ended, after, ◌>>=◌}
use Rattle.ml_meaning.specs.Tellings.{Call, Inner, Last, Meaning, finish}
use Rattle.ml_meaning.specs.Traces.{bytes}
use Rattle.ml_meaning.specs.Values.{Bytes, unit_value}
use Rattle.meaning_laws.specs.Items.{IsPrintString, IsUnit, Prints, PrintsText, PrintTexts, call_alone, functions, joined, nothing, on_1, setting_of, text_and}
use Rattle.meaning_laws.proofs.Binding.{binds_only}
use Rattle.meaning_laws.proofs.Layers.{apply_is, bind_is, expr_is, kind_fits, kind_meaning, meant_bind, name_is, pat_is, text_is, unit_is}

-- each byte is put on channel 1
abbrev puts_of : List ℕ → List Event
puts_of text = flat_map (λ byte. event.Put 1 byte ∷ []) text

-- what is told of an item that prints a text
abbrev printed : ℕ → List ℕ → List Event
printed weight text =
    event.Enter weight ∷ event.Open ∷ ((((puts_of text ++ []) ++ []) ++ []) ++ (event.Close ∷ event.Leave weight ∷ []))

module _ (s : Scoped) (tops : Env) where
  -- ---- `print_string TEXT`

  text_runs : (argument : Expr) (text : List ℕ) (c : Call Event) → (kind_meaning Event (setting_of s tops) argument.kind argument.id).run c Inner [] ≡ Done [] (Bytes text) → (expr_meaning Event (setting_of s tops) argument).run c Inner [] ≡ Done [] (Bytes text)
  text_runs argument text c run =
      ap (λ m. m.run c Inner []) (expr_is Event (setting_of s tops) argument) ∙ ap (λ r. after [] r) run

  head_is : (head : Expr) → IsPrintString s head → (expr_meaning Event (setting_of s tops) head).form ≡ Named PrintString
  head_is head is =
      ap (λ m. m.form) (expr_is Event (setting_of s tops) head)
      ∙ (ap (λ k. (kind_meaning Event (setting_of s tops) k head.id).form) is.is_name
      ∙ (ap (λ m. (m head.id).form) (name_is Event (setting_of s tops) is.name)
      ∙ ap operation_named is.stands_for))

  -- an operation's name on one argument is the operation
  print_applied : (node : ℕ) (head argument : Expr) (text : List ℕ) (c : Call Event) → (expr_meaning Event (setting_of s tops) head).form ≡ Named PrintString → (expr_meaning Event (setting_of s tops) argument).run c Inner [] ≡ Done [] (Bytes text) → application Event (setting_of s tops) node (expr_meaning Event (setting_of s tops) head) ((expr_meaning Event (setting_of s tops) argument).run ∷ []) c Inner [] ≡ Done (puts_of text ++ []) unit_value
  print_applied node head argument text c is run = by_form (expr_meaning Event (setting_of s tops) head) is
    where
      operated : values Event (setting_of s tops) ((expr_meaning Event (setting_of s tops) argument).run ∷ []) c [] ≡ Done [] (Bytes text ∷ [])
      operated = ap (λ r. after [] (r >>= λ v. Done [] (v ∷ []))) run

      by_form : (m : ExprMeaning Event) → m.form ≡ Named PrintString → application Event (setting_of s tops) node m ((expr_meaning Event (setting_of s tops) argument).run ∷ []) c Inner [] ≡ Done (puts_of text ++ []) unit_value
      by_form m is =
          ap (λ form. application Event (setting_of s tops) node (record { form = form; run = m.run }) ((expr_meaning Event (setting_of s tops) argument).run ∷ []) c Inner []) is
          ∙ ap (λ r. r >>= λ vs. operate Event (setting_of s tops) (Some node) PrintString (take 1 vs) >>= operation_result Event (setting_of s tops) Inner (drop 1 vs)) operated

  prints_run : (e : Expr) (text : List ℕ) (c : Call Event) → Prints s e text → (expr_meaning Event (setting_of s tops) e).run c Inner [] ≡ Done (puts_of text ++ []) unit_value
  prints_run e text c p =
      let literal_is = sym p.bytes_are in
      let literal_runs = ap (λ k. (kind_meaning Event (setting_of s tops) k p.argument.id).run c Inner []) p.is_text ∙ (ap (λ m. (m p.argument.id).run c Inner []) (text_is Event (setting_of s tops) p.literal) ∙ ap (λ b. Done [] (Bytes b)) literal_is) in
      let argument_runs = text_runs p.argument text c literal_runs in
      ap (λ m. m.run c Inner []) (expr_is Event (setting_of s tops) e)
      ∙ (ap (λ k. after [] ((kind_meaning Event (setting_of s tops) k e.id).run c Inner [])) p.applies
      ∙ (ap (λ m. after [] ((m e.id).run c Inner [])) (apply_is Event (setting_of s tops) p.head (p.argument ∷ []))
      ∙ ap (λ r. after [] r) (print_applied e.id p.head p.argument text c (head_is p.head p.print_string) argument_runs)))

  -- ---- `let () = print_string TEXT`

  unit_fits : (bind : Bind) → IsUnit (out-Bind bind).pat → (bind_meaning Event (setting_of s tops) bind).fits unit_value ≡ Some []
  unit_fits bind is =
      let names = (setting_of s tops).names in
      ap (λ m. m.fits unit_value) (bind_is Event (setting_of s tops) bind)
      ∙ (ap (λ m. m unit_value) (pat_is names (out-Bind bind).pat)
      ∙ (ap (λ k. (kind_fits names k (out-Bind bind).pat.id).whole unit_value) is
      ∙ ap (λ m. (m (out-Bind bind).pat.id).whole unit_value) (unit_is names)))

  print_value : (bind : Bind) (text : List ℕ) (c : Call Event) → (out-Bind bind).params ≡ [] → Prints s (out-Bind bind).body text → (bind_meaning Event (setting_of s tops) bind).value c Inner [] ≡ Done (puts_of text ++ []) unit_value
  print_value bind text c none p =
      ap (λ m. m.value c Inner []) (bind_is Event (setting_of s tops) bind)
      ∙ (ap (λ ps. let m : Meaning Event = elim (ps) [ [] ↦ (meant_bind Event (setting_of s tops) (out-Bind bind)).body.run | q ∷ qs ↦ closure Event (setting_of s tops) (out-Bind bind).pat.id ] in m c Inner []) none
      ∙ prints_run (out-Bind bind).body text c p)

  item_prints : (n : ℕ) (item : Item) (text : List ℕ) → PrintsText s item text → item_evaluated Event (setting_of s tops) n item.kind ≡ Done (printed (item_weight Event (setting_of s tops) item.kind) text) []
  item_prints n item text p =
      let c = calls Event (setting_of s tops) n in
      let b = p.bind in
      let value = print_value b text c p.is_only.no_params p.prints in
      let all_values : values Event (setting_of s tops) ((bind_meaning Event (setting_of s tops) b).value ∷ []) c [] ≡ Done ((puts_of text ++ []) ++ []) (unit_value ∷ []) =
      ap (λ r. after [] (r >>= λ v. Done [] (v ∷ []))) value in
      let fit : all_fit ((bind_meaning Event (setting_of s tops) b).fits ∷ []) (unit_value ∷ []) ≡ Some [] =
      ap (λ one. both_fit one (Some [])) (unit_fits b p.unit) in
      let run : item_run Event (setting_of s tops) n (ItemLet false (b ∷ [])) ≡ Done (((puts_of text ++ []) ++ []) ++ []) [] =
      ap (λ r. r >>= λ vs. bound Event (setting_of s tops) (all_fit ((bind_meaning Event (setting_of s tops) b).fits ∷ []) vs)) all_values
      ∙ ap (λ names. after ((puts_of text ++ []) ++ []) (bound Event (setting_of s tops) names)) fit in
      let at_kind = ap (λ kind. item_run Event (setting_of s tops) n kind) p.is_only.is_let ∙ run in
      ap (λ r. after (event.Enter (item_weight Event (setting_of s tops) item.kind) ∷ event.Open ∷ []) (r >>= λ xs. finish Event (setting_of s tops) (Last (item_weight Event (setting_of s tops) item.kind)) xs)) at_kind

-- ---- what is written

bytes_of_puts : (text : List ℕ) (es : List Event) → bytes (puts_of text ++ es) ≡ on_1 text ++ bytes es
bytes_of_puts [] es = refl
bytes_of_puts (byte ∷ text) es = ap (λ out. (1, byte) ∷ out) (bytes_of_puts text es)

bytes_of_printed : (weight : ℕ) (text : List ℕ) (es : List Event) → bytes (printed weight text ++ es) ≡ on_1 text ++ bytes es
bytes_of_printed weight text es =
    let none = append-nil (puts_of text) in
    let bare : ((puts_of text ++ []) ++ []) ++ [] ≡ puts_of text = append-nil _ ∙ (append-nil _ ∙ none) in
    ap (λ front. bytes ((front ++ (event.Close ∷ event.Leave weight ∷ [])) ++ es)) bare
    ∙ (ap bytes (append_assoc (puts_of text) (event.Close ∷ event.Leave weight ∷ []) es)
    ∙ bytes_of_puts text (event.Close ∷ event.Leave weight ∷ es))

on_1_joined : (text : List ℕ) (texts : List (List ℕ)) → on_1 text ++ on_1 (joined texts) ≡ on_1 (joined (text ∷ texts))
on_1_joined [] texts = refl
on_1_joined (byte ∷ text) texts = ap (λ out. (1, byte) ∷ out) (on_1_joined text texts)

-- the items run to their end, and write these texts
record AreWritten (s : Scoped) (n : ℕ) (items : List Item) (tops : Env) (texts : List (List ℕ)) : Type 0 where
  events : List Event
  names : Env
  run : items_run Event (λ e. e ∷ []) [] s n items tops ≡ Done events names
  written : bytes events ≡ on_1 (joined texts)

are_written : (s : Scoped) (n : ℕ) (tops : Env) {items : List Item} {texts : List (List ℕ)} → PrintTexts s items texts → AreWritten s n items tops texts
are_written s n tops nothing = record { events = []; names = tops; run = refl; written = refl }
are_written s n tops (functions {item} {items} f rest) =
    let one = binds_only s n tops item f in
    let others = are_written s n (one.names ++ tops) rest in
    record {
      events = call_alone (item_weight Event (setting_of s tops) item.kind) ++ others.events;
      names = others.names;
      run =
          ap (λ r. r >>= λ xs. items_run Event (λ e. e ∷ []) [] s n items (xs ++ tops)) one.run
          ∙ ap (λ r. after (call_alone (item_weight Event (setting_of s tops) item.kind)) r) others.run;
      written = others.written;
    }
are_written s n tops (text_and {item} {items} {bytes = text} {texts} p rest) =
    let one = item_prints s tops n item text p in
    let others = are_written s n tops rest in
    record {
      events = printed (item_weight Event (setting_of s tops) item.kind) text ++ others.events;
      names = others.names;
      run =
          ap (λ r. r >>= λ xs. items_run Event (λ e. e ∷ []) [] s n items (xs ++ tops)) one
          ∙ ap (λ r. after (printed (item_weight Event (setting_of s tops) item.kind) text) r) others.run;
      written =
          bytes_of_printed (item_weight Event (setting_of s tops) item.kind) text others.events
          ∙ (ap (λ out. on_1 text ++ out) others.written ∙ on_1_joined text texts);
    }

answered : (s : Scoped) (texts : List (List ℕ)) (n : ℕ) → PrintTexts s s.program.items texts → (events : List Event) × (eval n s ≡ (events, Ended (Exit 0))) × (bytes events ≡ on_1 (joined texts))
answered s texts n print =
    let all = are_written s n [] print in (all.events, ap answer all.run, all.written)

pub program_writes : (s : Scoped) (texts : List (List ℕ)) (n : ℕ) → PrintTexts s s.program.items texts → bytes (eval n s).0 ≡ on_1 (joined texts)
program_writes s texts n print =
    let (events, is, written) = answered s texts n print in
    ap (λ a. bytes a.0) is ∙ written

pub program_ends : (s : Scoped) (texts : List (List ℕ)) (n : ℕ) → PrintTexts s s.program.items texts → (eval n s).1 ≡ Ended (Exit 0)
program_ends s texts n print =
    let (events, is, written) = answered s texts n print in
    ap (λ a. a.1) is

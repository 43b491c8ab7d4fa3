-- An executable that agrees with the texts that a program prints agrees with the program's meaning.
use Rattle.std.proofs.Common.{◌≡◌, ◌⊎◌, inl, inr, ℕ, List, sym, ◌∙◌, ap, subst}
use Rattle.ml_tree.specs.declared.scoped.Scoped.{Scoped}
use Rattle.x64_table.specs.declared.image.Image.{Image}
use Rattle.x64_table.specs.Agreement.{Agrees, Ends, HasExited, IsMeant, IsPrefix, IsRefused, Meant, RunAgrees, no_excuse}
use Rattle.elf_image.specs.Layout.{image_of}
use Rattle.x64_table.specs.Kernel.{Run, after, start}
use Rattle.ml_tree.specs.declared.program.Item.{Item}
use Rattle.x64_table.specs.declared.image.Sizes.{Sizes}
use Rattle.meaning_laws.specs.Items.{PrintTexts, functions, nothing, text_and}
use Rattle.meaning_laws.proofs.Printing.{program_ends, program_writes}
use Rattle.oxml_driver.specs.Build.{Compiles, IsPrinter, PrintsTexts}
use Rattle.oxml_driver.specs.Form.{built_in, item_and, prints as item_prints}
use Rattle.oxml_driver.specs.Form as form
use Rattle.oxml_driver.specs.Meaning.{meaning_of, outcome}
use Rattle.oxml_driver.specs.Printer.{on_1, joined, prints}

-- ---- meanings that are the same at every bound

module _ (one other : ℕ → Meant) (same : (bound : ℕ) → one bound ≡ other bound) (excuse : ℕ → List (ℕ × ℕ) → Type 0) where
  ends_too : (bound status : ℕ) → (one bound).ending ≡ Ends status → (other bound).ending ≡ Ends status
  ends_too bound status is = subst (λ m. m.ending ≡ Ends status) (same bound) is

  begins_too : (bound : ℕ) (out : List (ℕ × ℕ)) → IsPrefix out (one bound).out → IsPrefix out (other bound).out
  begins_too bound out is = subst (λ m. IsPrefix out m.out) (same bound) is

  exits_too : (run : Run) (status : ℕ) → IsMeant one status run ⊎ (excuse status run.out ⊎ IsRefused one status run) → IsMeant other status run ⊎ (excuse status run.out ⊎ IsRefused other status run)
  exits_too run status (inl meant) = inl (record {
    bound = meant.bound;
    ends = ends_too meant.bound status meant.ends;
    whole = subst (λ m. m.out ≡ run.out) (same meant.bound) meant.whole;
  })
  exits_too run status (inr (inl excused)) = inr (inl excused)
  exits_too run status (inr (inr refused)) = inr (inr (record {
    gave_up = refused.gave_up;
    refused = refused.refused;
    bound = refused.bound;
    part = begins_too refused.bound run.out refused.part;
  }))

  reaches_too : (run : ℕ → Run) (bound : ℕ) → (n : ℕ) × (IsPrefix (one bound).out (run n).out ⊎ HasExited (run n)) → (n : ℕ) × (IsPrefix (other bound).out (run n).out ⊎ HasExited (run n))
  reaches_too run bound (n, inl part) = (n, inl (subst (λ m. IsPrefix m.out (run n).out) (same bound) part))
  reaches_too run bound (n, inr exited) = (n, inr exited)

  run_agrees_too : (run : ℕ → Run) → RunAgrees one excuse run → RunAgrees other excuse run
  run_agrees_too run a = record {
    never_faults = a.never_faults;
    written = λ n. let (bound, part) = a.written n in (bound, begins_too bound (run n).out part);
    exits = λ n status is. exits_too (run n) status (a.exits n status is);
    reaches = λ bound. reaches_too run bound (a.reaches bound);
    ends = λ bound status is. a.ends bound status (subst (λ m. m.ending ≡ Ends status) (sym (same bound)) is);
    asks_no_more = a.asks_no_more;
    gives_up = a.gives_up;
  }

  agrees_too : (image : Image) → Agrees one excuse image → Agrees other excuse image
  agrees_too image a = λ answers fit. run_agrees_too (λ n. after n (start image answers)) (a answers fit)

-- ---- a program that prints texts

meant_is : (meant : Meant) (out : List (ℕ × ℕ)) → meant.ending ≡ Ends 0 → meant.out ≡ out → record { ending = Ends 0; out = out } ≡ meant
meant_is meant out ends is =
    ap (λ e. record { ending = e; out = out }) (sym ends) ∙ ap (λ o. record { ending = meant.ending; out = o }) (sym is)

prints_means : (s : Scoped) (texts : List (List ℕ)) → PrintTexts s s.program.items texts → (fuel : ℕ) → prints texts fuel ≡ meaning_of s fuel
prints_means s texts print fuel =
    meant_is (meaning_of s fuel) (on_1 (joined texts)) (ap outcome (program_ends s texts fuel print)) (program_writes s texts fuel print)

agrees_with_meaning : (s : Scoped) (texts : List (List ℕ)) (excuse : ℕ → List (ℕ × ℕ) → Type 0) (image : Image) → PrintTexts s s.program.items texts → Agrees (prints texts) excuse image → Agrees (meaning_of s) excuse image
agrees_with_meaning s texts excuse image print agrees =
    agrees_too (prints texts) (meaning_of s) (prints_means s texts print) excuse image agrees

-- the items of a file and the built-in definitions are items of the laws
print_texts : {s : Scoped} {size : ℕ} {items : List Item} {texts : List (List ℕ)} → form.PrintTexts s size items texts → PrintTexts s items texts
print_texts form.nothing = nothing
print_texts (item_and (built_in behind binds) rest) = functions binds (print_texts rest)
print_texts (item_and (item_prints of_file printed) rest) = text_and printed (print_texts rest)

pub compiles : (source : List ℕ) (texts : List (List ℕ)) (sizes : Sizes) (bytes : List ℕ) → PrintsTexts source texts → IsPrinter texts sizes bytes → Compiles source sizes bytes
compiles source texts sizes bytes prints printer = record {
  texts = texts;
  prints = prints;
  image = record {
    code = printer.code;
    loads = printer.loads;
    agrees = agrees_with_meaning prints.scoped texts no_excuse (image_of printer.code sizes) (print_texts prints.print) printer.agrees;
  };
}

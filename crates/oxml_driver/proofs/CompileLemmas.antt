-- The executable of a text does what the text means.
use Rattle.std.proofs.Common.{◌≡◌, ℕ, ◌≤◌, List, length, sym, subst, Result, Ok, Err, IfOk}
use Rattle.x64_table.specs.declared.image.Code.{Code}
use Rattle.x64_table.specs.declared.image.Sizes.{Sizes}
use Rattle.x64_table.specs.Agreement.{Agrees, no_excuse}
use Rattle.elf_image.specs.Layout.{image_of}
use Rattle.elf_image.specs.Load.{loaded}
use Rattle.oxml_driver.specs.Build.{IsPrinter, IsPrinterCode}
use Rattle.oxml_driver.specs.Printer.{prints}
use Rattle.oxml_driver.proofs.PrinterTexts.{printer_agrees}

is_printer : (texts : List (List ℕ)) (sizes : Sizes) (code : Code) (bytes : List ℕ) → IsPrinterCode texts code → loaded bytes ≡ Ok (image_of code sizes) → IsPrinter texts sizes bytes
is_printer texts sizes code bytes is loads =
    let most = subst (λ c. length c.bytes ≤ 1_060_004_096) is.is_printer is.most in
    let literals = subst (λ c. length c.literals ≤ 1_060_004_096) is.is_printer is.literals in
    let agrees = printer_agrees texts sizes most literals in
    record {
      code = code;
      loads = loads;
      agrees = subst (λ c. Agrees (prints texts) no_excuse (image_of c sizes)) (sym is.is_printer) agrees;
    }

pub are_printers : {V E : Type 0} (texts : List (List ℕ)) (sizes : Sizes) (code : Code) (bytes : V → List ℕ) (result : Result V E) → IsPrinterCode texts code → IfOk result (λ v. loaded (bytes v) ≡ Ok (image_of code sizes)) → IfOk result (λ v. IsPrinter texts sizes (bytes v))
are_printers texts sizes code bytes (Ok v) is loads = is_printer texts sizes code (bytes v) is loads
are_printers texts sizes code bytes (Err e) is loads = tt

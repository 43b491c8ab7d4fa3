-- With what the texts still to come give, the code and the literals are whole.
use Rattle.std.proofs.Common.{◌≡◌, ◌+◌, ◌++◌, length, drop, flat_map}
use Rattle.x64_table.specs.Encoding.{encoding}
use Rattle.oxml_driver.specs.Printer.{rows_of, joined, bytes_of}
use Rattle.oxml_driver.proofs.printer.printer.Given as goal

abbrev pub invariant-loop-text : goal.invariant-loop-text
invariant-loop-text l =
    record {
      code : l.bytes.items ++ flat_map encoding (rows_of (0x4000_0000 + length l.literals.items) (bytes_of (drop l.text-index l.texts))) ≡ flat_map encoding (rows_of 0x4000_0000 (bytes_of l.texts));
      literals : l.literals.items ++ joined (bytes_of (drop l.text-index l.texts)) ≡ joined (bytes_of l.texts);
    }

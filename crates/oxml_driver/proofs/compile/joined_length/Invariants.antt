use Rattle.std.proofs.Common.{◌≡◌, ◌-◌, ◌^◌, min, length, take}
use Rattle.oxml_driver.specs.Printer.{bytes_of, joined}
use Rattle.oxml_driver.proofs.compile.joined_length.Given as goal

abbrev pub invariant-loop-text : goal.invariant-loop-text
invariant-loop-text l = l.total ≡ min (length (joined (bytes_of (take l.text-index l.texts)))) (2 ^ 64 - 1)

-- The rows so far are behind the bytes that were there.
use Rattle.std.proofs.Common.{◌≡◌, ◌++◌, take, flat_map}
use Rattle.x64_table.specs.Encoding.{encoding}
use Rattle.oxml_driver.proofs.printer.add_all.Given as goal

abbrev pub invariant-loop-row : goal.invariant-loop-row
invariant-loop-row l = l.bytes.items ≡ l.fn.bytes.items ++ flat_map encoding (take l.row-index l.rows)

-- A segment that passes is found at its place.
use Rattle.std.proofs.Common.{sym, ap}
use Rattle.x64_table.specs.Machine.{is_writable, has_some}
use Rattle.x64_table.proofs.Lookup.{found_none, found_has}
use Rattle.x64_table.proofs.access.has_writable.Goals as goal

pub returns-in-Some : goal.returns-in-Some
returns-in-Some c =
    sym (found_has (is_writable c.args.cpu.now c.args.a c.args.n) c.args.segments.now c.in-Some.field-0 c.in-Some.ensures)

pub returns-in-None : goal.returns-in-None
returns-in-None c =
    sym (ap has_some (found_none (is_writable c.args.cpu.now c.args.a c.args.n) c.args.segments.now c.in-None.ensures))

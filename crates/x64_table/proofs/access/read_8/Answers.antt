-- The segment that is found holds the bytes.
use Rattle.std.proofs.Common.{sym}
use Rattle.x64_table.specs.Machine.{is_readable}
use Rattle.x64_table.specs.View.{loaded}
use Rattle.x64_table.proofs.Lookup.{find_passes, readable_holds}
use Rattle.x64_table.proofs.access.read_8.Goals as goal

pub number_in-requires : goal.number_in-requires
number_in-requires c =
    readable_holds c.args.cpu.now c.args.a 8 _ (find_passes (is_readable c.args.cpu.now c.args.a 8) (loaded c.args.segments.now) _ (sym c.in-Some.ensures))

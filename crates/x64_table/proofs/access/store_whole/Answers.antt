-- The write is at the place of the first segment that passes.
use Rattle.std.proofs.Common.{length, sym, ap}
use Rattle.x64_table.specs.Machine.{is_writable, with_bytes, has_some}
use Rattle.x64_table.proofs.Lookup.{found_none, found_has, found_passes, writable_holds, changed_some}
use Rattle.x64_table.proofs.access.store_whole.Goals as goal

pub write_in-requires : goal.write_in-requires
write_in-requires c =
    let n = length c.args.bytes.now in
    let cpu = c.args.cpu.now in
    writable_holds cpu c.args.a n _ (found_passes (is_writable cpu c.args.a n) c.args.segments.now c.in-Some.k _ c.in-Some.ensures)

pub returns-in-Some-clause-whole : goal.returns-in-Some-clause-whole
returns-in-Some-clause-whole c =
    sym (found_has (is_writable c.args.cpu.now c.args.a (length c.args.bytes.now)) c.args.segments.now c.in-Some.k c.in-Some.ensures)

pub returns-in-Some-clause-after : goal.returns-in-Some-clause-after
returns-in-Some-clause-after c =
    sym (changed_some (is_writable c.args.cpu.now c.args.a (length c.args.bytes.now)) (with_bytes c.args.a c.args.bytes.now) c.args.segments.now c.in-Some.k c.index-segments-k.result c.write_in.new.m c.in-Some.ensures c.write_in.ensures)

pub returns-in-None-clause-whole : goal.returns-in-None-clause-whole
returns-in-None-clause-whole c =
    sym (ap has_some (found_none (is_writable c.args.cpu.now c.args.a (length c.args.bytes.now)) c.args.segments.now c.in-None.ensures))

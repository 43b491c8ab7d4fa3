-- Each byte that is read is the next of the eight.
use Rattle.std.proofs.Common.{refl, sym, ◌∙◌, ◌<◌, length, arith, length-set, []}
use Rattle.x64_table.specs.Machine.{readable_byte}
use Rattle.x64_table.specs.View.{state}
use Rattle.x64_table.proofs.Bytewise.{byte_zero, byte_more}
use Rattle.x64_table.proofs.access.read_each.Goals as goal

pub loop-i-init : goal.loop-i-init
loop-i-init c =
    (refl, byte_zero (readable_byte (state c.args.cpu.now c.args.segments.now)) [] c.args.a)

pub loop-i-preserved : goal.loop-i-preserved
loop-i-preserved c =
    let h : c.loop-i.i < length c.loop-i.part = omega arith in
    (length-set c.loop-i.part c.loop-i.i c.in-Some.b ∙ c.loop-i.invariant.0, byte_more (readable_byte (state c.args.cpu.now c.args.segments.now)) c.loop-i.part c.loop-i.i c.args.a c.in-Some.b c.loop-i.invariant.1 (sym c.in-Some.ensures) h)

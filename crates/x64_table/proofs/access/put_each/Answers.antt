-- The bytes that are left are written over what stands already.
use Rattle.std.proofs.Common.{sym, ◌∙◌, get_or, [], ◌∷◌, arith, ◌≤◌, ◌<◌, length}
use Rattle.x64_table.specs.View.{loaded}
use Rattle.x64_table.proofs.Bytewise.{stored_more, stored_done, stored_anyway}
use Rattle.x64_table.proofs.access.put_each.Goals as goal

pub loop-b-preserved : goal.loop-b-preserved
loop-b-preserved c =
    let h : c.loop-b.b-index < length c.args.bytes.now = omega arith in
    let e = stored_anyway c.store_whole-stored.result c.args.cpu.now c.loop-b.place (get_or c.args.bytes.now c.loop-b.b-index 0 ∷ []) (loaded c.loop-b.segments) (loaded c.store_whole-stored.new.segments) c.store_whole-stored.ensures.whole c.store_whole-stored.ensures.after in
    stored_more c.args.cpu.now c.args.bytes.now c.loop-b.b-index c.loop-b.place (loaded c.loop-b.segments) (loaded c.store_whole-stored.new.segments) h e ∙ c.loop-b.invariant

pub returns : goal.returns
returns c =
    let h : length c.args.bytes.now ≤ c.loop-b.b-index = omega arith in
    sym (stored_done c.args.cpu.now c.args.bytes.now c.loop-b.b-index c.loop-b.place (loaded c.loop-b.segments) h) ∙ c.loop-b.invariant

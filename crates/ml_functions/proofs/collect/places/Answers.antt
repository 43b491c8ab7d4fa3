use Rattle.std.proofs.Common.{◌<◌, ◌-◌, ap, refl, arith, length, slice_index_or}
use Rattle.ml_functions.proofs.Places.{places_step}
use Rattle.ml_functions.proofs.collect.places.Goals as goal

pub loop-left-preserved : goal.loop-left-preserved
loop-left-preserved c =
    let x = slice_index_or c.args.list.now (c.loop-left.left - 1) c.index-list-left.result in
    let lt : x.0 < length c.loop-left.places.items = omega arith in
    places_step c.args.list.now c.loop-left.left x c.loop-left.places.items _ c.loop-left-test.true (ap (slice_index_or c.args.list.now (c.loop-left.left - 1)) c.index-list-left.is) lt refl c.loop-left.invariant

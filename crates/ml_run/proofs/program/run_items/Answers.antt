use Rattle.std.proofs.Common.{◌≡◌, ◌+◌, drop, length, arith}
use Rattle.std.proofs.lemmas.List.{drop_all}
use Rattle.ml_run.proofs.Wholes.{went_all, went_began, went_end, went_in, went_more, written_back}
use Rattle.ml_run.proofs.program.run_items.Goals as goal

pub returns-in_err-ending-clause-out : goal.returns-in_err-ending-clause-out
returns-in_err-ending-clause-out c = λ s is.
    let went = went_in s c.args.fuel c.args.out.now.items c.loop-item.out.items c.loop-item.tops.items c.as_mut_slice.result.now (drop c.loop-item.item-index c.as_slice-item-items.result.now) c.as_mut_slice.ensures.value (c.loop-item.invariant s is) in
    went_began s c.args.fuel c.args.out.now.items c.loop-item.out.items c.advance.new.out.items c.as_mut_slice.result.now c.as_slice-item-items.result.now c.loop-item.item-index c.item-item.result (omega arith) c.item-item.is went (c.advance.ensures.out s went.0 is went.1.0)

pub returns-in-Some-clause-ended : goal.returns-in-Some-clause-ended
returns-in-Some-clause-ended c = λ s is.
    let went = went_in s c.args.fuel c.args.out.now.items c.loop-item.out.items c.loop-item.tops.items c.as_mut_slice.result.now (drop c.loop-item.item-index c.as_slice-item-items.result.now) c.as_mut_slice.ensures.value (c.loop-item.invariant s is) in
    went_end s c.args.fuel c.args.out.now.items c.loop-item.out.items c.advance.new.out.items c.as_mut_slice.result.now c.advance.new.tops c.as_slice-item-items.result.now c.loop-item.item-index c.item-item.result c.in-Some.ending (omega arith) c.item-item.is went c.in_ok-ending.field-0 c.in-Some.is (c.in_ok-ending.ensures.ended s went.0 is went.1.0)

pub returns-in-Some-clause-out : goal.returns-in-Some-clause-out
returns-in-Some-clause-out c = λ s is.
    let went = went_in s c.args.fuel c.args.out.now.items c.loop-item.out.items c.loop-item.tops.items c.as_mut_slice.result.now (drop c.loop-item.item-index c.as_slice-item-items.result.now) c.as_mut_slice.ensures.value (c.loop-item.invariant s is) in
    went_began s c.args.fuel c.args.out.now.items c.loop-item.out.items c.advance.new.out.items c.as_mut_slice.result.now c.as_slice-item-items.result.now c.loop-item.item-index c.item-item.result (omega arith) c.item-item.is went (c.in_ok-ending.ensures.out s went.0 is went.1.0)

pub loop-item-preserved : goal.loop-item-preserved
loop-item-preserved c = λ s is.
    let went = went_in s c.args.fuel c.args.out.now.items c.loop-item.out.items c.loop-item.tops.items c.as_mut_slice.result.now (drop c.loop-item.item-index c.as_slice-item-items.result.now) c.as_mut_slice.ensures.value (c.loop-item.invariant s is) in
    let old : length c.loop-item.tops.items ≡ c.loop-item.tops.len = omega (arith, c.loop-item.tops.ok.0) in
    let new : length c.advance.new.tops ≡ length c.loop-item.tops.items = omega arith in
    went_in s c.args.fuel c.args.out.now.items c.advance.new.out.items c.advance.new.tops _ (drop (c.loop-item.item-index + 1) c.as_slice-item-items.result.now) (written_back c.advance.new.tops c.loop-item.tops.items c.loop-item.tops.len new old)
    (went_more s c.args.fuel c.args.out.now.items c.loop-item.out.items c.advance.new.out.items c.as_mut_slice.result.now c.advance.new.tops c.as_slice-item-items.result.now c.loop-item.item-index c.item-item.result (omega arith) c.item-item.is went c.in_ok-ending.field-0 c.in_default.is (c.in_ok-ending.ensures.ended s went.0 is went.1.0))

pub returns-clause-ended : goal.returns-clause-ended
returns-clause-ended c = λ s is.
    went_all s c.args.fuel c.args.out.now.items c.loop-item.out.items c.loop-item.tops.items (drop c.loop-item.item-index c.as_slice-item-items.result.now) (drop_all c.loop-item.item-index c.as_slice-item-items.result.now (omega arith)) (c.loop-item.invariant s is)

use Rattle.std.proofs.Common.{arith}
use Rattle.hm_terms.specs.Stores.{store}
use Rattle.hm_infer.proofs.Larges.{at_item, is_large, small_lefts_more, small_lefts_all}
use Rattle.hm_infer.proofs.sizes.any_left_large.Goals as goal

pub loop-equation-init : goal.loop-equation-init
loop-equation-init c = λ a shown k e below at. absurd (omega arith)

pub loop-equation-preserved : goal.loop-equation-preserved
loop-equation-preserved c = λ a shown.
    let at = at_item c.args.equations.now c.loop-equation.equation-index c.equation-item.result c.loop-equation-test.true c.equation-item.is in
    small_lefts_more c.args.equations.now a c.loop-equation.equation-index c.in_ok-size.size c.equation-item.result at (c.in_ok-size.ensures.size a shown) c.if-size-gt2000.false (c.loop-equation.invariant a shown)

pub returns-then-size-gt2000 : goal.returns-then-size-gt2000
returns-then-size-gt2000 c = λ a shown.
    let at = at_item c.args.equations.now c.loop-equation.equation-index c.equation-item.result c.loop-equation-test.true c.equation-item.is in
    (c.loop-equation.equation-index, c.equation-item.result, at, is_large (store c.args.solver.now) a c.equation-item.result.left c.in_ok-size.size c.in_ok-size.ensures.known (c.in_ok-size.ensures.size a shown) c.if-size-gt2000.true)

pub returns : goal.returns
returns c = λ a shown. small_lefts_all c.args.equations.now a c.loop-equation.equation-index c.loop-equation-test.false (c.loop-equation.invariant a shown)

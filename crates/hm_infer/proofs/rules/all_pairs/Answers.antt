use Rattle.hm_terms.specs.Stores.{store}
use Rattle.hm_infer.proofs.StepPairs.{all_next, all_done}
use Rattle.hm_infer.proofs.rules.all_pairs.Goals as goal

pub loop-step-preserved : goal.loop-step-preserved
loop-step-preserved c = λ d k.
    all_next (store c.args.solver.now) (store c.loop-step.solver) (store c.push_pairs.new.solver) c.args.d.now.types d c.args.steps.now c.loop-step.step-index c.step-item.result c.as_slice.result.now c.loop-step.all.items c.push_pairs.new.pairs.items c.loop-step-test.true c.step-item.is c.as_slice.ensures k
    (c.loop-step.invariant d k) c.in_ok-push_pairs.ensures.lowers

pub returns : goal.returns
returns c = λ d k.
    all_done (store c.args.solver.now) (store c.loop-step.solver) d c.args.steps.now c.loop-step.step-index c.loop-step.all.items c.loop-step-test.false (c.loop-step.invariant d k)

use Rattle.std.proofs.Common.{refl, rules}
use Rattle.std.proofs.lemmas.Option.{slice_get_read}
use Rattle.hm_terms.specs.Stores.{store}
use Rattle.hm_infer.proofs.StepRuns.{steps_next, steps_stop, steps_done, steps_start}
use Rattle.hm_infer.specs.Spelled.{no_step}
use Rattle.hm_infer.proofs.Spelled.{runs_next, runs_all}
use Rattle.hm_infer.proofs.Keeping.{keeps_then, keeps_same}
use Rattle.hm_infer.proofs.run.run_steps.Goals as goal

pub loop-number-init : goal.loop-number-init
loop-number-init c = λ d k agrees. (steps_start (store c.args.solver.now) c.args.d.now.types d c.args.steps.now k agrees, keeps_same (store c.args.solver.now), no_step (store c.args.solver.now) c.args.solver.now.slots)

pub returns-then-ne-clause-runs : goal.returns-then-ne-clause-runs
returns-then-ne-clause-runs c = λ d k agrees.
    steps_stop (store c.loop-number.solver) (store c.run_step.new.solver) c.args.d.now.types d c.args.steps.now c.loop-number.number c.index-steps-number.result c.in_ok-outcome.outcome (slice_get_read c.args.steps.now _ c.loop-number.number c.index-steps-number.result refl c.loop-number-test.true c.index-steps-number.is) (c.loop-number.invariant d k agrees).0 c.in_ok-outcome.ensures.comes (search rules)

pub returns-then-ne-clause-keeps : goal.returns-then-ne-clause-keeps
returns-then-ne-clause-keeps c = λ d k agrees.
    let h = c.loop-number.invariant d k agrees in
    keeps_then (store c.args.solver.now) (store c.loop-number.solver) (store c.run_step.new.solver) h.1 (c.in_ok-outcome.ensures.keeps d h.0.read)

pub loop-number-preserved : goal.loop-number-preserved
loop-number-preserved c = λ d k agrees.
    let h = c.loop-number.invariant d k agrees in (
      steps_next (store c.loop-number.solver) (store c.run_step.new.solver) c.args.d.now.types d c.args.steps.now c.loop-number.number c.index-steps-number.result c.in_ok-outcome.outcome (slice_get_read c.args.steps.now _ c.loop-number.number c.index-steps-number.result refl c.loop-number-test.true c.index-steps-number.is) h.0 c.in_ok-outcome.ensures.comes (search rules),
      keeps_then (store c.args.solver.now) (store c.loop-number.solver) (store c.run_step.new.solver) h.1 (c.in_ok-outcome.ensures.keeps d h.0.read),
      runs_next c.args.d.now.types (store c.args.solver.now) (store c.loop-number.solver) (store c.run_step.new.solver) c.args.solver.now.slots c.loop-number.solver.slots c.run_step.new.solver.slots c.args.steps.now c.loop-number.number c.index-steps-number.result (slice_get_read c.args.steps.now _ c.loop-number.number c.index-steps-number.result refl c.loop-number-test.true c.index-steps-number.is) h.2 (c.in_ok-outcome.ensures.slots h.0.read.ready (search rules)),
    )

pub returns-clause-runs : goal.returns-clause-runs
returns-clause-runs c = λ d k agrees.
    steps_done (store c.loop-number.solver) c.args.d.now.types d c.args.steps.now c.loop-number.number c.loop-number-test.false (c.loop-number.invariant d k agrees).0

pub returns-clause-keeps : goal.returns-clause-keeps
returns-clause-keeps c = λ d k agrees. (c.loop-number.invariant d k agrees).1

pub returns-clause-slots : goal.returns-clause-slots
returns-clause-slots c = λ d k agrees went.
    runs_all c.args.d.now.types (store c.args.solver.now) (store c.loop-number.solver) c.args.solver.now.slots c.loop-number.solver.slots c.args.steps.now c.loop-number.number c.loop-number-test.false (c.loop-number.invariant d k agrees).2

use Rattle.hm_terms.specs.Stores.{store}
use Rattle.hm_infer.proofs.StepRuns.{step_holds, step_unsolved, step_too_large, clash_fault, cycle_fault, large_fault}
use Rattle.hm_infer.proofs.Spelled.{step_runs}
use Rattle.hm_infer.proofs.Keeping.{keeps_holds, keeps_refused}
use Rattle.hm_infer.proofs.run.run_step.Goals as goal

pub returns-in-Ok-clause-comes : goal.returns-in-Ok-clause-comes
returns-in-Ok-clause-comes c = λ d before k agrees.
    step_holds (store c.args.solver.now) (store c.pairs_of.new.solver) (store c.equate.new.self) c.args.d.now.types d before c.args.step.now c.in_ok-pairs.pairs.items c.as_slice.result.now k agrees c.in_ok-pairs.ensures.lowers c.as_slice.ensures.value c.in-Ok.ensures.ok c.in-Ok.ensures.ids c.in-Ok.ensures.names

pub returns-in-Err-Clash-clause-comes : goal.returns-in-Err-Clash-clause-comes
returns-in-Err-Clash-clause-comes c = λ d before k agrees.
    step_unsolved (store c.args.solver.now) (store c.pairs_of.new.solver) (store c.equate.new.self) c.args.d.now.types d before c.args.step.now c.in_ok-pairs.pairs.items c.as_slice.result.now c.in-Err-Clash.number c.as_slice-in-Err-Clash.result.now c.in_ok-part-in-Err-Clash.part k agrees c.in_ok-pairs.ensures.lowers c.as_slice.ensures.value
    (clash_fault (store c.pairs_of.new.solver) c.as_slice.result.now c.in-Err-Clash.field-0 c.in-Err-Clash.number c.in-Err-Clash.field-0-is c.in-Err-Clash.ensures.err) c.in-Err-Clash.ensures.same c.as_slice-in-Err-Clash.ensures c.in_ok-part-in-Err-Clash.ensures

pub returns-in-Err-Cycle-clause-comes : goal.returns-in-Err-Cycle-clause-comes
returns-in-Err-Cycle-clause-comes c = λ d before k agrees.
    step_unsolved (store c.args.solver.now) (store c.pairs_of.new.solver) (store c.equate.new.self) c.args.d.now.types d before c.args.step.now c.in_ok-pairs.pairs.items c.as_slice.result.now c.in-Err-Cycle.number c.as_slice-in-Err-Cycle.result.now c.in_ok-part-in-Err-Cycle.part k agrees c.in_ok-pairs.ensures.lowers c.as_slice.ensures.value
    (cycle_fault (store c.pairs_of.new.solver) c.as_slice.result.now c.in-Err-Cycle.field-0 c.in-Err-Cycle.number c.in-Err-Cycle.field-0-is c.in-Err-Cycle.ensures.err) c.in-Err-Cycle.ensures.same c.as_slice-in-Err-Cycle.ensures c.in_ok-part-in-Err-Cycle.ensures

pub returns-in-Err-TooLarge-clause-comes : goal.returns-in-Err-TooLarge-clause-comes
returns-in-Err-TooLarge-clause-comes c = λ d before k agrees.
    step_too_large (store c.args.solver.now) (store c.pairs_of.new.solver) (store c.equate.new.self) c.args.d.now.types d before c.args.step.now c.in_ok-pairs.pairs.items c.as_slice.result.now k agrees c.in_ok-pairs.ensures.lowers c.as_slice.ensures.value
    (large_fault (store c.pairs_of.new.solver) c.as_slice.result.now c.in-Err-TooLarge.field-0 c.in-Err-TooLarge.field-0-0 c.in-Err-TooLarge.field-0-is c.in-Err-TooLarge.ensures.err) c.in-Err-TooLarge.ensures.same

pub returns-in-Ok-clause-keeps : goal.returns-in-Ok-clause-keeps
returns-in-Ok-clause-keeps c = λ d k.
    keeps_holds (store c.args.solver.now) (store c.pairs_of.new.solver) (store c.equate.new.self) c.args.d.now.types d c.args.step.now c.in_ok-pairs.pairs.items c.as_slice.result.now k c.in_ok-pairs.ensures.lowers c.as_slice.ensures.value c.in-Ok.ensures.ok c.in-Ok.ensures.ids c.in-Ok.ensures.names

pub returns-in-Err-Clash-clause-keeps : goal.returns-in-Err-Clash-clause-keeps
returns-in-Err-Clash-clause-keeps c = λ d k.
    keeps_refused (store c.args.solver.now) (store c.pairs_of.new.solver) (store c.equate.new.self) c.args.d.now.types d c.args.step.now c.in_ok-pairs.pairs.items k c.in_ok-pairs.ensures.lowers c.in-Err-Clash.ensures.same

pub returns-in-Err-Cycle-clause-keeps : goal.returns-in-Err-Cycle-clause-keeps
returns-in-Err-Cycle-clause-keeps c = λ d k.
    keeps_refused (store c.args.solver.now) (store c.pairs_of.new.solver) (store c.equate.new.self) c.args.d.now.types d c.args.step.now c.in_ok-pairs.pairs.items k c.in_ok-pairs.ensures.lowers c.in-Err-Cycle.ensures.same

pub returns-in-Err-TooLarge-clause-keeps : goal.returns-in-Err-TooLarge-clause-keeps
returns-in-Err-TooLarge-clause-keeps c = λ d k.
    keeps_refused (store c.args.solver.now) (store c.pairs_of.new.solver) (store c.equate.new.self) c.args.d.now.types d c.args.step.now c.in_ok-pairs.pairs.items k c.in_ok-pairs.ensures.lowers c.in-Err-TooLarge.ensures.same

pub returns-in-Ok-clause-slots : goal.returns-in-Ok-clause-slots
returns-in-Ok-clause-slots c = λ r went.
    step_runs (store c.args.solver.now) (store c.pairs_of.new.solver) (store c.equate.new.self) c.args.d.now.types c.args.solver.now.slots c.pairs_of.new.solver.slots c.equate.new.self.slots c.args.step.now c.in_ok-pairs.pairs.items c.as_slice.result.now r c.in_ok-pairs.ensures.spells c.as_slice.ensures.value c.in-Ok.ensures.ok c.in-Ok.ensures.ids c.in-Ok.ensures.names c.in-Ok.ensures.slots

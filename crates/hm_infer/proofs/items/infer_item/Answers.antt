use Rattle.std.proofs.Common.{◌∙◌}
use Rattle.ml_typing.specs.Typing.{steps_of_item}
use Rattle.hm_terms.specs.Stores.{store}
use Rattle.hm_infer.proofs.Behind.{behind_item, fault_item}
use Rattle.hm_infer.proofs.Spelled.{item_runs}
use Rattle.hm_infer.proofs.items.infer_item.Goals as goal

pub returns-in-Err-clause-err : goal.returns-in-Err-clause-err
returns-in-Err-clause-err c =
    fault_item (store c.args.solver.now) c.args.d.now.types (steps_of_item c.args.s.now.refs c.args.s.now.types c.args.item.now) c.as_slice.result.now c.args.found.now c.in-Err.error (c.as_slice.ensures ∙ c.in_ok-steps.ensures) c.in-Err.ensures.err

pub returns-clause-ok : goal.returns-clause-ok
returns-clause-ok c =
    behind_item (store c.args.solver.now) (store c.check_item.new.solver) (store c.leave_item.new.solver) c.args.d.now.types (steps_of_item c.args.s.now.refs c.args.s.now.types c.args.item.now) c.as_slice.result.now c.as_slice-2.result.now c.as_slice-3.result.now c.args.found.now c.leave_item.new.found
    (c.as_slice.ensures ∙ c.in_ok-steps.ensures) (c.as_slice-2.ensures ∙ c.in_ok-steps.ensures) (c.as_slice-3.ensures ∙ c.in_ok-binders.ensures) c.sound.ensures c.sound-2.ensures c.in_default.ensures.ok c.in_default.ensures.keeps c.in_ok-leave_item.ensures.leaves

pub returns-clause-slots : goal.returns-clause-slots
returns-clause-slots c = λ d read none.
    item_runs c.args.d.now.types (store c.args.solver.now) (store c.check_item.new.solver) (store c.leave_item.new.solver) c.args.solver.now.slots c.check_item.new.solver.slots c.leave_item.new.solver.slots (steps_of_item c.args.s.now.refs c.args.s.now.types c.args.item.now) c.as_slice.result.now c.as_slice-2.result.now c.as_slice-3.result.now c.args.found.now c.leave_item.new.found
    (c.as_slice.ensures ∙ c.in_ok-steps.ensures) (c.as_slice-3.ensures ∙ c.in_ok-binders.ensures) c.in_ok-leave_item.ensures.slots (c.in_default.ensures.slots d read none) c.in_ok-leave_item.ensures.leaves

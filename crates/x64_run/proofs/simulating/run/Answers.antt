-- The run after so many steps is what the steps so far have come to.
use Rattle.std.proofs.Common.{drop}
use Rattle.x64_table.specs.Kernel.{after, run_from}
use Rattle.x64_run.proofs.Steps.{stands_first, stands_later, ends_end, ends_out, part_later, told_some, told_none}
use Rattle.x64_run.proofs.simulating.run.Goals as goal

pub loop-step-init : goal.loop-step-init
loop-step-init c =
    stands_first c.args.machine.now c.args.answers.now c.args.out.now.items

pub loop-step-preserved : goal.loop-step-preserved
loop-step-preserved c =
    let r = run_from c.args.machine.now c.args.answers.now in
    let i = c.loop-step._step in
    let rest = drop c.loop-step.used c.args.answers.now in
    let left = drop c.advance.new.used c.args.answers.now in
    stands_later i r c.advance.new.machine left c.args.out.now.items c.advance.new.out.items (told_none c.loop-step.machine c.advance.new.machine rest left c.loop-step.out.items c.advance.new.out.items c.in-Ok-None.field-0 c.in-Ok-None.field-0-is c.in-Ok-None.ensures.ok (after i r) c.args.out.now.items c.loop-step.invariant)

pub returns-in-Ok-Some-clause-end : goal.returns-in-Ok-Some-clause-end
returns-in-Ok-Some-clause-end c =
    let r = run_from c.args.machine.now c.args.answers.now in
    let i = c.loop-step._step in
    let rest = drop c.loop-step.used c.args.answers.now in
    let left = drop c.advance.new.used c.args.answers.now in
    ends_end i c.args.steps r c.in-Ok-Some.end c.args.out.now.items c.advance.new.out.items c.loop-step-test.true (told_some c.loop-step.machine c.advance.new.machine rest left c.loop-step.out.items c.advance.new.out.items c.in-Ok-Some.field-0 c.in-Ok-Some.end c.in-Ok-Some.field-0-is c.in-Ok-Some.ensures.ok (after i r) c.args.out.now.items c.loop-step.invariant)

pub returns-in-Ok-Some-clause-bytes : goal.returns-in-Ok-Some-clause-bytes
returns-in-Ok-Some-clause-bytes c =
    let r = run_from c.args.machine.now c.args.answers.now in
    let i = c.loop-step._step in
    let rest = drop c.loop-step.used c.args.answers.now in
    let left = drop c.advance.new.used c.args.answers.now in
    ends_out i c.args.steps r c.in-Ok-Some.end c.args.out.now.items c.advance.new.out.items c.loop-step-test.true (told_some c.loop-step.machine c.advance.new.machine rest left c.loop-step.out.items c.advance.new.out.items c.in-Ok-Some.field-0 c.in-Ok-Some.end c.in-Ok-Some.field-0-is c.in-Ok-Some.ensures.ok (after i r) c.args.out.now.items c.loop-step.invariant)

pub returns-in-Err-clause-part : goal.returns-in-Err-clause-part
returns-in-Err-clause-part c =
    let r = run_from c.args.machine.now c.args.answers.now in
    let i = c.loop-step._step in
    part_later i c.args.steps r c.args.out.now.items c.advance.new.out.items c.loop-step-test.true (c.in-Err.ensures.err (after i r) c.args.out.now.items c.loop-step.invariant)

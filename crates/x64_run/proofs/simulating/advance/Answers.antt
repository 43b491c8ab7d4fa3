-- What the machine told is what the next step of the run comes to.
use Rattle.std.proofs.Common.{drop}
use Rattle.x64_run.specs.Simulation.{Serves, ServesPart}
use Rattle.x64_run.proofs.Asked.{asked_within}
use Rattle.x64_run.proofs.Steps.{went_on, exited, faulted, answered_on, answered_part, on_ok, on_err}
use Rattle.x64_run.proofs.simulating.advance.Goals as goal

pub serve-requires : goal.serve-requires
serve-requires c =
    asked_within c.args.machine.now c.step.new.self c.in-Asked.channel c.in-Asked.at c.in-Asked.len c.in-Asked.ensures

pub returns-in-Went-clause-ok : goal.returns-in-Went-clause-ok
returns-in-Went-clause-ok c =
    λ r before stands. went_on r c.args.machine.now c.step.new.self (drop c.args.used.now c.args.answers.now) before c.args.out.now.items stands c.in-Went.ensures

pub returns-in-Exit-clause-ok : goal.returns-in-Exit-clause-ok
returns-in-Exit-clause-ok c =
    λ r before stands. exited r c.args.machine.now c.step.new.self (drop c.args.used.now c.args.answers.now) before c.args.out.now.items c.in-Exit.status stands c.in-Exit.ensures

pub returns-in-Fault-clause-ok : goal.returns-in-Fault-clause-ok
returns-in-Fault-clause-ok c =
    λ r before stands. faulted r c.args.machine.now c.step.new.self (drop c.args.used.now c.args.answers.now) before c.args.out.now.items c.in-Fault.at stands c.in-Fault.ensures

pub returns-then-is_err-clause-err : goal.returns-then-is_err-clause-err
returns-then-is_err-clause-err c =
    let rest = drop c.args.used.now c.args.answers.now in
    let part = on_err c.serve.result (ServesPart c.step.new.self rest c.args.out.now.items c.serve.new.out.items c.in-Asked.channel c.in-Asked.at c.in-Asked.len) c.serve.ensures.err c.if-is_err.ensures.value in
    λ r before stands. answered_part r c.args.machine.now c.step.new.self rest before c.args.out.now.items c.serve.new.out.items c.in-Asked.channel c.in-Asked.at c.in-Asked.len stands c.in-Asked.ensures part

pub returns-else-is_err-clause-ok : goal.returns-else-is_err-clause-ok
returns-else-is_err-clause-ok c =
    let rest = drop c.args.used.now c.args.answers.now in
    let left = drop c.serve.new.used c.args.answers.now in
    let serves = on_ok c.serve.result (Serves c.step.new.self rest c.args.out.now.items c.serve.new.machine left c.serve.new.out.items c.in-Asked.channel c.in-Asked.at c.in-Asked.len) c.serve.ensures.ok c.if-is_err.ensures.value in
    λ r before stands. answered_on r c.args.machine.now c.step.new.self c.serve.new.machine rest left before c.args.out.now.items c.serve.new.out.items c.in-Asked.channel c.in-Asked.at c.in-Asked.len stands c.in-Asked.ensures serves

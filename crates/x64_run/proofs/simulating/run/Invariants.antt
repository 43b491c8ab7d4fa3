use Rattle.std.proofs.Common.{drop}
use Rattle.x64_table.specs.Kernel.{after, run_from}
use Rattle.x64_run.specs.Simulation.{StandsAt}
use Rattle.x64_run.proofs.simulating.run.Given as goal

abbrev pub invariant-loop-step : goal.invariant-loop-step
invariant-loop-step l =
    StandsAt (after l._step (run_from l.fn.machine l.answers)) l.machine (drop l.used l.answers) l.fn.out.items l.out.items

use Rattle.std.proofs.Common.{◌≡◌, ◌++◌}
use Rattle.x64_table.specs.Kernel.{put_bytes}
use Rattle.x64_run.specs.Simulation.{pairs}
use Rattle.x64_run.proofs.simulating.put_bytes.Given as goal

abbrev pub invariant-loop-k : goal.invariant-loop-k
invariant-loop-k l =
    pairs l.out.items ≡ pairs l.fn.out.items ++ put_bytes l.machine.segments l.channel l.at l.k

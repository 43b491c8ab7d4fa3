use Rattle.std.proofs.Common.{◌<◌, ◌^◌, length}
use Rattle.mode_lattice.specs.Clauses.{IsClosed}
use Rattle.mode_solver.proofs.tests.clauses.Given as goal

abbrev pub invariant-loop-word : goal.invariant-loop-word
invariant-loop-word l = record {
  closed : IsClosed (record { bits = l.bits; list = l.list });
  short : length l.list < 2 ^ 32;
}

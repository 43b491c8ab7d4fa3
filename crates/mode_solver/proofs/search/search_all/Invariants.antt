use Rattle.std.proofs.Common.{◌≡◌, length, take}
use Rattle.mode_solver.specs.Searching.{IsComplete}
use Rattle.mode_solver.proofs.search.search_all.Given as goal

abbrev pub invariant-loop-number : goal.invariant-loop-number
invariant-loop-number l = record {
  complete : IsComplete (take l.number l.forms) l.state;
  count : length l.state.reach.place.items ≡ l.fn.bits;
}

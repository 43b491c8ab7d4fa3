use Rattle.std.proofs.Common.{◌≡◌, ◌≤◌, length, drop, reverse}
use Rattle.ml_cursor.specs.Lets.{closings, closed_lets}
use Rattle.ml_cursor.proofs.lets.closed_lets.Given as goal

abbrev pub invariant-loop-at : goal.invariant-loop-at
invariant-loop-at l = record {
  within : l.at ≤ length l.tokens;
  long : length l.table.items ≡ length l.tokens;
  left : reverse l.closings.items ≡ closings (drop l.at l.tokens);
  table : drop l.at l.table.items ≡ closed_lets (drop l.at l.tokens);
}

abbrev pub decreases-loop-at : goal.decreases-loop-at
decreases-loop-at l = l.at

use Rattle.std.proofs.Common.{◌≡◌, ◌≤◌, ◌-◌, length, drop, false}
use Rattle.ml_lexer.specs.Literals.{text_end}
use Rattle.ml_lexer.proofs.comments.text_end.Given as goal

abbrev pub invariant-loop-here : goal.invariant-loop-here
invariant-loop-here l = record {
  same_end : text_end l.behind_backslash l.here (drop l.here l.text) ≡ text_end false l.at (drop l.at l.text);
  forward : l.at ≤ l.here;
  within : l.here ≤ length l.text;
}

abbrev pub decreases-loop-here : goal.decreases-loop-here
decreases-loop-here l = length l.text - l.here

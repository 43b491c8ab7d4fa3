use Rattle.std.proofs.Common.{◌≡◌, ◌≤◌, ◌-◌, length}
use Rattle.ml_lexer.specs.Bytes.{run_end}
use Rattle.ml_lexer.proofs.bytes.run_end.Given as goal

abbrev pub invariant-loop-end : goal.invariant-loop-end
invariant-loop-end l = record {
  same_run : run_end l.run l.text l.end ≡ run_end l.run l.text l.at;
  forward : l.at ≤ l.end;
  within : l.end ≤ length l.text;
}

abbrev pub decreases-loop-end : goal.decreases-loop-end
decreases-loop-end l = length l.text - l.end

use Rattle.std.proofs.Common.{◌≤◌, ◌-◌, ℕ, List, length}
use Rattle.ml_lexer.specs.Tokens.{TextFrom}
use Rattle.ml_lexer.specs.declared.literals.TextEnd.{TextEnd}
use Rattle.ml_lexer.proofs.literals.text_end.Given as goal

abbrev pub invariant-bytes : goal.invariant-bytes
invariant-bytes l = record {
  from_here : (e : TextEnd) (bytes : List ℕ) → TextFrom l.text l.here bytes e → (all : List ℕ) × TextFrom l.text l.at all e;
  forward : l.at ≤ l.here;
  within : l.here ≤ length l.text;
}

abbrev pub decreases-bytes : goal.decreases-bytes
decreases-bytes l = length l.text - l.here

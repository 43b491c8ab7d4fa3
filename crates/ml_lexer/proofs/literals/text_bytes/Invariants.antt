use Rattle.std.proofs.Common.{◌≤◌, ◌-◌, ◌+◌, ◌++◌, ℕ, List, length}
use Rattle.ml_lexer.specs.Tokens.{TextFrom}
use Rattle.ml_lexer.specs.declared.literals.TextEnd.TheVariants.{ClosedAt}
use Rattle.ml_lexer.proofs.literals.text_bytes.Given as goal

abbrev pub invariant-bytes : goal.invariant-bytes
invariant-bytes l = record {
  from_here : (rest : List ℕ) → TextFrom l.text l.here rest (ClosedAt l.fn.token.span.end) → TextFrom l.text (l.fn.token.span.start + 1) (l.bytes ++ rest) (ClosedAt l.fn.token.span.end);
  some : (rest : List ℕ) × TextFrom l.text l.here rest (ClosedAt l.fn.token.span.end);
  within : l.here ≤ length l.text;
}

abbrev pub decreases-bytes : goal.decreases-bytes
decreases-bytes l = length l.text - l.here

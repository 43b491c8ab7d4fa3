use Rattle.std.proofs.Common.{◌≤◌, ◌-◌, List, false, length}
use Rattle.ml_lexer.specs.Tokens.{Divides}
use Rattle.ml_lexer.specs.declared.token.Token.{Token}
use Rattle.ml_lexer.proofs.laws.has_tokens.Given as goal

abbrev pub invariant-pieces : goal.invariant-pieces
invariant-pieces l = record {
  so_far : (tokens : List Token) × Divides l.bytes false l.fn.part.start tokens l.after_minus l.at;
  within : l.at ≤ length l.bytes;
}

abbrev pub decreases-pieces : goal.decreases-pieces
decreases-pieces l = length l.bytes - l.at

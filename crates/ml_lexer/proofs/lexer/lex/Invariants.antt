use Rattle.std.proofs.Common.{◌≤◌, ◌-◌, false, length}
use Rattle.std.specs.Prelude.{All}
use Rattle.ml_lexer.specs.Tokens.{Divides, AreInOrder, IsSound}
use Rattle.ml_lexer.proofs.lexer.lex.Given as goal

abbrev pub invariant-pieces : goal.invariant-pieces
invariant-pieces l = record {
  so_far : Divides l.bytes false l.fn.part.start l.tokens l.after_minus l.at;
  within : l.at ≤ length l.bytes;
  few : length l.tokens ≤ 200000;
  order : AreInOrder l.fn.part.start l.tokens l.at;
  texts : All (IsSound l.fn.text) l.tokens;
}

abbrev pub decreases-pieces : goal.decreases-pieces
decreases-pieces l = length l.bytes - l.at

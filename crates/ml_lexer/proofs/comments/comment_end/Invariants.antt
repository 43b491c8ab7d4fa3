use Rattle.std.proofs.Common.{◌≡◌, ◌≤◌, ◌-◌, ℕ, Option, false, length, drop}
use Rattle.ml_lexer.specs.Literals.{HasNoText}
use Rattle.ml_lexer.specs.Tokens.{CommentFrom}
use Rattle.ml_lexer.proofs.comments.comment_end.Given as goal

abbrev pub invariant-comment : goal.invariant-comment
invariant-comment l = record {
  from_here : (e : Option ℕ) → CommentFrom l.text l.inner l.here e → CommentFrom l.text 0 l.at e;
  few : l.inner ≤ l.here;
  forward : l.at ≤ l.here;
  within : l.here ≤ length l.text;
  none : l.texts_end ≡ false → HasNoText (drop l.here l.text);
}

abbrev pub decreases-comment : goal.decreases-comment
decreases-comment l = length l.text - l.here

use Rattle.ml_lexer.proofs.Unique.{one_literal}
use Rattle.ml_lexer.proofs.laws.at_most_one_literal.Goals as goal

pub returns : goal.returns
returns c = one_literal

use Rattle.ml_lexer.proofs.Unique.{one_list}
use Rattle.ml_lexer.proofs.laws.at_most_one_list.Goals as goal

pub returns : goal.returns
returns c = one_list

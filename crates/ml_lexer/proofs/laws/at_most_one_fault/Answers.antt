use Rattle.ml_lexer.proofs.Unique.{one_fault}
use Rattle.ml_lexer.proofs.laws.at_most_one_fault.Goals as goal

pub returns : goal.returns
returns c = one_fault

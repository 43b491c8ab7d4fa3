use Rattle.ml_grammar.proofs.Programs.{one_program}
use Rattle.ml_grammar.proofs.laws.at_most_one_program.Goals as goal

pub returns : goal.returns
returns c = one_program

use Rattle.ml_lexer.proofs.Divisions.{same_piece}
use Rattle.ml_lexer.proofs.laws.nothing_beside_a_fault.Goals as goal

pub returns : goal.returns
returns c = λ text m at r p f b. same_piece b f

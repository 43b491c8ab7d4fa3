use Rattle.ml_grammar.proofs.Growth.{positive}
use Rattle.ml_grammar.proofs.Shorter.{shorter}
use Rattle.ml_grammar.proofs.laws.read_is_shorter.Goals as goal

pub returns-clause-rest : goal.returns-clause-rest
returns-clause-rest c text part ts r e d a = shorter a

pub returns-clause-depth : goal.returns-clause-depth
returns-clause-depth c text part ts r e d a = positive a

use Rattle.ml_grammar.proofs.Unique.{same}
use Rattle.ml_grammar.proofs.laws.at_most_one_expression.Goals as goal

pub returns-clause-tree : goal.returns-clause-tree
returns-clause-tree c text part ts r s e f d k a b = (same a b).tree

pub returns-clause-depth : goal.returns-clause-depth
returns-clause-depth c text part ts r s e f d k a b = (same a b).depth

pub returns-clause-rest : goal.returns-clause-rest
returns-clause-rest c text part ts r s e f d k a b = (same a b).rest

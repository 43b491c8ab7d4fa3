use Rattle.tree_laws.proofs.OperatorCounts.{bound}
use Rattle.tree_laws.proofs.Programs.{program_operators_bound}
use Rattle.tree_laws.proofs.laws.at_most_half_are_operators.Goals as goal

pub returns-clause-expression : goal.returns-clause-expression
returns-clause-expression c text part ts rest e d a = bound a

pub returns-clause-program : goal.returns-clause-program
returns-clause-program c text tokens p d = program_operators_bound d

use Rattle.tree_laws.proofs.NodeCounts.{bound}
use Rattle.tree_laws.proofs.Programs.{program_bound}
use Rattle.tree_laws.proofs.laws.at_most_two_nodes_a_token.Goals as goal

pub returns-clause-expression : goal.returns-clause-expression
returns-clause-expression c text part ts rest e d a = bound a

pub returns-clause-program : goal.returns-clause-program
returns-clause-program c text tokens p d = program_bound d

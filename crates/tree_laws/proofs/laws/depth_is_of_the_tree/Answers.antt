use Rattle.tree_laws.proofs.depths.PatternDepths.{pattern_depth_is, params_depth_is}
use Rattle.tree_laws.proofs.depths.Depths.{depth_is}
use Rattle.tree_laws.proofs.depths.ProgramDepths.{program_depth}
use Rattle.tree_laws.proofs.laws.depth_is_of_the_tree.Goals as goal

pub returns-clause-pattern : goal.returns-clause-pattern
returns-clause-pattern c text level ts rest p d a = pattern_depth_is a

pub returns-clause-params : goal.returns-clause-params
returns-clause-params c text ts rest ps d a = params_depth_is a

pub returns-clause-expression : goal.returns-clause-expression
returns-clause-expression c text part ts rest e d a = depth_is a

pub returns-clause-program : goal.returns-clause-program
returns-clause-program c text tokens p d = program_depth d

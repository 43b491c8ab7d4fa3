use Rattle.tree_laws.proofs.spans.Roots.{pattern_nests, params_nest, part_nests, item_nests, program_stands}
use Rattle.tree_laws.proofs.laws.spans_nest.Goals as goal

pub returns-clause-pattern : goal.returns-clause-pattern
returns-clause-pattern c text level ts rest p d a = pattern_nests a

pub returns-clause-params : goal.returns-clause-params
returns-clause-params c text ts rest ps d a = params_nest a

pub returns-clause-expression : goal.returns-clause-expression
returns-clause-expression c text part ts rest e d a = part_nests a

pub returns-clause-item : goal.returns-clause-item
returns-clause-item c text ts rest i d a = item_nests a

pub returns-clause-program : goal.returns-clause-program
returns-clause-program c text tokens p d = program_stands d

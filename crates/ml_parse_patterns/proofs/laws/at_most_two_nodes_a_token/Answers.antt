use Rattle.ml_parse_patterns.proofs.NodeCounts.{pattern_bound, params_bound}
use Rattle.ml_parse_patterns.proofs.laws.at_most_two_nodes_a_token.Goals as goal

pub returns-clause-pattern : goal.returns-clause-pattern
returns-clause-pattern c = λ text level ts us p d a. pattern_bound a

pub returns-clause-params : goal.returns-clause-params
returns-clause-params c = λ text ts us ps d a. params_bound a

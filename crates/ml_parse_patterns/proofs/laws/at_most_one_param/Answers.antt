use Rattle.ml_parse_patterns.proofs.Unique.{same_param, same_params}
use Rattle.ml_parse_patterns.proofs.laws.at_most_one_param.Goals as goal

pub returns-clause-one : goal.returns-clause-one
returns-clause-one c = λ text ts us vs p q d e a b. (let s = same_param a b in (s.tree, s.depth, s.rest))

pub returns-clause-list : goal.returns-clause-list
returns-clause-list c = λ text ts us vs ps qs d e a b. (let s = same_params a b in (s.tree, s.depth, s.rest))

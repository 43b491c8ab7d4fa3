use Rattle.ml_parse_patterns.proofs.Unique.{same}
use Rattle.ml_parse_patterns.proofs.laws.at_most_one_pattern.Goals as goal

pub returns : goal.returns
returns c = λ text level ts us vs p q d e a b. (let s = same a b in (s.tree, s.depth, s.rest))

use Rattle.ml_parse_patterns.proofs.Shorter.{shorter, params_shorter}
use Rattle.ml_parse_patterns.proofs.laws.takes_a_token.Goals as goal

pub returns-clause-pattern : goal.returns-clause-pattern
returns-clause-pattern c = λ text level ts us p d a. shorter a

pub returns-clause-params : goal.returns-clause-params
returns-clause-params c = λ text ts us ps d a. params_shorter a

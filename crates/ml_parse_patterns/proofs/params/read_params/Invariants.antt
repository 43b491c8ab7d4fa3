use Rattle.std.proofs.Common.{[], length, drop}
use Rattle.ml_parse_patterns.proofs.ListReadings.{SoFar, ParamList}
use Rattle.ml_parse_patterns.proofs.params.read_params.Given as goal

abbrev pub invariant-params : goal.invariant-params
invariant-params l = SoFar (ParamList l.text) l.left (drop l.fn.at l.tokens) [] 0 (drop l.at l.tokens) l.list l.deepest

abbrev pub decreases-params : goal.decreases-params
decreases-params l = length (drop l.at l.tokens)

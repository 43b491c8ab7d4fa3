use Rattle.std.proofs.Common.{length, drop}
use Rattle.ml_parse_patterns.proofs.Chains.{NamesSoFar}
use Rattle.ml_parse_patterns.proofs.levels.add_names.Given as goal

abbrev pub invariant-names : goal.invariant-names
invariant-names l = NamesSoFar l.left (drop l.from l.tokens) (drop l.initial.at l.tokens) l.fn.first (drop l.at l.tokens) l.found

abbrev pub decreases-names : goal.decreases-names
decreases-names l = length (drop l.at l.tokens)

use Rattle.std.proofs.Common.{◌≡◌, ◌++◌, map, drop}
use Rattle.ml_scope.specs.Patterns.{field_pattern_seen}
use Rattle.ml_scope.proofs.patterns.field_names.Given as goal

abbrev pub invariant-loop-one : goal.invariant-loop-one
invariant-loop-one l = l.names ++ map (λ f. f.name) (map (field_pattern_seen l.known) (drop l.one-index l.list)) ≡ map (λ f. f.name) (map (field_pattern_seen l.known) l.list)

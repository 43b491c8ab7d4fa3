use Rattle.std.proofs.Common.{◌≡◌, ◌++◌, map, drop}
use Rattle.ml_scope.specs.Expressions.{field_seen}
use Rattle.ml_scope.proofs.functions.field_names.Given as goal

abbrev pub invariant-loop-one : goal.invariant-loop-one
invariant-loop-one l = l.names ++ map (λ f. f.name) (map (field_seen l.known) (drop l.one-index l.list)) ≡ map (λ f. f.name) (map (field_seen l.known) l.list)

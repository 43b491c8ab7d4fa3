use Rattle.std.proofs.Common.{◌≡◌, [], map, drop}
use Rattle.ml_scope.specs.Journal.{each}
use Rattle.ml_scope.specs.Expressions.{bind_seen}
use Rattle.ml_scope.proofs.functions.bind_names.Given as goal

abbrev pub invariant-loop-one : goal.invariant-loop-one
invariant-loop-one l = each (map (λ b. b.names) (map (bind_seen l.known) (drop l.one-index l.list))) l.names ≡ each (map (λ b. b.names) (map (bind_seen l.known) l.list)) []

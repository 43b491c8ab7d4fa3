use Rattle.std.proofs.Common.{◌≡◌, ◌||◌, map, drop}
use Rattle.ml_scope.specs.Journal.{each}
use Rattle.ml_scope.specs.Patterns.{pattern_seen, field_pattern_seen, any_binds}
use Rattle.ml_scope.proofs.patterns.+patterns.Given as goal

abbrev pub invariant-patterns-loop-one : goal.invariant-patterns-loop-one
invariant-patterns-loop-one l = record {
  binds : (l.binds || any_binds (map (λ q. q.binds) (map (pattern_seen l.known) (drop l.one-index l.list)))) ≡ any_binds (map (λ q. q.binds) (map (pattern_seen l.known) l.list));
  journal : each (map (λ q. q.look) (map (pattern_seen l.known) (drop l.one-index l.list))) l.journal ≡ each (map (λ q. q.look) (map (pattern_seen l.known) l.list)) l.initial.journal;
}

abbrev pub invariant-fields-loop-one : goal.invariant-fields-loop-one
invariant-fields-loop-one l = record {
  binds : (l.binds || any_binds (map (λ q. q.binds) (map (field_pattern_seen l.known) (drop l.one-index l.list)))) ≡ any_binds (map (λ q. q.binds) (map (field_pattern_seen l.known) l.list));
  journal : each (map (λ q. q.look) (map (field_pattern_seen l.known) (drop l.one-index l.list))) l.journal ≡ each (map (λ q. q.look) (map (field_pattern_seen l.known) l.list)) l.initial.journal;
}

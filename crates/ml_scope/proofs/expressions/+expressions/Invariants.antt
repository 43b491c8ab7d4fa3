use Rattle.std.proofs.Common.{◌≡◌, map, drop}
use Rattle.ml_scope.specs.Journal.{each}
use Rattle.ml_scope.specs.Expressions.{expr_seen, field_seen, arm_look, bind_seen}
use Rattle.ml_scope.proofs.expressions.+expressions.Given as goal

abbrev pub invariant-expressions-loop-one : goal.invariant-expressions-loop-one
invariant-expressions-loop-one l = record {
  scope : l.scope ≡ l.initial.scope;
  journal : each (map (λ x. x.look l.initial.scope) (map (expr_seen l.known) (drop l.one-index l.list))) l.journal ≡ each (map (λ x. x.look l.initial.scope) (map (expr_seen l.known) l.list)) l.initial.journal;
}

abbrev pub invariant-fields-loop-one : goal.invariant-fields-loop-one
invariant-fields-loop-one l = record {
  scope : l.scope ≡ l.initial.scope;
  journal : each (map (λ f. f.look l.initial.scope) (map (field_seen l.known) (drop l.one-index l.list))) l.journal ≡ each (map (λ f. f.look l.initial.scope) (map (field_seen l.known) l.list)) l.initial.journal;
}

abbrev pub invariant-arms-loop-one : goal.invariant-arms-loop-one
invariant-arms-loop-one l = record {
  scope : l.scope ≡ l.initial.scope;
  journal : each (map (λ one. one l.initial.scope) (map (arm_look l.known) (drop l.one-index l.list))) l.journal ≡ each (map (λ one. one l.initial.scope) (map (arm_look l.known) l.list)) l.initial.journal;
}

abbrev pub invariant-values-loop-one : goal.invariant-values-loop-one
invariant-values-loop-one l = record {
  scope : l.scope ≡ l.initial.scope;
  journal : each (map (λ b. b.look l.recursive l.initial.scope) (map (bind_seen l.known) (drop l.one-index l.binds))) l.journal ≡ each (map (λ b. b.look l.recursive l.initial.scope) (map (bind_seen l.known) l.binds)) l.initial.journal;
}

use Rattle.std.proofs.Common.{◌≡◌, map, drop}
use Rattle.ml_numbers.specs.Steps.{each}
use Rattle.ml_numbers.specs.Numbered.{numbered_arm, numbered_bind, numbered_expr, numbered_field}
use Rattle.ml_numbers.proofs.Lists.{onto}
use Rattle.ml_numbers.proofs.expr.+expressions.Given as goal

abbrev pub invariant-number_exprs-loop-one : goal.invariant-number_exprs-loop-one
invariant-number_exprs-loop-one l = onto l.done (each (map numbered_expr (drop l.one-index l.list)) l.next) ≡ each (map numbered_expr l.list) l.fn.next

abbrev pub invariant-number_fields-loop-one : goal.invariant-number_fields-loop-one
invariant-number_fields-loop-one l = onto l.done (each (map numbered_field (drop l.one-index l.list)) l.next) ≡ each (map numbered_field l.list) l.fn.next

abbrev pub invariant-number_arms-loop-one : goal.invariant-number_arms-loop-one
invariant-number_arms-loop-one l = onto l.done (each (map numbered_arm (drop l.one-index l.list)) l.next) ≡ each (map numbered_arm l.list) l.fn.next

abbrev pub invariant-number_binds-loop-one : goal.invariant-number_binds-loop-one
invariant-number_binds-loop-one l = onto l.done (each (map numbered_bind (drop l.one-index l.list)) l.next) ≡ each (map numbered_bind l.list) l.fn.next

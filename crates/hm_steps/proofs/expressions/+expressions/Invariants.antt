use Rattle.std.proofs.Common.{◌≡◌, ◌++◌, map, drop}
use Rattle.ml_typing.specs.declared.equation.Term.TheVariants.{Of}
use Rattle.ml_typing.specs.Rows.{field_parts, all_steps}
use Rattle.ml_typing.specs.Steps.{expression, field_expr, arm, bind, arms_steps, binds_steps}
use Rattle.ml_typing.specs.Typing.{names_of}
use Rattle.hm_steps.proofs.expressions.+expressions.Given as goal

abbrev pub invariant-expressions-loop-e : goal.invariant-expressions-loop-e
invariant-expressions-loop-e l = l.steps ++ all_steps (map (expression (names_of l.s.refs l.s.types l.item)) (drop l.e-index l.list)) ≡ l.fn.steps ++ all_steps (map (expression (names_of l.s.refs l.s.types l.item)) l.list)

abbrev pub invariant-fields-loop-one : goal.invariant-fields-loop-one
invariant-fields-loop-one l = l.steps ++ all_steps (field_parts (map (field_expr (names_of l.s.refs l.s.types l.item)) (drop l.one-index l.list))) ≡ l.fn.steps ++ all_steps (field_parts (map (field_expr (names_of l.s.refs l.s.types l.item)) l.list))

abbrev pub invariant-arms-loop-one : goal.invariant-arms-loop-one
invariant-arms-loop-one l = l.steps ++ arms_steps (Of l.scrutinee) (map (arm (names_of l.s.refs l.s.types l.item)) (drop l.one-index l.list)) ≡ l.fn.steps ++ arms_steps (Of l.scrutinee) (map (arm (names_of l.s.refs l.s.types l.item)) l.list)

abbrev pub invariant-binds-loop-one : goal.invariant-binds-loop-one
invariant-binds-loop-one l = l.steps ++ binds_steps (map (bind (names_of l.s.refs l.s.types l.item)) (drop l.one-index l.list)) ≡ l.fn.steps ++ binds_steps (map (bind (names_of l.s.refs l.s.types l.item)) l.list)

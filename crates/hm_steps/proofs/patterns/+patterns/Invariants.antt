use Rattle.std.proofs.Common.{◌≡◌, ◌++◌, map, drop}
use Rattle.ml_typing.specs.Rows.{pattern, field_pattern, field_parts, all_steps}
use Rattle.ml_typing.specs.Typing.{names_of}
use Rattle.hm_steps.proofs.patterns.+patterns.Given as goal

abbrev pub invariant-patterns-loop-q : goal.invariant-patterns-loop-q
invariant-patterns-loop-q l = l.steps ++ all_steps (map (pattern (names_of l.s.refs l.s.types l.item)) (drop l.q-index l.list)) ≡ l.fn.steps ++ all_steps (map (pattern (names_of l.s.refs l.s.types l.item)) l.list)

abbrev pub invariant-fields-loop-one : goal.invariant-fields-loop-one
invariant-fields-loop-one l = l.steps ++ all_steps (field_parts (map (field_pattern (names_of l.s.refs l.s.types l.item)) (drop l.one-index l.list))) ≡ l.fn.steps ++ all_steps (field_parts (map (field_pattern (names_of l.s.refs l.s.types l.item)) l.list))

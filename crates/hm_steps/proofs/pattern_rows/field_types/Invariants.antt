use Rattle.std.proofs.Common.{◌≡◌, ◌++◌, map, drop}
use Rattle.ml_typing.specs.Rows.{field_pattern, fields_are}
use Rattle.ml_typing.specs.Typing.{names_of}
use Rattle.hm_steps.proofs.pattern_rows.field_types.Given as goal

abbrev pub invariant-loop-field : goal.invariant-loop-field
invariant-loop-field l = l.all ++ fields_are (names_of l.s.refs l.s.types l.item) l.n (map (field_pattern (names_of l.s.refs l.s.types l.item)) (drop l.field-index l.fields)) ≡ l.fn.list ++ fields_are (names_of l.s.refs l.s.types l.item) l.n (map (field_pattern (names_of l.s.refs l.s.types l.item)) l.fields)

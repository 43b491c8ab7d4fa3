use Rattle.std.proofs.Common.{length, drop}
use Rattle.ml_parse_types.specs.Decls.{ReadsField, field_behind}
use Rattle.ml_parse_types.proofs.ItemLists.{ItemsAlong}
use Rattle.ml_parse_types.proofs.decls.read_fields.Given as goal

abbrev pub decreases-fields : goal.decreases-fields
decreases-fields l = length (drop l.at l.tokens)

abbrev pub invariant-fields : goal.invariant-fields
invariant-fields l = ItemsAlong ReadsField field_behind (drop l.fn.at l.tokens) (drop l.at l.tokens) l.list

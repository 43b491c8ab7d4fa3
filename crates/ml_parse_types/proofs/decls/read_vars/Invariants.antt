use Rattle.std.proofs.Common.{length, drop}
use Rattle.ml_parse_types.specs.Decls.{ReadsVar, var_behind}
use Rattle.ml_parse_types.proofs.ItemLists.{ItemsAlong}
use Rattle.ml_parse_types.proofs.decls.read_vars.Given as goal

abbrev pub decreases-vars : goal.decreases-vars
decreases-vars l = length (drop l.at l.tokens)

abbrev pub invariant-vars : goal.invariant-vars
invariant-vars l = ItemsAlong ReadsVar var_behind (drop l.fn.at l.tokens) (drop l.at l.tokens) l.list

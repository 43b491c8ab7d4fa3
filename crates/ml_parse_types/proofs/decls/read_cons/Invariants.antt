use Rattle.std.proofs.Common.{length, drop}
use Rattle.ml_parse_types.specs.Decls.{ReadsCon, con_behind}
use Rattle.ml_parse_types.proofs.ItemLists.{ItemsAlong}
use Rattle.ml_parse_types.proofs.decls.read_cons.Given as goal

abbrev pub decreases-cons : goal.decreases-cons
decreases-cons l = length (drop l.at l.tokens)

abbrev pub invariant-cons : goal.invariant-cons
invariant-cons l = ItemsAlong ReadsCon con_behind (drop l.fn.at l.tokens) (drop l.at l.tokens) l.list

use Rattle.std.proofs.Common.{length, drop}
use Rattle.ml_parse_types.specs.Decls.{ReadsArg, arg_behind}
use Rattle.ml_parse_types.proofs.ItemLists.{ItemsAlong}
use Rattle.ml_parse_types.proofs.decls.read_args.Given as goal

abbrev pub decreases-more : goal.decreases-more
decreases-more l = length (drop l.at l.tokens)

abbrev pub invariant-more : goal.invariant-more
invariant-more l = ItemsAlong ReadsArg arg_behind (drop l.fn.at l.tokens) (drop l.at l.tokens) l.list

use Rattle.std.proofs.Common.{length, drop}
use Rattle.ml_parse_types.specs.Decls.{ReadsDecl, decl_behind}
use Rattle.ml_parse_types.proofs.ItemLists.{ItemsAlong}
use Rattle.ml_parse_types.proofs.decls.read_decls.Given as goal

abbrev pub decreases-decls : goal.decreases-decls
decreases-decls l = length (drop l.at l.tokens)

abbrev pub invariant-decls : goal.invariant-decls
invariant-decls l = ItemsAlong ReadsDecl decl_behind (drop l.fn.at l.tokens) (drop l.at l.tokens) l.list

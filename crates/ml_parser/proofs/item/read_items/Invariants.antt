use Rattle.std.proofs.Common.{length, drop}
use Rattle.ml_grammar.proofs.Programs.{ItemsUpTo}
use Rattle.ml_parser.proofs.item.read_items.Given as goal

abbrev pub invariant-items : goal.invariant-items
invariant-items l = ItemsUpTo l.source.text.now l.source.tokens.now l.list (drop l.at l.source.tokens.now)

abbrev pub decreases-items : goal.decreases-items
decreases-items l = length (drop l.at l.source.tokens.now)

use Rattle.std.proofs.Common.{length, drop}
use Rattle.ml_parse_types.proofs.ModeWords.{WordsAlong}
use Rattle.ml_parse_types.proofs.words.read_words.Given as goal

abbrev pub decreases-words : goal.decreases-words
decreases-words l = length (drop l.at l.tokens)

abbrev pub invariant-words : goal.invariant-words
invariant-words l = WordsAlong (drop l.fn.at l.tokens) (drop l.at l.tokens) l.words

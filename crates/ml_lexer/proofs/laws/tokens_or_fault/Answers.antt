use Rattle.ml_lexer.proofs.Unique.{never_both}
use Rattle.ml_lexer.proofs.laws.tokens_or_fault.Goals as goal

pub returns : goal.returns
returns c = never_both

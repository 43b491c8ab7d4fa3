use Rattle.ml_lexer.proofs.Unique.{no_more_tokens, no_more_before_fault}
use Rattle.ml_lexer.proofs.laws.no_more_than_all.Goals as goal

pub returns : goal.returns
returns c = record { tokens = no_more_tokens; fault = no_more_before_fault }

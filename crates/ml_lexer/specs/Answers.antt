-- What the answers of the lexer mean.
use Rattle.std.specs.Prelude.{◌≡◌, ℕ, ◌≤◌, List, length}
use Rattle.oxml_base.specs.declared.span.Span.{Span}
use Rattle.oxml_base.specs.declared.refusal.Limit.TheVariants as Limits
use Rattle.ml_lexer.specs.declared.token.Token.{Token}
use Rattle.ml_lexer.specs.declared.errors.LexErr.{LexErr}
use Rattle.ml_lexer.specs.declared.errors.LexErr.TheVariants.{Refused, Limit as LimitPassed, NoMemory}
use Rattle.ml_lexer.specs.Tokens.{IsBad, StartsWith}

-- refused: this fault, behind at most 200,000 tokens; the limit: one token more than that stands
-- before the first fault or the end
abbrev pub Explains : List ℕ → Span → LexErr → Type 0
Explains text part (Refused r) =
    (tokens : List Token) × (IsBad text part tokens r × (length tokens ≤ 200000))
Explains text part (LimitPassed l) =
    (l ≡ Limits.Tokens 200001) ×
    ((tokens : List Token) × (StartsWith text part tokens × (length tokens ≡ 200001)))
Explains text part NoMemory = Unit {0}

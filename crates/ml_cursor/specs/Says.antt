-- What a refusal means.
use Rattle.std.specs.Prelude.{◌≡◌, ℕ, List, Option, Some, None, slice_get}
use Rattle.oxml_base.specs.declared.rule.Rule.TheVariants.{Syntax}
use Rattle.oxml_base.specs.declared.span.Span.{Span}
use Rattle.oxml_base.specs.declared.refusal.Refusal.{Refusal}
use Rattle.ml_lexer.specs.declared.token.Token.{Token}
use Rattle.ml_cursor.specs.declared.error.ParseErr.{ParseErr}
use Rattle.ml_cursor.specs.declared.error.ParseErr.TheVariants.{Refused, NoMemory}
use Rattle.ml_cursor.specs.Places.{span, last_span}

abbrev pub place_by : List Token → Option Token → Span
place_by tokens (Some t) = t.span
place_by tokens None = span (last_span tokens).end (last_span tokens).end

-- the span of the token at a place; behind them all an empty one at the end of the last
abbrev pub place : List Token → ℕ → Span
place tokens at = place_by tokens (slice_get tokens at)

-- the refusal of syntax at some place of the tokens
pub record IsRefusal (tokens : List Token) (r : Refusal) : Type 0 where
  pub at : ℕ
  pub rule_is : r.rule ≡ Syntax
  pub span_is : r.span ≡ place tokens at

-- a refusal is one of syntax at some place of the tokens, and says this of them; want of memory says
-- nothing
abbrev pub Says : List Token → Type 0 → ParseErr → Type 0
Says tokens P (Refused r) = IsRefusal tokens r × P
Says tokens P NoMemory = Unit {0}

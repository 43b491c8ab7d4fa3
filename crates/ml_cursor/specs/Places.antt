-- The spans of what stands at the front of a list of tokens.
use Rattle.std.specs.Prelude.{◌≡◌, ℕ, ◌-◌, List, length, drop, slice_get, Option, Some, None, ℤ, pos}
use Rattle.oxml_base.specs.declared.span.Span.{Span}
use Rattle.ml_lexer.specs.declared.token.Token.{Token}
use Rattle.ml_lexer.specs.declared.token.TokenKind.{TokenKind}
use Rattle.ml_lexer.specs.declared.token.TokenKind.TheVariants as Kinds
use Rattle.ml_cursor.specs.declared.front.Front.{Front}
use Rattle.ml_cursor.specs.Fronts.{front}

abbrev pub span : ℕ → ℕ → Span
span from to = record { start = from; end = to }

-- the span of a token, if there is one
abbrev pub span_of : Option Token → Span
span_of None = span 0 0
span_of (Some t) = t.span

-- the span of the first token
abbrev pub first_span : List Token → Span
first_span ts = span_of (slice_get ts 0)

-- the span of the last token
abbrev pub last_span : List Token → Span
last_span ts = span_of (slice_get ts (length ts - 1))

-- from the start of the first token to the end of the last that stands before the rest
abbrev pub extent : List Token → List Token → Span
extent ts rest =
    span (first_span ts).start (span_of (slice_get ts (length ts - length rest - 1))).end

abbrev pub int_of : TokenKind → ℤ
int_of (Kinds.Int value) = value
int_of _ = pos 0

abbrev pub int_by : Option Token → ℤ
int_by None = pos 0
int_by (Some t) = int_of t.kind

-- the value of the number that stands first, 0 if none does
abbrev pub int_value : List Token → ℤ
int_value ts = int_by (slice_get ts 0)

abbrev pub char_of : TokenKind → ℕ
char_of (Kinds.Char byte) = byte
char_of _ = 0

abbrev pub char_by : Option Token → ℕ
char_by None = 0
char_by (Some t) = char_of t.kind

-- the byte of the character that stands first, 0 if none does
abbrev pub char_value : List Token → ℕ
char_value ts = char_by (slice_get ts 0)

-- the list begins with a token of this look, whose span is s, and the rest stands behind it
pub record Takes (want : Front) (ts rest : List Token) (s : Span) : Type 0 where
  pub stands : front ts ≡ want
  pub rest_is : rest ≡ drop 1 ts
  pub span_is : s ≡ first_span ts

-- The tokens of a text: a division of it into blanks, comments and tokens (OCaml manual, lexical
-- conventions).
use Rattle.std.specs.Prelude.{◌≡◌, ℕ, zero, suc, ◌+◌, ◌<◌, ◌≤◌, length, Bool, false, ◌==◌, ◌&&◌, not, nat_eq, List, [], ◌∷◌, take, Option, Some, None, ℤ, if◌then◌else◌, slice_range}
use Rattle.std.specs.Cmp.Lexicographic.{pointwise}
use Rattle.oxml_base.specs.declared.rule.Rule.{Rule}
use Rattle.oxml_base.specs.declared.rule.Rule.TheVariants.{OutsideAlphabet, OpenComment, OpenText, BadEscape, BadNumber}
use Rattle.oxml_base.specs.declared.span.Span.{Span}
use Rattle.oxml_base.specs.declared.refusal.Refusal.{Refusal}
use Rattle.ml_lexer.specs.declared.token.Token.{Token}
use Rattle.ml_lexer.specs.declared.token.TokenKind.{TokenKind}
use Rattle.ml_lexer.specs.declared.token.TokenKind.TheVariants.{Lower, Upper, TypeVar, Int, Char, Text, Word, Sign}
use Rattle.ml_lexer.specs.declared.bytes.Class.{Class}
use Rattle.ml_lexer.specs.declared.bytes.Class.TheVariants.{Blank, SmallLetter, CapitalLetter, Digit, Quote, DoubleQuote, Bracket, Mark, Other}
use Rattle.ml_lexer.specs.declared.bytes.Run.TheVariants.{Name, Number, Operator}
use Rattle.ml_lexer.specs.declared.literals.Coded.{Coded}
use Rattle.ml_lexer.specs.declared.literals.Coded.TheVariants.{Absent, Bad, Stands}
use Rattle.ml_lexer.specs.declared.literals.InText.{InText}
use Rattle.ml_lexer.specs.declared.literals.InText.TheVariants.{Cut, Closes, Wrong, Byte}
use Rattle.ml_lexer.specs.declared.literals.TextEnd.{TextEnd}
use Rattle.ml_lexer.specs.declared.literals.TextEnd.TheVariants.{ClosedAt, BadAt, Unclosed}
use Rattle.ml_lexer.specs.declared.comments.InComment.{InComment}
use Rattle.ml_lexer.specs.declared.comments.InComment.TheVariants.{Over, Opens, Leaves, Passes}
use Rattle.ml_lexer.specs.declared.pieces.Look.{Look}
use Rattle.ml_lexer.specs.declared.pieces.Look.TheVariants.{Nothing, Space, Plain, Fault, OpensComment, OpensText}
use Rattle.ml_lexer.specs.declared.pieces.Piece.{Piece}
use Rattle.ml_lexer.specs.declared.pieces.Piece.TheVariants.{Skips, Takes, Faults}
use Rattle.ml_lexer.specs.Bytes.{byte, class, run_end, is_one_of, begins_lower}
use Rattle.ml_lexer.specs.Words.{words, signs, place_in}
use Rattle.ml_lexer.specs.Numbers.{number}
use Rattle.ml_lexer.specs.Literals.{character, in_text, in_comment}

abbrev pub refusal : Rule → ℕ → ℕ → Refusal
refusal rule from to = record { rule = rule; span = record { start = from; end = to } }

-- what a run of small letters is, by its place among the words; `_` alone (95) is the sign 12
abbrev pub named : List ℕ → Option ℕ → TokenKind
named run (Some n) = Word n
named run None = if pointwise nat_eq run (95 ∷ []) then Sign 12 else Lower

abbrev pub sign_by : ℕ → ℕ → Option ℕ → Look
sign_by at end (Some n) = Plain (Sign n) end
sign_by at end None = Fault (refusal OutsideAlphabet at end)

-- the bytes up to an end are a sign that is listed, or none
abbrev pub sign_to : List ℕ → ℕ → ℕ → Look
sign_to text at end = sign_by at end (place_in signs (slice_range text at end))

abbrev pub number_by : ℕ → ℕ → Option ℤ → Look
number_by at end (Some value) = Plain (Int value) end
number_by at end None = Fault (refusal BadNumber at end)

abbrev pub number_to : Bool → List ℕ → ℕ → ℕ → Look
number_to after_minus text at end = number_by at end (number after_minus (slice_range text at end))

-- two bytes that are read together: `;;`, `::`, `:=`, `:>` and `..`
abbrev pub is_pair : ℕ → ℕ → Bool
is_pair a b =
    if a == 59 then b == 59
    else (if a == 58 then is_one_of (58 ∷ 61 ∷ 62 ∷ []) b
    else (if a == 46 then b == 46 else false))

-- a lower name, which is more than `_` (95)
abbrev pub is_lower_name : List ℕ → Bool
is_lower_name run = begins_lower (byte run 0) && not (pointwise nat_eq run (95 ∷ []))

-- a quote and a lower name
abbrev pub variable_to : List ℕ → ℕ → ℕ → Look
variable_to text at end =
    if is_lower_name (slice_range text (at + 1) end) then Plain TypeVar end
    else Fault (refusal OutsideAlphabet at (at + 1))

abbrev pub quote_by : List ℕ → ℕ → Coded → Look
quote_by text at Absent = variable_to text at (run_end Name text (at + 1))
quote_by text at Bad = Fault (refusal BadEscape (at + 1) (at + 3))
quote_by text at (Stands b end) = Plain (Char b) end

abbrev pub name_to : List ℕ → ℕ → ℕ → Look
name_to text at end =
    Plain (named (slice_range text at end) (place_in words (slice_range text at end))) end

-- `(` opens a comment where `*` (42) stands behind it
abbrev pub bracket : List ℕ → ℕ → Look
bracket text at = if byte text (at + 1) == 42 then OpensComment else sign_to text at (at + 1)

-- a separator of one byte or two, or a byte outside the alphabet
abbrev pub other : List ℕ → ℕ → Look
other text at =
    if is_pair (byte text at) (byte text (at + 1)) then sign_to text at (at + 2)
    else sign_to text at (at + 1)

-- what a byte of a class begins: the longest token of its forms, a fault, a comment or a text
abbrev pub look_by : Class → Bool → List ℕ → ℕ → Look
look_by Blank after_minus text at = Space
look_by SmallLetter after_minus text at = name_to text at (run_end Name text (at + 1))
look_by CapitalLetter after_minus text at = Plain Upper (run_end Name text (at + 1))
look_by Digit after_minus text at = number_to after_minus text at (run_end Number text (at + 1))
look_by Quote after_minus text at = quote_by text at (character text at)
look_by DoubleQuote after_minus text at = OpensText
look_by Bracket after_minus text at = bracket text at
look_by Mark after_minus text at = sign_to text at (run_end Operator text (at + 1))
look_by Other after_minus text at = other text at

-- what a place begins; nothing at the end of the text
unfoldable pub look : Bool → List ℕ → ℕ → Look
look after_minus text at =
    if byte text at == 256 then Nothing
    else look_by (class (byte text at)) after_minus text at

-- inside a text literal, at a place where this stands: the bytes that the literal stands for from there
-- on, and its end; an open text has none, and a bad escape comes before it
pub data TextBy (text : List ℕ) : InText → ℕ → List ℕ → TextEnd → Type 0 where
  closes : {at : ℕ} → TextBy text Closes at [] (ClosedAt (at + 1))
  cut : {at : ℕ} → TextBy text Cut at [] Unclosed
  wrong : {at : ℕ} → TextBy text Wrong at [] (BadAt at)
  goes_on : {at b next : ℕ} {bytes : List ℕ} {e : TextEnd} →
      TextBy text (in_text text next) next bytes e → TextBy text (Byte b next) at (b ∷ bytes) e

abbrev pub TextFrom : List ℕ → ℕ → List ℕ → TextEnd → Type 0
TextFrom text at bytes e = TextBy text (in_text text at) at bytes e

-- inside so many comments of an outermost one, at a place where this stands: where the outermost one
-- ends, if it does
pub data CommentBy (text : List ℕ) : InComment → ℕ → ℕ → Option ℕ → Type 0 where
  over : {inner at : ℕ} → CommentBy text Over inner at None
  ends : {at : ℕ} → CommentBy text Leaves zero at (Some (at + 2))
  leaves : {inner at : ℕ} {e : Option ℕ} →
      CommentBy text (in_comment text (at + 2)) inner (at + 2) e → CommentBy text Leaves (suc inner) at e
  opens : {inner at : ℕ} {e : Option ℕ} →
      CommentBy text (in_comment text (at + 2)) (inner + 1) (at + 2) e → CommentBy text Opens inner at e
  passes : {inner at next : ℕ} {e : Option ℕ} →
      CommentBy text (in_comment text next) inner next e → CommentBy text (Passes next) inner at e

abbrev pub CommentFrom : List ℕ → ℕ → ℕ → Option ℕ → Type 0
CommentFrom text inner at e = CommentBy text (in_comment text at) inner at e

-- a comment is passed over; an open one is a fault at its first two bytes
abbrev pub comment_piece : ℕ → Option ℕ → Piece
comment_piece at (Some end) = Skips end
comment_piece at None = Faults (refusal OpenComment at (at + 2))

-- a bad escape is a fault at its first two bytes, and an open text one at its quote
abbrev pub text_piece : ℕ → TextEnd → Piece
text_piece at (ClosedAt end) = Takes Text end
text_piece at (BadAt bad) = Faults (refusal BadEscape bad (bad + 2))
text_piece at Unclosed = Faults (refusal OpenText at (at + 1))

-- what a look at a place comes to, once the comment or the text that opens there is read
pub data Comes (text : List ℕ) (at : ℕ) : Look → Piece → Type 0 where
  blank : Comes text at Space (Skips (at + 1))
  plain : {kind : TokenKind} {end : ℕ} → Comes text at (Plain kind end) (Takes kind end)
  fault : {r : Refusal} → Comes text at (Fault r) (Faults r)
  comment : {e : Option ℕ} →
      CommentFrom text zero (at + 2) e → Comes text at OpensComment (comment_piece at e)
  quotation : {bytes : List ℕ} {e : TextEnd} →
      TextFrom text (at + 1) bytes e → Comes text at OpensText (text_piece at e)

-- this blank, comment, token or fault begins at the place
abbrev pub Begins : List ℕ → Bool → ℕ → Piece → Type 0
Begins text after_minus at p = Comes text at (look after_minus text at) p

-- the sign `-`, whose number is 14
abbrev pub is_minus : TokenKind → Bool
is_minus (Sign n) = n == 14
is_minus _ = false

abbrev pub token : TokenKind → ℕ → ℕ → Token
token kind from to = record { kind = kind; span = record { start = from; end = to } }

-- from one place to another a text is a concatenation of blanks, comments and these tokens; the flags
-- say whether the last token before each place is a minus
pub data Divides (text : List ℕ) : Bool → ℕ → List Token → Bool → ℕ → Type 0 where
  nothing : {m : Bool} {at : ℕ} → Divides text m at [] m at
  skips : {m m' : Bool} {at next to : ℕ} {ts : List Token} →
      Begins text m at (Skips next) → Divides text m next ts m' to → Divides text m at ts m' to
  takes : {m m' : Bool} {at next to : ℕ} {kind : TokenKind} {ts : List Token} →
      Begins text m at (Takes kind next) → Divides text (is_minus kind) next ts m' to →
      Divides text m at (token kind at next ∷ ts) m' to

-- the part divides into these tokens
pub record Tokens (text : List ℕ) (part : Span) (tokens : List Token) : Type 0 where
  pub after_minus : Bool
  pub divides : Divides (take part.end text) false part.start tokens after_minus part.end

-- behind these tokens the part has this fault
pub record IsBad (text : List ℕ) (part : Span) (tokens : List Token) (r : Refusal) : Type 0 where
  pub after_minus : Bool
  pub place : ℕ
  pub divides : Divides (take part.end text) false part.start tokens after_minus place
  pub fault : Begins (take part.end text) after_minus place (Faults r)

-- the part begins with these tokens
pub record StartsWith (text : List ℕ) (part : Span) (tokens : List Token) : Type 0 where
  pub after_minus : Bool
  pub place : ℕ
  pub divides : Divides (take part.end text) false part.start tokens after_minus place

-- at the token's span stands a text literal for these bytes
pub record IsLiteral (text : List ℕ) (t : Token) (bytes : List ℕ) : Type 0 where
  pub order : t.span.start + 1 ≤ t.span.end
  pub within : t.span.end ≤ length text
  pub literal : TextFrom text (t.span.start + 1) bytes (ClosedAt t.span.end)

-- at the token's span stands a text literal
abbrev pub IsTextToken : List ℕ → Token → Type 0
IsTextToken text t = (bytes : List ℕ) × IsLiteral text t bytes

-- if the token is one of the kind Text, a text literal stands there
abbrev pub IsSound : List ℕ → Token → Type 0
IsSound text t = t.kind ≡ Text → IsTextToken text t

-- the tokens lie between two places in order, and none is empty
abbrev pub AreInOrder : ℕ → List Token → ℕ → Type 0
AreInOrder from [] to = from ≤ to
AreInOrder from (t ∷ ts) to = (from ≤ t.span.start) × (t.span.start < t.span.end) × AreInOrder t.span.end ts to

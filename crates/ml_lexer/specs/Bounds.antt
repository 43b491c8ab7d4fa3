-- How far the answers of the scanning functions reach.
use Rattle.std.specs.Prelude.{ℕ, ◌+◌, ◌<◌, ◌≤◌}
use Rattle.ml_lexer.specs.declared.literals.Coded.{Coded}
use Rattle.ml_lexer.specs.declared.literals.Coded.TheVariants.{Absent, Bad, Stands}
use Rattle.ml_lexer.specs.declared.literals.InText.{InText}
use Rattle.ml_lexer.specs.declared.literals.InText.TheVariants.{Cut, Closes, Wrong, Byte}
use Rattle.ml_lexer.specs.declared.literals.TextEnd.{TextEnd}
use Rattle.ml_lexer.specs.declared.literals.TextEnd.TheVariants.{ClosedAt, BadAt, Unclosed}
use Rattle.ml_lexer.specs.declared.comments.InComment.{InComment}
use Rattle.ml_lexer.specs.declared.comments.InComment.TheVariants.{Over, Opens, Leaves, Passes}
use Rattle.ml_lexer.specs.declared.pieces.Look.{Look}
use Rattle.ml_lexer.specs.declared.pieces.Look.TheVariants.{Nothing, Space, Plain, Fault, OpensComment, OpensText}
use Rattle.ml_lexer.specs.declared.pieces.Piece.{Piece}
use Rattle.ml_lexer.specs.declared.pieces.Piece.TheVariants.{Skips, Takes, Faults}

-- past a place, and not past an end
abbrev pub IsPast : ℕ → ℕ → ℕ → Type 0
IsPast at end next = (at < next) × (next ≤ end)

abbrev pub CodedEndsWithin : ℕ → ℕ → Coded → Type 0
CodedEndsWithin at end Absent = Unit {0}
CodedEndsWithin at end Bad = at + 2 ≤ end
CodedEndsWithin at end (Stands b next) = (b < 256) × IsPast (at + 1) end next

-- the same of a literal whose quote stands at the place
abbrev pub QuoteEndsWithin : ℕ → ℕ → Coded → Type 0
QuoteEndsWithin at end Absent = Unit {0}
QuoteEndsWithin at end Bad = at + 3 ≤ end
QuoteEndsWithin at end (Stands b next) = (b < 256) × IsPast at end next

abbrev pub InTextEndsWithin : ℕ → ℕ → InText → Type 0
InTextEndsWithin at end Cut = Unit {0}
InTextEndsWithin at end Closes = at < end
InTextEndsWithin at end Wrong = at + 2 ≤ end
InTextEndsWithin at end (Byte b next) = IsPast at end next

abbrev pub TextEndsWithin : ℕ → ℕ → TextEnd → Type 0
TextEndsWithin at end (ClosedAt next) = IsPast at end next
TextEndsWithin at end (BadAt next) = next + 2 ≤ end
TextEndsWithin at end Unclosed = Unit {0}

abbrev pub InCommentEndsWithin : ℕ → ℕ → InComment → Type 0
InCommentEndsWithin at end Over = Unit {0}
InCommentEndsWithin at end Opens = at + 2 ≤ end
InCommentEndsWithin at end Leaves = at + 2 ≤ end
InCommentEndsWithin at end (Passes next) = IsPast at end next

abbrev pub LookEndsWithin : ℕ → ℕ → Look → Type 0
LookEndsWithin at end Nothing = ⊥
LookEndsWithin at end Space = at < end
LookEndsWithin at end (Plain kind next) = IsPast at end next
LookEndsWithin at end (Fault r) = Unit {0}
LookEndsWithin at end OpensComment = at + 2 ≤ end
LookEndsWithin at end OpensText = at < end

abbrev pub PieceEndsWithin : ℕ → ℕ → Piece → Type 0
PieceEndsWithin at end (Skips next) = IsPast at end next
PieceEndsWithin at end (Takes kind next) = IsPast at end next
PieceEndsWithin at end (Faults r) = Unit {0}

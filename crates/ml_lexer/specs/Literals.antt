-- Escapes, characters and the parts of texts and comments.
use Rattle.std.specs.Prelude.{◌≡◌, ℕ, zero, suc, ◌+◌, Bool, true, false, ◌==◌, List, [], ◌∷◌, drop, Option, Some, None, if◌then◌else◌, nat_le}
use Rattle.std.specs.Option.{option_and_then}
use Rattle.std.specs.Char.{is_ascii_digit}
use Rattle.ml_lexer.specs.Bytes.{byte, is_one_of}
use Rattle.ml_lexer.specs.Numbers.{with_digit}
use Rattle.ml_lexer.specs.declared.literals.Coded.{Coded}
use Rattle.ml_lexer.specs.declared.literals.Coded.TheVariants.{Absent, Bad, Stands}
use Rattle.ml_lexer.specs.declared.literals.InText.{InText}
use Rattle.ml_lexer.specs.declared.literals.InText.TheVariants.{Cut, Closes, Wrong, Byte}
use Rattle.ml_lexer.specs.declared.comments.InComment.{InComment}
use Rattle.ml_lexer.specs.declared.comments.InComment.TheVariants.{Over, Opens, Leaves, Passes}

-- the value of exactly so many digits from a place on, behind a value
unfoldable pub fixed : ℕ → List ℕ → ℕ → ℕ → ℕ → Option ℕ
fixed base text zero value at = Some value
fixed base text (suc more) value at =
    option_and_then (λ v. fixed base text more v (at + 1)) (with_digit base value (byte text at))

-- an escape of so many bytes that names its byte by a number
abbrev pub by_number : ℕ → Option ℕ → Coded
by_number end None = Bad
by_number end (Some value) = if nat_le value 255 then Stands value end else Bad

-- a backslash, a quote of either kind or a space
abbrev pub stands_for_itself : ℕ → Bool
stands_for_itself c = is_one_of (92 ∷ 34 ∷ 39 ∷ 32 ∷ []) c

-- the byte of an escape of one letter: `\n`, `\t`, `\b`, `\r` and those that stand for themselves
abbrev pub letter : ℕ → Option ℕ
letter c =
    if stands_for_itself c then Some c
    else (if c == 110 then Some 10
    else (if c == 116 then Some 9
    else (if c == 98 then Some 8
    else (if c == 114 then Some 13
    else None))))

-- an escape of digits: `\ddd` in decimal, `\xhh` and `\oooo`
abbrev pub numbered : List ℕ → ℕ → ℕ → Coded
numbered text at c =
    if is_ascii_digit c then by_number (at + 4) (fixed 10 text 3 0 (at + 1))
    else (if c == 120 then by_number (at + 4) (fixed 16 text 2 0 (at + 2))
    else (if c == 111 then by_number (at + 5) (fixed 8 text 3 0 (at + 2))
    else Bad))

abbrev pub escape_by : List ℕ → ℕ → ℕ → Option ℕ → Coded
escape_by text at c (Some b) = Stands b (at + 2)
escape_by text at c None = numbered text at c

-- the escape whose backslash stands at a place
unfoldable pub escape : List ℕ → ℕ → Coded
escape text at =
    if byte text (at + 1) == 256 then Absent
    else escape_by text at (byte text (at + 1)) (letter (byte text (at + 1)))

-- a byte between quotes: the closing quote stands behind it
abbrev pub quoted : List ℕ → Coded → Coded
quoted text Absent = Absent
quoted text Bad = Bad
quoted text (Stands b end) = if byte text end == 39 then Stands b (end + 1) else Absent

-- the character literal whose first quote stands at a place; a bare byte is no quote, backslash,
-- line feed or carriage return
abbrev pub character_by : List ℕ → ℕ → ℕ → Coded
character_by text at c =
    if c == 92 then quoted text (escape text (at + 1))
    else (if is_one_of (39 ∷ 10 ∷ 13 ∷ 256 ∷ []) c then Absent
    else quoted text (Stands c (at + 2)))

unfoldable pub character : List ℕ → ℕ → Coded
character text at = character_by text at (byte text (at + 1))

abbrev pub in_escape : Coded → InText
in_escape Absent = Cut
in_escape Bad = Wrong
in_escape (Stands b end) = Byte b end

-- what stands at a place in a text literal: a byte as it is, an escape, or the closing quote
abbrev pub in_text_by : List ℕ → ℕ → ℕ → InText
in_text_by text at c =
    if c == 256 then Cut
    else (if c == 34 then Closes
    else (if c == 92 then in_escape (escape text at)
    else Byte c (at + 1)))

unfoldable pub in_text : List ℕ → ℕ → InText
in_text text at = in_text_by text at (byte text at)

-- where a text literal in a comment ends, if it does; any byte may stand behind a backslash, and the
-- flag says that one was just passed
unfoldable pub text_end : Bool → ℕ → List ℕ → Option ℕ
text_end behind_backslash at [] = None
text_end true at (c ∷ cs) = text_end false (at + 1) cs
text_end false at (c ∷ cs) = if c == 34 then Some (at + 1) else text_end (c == 92) (at + 1) cs

abbrev pub passes_text : ℕ → Option ℕ → InComment
passes_text at None = Passes (at + 1)
passes_text at (Some end) = Passes end

abbrev pub passes_character : ℕ → Coded → InComment
passes_character at Absent = Passes (at + 1)
passes_character at Bad = Passes (at + 1)
passes_character at (Stands b end) = Passes end

-- what stands at a place in a comment: the end of the file, `(*`, `*)`, a text or a character
-- literal, which are skipped whole, or any other byte
abbrev pub in_comment_by : List ℕ → ℕ → ℕ → InComment
in_comment_by text at c =
    if c == 256 then Over
    else (if c == 34 then passes_text at (text_end false (at + 1) (drop (at + 1) text))
    else (if c == 39 then passes_character at (character text at)
    else (if c == 40 then (if byte text (at + 1) == 42 then Opens else Passes (at + 1))
    else (if c == 42 then (if byte text (at + 1) == 41 then Leaves else Passes (at + 1))
    else Passes (at + 1)))))

unfoldable pub in_comment : List ℕ → ℕ → InComment
in_comment text at = in_comment_by text at (byte text at)

-- no quote from here on begins a text literal of a comment
abbrev pub HasNoText : List ℕ → Type 0
HasNoText [] = Unit {0}
HasNoText (c ∷ cs) = (c ≡ 34 → (at : ℕ) → text_end false at cs ≡ None) × HasNoText cs

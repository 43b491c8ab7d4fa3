-- The bytes of a text, and the classes of the bytes that tokens begin with.
use Rattle.std.specs.Prelude.{ℕ, ◌+◌, Bool, ◌||◌, ◌==◌, List, [], ◌∷◌, codes, if◌then◌else◌, slice_index_or, drop}
use Rattle.std.specs.List.{list_any, prefix_len}
use Rattle.std.specs.Char.{is_ascii_lowercase, is_ascii_uppercase, is_ascii_digit, is_ascii_alphanumeric}
use Rattle.ml_lexer.specs.declared.bytes.Class.{Class}
use Rattle.ml_lexer.specs.declared.bytes.Class.TheVariants.{Blank, SmallLetter, CapitalLetter, Digit, Quote, DoubleQuote, Bracket, Mark, Other}
use Rattle.ml_lexer.specs.declared.bytes.Run.{Run}
use Rattle.ml_lexer.specs.declared.bytes.Run.TheVariants.{Name, Number, Operator}

-- the byte at a place of a text; 256, which is no byte, behind its end
unfoldable pub byte : List ℕ → ℕ → ℕ
byte text at = slice_index_or text at 256

abbrev pub is_one_of : List ℕ → ℕ → Bool
is_one_of bytes b = list_any (λ c. b == c) bytes

-- space, tab, line feed, carriage return and form feed
abbrev pub is_blank : ℕ → Bool
is_blank b = is_one_of (32 ∷ 9 ∷ 10 ∷ 13 ∷ 12 ∷ []) b

-- a lower-case letter or `_`
abbrev pub begins_lower : ℕ → Bool
begins_lower b = is_ascii_lowercase b || (b == 95)

abbrev pub begins_operator : ℕ → Bool
begins_operator b = is_one_of (codes "$&*+-/=>@^|%<") b

-- the class of a byte, by the tokens that it begins; 39 is `'`, 34 `"` and 40 `(`
unfoldable pub class : ℕ → Class
class b =
    if is_blank b then Blank
    else (if begins_lower b then SmallLetter
    else (if is_ascii_uppercase b then CapitalLetter
    else (if is_ascii_digit b then Digit
    else (if b == 39 then Quote
    else (if b == 34 then DoubleQuote
    else (if b == 40 then Bracket
    else (if begins_operator b then Mark
    else Other)))))))

-- the bytes that go on a name, a number and an operator
unfoldable pub belongs : Run → ℕ → Bool
belongs Name b = is_ascii_alphanumeric b || is_one_of (codes "_'") b
belongs Number b = is_ascii_alphanumeric b || (b == 95)
belongs Operator b = begins_operator b || is_one_of (codes ":.!?~") b

-- where the longest run from a place on ends
unfoldable pub run_end : Run → List ℕ → ℕ → ℕ
run_end run text at = at + prefix_len (belongs run) (drop at text)

-- What stands at the front of a list of tokens.
use Rattle.std.specs.Prelude.{ℕ, List, [], ◌∷◌, unwrap_or, slice_get, Option, Some, None}
use Rattle.ml_lexer.specs.declared.token.Token.{Token}
use Rattle.ml_lexer.specs.declared.token.TokenKind.{TokenKind}
use Rattle.ml_lexer.specs.declared.token.TokenKind.TheVariants as Kinds
use Rattle.ml_cursor.specs.declared.front.Front.{Front}
use Rattle.ml_cursor.specs.declared.front.Front.TheVariants.{Nothing, Lower, Upper, TypeVar, Int, Char, Text, Unused, OpenParen, CloseParen, OpenBracket, CloseBracket, OpenBrace, CloseBrace, Comma, Semi, SemiSemi, Colon, ColonColon, Dot, Underscore, Plus, Minus, Star, Slash, Equal, NotEqual, Less, Greater, LessEqual, GreaterEqual, AndAnd, OrOr, At, Caret, Arrow, Bar, And, As, Asr, Begin, Borrow, Else, End, Exclave, False, Fun, Function, Global, If, In, Land, Let, Local, Lor, Lsl, Lsr, Lxor, Many, Match, Mod, Of, Once, Overwrite, Rec, Shared, Then, True, TypeWord, Unique, When, With}

-- the signs in the order of their numbers
abbrev pub signs : List Front
signs =
    OpenParen ∷ CloseParen ∷ OpenBracket ∷ CloseBracket ∷ OpenBrace ∷ CloseBrace ∷ Comma ∷
    Semi ∷ SemiSemi ∷ Colon ∷ ColonColon ∷ Dot ∷ Underscore ∷ Plus ∷ Minus ∷ Star ∷ Slash ∷
    Equal ∷ NotEqual ∷ Less ∷ Greater ∷ LessEqual ∷ GreaterEqual ∷ AndAnd ∷ OrOr ∷ At ∷ Caret ∷
    Arrow ∷ Bar ∷ []

-- the words in the order of their numbers; those behind them no tree derives
abbrev pub words : List Front
words =
    And ∷ As ∷ Asr ∷ Begin ∷ Borrow ∷ Else ∷ End ∷ Exclave ∷ False ∷ Fun ∷ Function ∷ Global ∷
    If ∷ In ∷ Land ∷ Let ∷ Local ∷ Lor ∷ Lsl ∷ Lsr ∷ Lxor ∷ Many ∷ Match ∷ Mod ∷ Of ∷ Once ∷
    Overwrite ∷ Rec ∷ Shared ∷ Then ∷ True ∷ TypeWord ∷ Unique ∷ When ∷ With ∷ []

unfoldable pub of_sign : ℕ → Front
of_sign number = unwrap_or (slice_get signs number) Unused

unfoldable pub of_word : ℕ → Front
of_word number = unwrap_or (slice_get words number) Unused

abbrev pub of_kind : TokenKind → Front
of_kind Kinds.Lower = Lower
of_kind Kinds.Upper = Upper
of_kind Kinds.TypeVar = TypeVar
of_kind (Kinds.Int value) = Int
of_kind (Kinds.Char byte) = Char
of_kind Kinds.Text = Text
of_kind (Kinds.Word number) = of_word number
of_kind (Kinds.Sign number) = of_sign number

abbrev pub front_by : Option Token → Front
front_by None = Nothing
front_by (Some t) = of_kind t.kind

-- what a list of tokens begins with
abbrev pub front : List Token → Front
front ts = front_by (slice_get ts 0)

-- Tokens stay in order as they are found.
use Rattle.std.proofs.Common.{ℕ, ◌<◌, ◌≤◌, List, [], ◌∷◌, ◌++◌, arith}
use Rattle.ml_lexer.specs.declared.token.Token.{Token}
use Rattle.ml_lexer.specs.declared.token.TokenKind.{TokenKind}
use Rattle.ml_lexer.specs.Tokens.{AreInOrder, token}

pub AreInOrder-later : (ts : List Token) (from at to : ℕ) → at ≤ to → AreInOrder from ts at → AreInOrder from ts to
AreInOrder-later [] from at to l o = omega arith
AreInOrder-later (t ∷ ts) from at to l o = (o.0, o.1, AreInOrder-later ts t.span.end at to l o.2)

pub AreInOrder-push : (ts : List Token) (from at to : ℕ) (kind : TokenKind) → at < to → AreInOrder from ts at → AreInOrder from (ts ++ token kind at to ∷ []) to
AreInOrder-push [] from at to kind l o = (o, l, omega arith)
AreInOrder-push (t ∷ ts) from at to kind l o = (o.0, o.1, AreInOrder-push ts t.span.end at to kind l o.2)

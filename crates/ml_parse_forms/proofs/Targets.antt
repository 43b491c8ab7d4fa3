-- What stands before the value of a bind, from its tokens.
use Rattle.std.proofs.Common.{◌≡◌, List, drop}
use Rattle.oxml_base.specs.declared.span.Span.{Span}
use Rattle.ml_lexer.specs.declared.token.Token.{Token}
use Rattle.ml_cursor.specs.declared.front.Front.TheVariants as F
use Rattle.ml_cursor.specs.Fronts.{front}
use Rattle.ml_cursor.specs.Places.{first_span}
use Rattle.ml_grammar.specs.Grammar.{Borrows, borrows}
use Rattle.ml_grammar.proofs.Handed.{takes}

-- `borrow_ y = x` from its four tokens
pub borrowed : {ts us vs ws r : List Token} {y x : Span} → front ts ≡ F.Borrow → us ≡ drop 1 ts → front us ≡ F.Lower → vs ≡ drop 1 us → y ≡ first_span us → front vs ≡ F.Equal → ws ≡ drop 1 vs → front ws ≡ F.Lower → r ≡ drop 1 ws → x ≡ first_span ws → Borrows ts y x r
borrowed a b c d e f g h i j =
    borrows (takes a b) (record { stands = c; rest_is = d; span_is = e }) (takes f g) (record { stands = h; rest_is = i; span_is = j })

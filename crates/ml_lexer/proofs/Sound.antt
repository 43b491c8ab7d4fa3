-- A text literal of a part is one of the whole text, and only a quote begins a token of the kind Text.
use Rattle.std.proofs.Common.{◌≡◌, ◌≢◌, ℕ, zero, suc, ◌+◌, ◌<◌, ◌≤◌, Bool, true, false, cond, eqb, List, [], ◌∷◌, length, take, Option, Some, None, ◌⊎◌, inl, inr, ℤ, refl, sym, subst, ap, ◌∙◌, arith}
use Rattle.std.specs.Option.{option_and_then}
use Rattle.std.specs.Char.{is_ascii_digit}
use Rattle.std.specs.Prelude.{slice_range, nat_eq}
use Rattle.std.specs.Cmp.Lexicographic.{pointwise}
use Rattle.std.proofs.lemmas.Bool.Decides.{nat_tests}
use Rattle.std.proofs.lemmas.List.{length-take}
use Rattle.oxml_base.specs.declared.refusal.Refusal.{Refusal}
use Rattle.oxml_base.specs.declared.rule.Rule.TheVariants.{OutsideAlphabet}
use Rattle.ml_lexer.specs.Bytes.{byte, class, run_end}
use Rattle.ml_lexer.specs.Words.{words, signs, place_in}
use Rattle.ml_lexer.specs.Numbers.{with_digit, number}
use Rattle.ml_lexer.specs.Literals.{fixed, by_number, numbered, letter, escape_by, escape, in_escape, in_text_by, in_text, character}
use Rattle.ml_lexer.specs.Tokens.{TextBy, TextFrom, closes, goes_on, comment_piece, text_piece, Comes, blank, plain, fault, comment, quotation, Begins, look, look_by, named, sign_by, sign_to, number_by, is_pair, is_lower_name, quote_by, token, refusal, IsSound}
use Rattle.ml_lexer.specs.declared.token.TokenKind.{TokenKind}
use Rattle.ml_lexer.specs.declared.token.TokenKind.TheVariants.{Lower, TypeVar, Text, Sign}
use Rattle.ml_lexer.specs.declared.bytes.Class.{Class}
use Rattle.ml_lexer.specs.declared.bytes.Class.TheVariants.{Blank, SmallLetter, CapitalLetter, Digit, Quote, DoubleQuote, Bracket, Mark, Other}
use Rattle.ml_lexer.specs.declared.bytes.Run.TheVariants.{Name, Number, Operator}
use Rattle.ml_lexer.specs.declared.literals.Coded.{Coded}
use Rattle.ml_lexer.specs.declared.literals.Coded.TheVariants.{Absent, Bad, Stands}
use Rattle.ml_lexer.specs.declared.literals.InText.{InText}
use Rattle.ml_lexer.specs.declared.literals.InText.TheVariants.{Cut, Closes, Wrong, Byte}
use Rattle.ml_lexer.specs.declared.literals.TextEnd.{TextEnd}
use Rattle.ml_lexer.specs.declared.literals.TextEnd.TheVariants.{ClosedAt, BadAt, Unclosed}
use Rattle.ml_lexer.specs.declared.pieces.Look.{Look}
use Rattle.ml_lexer.specs.declared.pieces.Look.TheVariants.{Nothing, Plain, Fault, OpensComment}
use Rattle.ml_lexer.specs.declared.pieces.Piece.{Piece}
use Rattle.ml_lexer.specs.declared.pieces.Piece.TheVariants.{Skips, Takes, Faults}

-- a byte of the front of a text is that of the text, or none
pub byte-take : (e : ℕ) (text : List ℕ) (i : ℕ) → (byte (take e text) i ≡ byte text i) ⊎ (byte (take e text) i ≡ 256)
unfolding byte
byte-take zero text i = inr refl
byte-take (suc e) [] i = inr refl
byte-take (suc e) (x ∷ xs) zero = inl refl
byte-take (suc e) (x ∷ xs) (suc i) = byte-take e xs i

no_digit : (base v : ℕ) → base ≤ 36 → with_digit base v 256 ≡ None
no_digit base v l = grind (arith, nat_tests)

fixed_step : (base : ℕ) (front text : List ℕ) (more at w : ℕ) (o : Option ℕ) → ((v : ℕ) → fixed base front more v (at + 1) ≡ Some w → fixed base text more v (at + 1) ≡ Some w) → option_and_then (λ v. fixed base front more v (at + 1)) o ≡ Some w → option_and_then (λ v. fixed base text more v (at + 1)) o ≡ Some w
fixed_step base front text more at w None f h = h
fixed_step base front text more at w (Some v) f h = f v h

none_first : (base : ℕ) (front : List ℕ) (more at w : ℕ) (o : Option ℕ) (P : Type 0) → o ≡ None → option_and_then (λ v. fixed base front more v (at + 1)) o ≡ Some w → P
none_first base front more at w None P e h = cc
none_first base front more at w (Some v) P e h = cc

fixed-take : (base e : ℕ) (text : List ℕ) (more v at w : ℕ) → base ≤ 36 → fixed base (take e text) more v at ≡ Some w → fixed base text more v at ≡ Some w
unfolding fixed
fixed-take base e text zero v at w b h = h
fixed-take base e text (suc more) v at w b h =
    let front = take e text in
    elim (byte-take e text at) as (λ _. option_and_then (λ v. fixed base text more v (at + 1)) (with_digit base v (byte text at)) ≡ Some w) [
      | inl same ↦ fixed_step base front text more at w (with_digit base v (byte text at)) (λ u k. fixed-take base e text more u (at + 1) w b k) (subst (λ (c : ℕ). option_and_then (λ u. fixed base front more u (at + 1)) (with_digit base v c) ≡ Some w) same h)
      | inr none ↦ none_first base front more at w (with_digit base v (byte front at)) _ (subst (λ (c : ℕ). with_digit base v c ≡ None) (sym none) (no_digit base v b)) h
    ]

by_number-same : (end b n : ℕ) (o p : Option ℕ) → ((w : ℕ) → o ≡ Some w → p ≡ Some w) → by_number end o ≡ Stands b n → by_number end p ≡ Stands b n
by_number-same end b n None p f h = cc
by_number-same end b n (Some w) p f h = subst (λ (x : Option ℕ). by_number end x ≡ Stands b n) (sym (f w refl)) h

cond_same : (t : Bool) (x x' y y' r : Coded) → (x ≡ r → x' ≡ r) → (y ≡ r → y' ≡ r) → cond t x y ≡ r → cond t x' y' ≡ r
cond_same true x x' y y' r f g h = f h
cond_same false x x' y y' r f g h = g h

numbered-take : (e : ℕ) (text : List ℕ) (at c b n : ℕ) → numbered (take e text) at c ≡ Stands b n → numbered text at c ≡ Stands b n
numbered-take e text at c b n =
    let front = take e text in
    cond_same (is_ascii_digit c) _ _ _ _ (Stands b n)
    (by_number-same (at + 4) b n (fixed 10 front 3 0 (at + 1)) (fixed 10 text 3 0 (at + 1)) (λ w. fixed-take 10 e text 3 0 (at + 1) w (omega arith)))
    (cond_same (eqb c 120) _ _ _ _ (Stands b n)
    (by_number-same (at + 4) b n (fixed 16 front 2 0 (at + 2)) (fixed 16 text 2 0 (at + 2)) (λ w. fixed-take 16 e text 2 0 (at + 2) w (omega arith)))
    (cond_same (eqb c 111) _ _ _ _ (Stands b n)
    (by_number-same (at + 5) b n (fixed 8 front 3 0 (at + 2)) (fixed 8 text 3 0 (at + 2)) (λ w. fixed-take 8 e text 3 0 (at + 2) w (omega arith)))
    (λ h. h)))

escape_by-take : (e : ℕ) (text : List ℕ) (at c b n : ℕ) (o : Option ℕ) → escape_by (take e text) at c o ≡ Stands b n → escape_by text at c o ≡ Stands b n
escape_by-take e text at c b n None h = numbered-take e text at c b n h
escape_by-take e text at c b n (Some x) h = h

-- the escape at a place, by the byte behind its backslash
abbrev escape_at : List ℕ → ℕ → ℕ → Coded
escape_at text at c = cond (eqb c 256) Absent (escape_by text at c (letter c))

absent : (b n : ℕ) (P : Type 0) → Absent ≡ Stands b n → P
absent b n P h = cc

escape-take : (e : ℕ) (text : List ℕ) (at b n : ℕ) → escape (take e text) at ≡ Stands b n → escape text at ≡ Stands b n
unfolding escape
escape-take e text at b n h =
    let front = take e text in
    elim (byte-take e text (at + 1)) as (λ _. escape_at text at (byte text (at + 1)) ≡ Stands b n) [
      | inl same ↦ (let k = subst (λ (c : ℕ). escape_at front at c ≡ Stands b n) same h in
          cond_same (eqb (byte text (at + 1)) 256) Absent Absent _ _ (Stands b n) (λ x. x) (escape_by-take e text at (byte text (at + 1)) b n (letter (byte text (at + 1)))) k)
      | inr none ↦ absent b n _ (subst (λ (c : ℕ). escape_at front at c ≡ Stands b n) none h)
    ]

-- a byte or the closing quote, which do not change with what follows
abbrev IsSolid : InText → Type 0
IsSolid Cut = ⊥
IsSolid Wrong = ⊥
IsSolid Closes = Unit {0}
IsSolid (Byte b next) = Unit {0}

cond_in_text : (t : Bool) (x x' y y' r : InText) → (x ≡ r → x' ≡ r) → (y ≡ r → y' ≡ r) → cond t x y ≡ r → cond t x' y' ≡ r
cond_in_text true x x' y y' r f g h = f h
cond_in_text false x x' y y' r f g h = g h

in_escape-same : (o p : Coded) (r : InText) → IsSolid r → ((b n : ℕ) → o ≡ Stands b n → p ≡ Stands b n) → in_escape o ≡ r → in_escape p ≡ r
in_escape-same Absent p r s f h = absurd (subst IsSolid (sym h) s)
in_escape-same Bad p r s f h = absurd (subst IsSolid (sym h) s)
in_escape-same (Stands b n) p r s f h = ap in_escape (f b n refl) ∙ h

in_text-take : (e : ℕ) (text : List ℕ) (at : ℕ) (r : InText) → IsSolid r → in_text (take e text) at ≡ r → in_text text at ≡ r
unfolding in_text
in_text-take e text at r s h =
    let front = take e text in
    elim (byte-take e text at) as (λ _. in_text_by text at (byte text at) ≡ r) [
      | inl same ↦ (let k = subst (λ (c : ℕ). in_text_by front at c ≡ r) same h in
          let c = byte text at in
          cond_in_text (eqb c 256) Cut Cut _ _ r (λ x. x)
          (cond_in_text (eqb c 34) Closes Closes _ _ r (λ x. x)
          (cond_in_text (eqb c 92) _ _ (Byte c (at + 1)) (Byte c (at + 1)) r
          (in_escape-same (escape front at) (escape text at) r s (λ b n. escape-take e text at b n))
          (λ x. x))) k)
      | inr none ↦ absurd (subst IsSolid (sym (subst (λ (c : ℕ). in_text_by front at c ≡ r) none h)) s)
    ]

TextBy-take : (e : ℕ) (text : List ℕ) {x : InText} {at end : ℕ} {bytes : List ℕ} → TextBy (take e text) x at bytes (ClosedAt end) → in_text (take e text) at ≡ x → TextFrom text at bytes (ClosedAt end)
TextBy-take e text {at = at} closes h =
    subst (λ (y : InText). TextBy text y at [] (ClosedAt (at + 1))) (sym (in_text-take e text at Closes tt h)) closes
TextBy-take e text {at = at} {end = end} (goes_on {b = b} {next = next} {bytes = bytes} d) h =
    subst (λ (y : InText). TextBy text y at (b ∷ bytes) (ClosedAt end)) (sym (in_text-take e text at (Byte b next) tt h)) (goes_on (TextBy-take e text d refl))

-- a look that shows a whole token shows none of the kind Text
abbrev IsNoText : Look → Type 0
IsNoText (Plain kind end) = kind ≢ Text
IsNoText _ = Unit {0}

sign_by-no_text : (at end : ℕ) (o : Option ℕ) → IsNoText (sign_by at end o)
sign_by-no_text at end None = tt
sign_by-no_text at end (Some n) = λ h. cc

number_by-no_text : (at end : ℕ) (o : Option ℤ) → IsNoText (number_by at end o)
number_by-no_text at end None = tt
number_by-no_text at end (Some n) = λ h. cc

underscore-no_text : (b : Bool) → cond b (Sign 12) Lower ≢ Text
underscore-no_text true = λ h. cc
underscore-no_text false = λ h. cc

named-no_text : (run : List ℕ) (o : Option ℕ) → named run o ≢ Text
named-no_text run None = underscore-no_text (pointwise nat_eq run (95 ∷ []))
named-no_text run (Some n) = λ h. cc

cond-no_text : (b : Bool) (x y : Look) → IsNoText x → IsNoText y → IsNoText (cond b x y)
cond-no_text true x y p q = p
cond-no_text false x y p q = q

quote_by-no_text : (text : List ℕ) (at : ℕ) (o : Coded) → IsNoText (quote_by text at o)
quote_by-no_text text at Absent =
    (let end = run_end Name text (at + 1) in
    cond-no_text (is_lower_name (slice_range text (at + 1) end)) (Plain TypeVar end) (Fault (refusal OutsideAlphabet at (at + 1))) (λ h. cc) tt)
quote_by-no_text text at Bad = tt
quote_by-no_text text at (Stands b end) = λ h. cc

sign_to-no_text : (text : List ℕ) (at end : ℕ) → IsNoText (sign_to text at end)
sign_to-no_text text at end = sign_by-no_text at end (place_in signs (slice_range text at end))

look_by-no_text : (class : Class) (m : Bool) (text : List ℕ) (at : ℕ) → IsNoText (look_by class m text at)
look_by-no_text Blank m text at = tt
look_by-no_text SmallLetter m text at =
    let run = slice_range text at (run_end Name text (at + 1)) in
    named-no_text run (place_in words run)
look_by-no_text CapitalLetter m text at = λ h. cc
look_by-no_text Digit m text at =
    let end = run_end Number text (at + 1) in
    number_by-no_text at end (number m (slice_range text at end))
look_by-no_text Quote m text at = quote_by-no_text text at (character text at)
look_by-no_text DoubleQuote m text at = tt
look_by-no_text Bracket m text at = cond-no_text (eqb (byte text (at + 1)) 42) OpensComment (sign_to text at (at + 1)) tt (sign_to-no_text text at (at + 1))
look_by-no_text Mark m text at = sign_to-no_text text at (run_end Operator text (at + 1))
look_by-no_text Other m text at = cond-no_text (is_pair (byte text at) (byte text (at + 1))) (sign_to text at (at + 2)) (sign_to text at (at + 1)) (sign_to-no_text text at (at + 2)) (sign_to-no_text text at (at + 1))

look-no_text : (m : Bool) (text : List ℕ) (at : ℕ) → IsNoText (look m text at)
unfolding look
look-no_text m text at = cond-no_text (eqb (byte text at) 256) Nothing _ tt (look_by-no_text (class (byte text at)) m text at)

skips≢takes : {k : TokenKind} {a b : ℕ} (P : Type 0) → Skips a ≡ Takes k b → P
skips≢takes P h = cc

faults≢takes : {k : TokenKind} {r : Refusal} {b : ℕ} (P : Type 0) → Faults r ≡ Takes k b → P
faults≢takes P h = cc

comment≢takes : (at : ℕ) (e : Option ℕ) (k : TokenKind) (b : ℕ) (P : Type 0) → comment_piece at e ≡ Takes k b → P
comment≢takes at None k b P h = cc
comment≢takes at (Some end) k b P h = cc

text_piece-end : (at : ℕ) (e : TextEnd) (next : ℕ) → text_piece at e ≡ Takes Text next → e ≡ ClosedAt next
text_piece-end at (ClosedAt end) next h = cc
text_piece-end at (BadAt bad) next h = cc
text_piece-end at Unclosed next h = cc

kind-of : {k l : TokenKind} {a b : ℕ} → Takes k a ≡ Takes l b → k ≡ l
kind-of h = cc

literal : {text : List ℕ} {at next : ℕ} {l : Look} {p : Piece} → Comes text at l p → IsNoText l → p ≡ Takes Text next → (bytes : List ℕ) × TextFrom text (at + 1) bytes (ClosedAt next)
literal blank n h = skips≢takes _ h
literal plain n h = absurd (n (kind-of h))
literal fault n h = faults≢takes _ h
literal {at = at} (comment {e = e} d) n h = comment≢takes at e _ _ _ h
literal {text = text} {at = at} {next = next} (quotation {bytes = bytes} {e = e} d) n h = (bytes, subst (λ (x : TextEnd). TextFrom text (at + 1) bytes x) (text_piece-end at e next h) d)

-- a token that is found in a part of a text is sound in the whole
pub sound : (e : ℕ) (text : List ℕ) (m : Bool) (at next : ℕ) (kind : TokenKind) → at < next → next ≤ length (take e text) → Begins (take e text) m at (Takes kind next) → IsSound text (token kind at next)
sound e text m at next kind l w b k =
    let found = literal b (look-no_text m (take e text) at) (ap (λ x. Takes x next) k) in
    let inside : next ≤ length text = omega (arith, length-take e text) in
    (found.0, record { order = omega arith; within = inside; literal = TextBy-take e text found.1 refl })

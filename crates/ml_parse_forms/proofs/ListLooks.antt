-- What the tokens behind a part of a list say to the look functions.
use Rattle.std.proofs.Common.{◌≡◌, ◌≢◌, ℕ, Bool, true, false, not, ◌&&◌, if◌then◌else◌, List, drop, refl, sym, ap, ◌∙◌}
use Rattle.std.specs.Prelude.{IsTrue, ◌↔◌}
use Rattle.ml_lexer.specs.declared.token.Token.{Token}
use Rattle.ml_cursor.specs.declared.front.Front.{Front}
use Rattle.ml_cursor.specs.declared.front.Front.TheVariants as F
use Rattle.ml_cursor.specs.Fronts.{front}
use Rattle.ml_grammar.specs.declared.looks.ListKind.TheVariants as Q
use Rattle.ml_grammar.specs.Looks.{is_comma, is_semi, is_lower, joins_operands, begins_expression, begins_statement, behind_statements, second, goes_on, next, behind, begins_field, behind_semi}

not_semi : (f : Front) → f ≢ F.Semi → is_semi f ≡ false
not_semi F.Semi n = absurd (n refl)
not_semi f n = refl

not_comma : (f : Front) → f ≢ F.Comma → is_comma f ≡ false
not_comma F.Comma n = absurd (n refl)
not_comma f n = refl

not_lower : (f : Front) → f ≢ F.Lower → is_lower f ≡ false
not_lower F.Lower n = absurd (n refl)
not_lower f n = refl

false_true : {P : Type 0} → false ≡ true → P
false_true q = cc

-- a token that was looked for and does not stand there
pub other_stands : {b : Bool} {f want : Front} → IsTrue b ↔ (f ≡ want) → b ≡ false → f ≢ want
other_stands s e h = false_true (sym e ∙ s.1 h)

-- sequences

pub no_statement : (ts : List Token) → front ts ≢ F.Semi → false ≡ begins_statement ts
unfolding begins_statement
no_statement ts n = sym (ap (λ b. b && begins_expression (drop 1 ts)) (not_semi (front ts) n))

pub behind_no_semi : (ts us : List Token) → front ts ≢ F.Semi → us ≡ ts → us ≡ behind_statements ts
unfolding behind_statements
behind_no_semi ts us n e = e ∙ sym (ap (λ b. if b && not (joins_operands (second ts)) then drop 1 ts else ts) (not_semi (front ts) n))

pub statement_by : {b : Bool} (ts us : List Token) → front ts ≡ F.Semi → us ≡ drop 1 ts → b ≡ begins_expression us → b ≡ begins_statement ts
unfolding begins_statement
statement_by ts us p e q = q ∙ (ap begins_expression e ∙ sym (ap (λ f. is_semi f && begins_expression (drop 1 ts)) p))

pub behind_joining : (ts us vs : List Token) → front ts ≡ F.Semi → us ≡ drop 1 ts → true ≡ joins_operands (front us) → vs ≡ ts → vs ≡ behind_statements ts
unfolding behind_statements
behind_joining ts us vs p e q f = f ∙ sym (ap (λ f. if is_semi f && not (joins_operands (second ts)) then drop 1 ts else ts) p ∙ ap (λ b. if not b then drop 1 ts else ts) (sym (q ∙ ap (λ us. joins_operands (front us)) e)))

pub behind_trailing : (ts us : List Token) → front ts ≡ F.Semi → us ≡ drop 1 ts → false ≡ joins_operands (front us) → us ≡ behind_statements ts
unfolding behind_statements
behind_trailing ts us p e q = e ∙ sym (ap (λ f. if is_semi f && not (joins_operands (second ts)) then drop 1 ts else ts) p ∙ ap (λ b. if not b then drop 1 ts else ts) (sym (q ∙ ap (λ us. joins_operands (front us)) e)))

-- parts of a tuple

pub comma_flag : {b : Bool} (ts : List Token) → IsTrue b ↔ (front ts ≡ F.Comma) → b ≡ goes_on Q.Parts ts
unfolding goes_on
comma_flag {b = true} ts s = sym (ap is_comma (s.0 refl))
comma_flag {b = false} ts s = sym (not_comma (front ts) (λ h. false_true (s.1 h)))

pub comma_place : {b : Bool} (tokens : List Token) (at new : ℕ) → IsTrue b ↔ (front (drop at tokens) ≡ F.Comma) → (IsTrue b → drop new tokens ≡ drop 1 (drop at tokens)) → (front (drop at tokens) ≢ F.Comma → new ≡ at) → drop new tokens ≡ (if b then next Q.Parts (drop at tokens) else behind Q.Parts (drop at tokens))
unfolding next behind
comma_place {b = true} tokens at new s p q = p refl
comma_place {b = false} tokens at new s p q = ap (λ k. drop k tokens) (q (λ h. false_true (s.1 h)))

-- fields

pub no_field : (ts : List Token) → front ts ≢ F.Semi → false ≡ begins_field ts
unfolding begins_field
no_field ts n = sym (ap (λ b. b && is_lower (second ts)) (not_semi (front ts) n))

pub behind_field : (ts us : List Token) → front ts ≢ F.Semi → us ≡ ts → us ≡ behind_semi ts
unfolding behind_semi
behind_field ts us n e = e ∙ sym (ap (λ b. if b then drop 1 ts else ts) (not_semi (front ts) n))

lower_flag : {b : Bool} (f : Front) → IsTrue b ↔ (f ≡ F.Lower) → b ≡ is_lower f
lower_flag {b = true} f s = sym (ap is_lower (s.0 refl))
lower_flag {b = false} f s = sym (not_lower f (λ h. false_true (s.1 h)))

pub field_by : {b : Bool} (ts us : List Token) → front ts ≡ F.Semi → us ≡ drop 1 ts → IsTrue b ↔ (front us ≡ F.Lower) → b ≡ begins_field ts
unfolding begins_field
field_by ts us p e s = lower_flag (front us) s ∙ (ap (λ us. is_lower (front us)) e ∙ sym (ap (λ f. is_semi f && is_lower (second ts)) p))

pub behind_field_semi : (b : Bool) (ts us : List Token) → front ts ≡ F.Semi → us ≡ drop 1 ts → us ≡ (if b then drop 1 ts else behind_semi ts)
unfolding behind_semi
behind_field_semi true ts us p e = e
behind_field_semi false ts us p e = e ∙ sym (ap (λ f. if is_semi f then drop 1 ts else ts) p)

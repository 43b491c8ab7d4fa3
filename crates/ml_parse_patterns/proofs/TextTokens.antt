-- A token that begins a text literal is one of the kind Text.
use Rattle.std.proofs.Common.{◌≡◌, ℕ, zero, suc, Bool, true, false, cond, List, [], ◌∷◌, drop, Some, None, refl, sym, ap, ◌∙◌, subst, All}
use Rattle.std.specs.Prelude.{slice_get, unwrap_or}
use Rattle.std.proofs.lemmas.Option.{slice_get_within, get_or_from_slice_get}
use Rattle.std.proofs.lemmas.List.Elements.{All-get_or}
use Rattle.ml_cursor.proofs.Lists.{first_from}
use Rattle.ml_lexer.specs.declared.token.Token.{Token}
use Rattle.ml_lexer.specs.declared.token.TokenKind.{TokenKind}
use Rattle.ml_lexer.specs.declared.token.TokenKind.TheVariants as Kinds
use Rattle.ml_lexer.specs.Tokens.{IsSound, IsTextToken}
use Rattle.ml_cursor.specs.declared.front.Front.{Front}
use Rattle.ml_cursor.specs.Fronts.{front, front_by, of_kind, of_sign, of_word, signs, words}
use Rattle.ml_parse_patterns.specs.declared.looks.Lead.TheVariants.{Quoted}
use Rattle.ml_parse_patterns.specs.Looks.{lead, lead_by, minus_by, paren_by, bracket_by}

abbrev is_text : Front → Bool
is_text Front.Text = true
is_text _ = false

abbrev has_text : List Front → Bool
has_text [] = false
has_text (f ∷ fs) = cond (is_text f) true (has_text fs)

cond_false : (a b : Bool) → cond a true b ≡ false → (a ≡ false) × (b ≡ false)
cond_false true b h = (h, cc)
cond_false false b h = (refl, h)

no_text : (fs : List Front) (n : ℕ) → has_text fs ≡ false → is_text (unwrap_or (slice_get fs n) Front.Unused) ≡ false
no_text [] n h = refl
no_text (f ∷ fs) zero h = (cond_false (is_text f) (has_text fs) h).0
no_text (f ∷ fs) (suc n) h = no_text fs n (cond_false (is_text f) (has_text fs) h).1

-- a token that looks like a text is one
pub text_kind : (k : TokenKind) → of_kind k ≡ Front.Text → k ≡ Kinds.Text
unfolding of_word of_sign
text_kind Kinds.Text h = refl
text_kind (Kinds.Word n) h = (let f = no_text words n refl in let t : is_text Front.Text ≡ false = sym (ap is_text h) ∙ f in cc)
text_kind (Kinds.Sign n) h = (let f = no_text signs n refl in let t : is_text Front.Text ≡ false = sym (ap is_text h) ∙ f in cc)
text_kind _ h = cc

minus_no_text : (f : Front) (ts : List Token) → minus_by f ts ≡ Quoted → Front.Minus ≡ Front.Text
minus_no_text Front.Int ts h = cc
minus_no_text _ ts h = cc

paren_no_text : (f : Front) → paren_by f ≡ Quoted → Front.OpenParen ≡ Front.Text
paren_no_text Front.CloseParen h = cc
paren_no_text _ h = cc

bracket_no_text : (f : Front) → bracket_by f ≡ Quoted → Front.OpenBracket ≡ Front.Text
bracket_no_text Front.CloseBracket h = cc
bracket_no_text _ h = cc

quoted_by : (f : Front) (ts : List Token) → lead_by f ts ≡ Quoted → f ≡ Front.Text
quoted_by Front.Text ts h = refl
quoted_by Front.Minus ts h = minus_no_text (front (drop 1 ts)) ts h
quoted_by Front.OpenParen ts h = paren_no_text (front (drop 1 ts)) h
quoted_by Front.OpenBracket ts h = bracket_no_text (front (drop 1 ts)) h
quoted_by _ ts h = cc

pub quoted_front : (ts : List Token) → lead ts ≡ Quoted → front ts ≡ Front.Text
unfolding lead
quoted_front ts h = quoted_by (front ts) ts h

-- where a text begins, its token stands, and is one of the kind Text
pub text_stands : (text : List ℕ) (tokens : List Token) (at : ℕ) (t : Token) → lead (drop at tokens) ≡ Quoted → slice_get tokens at ≡ Some t → t.kind ≡ Kinds.Text
text_stands text tokens at t h e =
    let here : slice_get (drop at tokens) 0 ≡ Some t = first_from at tokens ∙ e in
    let look : front_by (Some t) ≡ Front.Text = sym (ap front_by here) ∙ quoted_front (drop at tokens) h in
    text_kind t.kind look

pub text_absent : (tokens : List Token) (at : ℕ) → lead (drop at tokens) ≡ Quoted → slice_get tokens at ≡ None → ⊥
text_absent tokens at h e =
    let here : slice_get (drop at tokens) 0 ≡ None = first_from at tokens ∙ e in
    let look : front_by None ≡ Front.Text = sym (ap front_by here) ∙ quoted_front (drop at tokens) h in
    cc

pub text_token : (text : List ℕ) (tokens : List Token) (at : ℕ) (t : Token) → All (IsSound text) tokens → lead (drop at tokens) ≡ Quoted → slice_get tokens at ≡ Some t → IsTextToken text t
text_token text tokens at t all h e =
    let lt = slice_get_within tokens at t e in
    let there = All-get_or (IsSound text) tokens at t lt all in
    let sound : IsSound text t = subst (λ (x : Token). IsSound text x) (get_or_from_slice_get tokens at t t e) there in
    sound (text_stands text tokens at t h e)

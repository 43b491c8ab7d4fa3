-- What a token that may be left out says to the look functions, where it is accepted and where not.
use Rattle.std.proofs.Common.{◌≡◌, ◌≢◌, ℕ, Bool, true, false, cond, List, drop, refl, subst, ap, sym}
use Rattle.std.specs.Prelude.{IsTrue, ◌↔◌}
use Rattle.ml_lexer.specs.declared.token.Token.{Token}
use Rattle.ml_cursor.specs.declared.front.Front.{Front}
use Rattle.ml_cursor.specs.declared.front.Front.TheVariants as F
use Rattle.ml_cursor.specs.Fronts.{front}
use Rattle.ml_grammar.specs.Looks.{is_rec, is_bar, is_and, is_else, is_colon, behind_rec, behind_bar}

not_rec : (f : Front) → f ≢ F.Rec → is_rec f ≡ false
not_rec F.Rec n = absurd (n refl)
not_rec f n = refl

not_bar : (f : Front) → f ≢ F.Bar → is_bar f ≡ false
not_bar F.Bar n = absurd (n refl)
not_bar f n = refl

not_and : (f : Front) → f ≢ F.And → is_and f ≡ false
not_and F.And n = absurd (n refl)
not_and f n = refl

not_else : (f : Front) → f ≢ F.Else → is_else f ≡ false
not_else F.Else n = absurd (n refl)
not_else f n = refl

not_colon : (f : Front) → f ≢ F.Colon → is_colon f ≡ false
not_colon F.Colon n = absurd (n refl)
not_colon f n = refl

false_true : {P : Type 0} → false ≡ true → P
false_true q = cc

-- where the token stands it is passed, and where it does not nothing is
flag_of : {b : Bool} {f want : Front} (is : Front → Bool) → (f ≡ want → is f ≡ true) → (f ≢ want → is f ≡ false) → IsTrue b ↔ (f ≡ want) → b ≡ is f
flag_of {b = true} is y n s = sym (y (s.0 refl))
flag_of {b = false} is y n s = sym (n (λ e. false_true (s.1 e)))

place_of : {b c : Bool} {ts us : List Token} → b ≡ c → (IsTrue b → us ≡ drop 1 ts) → ((IsTrue b → ⊥) → us ≡ ts) → us ≡ cond c (drop 1 ts) ts
place_of {b = true} {c = c} {ts = ts} {us = us} e p q = subst (λ c. us ≡ cond c (drop 1 ts) ts) e (p refl)
place_of {b = false} {c = c} {ts = ts} {us = us} e p q = subst (λ c. us ≡ cond c (drop 1 ts) ts) e (q (λ h. false_true h))

pub rec_flag : {b : Bool} (ts : List Token) → IsTrue b ↔ (front ts ≡ F.Rec) → b ≡ is_rec (front ts)
rec_flag ts s = flag_of is_rec (λ e. ap is_rec e) (not_rec (front ts)) s

pub rec_place : {b : Bool} (tokens : List Token) (at new : ℕ) → IsTrue b ↔ (front (drop at tokens) ≡ F.Rec) → (IsTrue b → drop new tokens ≡ drop 1 (drop at tokens)) → (front (drop at tokens) ≢ F.Rec → new ≡ at) → drop new tokens ≡ behind_rec (drop at tokens)
unfolding behind_rec
rec_place tokens at new s p q = place_of (rec_flag (drop at tokens) s) p (λ n. ap (λ k. drop k tokens) (q (λ e. n (s.1 e))))

pub bar_flag : {b : Bool} (ts : List Token) → IsTrue b ↔ (front ts ≡ F.Bar) → b ≡ is_bar (front ts)
bar_flag ts s = flag_of is_bar (λ e. ap is_bar e) (not_bar (front ts)) s

pub bar_place : {b : Bool} (tokens : List Token) (at new : ℕ) → IsTrue b ↔ (front (drop at tokens) ≡ F.Bar) → (IsTrue b → drop new tokens ≡ drop 1 (drop at tokens)) → (front (drop at tokens) ≢ F.Bar → new ≡ at) → drop new tokens ≡ behind_bar (drop at tokens)
unfolding behind_bar
bar_place tokens at new s p q = place_of (bar_flag (drop at tokens) s) p (λ n. ap (λ k. drop k tokens) (q (λ e. n (s.1 e))))

pub and_flag : {b : Bool} (ts : List Token) → IsTrue b ↔ (front ts ≡ F.And) → b ≡ is_and (front ts)
and_flag ts s = flag_of is_and (λ e. ap is_and e) (not_and (front ts)) s

pub colon_flag : {b : Bool} (ts : List Token) → IsTrue b ↔ (front ts ≡ F.Colon) → b ≡ is_colon (front ts)
colon_flag ts s = flag_of is_colon (λ e. ap is_colon e) (not_colon (front ts)) s

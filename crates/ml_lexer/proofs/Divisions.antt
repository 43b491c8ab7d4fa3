-- Divisions grow at their end, and there is one at most.
use Rattle.std.proofs.Common.{◌≡◌, ℕ, Bool, List, [], ◌∷◌, ◌++◌, Option, refl, sym, ap, subst}
use Rattle.oxml_base.specs.declared.refusal.Refusal.{Refusal}
use Rattle.ml_lexer.specs.declared.token.Token.{Token}
use Rattle.ml_lexer.specs.declared.token.TokenKind.{TokenKind}
use Rattle.ml_lexer.specs.declared.literals.InText.{InText}
use Rattle.ml_lexer.specs.declared.literals.TextEnd.{TextEnd}
use Rattle.ml_lexer.specs.declared.comments.InComment.{InComment}
use Rattle.ml_lexer.specs.declared.pieces.Look.{Look}
use Rattle.ml_lexer.specs.declared.pieces.Piece.{Piece}
use Rattle.ml_lexer.specs.declared.pieces.Piece.TheVariants.{Skips, Takes, Faults}
use Rattle.ml_lexer.specs.Tokens.{TextBy, closes, cut, wrong, goes_on, CommentBy, over, ends, leaves, opens, passes, comment_piece, text_piece, Comes, blank, plain, fault, comment, quotation, Begins, Divides, nothing, skips, takes, token, is_minus}

pub then_skips : {text : List ℕ} {m m' : Bool} {at to next : ℕ} {ts : List Token} → Divides text m at ts m' to → Begins text m' to (Skips next) → Divides text m at ts m' next
then_skips nothing b = skips b nothing
then_skips (skips a d) b = skips a (then_skips d b)
then_skips (takes a d) b = takes a (then_skips d b)

pub then_takes : {text : List ℕ} {m m' : Bool} {at to next : ℕ} {ts : List Token} {kind : TokenKind} → Divides text m at ts m' to → Begins text m' to (Takes kind next) → Divides text m at (ts ++ token kind to next ∷ []) (is_minus kind) next
then_takes nothing b = takes b nothing
then_takes (skips a d) b = skips a (then_takes d b)
then_takes (takes a d) b = takes a (then_takes d b)

-- what a text literal stands for and where it ends
pub record SameText (bs cs : List ℕ) (d e : TextEnd) : Type 0 where
  pub bytes : bs ≡ cs
  pub end : d ≡ e

pub same_text : {text : List ℕ} {x : InText} {at : ℕ} {bs cs : List ℕ} {d e : TextEnd} → TextBy text x at bs d → TextBy text x at cs e → SameText bs cs d e
same_text closes closes = record { bytes = refl; end = refl }
same_text cut cut = record { bytes = refl; end = refl }
same_text wrong wrong = record { bytes = refl; end = refl }
same_text (goes_on {b = b} a) (goes_on c) = let s = same_text a c in record { bytes = ap (λ xs. b ∷ xs) s.bytes; end = s.end }

pub same_comment : {text : List ℕ} {x : InComment} {inner at : ℕ} {d e : Option ℕ} → CommentBy text x inner at d → CommentBy text x inner at e → d ≡ e
same_comment over over = refl
same_comment ends ends = refl
same_comment (leaves a) (leaves b) = same_comment a b
same_comment (opens a) (opens b) = same_comment a b
same_comment (passes a) (passes b) = same_comment a b

pub same_piece : {text : List ℕ} {at : ℕ} {l : Look} {p q : Piece} → Comes text at l p → Comes text at l q → p ≡ q
same_piece blank blank = refl
same_piece plain plain = refl
same_piece fault fault = refl
same_piece {at = at} (comment a) (comment b) = ap (comment_piece at) (same_comment a b)
same_piece {at = at} (quotation a) (quotation b) = ap (text_piece at) (same_text a b).end

-- no piece goes on from a place: the text ends there, or a fault stands there
abbrev pub Stops : List ℕ → Bool → ℕ → Type 0
Stops text m at = (p : Piece) → Begins text m at p → (r : Refusal) × (p ≡ Faults r)

-- a division that cannot go on has each division from its beginning as its front
pub record GoesOn (text : List ℕ) (ts : List Token) (m' : Bool) (to : ℕ) (us : List Token) (n' : Bool) (end : ℕ) : Type 0 where
  pub more : List Token
  pub joins : us ≡ ts ++ more
  pub rest : Divides text m' to more n' end

goes_again : {text : List ℕ} {m' n' : Bool} {to end : ℕ} {ts us : List Token} (t : Token) → GoesOn text ts m' to us n' end → GoesOn text (t ∷ ts) m' to (t ∷ us) n' end
goes_again t g = record { more = g.more; joins = ap (λ xs. t ∷ xs) g.joins; rest = g.rest }

skips-skips : {a b : ℕ} → Skips a ≡ Skips b → a ≡ b
skips-skips h = cc

takes-end : {k l : TokenKind} {a b : ℕ} → Takes k a ≡ Takes l b → a ≡ b
takes-end h = cc

takes-kind : {k l : TokenKind} {a b : ℕ} → Takes k a ≡ Takes l b → k ≡ l
takes-kind h = cc

skips≢faults : {a : ℕ} {r : Refusal} (P : Type 0) → Skips a ≡ Faults r → P
skips≢faults P h = cc

takes≢faults : {k : TokenKind} {a : ℕ} {r : Refusal} (P : Type 0) → Takes k a ≡ Faults r → P
takes≢faults P h = cc

skips≢takes : {k : TokenKind} {a b : ℕ} (P : Type 0) → Skips a ≡ Takes k b → P
skips≢takes P h = cc

same_token : {k l : TokenKind} {a b : ℕ} (at : ℕ) → Takes k a ≡ Takes l b → token k at a ≡ token l at b
same_token at h = cc (takes-kind h, takes-end h)

pub goes_on_from : {text : List ℕ} {m m' n' : Bool} {at to end : ℕ} {ts us : List Token} → Divides text m at ts m' to → Divides text m at us n' end → Stops text n' end → GoesOn text ts m' to us n' end
goes_on_from nothing e s = record { more = _; joins = refl; rest = e }
goes_on_from (skips a d) nothing s = skips≢faults _ (s _ a).1
goes_on_from (takes a d) nothing s = takes≢faults _ (s _ a).1
goes_on_from {text = text} {m = m} {n' = n'} {end = end} (skips {next = next} a d) (skips {next = next'} {ts = us} b e) s =
    let same : next' ≡ next = sym (skips-skips (same_piece a b)) in
    goes_on_from d (subst (λ (n : ℕ). Divides text m n us n' end) same e) s
goes_on_from (skips a d) (takes b e) s = skips≢takes _ (same_piece a b)
goes_on_from (takes a d) (skips b e) s = skips≢takes _ (same_piece b a)
goes_on_from {text = text} {n' = n'} {at = at} {end = end} (takes {next = next} {kind = kind} {ts = ts} a d) (takes {next = next'} {kind = kind'} {ts = us} b e) s =
    let same = same_piece b a in
    let there = subst (λ (n : ℕ). Divides text (is_minus kind') n us n' end) (takes-end same) e in
    let here = subst (λ (k : TokenKind). Divides text (is_minus k) next us n' end) (takes-kind same) there in
    let g = goes_on_from d here s in
    let t : token kind' at next' ≡ token kind at next = same_token at same in
    record { more = g.more; joins = cc (t, g.joins); rest = g.rest }

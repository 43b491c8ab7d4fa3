-- Lists of tokens that stand behind some of another's.
use Rattle.std.proofs.Common.{◌≡◌, ℕ, zero, suc, ◌+◌, ◌≤◌, Bool, true, false, List, [], ◌∷◌, drop, length, refl, sym, ap, ◌∙◌, arith, cond}
use Rattle.std.proofs.lemmas.List.{length-drop as left}
use Rattle.std.proofs.Math.Seq.{drop-nil}
use Rattle.oxml_base.specs.declared.span.Span.{Span}
use Rattle.ml_lexer.specs.declared.token.Token.{Token}
use Rattle.ml_cursor.specs.declared.front.Front.{Front}
use Rattle.ml_cursor.specs.Places.{Takes}
use Rattle.ml_grammar.specs.declared.looks.ListKind.{ListKind}
use Rattle.ml_grammar.specs.declared.looks.ListKind.TheVariants as Q
use Rattle.ml_grammar.specs.Looks.{next, behind, behind_statements, behind_semi, behind_bar, behind_rec}
use Rattle.ml_grammar.specs.Grammar.{Kind, exprs, fields, arms, binds, past, to_next}

-- the second list is what is left of the first behind so many tokens
pub record Behind (ts us : List Token) : Type 0 where
  pub count : ℕ
  pub is : us ≡ drop count ts

pub same : {ts : List Token} → Behind ts ts
same = record { count = 0; is = refl }

pub dropped : (n : ℕ) (ts : List Token) → Behind ts (drop n ts)
dropped n ts = record { count = n; is = refl }

pub drop_drop : (n m : ℕ) (ts : List Token) → drop m (drop n ts) ≡ drop (n + m) ts
drop_drop zero m ts = ap (λ k. drop k ts) (let e : m ≡ 0 + m = omega arith in e)
drop_drop (suc n) m [] = drop-nil m ∙ sym (drop-nil (suc n + m))
drop_drop (suc n) m (t ∷ ts) = drop_drop n m ts ∙ ap (λ k. drop k (t ∷ ts)) (let e : suc (n + m) ≡ suc n + m = omega arith in e)

pub then : {ts us vs : List Token} → Behind ts us → Behind us vs → Behind ts vs
then {ts} a b = record { count = a.count + b.count; is = b.is ∙ (ap (drop b.count) a.is ∙ drop_drop a.count b.count ts) }

-- how many tokens stand before
pub count_is : {ts us : List Token} (a : Behind ts us) → 1 ≤ length us → a.count + length us ≡ length ts
count_is {ts} {us} a h = let e = ap length a.is in let l = left a.count ts in omega arith

pub token : {w : Front} {ts us : List Token} {s : Span} → Takes w ts us s → Behind ts us
token t = record { count = 1; is = t.rest_is }

pub one : {ts : List Token} → Behind ts (drop 1 ts)
one = record { count = 1; is = refl }

or_drop : (b : Bool) (ts : List Token) → Behind ts (cond b (drop 1 ts) ts)
or_drop true ts = one
or_drop false ts = same

statements : (ts : List Token) → Behind ts (behind_statements ts)
unfolding behind_statements
statements ts = or_drop _ ts

semi : (ts : List Token) → Behind ts (behind_semi ts)
unfolding behind_semi
semi ts = or_drop _ ts

pub bar : (ts : List Token) → Behind ts (behind_bar ts)
unfolding behind_bar
bar ts = or_drop _ ts

pub rec_word : (ts : List Token) → Behind ts (behind_rec ts)
unfolding behind_rec
rec_word ts = or_drop _ ts

pub next_one : (q : ListKind) (ts : List Token) → Behind ts (next q ts)
unfolding next
next_one Q.Arguments ts = same
next_one Q.Parts ts = one
next_one Q.Statements ts = one
next_one Q.Elements ts = one

pub last_one : (q : ListKind) (ts : List Token) → Behind ts (behind q ts)
unfolding behind
last_one Q.Arguments ts = same
last_one Q.Parts ts = same
last_one Q.Statements ts = statements ts
last_one Q.Elements ts = statements ts

pub next_of : (k : Kind) (ts : List Token) → Behind ts (to_next k ts)
next_of (exprs q) ts = next_one q ts
next_of fields ts = one
next_of arms ts = one
next_of binds ts = one

pub past_of : (k : Kind) (ts : List Token) → Behind ts (past k ts)
past_of (exprs q) ts = last_one q ts
past_of fields ts = semi ts
past_of arms ts = same
past_of binds ts = same

pub next_to : {ts us : List Token} (n : ℕ) → Behind ts us → Behind ts (drop n us)
next_to {us = us} n a = then a (dropped n us)

pub behind_less : {ts us : List Token} → Behind ts us → length us ≤ length ts
behind_less {ts} {us} a = let e = ap length a.is in let l = left a.count ts in omega arith

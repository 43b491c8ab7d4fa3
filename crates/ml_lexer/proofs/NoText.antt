-- Once a quote in a comment begins no text, no later one does.
use Rattle.std.proofs.Common.{◌≡◌, ℕ, ◌+◌, ◌-◌, ◌<◌, ◌≤◌, zero, suc, Bool, true, false, cond, eqb, List, [], ◌∷◌, length, drop, get_or, Option, Some, None, refl, sym, subst, arith, eq-eqb}
use Rattle.std.proofs.lemmas.List.{drop_more, drop-drop}
use Rattle.ml_lexer.specs.Bytes.{byte}
use Rattle.ml_lexer.specs.Literals.{text_end, HasNoText}

none_if : (b : Bool) (at to : ℕ) (o p : Option ℕ) → (o ≡ None → p ≡ None) → cond b (Some at) o ≡ None → cond b (Some to) p ≡ None
none_if true at to o p f h = cc
none_if false at to o p f h = f h

none_behind : (b : Bool) (at : ℕ) (o : Option ℕ) → cond b (Some at) o ≡ None → o ≡ None
none_behind true at o h = cc
none_behind false at o h = h

none_there : (b : Bool) (at : ℕ) (o : Option ℕ) (P : Type 0) → b ≡ true → cond b (Some at) o ≡ None → P
none_there true at o P e h = cc
none_there false at o P e h = cc

-- where no text ends, none ends however places are counted
pub none_anywhere : (f : Bool) (at to : ℕ) (cs : List ℕ) → text_end f at cs ≡ None → text_end f to cs ≡ None
unfolding text_end
none_anywhere true at to [] h = refl
none_anywhere false at to [] h = refl
none_anywhere true at to (c ∷ cs) h = none_anywhere false (at + 1) (to + 1) cs h
none_anywhere false at to (c ∷ cs) h =
    none_if (eqb c 34) (at + 1) (to + 1) _ _ (none_anywhere (eqb c 92) (at + 1) (to + 1) cs) h

pub HasNoText-from_none : (f : Bool) (at : ℕ) (cs : List ℕ) → text_end f at cs ≡ None → HasNoText cs
unfolding text_end
HasNoText-from_none f at [] h = tt
HasNoText-from_none true at (c ∷ cs) h =
    ((λ _ to. none_anywhere false (at + 1) to cs h), HasNoText-from_none false (at + 1) cs h)
HasNoText-from_none false at (c ∷ cs) h =
    ((λ e to. none_there (eqb c 34) (at + 1) _ (text_end false to cs ≡ None) (eq-eqb c 34 e) h), HasNoText-from_none (eqb c 92) (at + 1) cs (none_behind (eqb c 34) (at + 1) _ h))

HasNoText-drop : (n : ℕ) (cs : List ℕ) → HasNoText cs → HasNoText (drop n cs)
HasNoText-drop zero cs h = h
HasNoText-drop (suc n) [] h = tt
HasNoText-drop (suc n) (c ∷ cs) h = HasNoText-drop n cs h.1

pub HasNoText-later : (text : List ℕ) (at next : ℕ) → at ≤ next → HasNoText (drop at text) → HasNoText (drop next text)
HasNoText-later text at next l h =
    let e : at + (next - at) ≡ next = omega arith in
    let moved = HasNoText-drop (next - at) (drop at text) h in
    subst (λ (n : ℕ). HasNoText (drop n text)) e (subst HasNoText (drop-drop (next - at) at text) moved)

-- a quote where no text begins
pub quote_alone : (text : List ℕ) (at : ℕ) → at < length text → byte text at ≡ 34 → HasNoText (drop at text) → text_end false (at + 1) (drop (at + 1) text) ≡ None
unfolding byte
quote_alone text at l q h =
    (subst HasNoText (drop_more text at 256 l) h).0 q (at + 1)

pub HasNoText-at_quote : (text : List ℕ) (at : ℕ) → at < length text → text_end false (at + 1) (drop (at + 1) text) ≡ None → HasNoText (drop at text)
HasNoText-at_quote text at l h =
    let rest = drop (at + 1) text in
    let all : HasNoText (get_or text at 256 ∷ rest) = ((λ _ to. none_anywhere false (at + 1) to rest h), HasNoText-from_none false (at + 1) rest h) in
    subst HasNoText (sym (drop_more text at 256 l)) all

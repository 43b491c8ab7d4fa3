-- The walk along a journal finds all captures: where a function has captured a name, so have the functions around it that the name is bound outside of.
use Rattle.std.proofs.Common.{◌≡◌, ℕ, ◌+◌, ◌<◌, ◌≤◌, List, [], ◌∷◌, ◌++◌, Option, Some, None, Bool, true, false, ◌&&◌, not, nat_lt, nat_eq, if◌then◌else◌, refl, sym, ap, ◌∙◌, subst, arith, drop, length, map, inl, inr, ◌⊎◌}
use Rattle.std.specs.List.{list_any}
use Rattle.std.specs.Option.{unwrap_or}
use Rattle.std.proofs.lemmas.Bool.{cases_Bool, ltb-true, ltb-false, lt-ltb, cond-true, cond-false, and_parts, or_cases, or_left, or_right}
use Rattle.std.proofs.lemmas.Bool.Decides.{Decides-eqb}
use Rattle.std.proofs.lemmas.List.Folds.{list_any-append}
use Rattle.ml_tree.specs.declared.reference.Ref.TheVariants as r
use Rattle.ml_scope.specs.declared.found.Found.TheVariants.{Names, NamesType, Variable, Anew, Lists, Offends, Itself, Opens, Closes}
use Rattle.ml_scope.specs.Journal.{Journal, each}
use Rattle.ml_scope.specs.Captures.{same_pair, once, used, Captured, with_capture, captures, opened, RiseFrom, OpensRise}
use Rattle.ml_scope.specs.CaptureWalk.{outward, step, walked}

abbrev Pairs : Type 0
Pairs = List (ℕ × ℕ)

abbrev Has : ℕ × ℕ → Pairs → Type 0
Has p ps = list_any (same_pair p) ps ≡ true

-- ---- pairs that are put down once

same_itself : (p : ℕ × ℕ) → same_pair p p ≡ true
same_itself p = ap (λ b. b && nat_eq p.1 p.1) ((Decides-eqb p.0 p.0).1 refl) ∙ (Decides-eqb p.1 p.1).1 refl

same_is : (p q : ℕ × ℕ) → same_pair p q ≡ true → (p.0 ≡ q.0) × (p.1 ≡ q.1)
same_is p q h = let both = and_parts (nat_eq p.0 q.0) (nat_eq p.1 q.1) h in ((Decides-eqb p.0 q.0).0 both.0, (Decides-eqb p.1 q.1).0 both.1)

has_more : (p : ℕ × ℕ) (ps qs : Pairs) → Has p ps → Has p (ps ++ qs)
has_more p ps qs h = list_any-append (same_pair p) ps qs ∙ or_left (list_any (same_pair p) ps) (list_any (same_pair p) qs) h

has_last : (p : ℕ × ℕ) (ps : Pairs) → Has p (ps ++ p ∷ [])
has_last p ps = list_any-append (same_pair p) ps (p ∷ []) ∙ or_right (list_any (same_pair p) ps) (list_any (same_pair p) (p ∷ [])) (or_left (same_pair p p) false (same_itself p))

has_either : (p q : ℕ × ℕ) (ps : Pairs) → Has p (ps ++ q ∷ []) → Has p ps ⊎ ((p.0 ≡ q.0) × (p.1 ≡ q.1))
has_either p q ps h = elim (or_cases (list_any (same_pair p) ps) (list_any (same_pair p) (q ∷ [])) (sym (list_any-append (same_pair p) ps (q ∷ [])) ∙ h)) [
  | inl t ↦ inl t
  | inr t ↦ elim (or_cases (same_pair p q) false t) [ inl s ↦ inr (same_is p q s) | inr f ↦ absurd cc ]
]

once_keeps : (p q : ℕ × ℕ) (ps : Pairs) → Has p ps → Has p (once q ps)
once_keeps p q ps h = kept (list_any (same_pair q) ps)
  where
    kept : (b : Bool) → Has p (if b then ps else ps ++ q ∷ [])
    kept true = h
    kept false = has_more p ps (q ∷ []) h

once_has : (p : ℕ × ℕ) (ps : Pairs) → Has p (once p ps)
once_has p ps = elim (cases_Bool (list_any (same_pair p) ps)) [
  | inl t ↦ subst (Has p) (sym (cond-true (list_any (same_pair p) ps) ps (ps ++ p ∷ []) t)) t
  | inr f ↦ subst (Has p) (sym (cond-false (list_any (same_pair p) ps) ps (ps ++ p ∷ []) f)) (has_last p ps)
]

once_either : (p q : ℕ × ℕ) (ps : Pairs) → Has p (once q ps) → Has p ps ⊎ ((p.0 ≡ q.0) × (p.1 ≡ q.1))
once_either p q ps = picked (list_any (same_pair q) ps)
  where
    picked : (b : Bool) → Has p (if b then ps else ps ++ q ∷ []) → Has p ps ⊎ ((p.0 ≡ q.0) × (p.1 ≡ q.1))
    picked true h = inl h
    picked false h = has_either p q ps h

-- ---- what one function does with a use

abbrev marked : ℕ → ℕ → Pairs → Pairs
marked f b ps = if nat_lt b f then once (f, b) ps else ps

marked_keeps : (f b : ℕ) (p : ℕ × ℕ) (ps : Pairs) → Has p ps → Has p (marked f b ps)
marked_keeps f b p ps h = kept (nat_lt b f)
  where
    kept : (t : Bool) → Has p (if t then once (f, b) ps else ps)
    kept true = once_keeps p (f, b) ps h
    kept false = h

marked_has : (f b : ℕ) (ps : Pairs) → b < f → Has (f, b) (marked f b ps)
marked_has f b ps h = subst (Has (f, b)) (sym (cond-true (nat_lt b f) (once (f, b) ps) ps (lt-ltb b f h))) (once_has (f, b) ps)

marked_either : (f b : ℕ) (p : ℕ × ℕ) (ps : Pairs) → Has p (marked f b ps) → Has p ps ⊎ ((p.0 ≡ f) × (p.1 ≡ b))
marked_either f b p ps = picked (nat_lt b f)
  where
    picked : (t : Bool) → Has p (if t then once (f, b) ps else ps) → Has p ps ⊎ ((p.0 ≡ f) × (p.1 ≡ b))
    picked true h = once_either p (f, b) ps h
    picked false h = inl h

marked_none : (f b : ℕ) (ps : Pairs) → (b < f → Has (f, b) ps) → marked f b ps ≡ ps
marked_none f b ps h = elim (cases_Bool (nat_lt b f)) [
  | inl t ↦ cond-true (nat_lt b f) (once (f, b) ps) ps t ∙ cond-true (list_any (same_pair (f, b)) ps) ps (ps ++ (f, b) ∷ []) (h (ltb-true b f t))
  | inr n ↦ cond-false (nat_lt b f) (once (f, b) ps) ps n
]

used_keeps : (fs : List ℕ) (b : ℕ) (p : ℕ × ℕ) (ps : Pairs) → Has p ps → Has p (used fs b ps)
used_keeps [] b p ps h = h
used_keeps (f ∷ fs) b p ps h = used_keeps fs b p (marked f b ps) (marked_keeps f b p ps h)

used_either : (fs : List ℕ) (b : ℕ) (p : ℕ × ℕ) (ps : Pairs) → Has p (used fs b ps) → Has p ps ⊎ (p.1 ≡ b)
used_either [] b p ps h = inl h
used_either (f ∷ fs) b p ps h = elim (used_either fs b p (marked f b ps) h) [
  | inl t ↦ elim (marked_either f b p ps t) [ inl s ↦ inl s | inr e ↦ inr e.1 ]
  | inr e ↦ inr e
]

-- ---- each of these functions that the name is bound outside of has captured it

abbrev Full : List ℕ → ℕ → Pairs → Type 0
Full [] b ps = Unit {0}
Full (f ∷ fs) b ps = (b < f → Has (f, b) ps) × Full fs b ps

full_keeps : (fs : List ℕ) (b : ℕ) (ps qs : Pairs) → ((p : ℕ × ℕ) → Has p ps → Has p qs) → Full fs b ps → Full fs b qs
full_keeps [] b ps qs keeps h = tt
full_keeps (f ∷ fs) b ps qs keeps h = ((λ below. keeps (f, b) (h.0 below)), full_keeps fs b ps qs keeps h.1)

full_used : (fs : List ℕ) (b : ℕ) (ps : Pairs) → Full fs b (used fs b ps)
full_used [] b ps = tt
full_used (f ∷ fs) b ps = ((λ below. used_keeps fs b (f, b) (marked f b ps) (marked_has f b ps below)), full_used fs b (marked f b ps))

used_full : (fs : List ℕ) (b : ℕ) (ps : Pairs) → Full fs b ps → used fs b ps ≡ ps
used_full [] b ps h = refl
used_full (f ∷ fs) b ps h = ap (used fs b) (marked_none f b ps h.0) ∙ used_full fs b ps h.1

-- ---- where a function has captured a name, so have those around it

abbrev Closed : List ℕ → Pairs → Type 0
Closed [] ps = Unit {0}
Closed (f ∷ fs) ps = ((b : ℕ) → Has (f, b) ps → Full fs b ps) × Closed fs ps

-- the functions around, from the innermost on, have numbers that fall
abbrev Falls : ℕ → List ℕ → Type 0
Falls top [] = Unit {0}
Falls top (f ∷ fs) = (f < top) × Falls f fs

falls_below : (fs : List ℕ) (top higher : ℕ) → top ≤ higher → Falls top fs → Falls higher fs
falls_below [] top higher h a = tt
falls_below (f ∷ fs) top higher h a = (omega (arith, a.0), a.1)

full_past : (fs : List ℕ) (top b : ℕ) (ps : Pairs) → Falls top fs → top ≤ b → Full fs b ps
full_past [] top b ps a h = tt
full_past (f ∷ fs) top b ps a h = ((λ below. absurd (omega (arith, a.0, below))), full_past fs f b ps a.1 (omega (arith, a.0)))

closed_used : (fs : List ℕ) (b : ℕ) (ps qs : Pairs) → ((p : ℕ × ℕ) → Has p ps → Has p qs) → ((p : ℕ × ℕ) → Has p qs → Has p ps ⊎ (p.1 ≡ b)) → Full fs b qs → Closed fs ps → Closed fs qs
closed_used [] b ps qs keeps either full h = tt
closed_used (f ∷ fs) b ps qs keeps either full h = (
  (λ c has. elim (either (f, c) has) [
    | inl t ↦ full_keeps fs c ps qs keeps (h.0 c t)
    | inr e ↦ subst (λ n. Full fs n qs) (sym e) full.1
  ]),
  closed_used fs b ps qs keeps either full.1 h.1,
)

closed_more : (fs : List ℕ) (top f b : ℕ) (ps : Pairs) → Falls top fs → top ≤ f → Closed fs ps → Closed fs (ps ++ (f, b) ∷ [])
closed_more [] top f b ps a h closed = tt
closed_more (g ∷ gs) top f b ps a h closed = (
  (λ c has. elim (has_either (g, c) (f, b) ps has) [
    | inl t ↦ full_keeps gs c ps (ps ++ (f, b) ∷ []) (λ p s. has_more p ps ((f, b) ∷ []) s) (closed.0 c t)
    | inr e ↦ absurd (omega (arith, a.0, e.0))
  ]),
  closed_more gs g f b ps a.1 (omega (arith, a.0)) closed.1,
)

outward_is : (fs : List ℕ) (top b : ℕ) (ps : Pairs) → Falls top fs → Closed fs ps → outward fs b ps ≡ used fs b ps
outward_is [] top b ps a closed = refl
outward_is (f ∷ fs) top b ps a closed = elim (cases_Bool (nat_lt b f)) [
  | inl t ↦ elim (cases_Bool (list_any (same_pair (f, b)) ps)) [
    | inl h ↦ known t h ∙ sym (used_full (f ∷ fs) b ps ((λ below. h), closed.0 b h))
    | inr n ↦ new t n ∙ outward_is fs f b (ps ++ (f, b) ∷ []) a.1 (closed_more fs f f b ps a.1 (omega arith) closed.1) ∙ ap (used fs b) (sym (cond-true (nat_lt b f) (once (f, b) ps) ps t ∙ cond-false (list_any (same_pair (f, b)) ps) ps (ps ++ (f, b) ∷ []) n))
  ]
  | inr n ↦ past n ∙ sym (used_full (f ∷ fs) b ps ((λ below. absurd (omega (arith, below, ltb-false b f n))), full_past fs f b ps a.1 (ltb-false b f n)))
]
  where
    known : nat_lt b f ≡ true → list_any (same_pair (f, b)) ps ≡ true → outward (f ∷ fs) b ps ≡ ps
    known t h = ap (λ x. if x && not (list_any (same_pair (f, b)) ps) then outward fs b (ps ++ (f, b) ∷ []) else ps) t ∙ ap (λ x. if not x then outward fs b (ps ++ (f, b) ∷ []) else ps) h

    new : nat_lt b f ≡ true → list_any (same_pair (f, b)) ps ≡ false → outward (f ∷ fs) b ps ≡ outward fs b (ps ++ (f, b) ∷ [])
    new t n = ap (λ x. if x && not (list_any (same_pair (f, b)) ps) then outward fs b (ps ++ (f, b) ∷ []) else ps) t ∙ ap (λ x. if not x then outward fs b (ps ++ (f, b) ∷ []) else ps) n

    past : nat_lt b f ≡ false → outward (f ∷ fs) b ps ≡ ps
    past n = ap (λ x. if x && not (list_any (same_pair (f, b)) ps) then outward fs b (ps ++ (f, b) ∷ []) else ps) n

-- ---- along a journal whose functions begin in the order of their numbers

-- the numbers of the functions that have begun are below that of the next
abbrev bound_of : ℕ → Captured → ℕ
bound_of low c = unwrap_or c.itself low

record Walks (low : ℕ) (c : Captured) : Type 0 where
  falls : Falls (bound_of low c) c.around
  closed : Closed c.around c.captures
  begun : (p : ℕ × ℕ) → Has p c.captures → p.0 < bound_of low c
  within : bound_of low c ≤ low

used_below : (fs : List ℕ) (top b : ℕ) (ps : Pairs) → Falls top fs → ((p : ℕ × ℕ) → Has p ps → p.0 < top) → (p : ℕ × ℕ) → Has p (used fs b ps) → p.0 < top
used_below [] top b ps a below p h = below p h
used_below (f ∷ fs) top b ps a below p h = used_below fs top b (marked f b ps) (falls_below fs f top (omega (arith, a.0)) a.1) (λ q has. elim (marked_either f b q ps has) [ inl t ↦ below q t | inr e ↦ (let e' = e.0 in omega (arith, a.0, e')) ]) p h

walks_itself : (low n : ℕ) (c : Captured) → low ≤ n → Walks low c → Walks (n + 1) (with_capture (Itself n) c)
walks_itself low n c h w = record {
  falls = falls_below c.around (bound_of low c) n (omega (arith, w.within)) w.falls;
  closed = w.closed;
  begun = λ p has. omega (arith, w.begun p has, w.within);
  within = omega arith;
}

opens_at : (low n : ℕ) (itself : Option ℕ) → low ≤ n → unwrap_or itself low ≤ low → (unwrap_or itself low ≤ unwrap_or itself n) × (unwrap_or itself n < n + 1)
opens_at low n None h k = (h, omega arith)
opens_at low n (Some m) h k = (omega arith, omega arith)

walks_opens : (low n : ℕ) (c : Captured) → low ≤ n → Walks low c → Walks (n + 1) (with_capture (Opens n) c)
walks_opens low n c h w =
    let at = opens_at low n c.itself h w.within in
    record {
      falls = (at.1, falls_below c.around (bound_of low c) (unwrap_or c.itself n) at.0 w.falls);
      closed = ((λ b has. absurd (omega (arith, w.begun (unwrap_or c.itself n, b) has, at.0))), w.closed);
      begun = λ p has. omega (arith, w.begun p has, w.within);
      within = omega arith;
    }

falls_rest : (top : ℕ) (fs : List ℕ) → Falls top fs → Falls top (drop 1 fs)
falls_rest top [] a = tt
falls_rest top (f ∷ fs) a = falls_below fs f top (omega (arith, a.0)) a.1

closed_rest : (fs : List ℕ) (ps : Pairs) → Closed fs ps → Closed (drop 1 fs) ps
closed_rest [] ps h = tt
closed_rest (f ∷ fs) ps h = h.1

walks_closes : (low : ℕ) (c : Captured) → Walks low c → Walks low (with_capture Closes c)
walks_closes low c w = record { falls = falls_rest (bound_of low c) c.around w.falls; closed = closed_rest c.around c.captures w.closed; begun = w.begun; within = w.within }

walks_names : (low n b : ℕ) (c : Captured) → Walks low c → Walks low (with_capture (Names n (r.Local b)) c)
walks_names low n b c w = record {
  falls = w.falls;
  closed = closed_used c.around b c.captures (used c.around b c.captures) (λ p. used_keeps c.around b p c.captures) (λ p. used_either c.around b p c.captures) (full_used c.around b c.captures) w.closed;
  begun = used_below c.around (bound_of low c) b c.captures w.falls w.begun;
  within = w.within;
}

walk_is : (js : Journal) (low : ℕ) (c : Captured) → Walks low c → RiseFrom low (opened js) → each (map step js) c ≡ each (map with_capture js) c
walk_is [] low c w rise = refl
walk_is (Itself n ∷ js) low c w rise = walk_is js (n + 1) (with_capture (Itself n) c) (walks_itself low n c rise.0 w) rise.1
walk_is (Opens n ∷ js) low c w rise = walk_is js (n + 1) (with_capture (Opens n) c) (walks_opens low n c rise.0 w) rise.1
walk_is (Closes ∷ js) low c w rise = walk_is js low (with_capture Closes c) (walks_closes low c w) rise
walk_is (Names n (r.Local b) ∷ js) low c w rise =
    let same : step (Names n (r.Local b)) c ≡ with_capture (Names n (r.Local b)) c = ap (λ (ps : Pairs). record { around = c.around; itself = c.itself; captures = ps }) (outward_is c.around (bound_of low c) b c.captures w.falls w.closed) in
    ap (each (map step js)) same ∙ walk_is js low (with_capture (Names n (r.Local b)) c) (walks_names low n b c w) rise
walk_is (Names n (r.Top b) ∷ js) low c w rise = walk_is js low c w rise
walk_is (Names n (r.Operation o) ∷ js) low c w rise = walk_is js low c w rise
walk_is (Names n (r.Con d p) ∷ js) low c w rise = walk_is js low c w rise
walk_is (Names n (r.Field d p) ∷ js) low c w rise = walk_is js low c w rise
walk_is (Names n (r.Decl d) ∷ js) low c w rise = walk_is js low c w rise
walk_is (NamesType n d ∷ js) low c w rise = walk_is js low c w rise
walk_is (Variable n s ∷ js) low c w rise = walk_is js low c w rise
walk_is (Anew ∷ js) low c w rise = walk_is js low c w rise
walk_is (Lists s ∷ js) low c w rise = walk_is js low c w rise
walk_is (Offends x ∷ js) low c w rise = walk_is js low c w rise

walks_none : Walks 0 (record { around = []; itself = None; captures = [] })
walks_none = record { falls = tt; closed = tt; begun = λ p h. absurd cc; within = omega arith }

walked_is : (js : Journal) → OpensRise js → walked js ≡ captures js
walked_is js h = ap (λ c. c.captures) (walk_is js 0 (record { around = []; itself = None; captures = [] }) walks_none h.rise)

pub many_walked : (js : Journal) → OpensRise js → 100000 < length (walked js) → 100000 < length (captures js)
many_walked js rises h = subst (λ ps. 100000 < length ps) (walked_is js rises) h

pub few_walked : (js : Journal) → OpensRise js → length (walked js) ≤ 100000 → length (captures js) ≤ 100000
few_walked js rises h = subst (λ ps. length ps ≤ 100000) (walked_is js rises) h

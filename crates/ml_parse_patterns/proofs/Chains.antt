-- Alternatives and names that are joined one by one.
use Rattle.std.proofs.Common.{◌≡◌, ◌≢◌, ℕ, ◌+◌, ◌≤◌, ◌<◌, max, List, [], ◌∷◌, drop, length, sym, ap, ◌∙◌, subst, arith}
use Rattle.ml_lexer.specs.declared.token.Token.{Token}
use Rattle.ml_tree.specs.declared.pattern.Pat.{Pat}
use Rattle.ml_tree.specs.declared.pattern.PatKind.TheVariants as Kind
use Rattle.ml_cursor.specs.declared.front.Front.TheVariants as Front
use Rattle.ml_cursor.specs.Fronts.{front}
use Rattle.ml_cursor.specs.Places.{first_span}
use Rattle.ml_parse_patterns.specs.declared.looks.Level.TheVariants.{Tuple}
use Rattle.ml_parse_patterns.specs.declared.found.Found.{Found}
use Rattle.ml_parse_patterns.specs.Looks.{node}
use Rattle.ml_parse_patterns.specs.Patterns.{ReadsNames, no_name, one_name, Reads, ReadsOthers, no_other, one_other}
use Rattle.ml_parse_patterns.specs.Readings.{IsNode, IsFound, NoTree, HasName, HasNames, NoNames, HasOther, HasOthers, NoOthers}
use Rattle.ml_parse_patterns.proofs.Depths.{others_deeper, names_deeper}
use Rattle.ml_parse_types.proofs.Shorter.{length-drop}
use Rattle.ml_parse_patterns.proofs.Shorter.{shorter}
use Rattle.ml_parse_patterns.proofs.Unique.{same, moved}

-- one name more
names_full : {start us r : List Token} {n : ℕ} {p q : Pat} {d e : ℕ} → front us ≡ Front.As → n ≤ d → ReadsNames start p d us q e r → n < e
names_full f le (no_name m) = absurd (m f)
names_full f le (one_name g l a) = let h = names_deeper a in omega arith

pub no_room_for_name : (n : ℕ) (start here : List Token) (f : Found) → front here ≡ Front.As → n ≤ f.depth → NoNames n start here f
no_room_for_name n start here f e le = record { deep = λ p d r a. names_full e le a }

names_open : {start us r : List Token} {p q : Pat} {d e : ℕ} → front us ≡ Front.As → front (drop 1 us) ≢ Front.Lower → ReadsNames start p d us q e r → ⊥
names_open f m (no_name n) = n f
names_open f m (one_name g l a) = m l

pub no_name_behind : (n : ℕ) (start here hs : List Token) (f : Found) → front here ≡ Front.As → hs ≡ drop 1 here → front hs ≢ Front.Lower → NoNames n start here f
no_name_behind n start here hs f e h m =
    let m' : front (drop 1 here) ≢ Front.Lower = (λ g. m (ap front h ∙ g)) in
    record { deep = λ p d r a. absurd (names_open e m' a) }

-- the names so far, and those behind them
pub record NamesSoFar (n : ℕ) (start here : List Token) (first : Found) (now : List Token) (f : Found) : Type 0 where
  pub forth : (q : Pat) (e : ℕ) (r : List Token) → ReadsNames start f.pat f.depth now q e r → ReadsNames start first.pat first.depth here q e r
  pub back : (q : Pat) (e : ℕ) (r : List Token) → ReadsNames start first.pat first.depth here q e r → ReadsNames start f.pat f.depth now q e r
  pub small : f.depth ≤ n

pub names_begin : (n : ℕ) (start here : List Token) (first : Found) → first.depth ≤ n → NamesSoFar n start here first here first
names_begin n start here first le = record { forth = λ q e r a. a; back = λ q e r a. a; small = le }

names_at : (now : List Token) (f g : Found) {start r us : List Token} {q : Pat} {e : ℕ} → g.pat ≡ node start r (Kind.Named f.pat (first_span (drop 1 now))) → g.depth ≡ f.depth + 1 → r ≡ drop 2 now → ReadsNames start g.pat g.depth r q e us → ReadsNames start (node start (drop 2 now) (Kind.Named f.pat (first_span (drop 1 now)))) (f.depth + 1) (drop 2 now) q e us
names_at now f g {start = start} {r = r} {us = us} {q = q} {e = e} t d h a =
    let one = subst (λ (p : Pat). ReadsNames start p g.depth r q e us) t a in
    let two = subst (λ (m : ℕ). ReadsNames start (node start r (Kind.Named f.pat (first_span (drop 1 now)))) m r q e us) d one in
    subst (λ (x : List Token). ReadsNames start (node start x (Kind.Named f.pat (first_span (drop 1 now)))) (f.depth + 1) x q e us) h two

names_to : (now : List Token) (f g : Found) {start r us : List Token} {q : Pat} {e : ℕ} → g.pat ≡ node start r (Kind.Named f.pat (first_span (drop 1 now))) → g.depth ≡ f.depth + 1 → r ≡ drop 2 now → ReadsNames start (node start (drop 2 now) (Kind.Named f.pat (first_span (drop 1 now)))) (f.depth + 1) (drop 2 now) q e us → ReadsNames start g.pat g.depth r q e us
names_to now f g {start = start} {r = r} {us = us} {q = q} {e = e} t d h a =
    let two = subst (λ (x : List Token). ReadsNames start (node start x (Kind.Named f.pat (first_span (drop 1 now)))) (f.depth + 1) x q e us) (sym h) a in
    let one = subst (λ (m : ℕ). ReadsNames start (node start r (Kind.Named f.pat (first_span (drop 1 now)))) m r q e us) (sym d) two in
    subst (λ (p : Pat). ReadsNames start p g.depth r q e us) (sym t) one

named_on : {start us r : List Token} {p q : Pat} {d e : ℕ} → front us ≡ Front.As → ReadsNames start p d us q e r → ReadsNames start (node start (drop 2 us) (Kind.Named p (first_span (drop 1 us)))) (d + 1) (drop 2 us) q e r
named_on f (no_name n) = absurd (n f)
named_on f (one_name g l a) = a

pub names_go_on : (n : ℕ) (start here now r : List Token) (first f g : Found) → NamesSoFar n start here first now f → front now ≡ Front.As → HasName n start now r f g → NamesSoFar n start here first r g
names_go_on n start here now r first f g s e h = record {
  forth = λ q d us a. s.forth q d us (one_name e h.lower (names_at now f g h.tree h.depth_is h.rest_is a));
  back = λ q d us a. names_to now f g h.tree h.depth_is h.rest_is (named_on e (s.back q d us a));
  small = h.small;
}

pub names_end : (n : ℕ) (start here now : List Token) (first f : Found) → NamesSoFar n start here first now f → front now ≢ Front.As → HasNames n start here now first f
names_end n start here now first f s m = record { reads = s.forth _ _ _ (no_name m); small = s.small }

pub names_refused : (n : ℕ) (start here now : List Token) (first f : Found) → NamesSoFar n start here first now f → NoNames n start now f → NoNames n start here first
names_refused n start here now first f s h = record { deep = λ p d r a. h.deep p d r (s.back p d r a) }

-- one alternative more
others_full : {text : List ℕ} {start us r : List Token} {n : ℕ} {p q : Pat} {d e : ℕ} → front us ≡ Front.Bar → n ≤ d → ReadsOthers text start p d us q e r → n < e
others_full f le (no_other m) = absurd (m f)
others_full f le (one_other g a c) = let h = others_deeper c in omega arith

pub no_room_for_other : (text : List ℕ) (n : ℕ) (start here : List Token) (f : Found) → front here ≡ Front.Bar → n ≤ f.depth → NoOthers text n start here f
no_room_for_other text n start here f e le = record { deep = λ p d r a. others_full e le a }

others_deep : {text : List ℕ} {start us hs r : List Token} {n : ℕ} {p q : Pat} {d e : ℕ} → front us ≡ Front.Bar → hs ≡ drop 1 us → NoTree text Tuple n hs → ReadsOthers text start p d us q e r → n + 1 < e
others_deep f h t (no_other m) = absurd (m f)
others_deep {text = text} f h t (one_other {q = q} {e = e} {vs = vs} g a c) =
    let s = t.deep q e vs (subst (λ (x : List Token). Reads text Tuple x q e vs) (sym h) a) in
    let o = others_deeper c in omega arith

pub no_other_behind : (text : List ℕ) (n : ℕ) (start here hs : List Token) (f : Found) → front here ≡ Front.Bar → hs ≡ drop 1 here → NoTree text Tuple n hs → NoOthers text (n + 1) start here f
no_other_behind text n start here hs f e h t = record { deep = λ p d r a. others_deep e h t a }

pub other_found : (text : List ℕ) (n : ℕ) (start here hs r : List Token) (first last f : Found) → hs ≡ drop 1 here → first.depth ≤ n → IsFound text Tuple n hs r last → IsNode start r (Kind.Or first.pat last.pat) (max first.depth last.depth + 1) f → HasOther text (n + 1) start here r first f
other_found text n start here hs r first last f h le b m = record {
  other = last.pat;
  deepest = last.depth;
  reads = subst (λ (x : List Token). Reads text Tuple x last.pat last.depth r) h b.reads;
  tree = m.tree;
  depth_is = m.depth_is;
  small = (let s = b.small in let o = m.depth_is in omega arith);
}

-- the alternatives so far, and those behind them
pub record OthersSoFar (text : List ℕ) (n : ℕ) (start here : List Token) (first : Found) (now : List Token) (f : Found) : Type 0 where
  pub forth : (q : Pat) (e : ℕ) (r : List Token) → ReadsOthers text start f.pat f.depth now q e r → ReadsOthers text start first.pat first.depth here q e r
  pub back : (q : Pat) (e : ℕ) (r : List Token) → ReadsOthers text start first.pat first.depth here q e r → ReadsOthers text start f.pat f.depth now q e r
  pub small : f.depth ≤ n

pub others_begin : (text : List ℕ) (n : ℕ) (start here : List Token) (first : Found) → first.depth ≤ n → OthersSoFar text n start here first here first
others_begin text n start here first le = record { forth = λ q e r a. a; back = λ q e r a. a; small = le }

others_at : (f g : Found) (o : Pat) (m : ℕ) {text : List ℕ} {start r us : List Token} {q : Pat} {e : ℕ} → g.pat ≡ node start r (Kind.Or f.pat o) → g.depth ≡ max f.depth m + 1 → ReadsOthers text start g.pat g.depth r q e us → ReadsOthers text start (node start r (Kind.Or f.pat o)) (max f.depth m + 1) r q e us
others_at f g o m {text = text} {start = start} {r = r} {us = us} {q = q} {e = e} t d a =
    subst (λ (k : ℕ). ReadsOthers text start (node start r (Kind.Or f.pat o)) k r q e us) d (subst (λ (p : Pat). ReadsOthers text start p g.depth r q e us) t a)

others_to : (f g : Found) (o : Pat) (m : ℕ) {text : List ℕ} {start r us : List Token} {q : Pat} {e : ℕ} → g.pat ≡ node start r (Kind.Or f.pat o) → g.depth ≡ max f.depth m + 1 → ReadsOthers text start (node start r (Kind.Or f.pat o)) (max f.depth m + 1) r q e us → ReadsOthers text start g.pat g.depth r q e us
others_to f g o m {text = text} {start = start} {r = r} {us = us} {q = q} {e = e} t d a =
    subst (λ (p : Pat). ReadsOthers text start p g.depth r q e us) (sym t) (subst (λ (k : ℕ). ReadsOthers text start (node start r (Kind.Or f.pat o)) k r q e us) (sym d) a)

other_on : {text : List ℕ} {start us vs r : List Token} {p o q : Pat} {d m e : ℕ} → front us ≡ Front.Bar → Reads text Tuple (drop 1 us) o m vs → ReadsOthers text start p d us q e r → ReadsOthers text start (node start vs (Kind.Or p o)) (max d m + 1) vs q e r
other_on f b (no_other n) = absurd (n f)
other_on {text = text} {start = start} {p = p} {d = d} f b (one_other {o = q} {f = e} {r = r} g a c) =
    moved (λ (o : Pat) (m : ℕ) (x : List Token). ReadsOthers text start (node start x (Kind.Or p o)) (max d m + 1) x q e r) (same b a) c

pub others_go_on : (text : List ℕ) (n : ℕ) (start here now r : List Token) (first f g : Found) → OthersSoFar text n start here first now f → front now ≡ Front.Bar → HasOther text n start now r f g → OthersSoFar text n start here first r g
others_go_on text n start here now r first f g s e h = record {
  forth = λ q d us a. s.forth q d us (one_other e h.reads (others_at f g h.other h.deepest h.tree h.depth_is a));
  back = λ q d us a. others_to f g h.other h.deepest h.tree h.depth_is (other_on e h.reads (s.back q d us a));
  small = h.small;
}

pub others_end : (text : List ℕ) (n : ℕ) (start here now : List Token) (first f : Found) → OthersSoFar text n start here first now f → front now ≢ Front.Bar → HasOthers text n start here now first f
others_end text n start here now first f s m = record { reads = s.forth _ _ _ (no_other m); small = s.small }

pub others_refused : (text : List ℕ) (n : ℕ) (start here now : List Token) (first f : Found) → OthersSoFar text n start here first now f → NoOthers text n start now f → NoOthers text n start here first
others_refused text n start here now first f s h = record { deep = λ p d r a. h.deep p d r (s.back p d r a) }

-- a name takes two tokens
as_some : (ts us : List Token) → front ts ≡ Front.As → us ≡ drop 2 ts → length us < length ts
as_some [] us h e = absurd (cc)
as_some (t ∷ ts) us h e = omega (arith, ap length e, length-drop 1 ts)

pub name_shorter : (n : ℕ) (start here rest : List Token) (first f : Found) → front here ≡ Front.As → HasName n start here rest first f → length rest < length here
name_shorter n start here rest first f e h = as_some here rest e h.rest_is

bar_some : (ts : List Token) → front ts ≡ Front.Bar → length (drop 1 ts) < length ts
bar_some [] h = absurd (cc)
bar_some (t ∷ ts) h = omega arith

pub other_shorter : (text : List ℕ) (n : ℕ) (start here rest : List Token) (first f : Found) → front here ≡ Front.Bar → HasOther text n start here rest first f → length rest < length here
other_shorter text n start here rest first f e h = omega (arith, bar_some here e, shorter h.reads)

-- Where no tree is shallow enough, or none at all.
use Rattle.std.proofs.Common.{◌≡◌, ◌≢◌, ℕ, ◌+◌, ◌≤◌, ◌<◌, Bool, true, false, List, drop, sym, ap, ◌∙◌, subst, arith}
use Rattle.ml_lexer.specs.declared.token.Token.{Token}
use Rattle.ml_tree.specs.declared.pattern.Pat.{Pat}
use Rattle.ml_cursor.specs.declared.front.Front.{Front}
use Rattle.ml_cursor.specs.Fronts.{front}
use Rattle.ml_parse_patterns.specs.declared.looks.Lead.{Lead}
use Rattle.ml_parse_patterns.specs.declared.looks.Lead.TheVariants.{Nothing, Paren, Bracket, Brace}
use Rattle.ml_parse_patterns.specs.declared.looks.Level.{Level}
use Rattle.ml_parse_patterns.specs.declared.looks.Level.TheVariants.{Simple, Operand, Cons, Tuple, Or, Pattern}
use Rattle.ml_parse_patterns.specs.declared.looks.Listing.TheVariants.{Components, Elements}
use Rattle.ml_parse_patterns.specs.declared.found.Found.{Found}
use Rattle.ml_parse_types.specs.declared.looks.Row.TheVariants.{Factors}
use Rattle.ml_parse_types.specs.Types.{got, ReadsType}
use Rattle.ml_parse_patterns.specs.Looks.{lead, applies}
use Rattle.ml_parse_patterns.specs.Patterns.{ReadsNames, ReadsSimple, paren, typed, bracket, brace, Reads, simple, bare, applied, no_cons, cons, no_tuple, tuple, either, whole, ReadsOthers, ReadsList}
use Rattle.ml_parse_patterns.specs.Readings.{IsFound, NoTree, IsNone, NoAnnotation, NoList, NoFields, NoOthers, NoNames}
use Rattle.ml_parse_patterns.proofs.Depths.{positive, others_deeper, names_deeper}
use Rattle.ml_parse_patterns.proofs.Unique.{same, moved}

-- a simple pattern is read by what it begins with
pub by_lead : {text : List ℕ} {l : Lead} {ts r : List Token} {p : Pat} {d : ℕ} → lead ts ≡ l → Reads text Simple ts p d r → ReadsSimple text l ts p d r
by_lead {text = text} {ts = ts} {r = r} {p = p} {d = d} e (simple a) = subst (λ (m : Lead). ReadsSimple text m ts p d r) e a

pub no_depth : (text : List ℕ) (level : Level) (ts : List Token) → NoTree text level 0 ts
no_depth text level ts = record { deep = λ p d r h. positive h }

none_by_nothing : {text : List ℕ} {ts r : List Token} {p : Pat} {d : ℕ} (P : Type 0) → ReadsSimple text Nothing ts p d r → P
none_by_nothing P h = elim h [ ]

pub nothing_begins : (text : List ℕ) (n : ℕ) (ts : List Token) → lead ts ≡ Nothing → NoTree text Simple n ts
nothing_begins text n ts e = record { deep = λ p d r h. none_by_nothing (n < d) (by_lead e h) }

pub none_at_all : (text : List ℕ) (n : ℕ) (ts : List Token) → IsNone text ts → NoTree text Simple n ts
none_at_all text n ts h = record { deep = λ p d r a. absurd (h.none p d r a) }

-- in parentheses
paren_deep : {text : List ℕ} {n : ℕ} {ts r : List Token} {p : Pat} {d : ℕ} → NoTree text Pattern n (drop 1 ts) → ReadsSimple text Paren ts p d r → n + 1 < d
paren_deep h (paren a f) = let g = h.deep _ _ _ a in omega arith
paren_deep h (typed a f t c) = let g = h.deep _ _ _ a in omega arith

pub parens_deep : (text : List ℕ) (n : ℕ) (ts : List Token) → lead ts ≡ Paren → NoTree text Pattern n (drop 1 ts) → NoTree text Simple (n + 1) ts
parens_deep text n ts e h = record { deep = λ p d r a. paren_deep h (by_lead e a) }

paren_other : {text : List ℕ} {ts us r : List Token} {p q : Pat} {d e : ℕ} → Reads text Pattern (drop 1 ts) q e us → front us ≢ Front.CloseParen → front us ≢ Front.Colon → ReadsSimple text Paren ts p d r → ⊥
paren_other b n m (paren a f) = n (sym (ap front (same b a).rest) ∙ f)
paren_other b n m (typed a f t c) = m (sym (ap front (same b a).rest) ∙ f)

pub parens_open : (text : List ℕ) (n k : ℕ) (ts us : List Token) (f : Found) → lead ts ≡ Paren → IsFound text Pattern k (drop 1 ts) us f → front us ≢ Front.CloseParen → front us ≢ Front.Colon → NoTree text Simple n ts
parens_open text n k ts us f e b m o = record { deep = λ p d r a. absurd (paren_other b.reads m o (by_lead e a)) }

paren_untyped : {text : List ℕ} {ts us r : List Token} {p q : Pat} {d e : ℕ} → Reads text Pattern (drop 1 ts) q e us → front us ≡ Front.Colon → NoAnnotation us → ReadsSimple text Paren ts p d r → ⊥
paren_untyped b m n (paren a f) = (let h : Front.Colon ≡ Front.CloseParen = sym m ∙ sym (ap front (same b a).rest) ∙ f in cc)
paren_untyped b m n (typed {t = t} {vs = vs} a f c g) =
    n.none t vs (subst (λ (r : List Token). ReadsType Factors (drop 1 r) (got t vs)) (same b a).rest c) g

pub parens_untyped : (text : List ℕ) (n k : ℕ) (ts us : List Token) (f : Found) → lead ts ≡ Paren → IsFound text Pattern k (drop 1 ts) us f → front us ≡ Front.Colon → NoAnnotation us → NoTree text Simple n ts
parens_untyped text n k ts us f e b m o = record { deep = λ p d r a. absurd (paren_untyped b.reads m o (by_lead e a)) }

-- in brackets and braces
bracket_deep : {text : List ℕ} {n : ℕ} {ts r : List Token} {p : Pat} {d : ℕ} → NoList text Elements n (drop 1 ts) → ReadsSimple text Bracket ts p d r → n + 1 < d
bracket_deep h (bracket a) = let g = h.deep _ _ _ a in omega arith

pub elements_deep : (text : List ℕ) (n : ℕ) (ts : List Token) → lead ts ≡ Bracket → NoList text Elements n (drop 1 ts) → NoTree text Simple (n + 1) ts
elements_deep text n ts e h = record { deep = λ p d r a. bracket_deep h (by_lead e a) }

brace_deep : {text : List ℕ} {n : ℕ} {ts r : List Token} {p : Pat} {d : ℕ} → NoFields text n (drop 1 ts) → ReadsSimple text Brace ts p d r → n + 1 < d
brace_deep h (brace a) = let g = h.deep _ _ _ _ a in omega arith

pub record_deep : (text : List ℕ) (n : ℕ) (ts : List Token) → lead ts ≡ Brace → NoFields text n (drop 1 ts) → NoTree text Simple (n + 1) ts
record_deep text n ts e h = record { deep = λ p d r a. brace_deep h (by_lead e a) }

-- operands
true_false : {P : Type 0} (b : Bool) → b ≡ true → b ≡ false → P
true_false b e f = absurd (cc)

bare_deep : {text : List ℕ} {n : ℕ} {ts r : List Token} {p : Pat} {d : ℕ} → applies ts ≡ false → NoTree text Simple n ts → Reads text Operand ts p d r → n < d
bare_deep e h (bare f a) = h.deep _ _ _ a
bare_deep e h (applied f a) = true_false _ f e

pub operand_bare : (text : List ℕ) (n : ℕ) (ts : List Token) → applies ts ≡ false → NoTree text Simple n ts → NoTree text Operand n ts
operand_bare text n ts e h = record { deep = λ p d r a. bare_deep e h a }

applied_deep : {text : List ℕ} {n : ℕ} {ts r : List Token} {p : Pat} {d : ℕ} → applies ts ≡ true → NoTree text Simple n (drop 1 ts) → Reads text Operand ts p d r → n + 1 < d
applied_deep e h (bare f a) = true_false _ e f
applied_deep e h (applied f a) = let g = h.deep _ _ _ a in omega arith

pub operand_applied : (text : List ℕ) (n : ℕ) (ts : List Token) → applies ts ≡ true → NoTree text Simple n (drop 1 ts) → NoTree text Operand (n + 1) ts
operand_applied text n ts e h = record { deep = λ p d r a. applied_deep e h a }

-- `::`
cons_first : {text : List ℕ} {n : ℕ} {ts r : List Token} {p : Pat} {d : ℕ} → NoTree text Operand n ts → Reads text Cons ts p d r → n < d
cons_first h (no_cons a m) = h.deep _ _ _ a
cons_first h (cons a m c) = let g = h.deep _ _ _ a in omega arith

pub cons_deep : (text : List ℕ) (n : ℕ) (ts : List Token) → NoTree text Operand n ts → NoTree text Cons n ts
cons_deep text n ts h = record { deep = λ p d r a. cons_first h a }

cons_filled : {text : List ℕ} {n : ℕ} {ts us r : List Token} {p q : Pat} {d e : ℕ} → Reads text Operand ts q e us → front us ≡ Front.ColonColon → n ≤ e → Reads text Cons ts p d r → n < d
cons_filled b f le (no_cons a m) = absurd (m (ap front (same b a).rest ∙ f))
cons_filled b f le (cons a m c) = let s = (same b a).depth in omega arith

pub cons_full : (text : List ℕ) (n k : ℕ) (ts us : List Token) (f : Found) → IsFound text Operand k ts us f → front us ≡ Front.ColonColon → n ≤ f.depth → NoTree text Cons n ts
cons_full text n k ts us f b e le = record { deep = λ p d r a. cons_filled b.reads e le a }

cons_behind : {text : List ℕ} {n : ℕ} {ts us r : List Token} {p q : Pat} {d e : ℕ} → Reads text Operand ts q e us → front us ≡ Front.ColonColon → NoTree text Cons n (drop 1 us) → Reads text Cons ts p d r → n + 1 < d
cons_behind b f h (no_cons a m) = absurd (m (ap front (same b a).rest ∙ f))
cons_behind {text = text} b f h (cons {q = q} {e = e} {r = r} a m c) =
    let g = h.deep q e r (subst (λ (x : List Token). Reads text Cons (drop 1 x) q e r) (same b a).rest c) in omega arith

pub cons_rest : (text : List ℕ) (n k : ℕ) (ts us : List Token) (f : Found) → IsFound text Operand k ts us f → front us ≡ Front.ColonColon → NoTree text Cons n (drop 1 us) → NoTree text Cons (n + 1) ts
cons_rest text n k ts us f b e h = record { deep = λ p d r a. cons_behind b.reads e h a }

-- `,`
tuple_first : {text : List ℕ} {n : ℕ} {ts r : List Token} {p : Pat} {d : ℕ} → NoTree text Cons n ts → Reads text Tuple ts p d r → n < d
tuple_first h (no_tuple a m) = h.deep _ _ _ a
tuple_first h (tuple a m c) = let g = h.deep _ _ _ a in omega arith

pub tuple_deep : (text : List ℕ) (n : ℕ) (ts : List Token) → NoTree text Cons n ts → NoTree text Tuple n ts
tuple_deep text n ts h = record { deep = λ p d r a. tuple_first h a }

tuple_filled : {text : List ℕ} {n : ℕ} {ts us r : List Token} {p q : Pat} {d e : ℕ} → Reads text Cons ts q e us → front us ≡ Front.Comma → n ≤ e → Reads text Tuple ts p d r → n < d
tuple_filled b f le (no_tuple a m) = absurd (m (ap front (same b a).rest ∙ f))
tuple_filled b f le (tuple a m c) = let s = (same b a).depth in omega arith

pub tuple_full : (text : List ℕ) (n k : ℕ) (ts us : List Token) (f : Found) → IsFound text Cons k ts us f → front us ≡ Front.Comma → n ≤ f.depth → NoTree text Tuple n ts
tuple_full text n k ts us f b e le = record { deep = λ p d r a. tuple_filled b.reads e le a }

tuple_behind : {text : List ℕ} {n : ℕ} {ts us r : List Token} {p q : Pat} {d e : ℕ} → Reads text Cons ts q e us → front us ≡ Front.Comma → NoList text Components n (drop 1 us) → Reads text Tuple ts p d r → n + 1 < d
tuple_behind b f h (no_tuple a m) = absurd (m (ap front (same b a).rest ∙ f))
tuple_behind {text = text} b f h (tuple {qs = qs} {e = e} {r = r} a m c) =
    let g = h.deep qs e r (subst (λ (x : List Token). ReadsList text Components (drop 1 x) qs e r) (same b a).rest c) in omega arith

pub tuple_rest : (text : List ℕ) (n k : ℕ) (ts us : List Token) (f : Found) → IsFound text Cons k ts us f → front us ≡ Front.Comma → NoList text Components n (drop 1 us) → NoTree text Tuple (n + 1) ts
tuple_rest text n k ts us f b e h = record { deep = λ p d r a. tuple_behind b.reads e h a }

-- `|` and `as`
or_first : {text : List ℕ} {n : ℕ} {ts r : List Token} {p : Pat} {d : ℕ} → NoTree text Tuple n ts → Reads text Or ts p d r → n < d
or_first h (either a c) = let g = h.deep _ _ _ a in let o = others_deeper c in omega arith

or_deep : (text : List ℕ) (n : ℕ) (ts : List Token) → NoTree text Tuple n ts → NoTree text Or n ts
or_deep text n ts h = record { deep = λ p d r a. or_first h a }

or_behind : {text : List ℕ} {n k : ℕ} {ts us r : List Token} {f : Found} {p : Pat} {d : ℕ} → IsFound text Tuple k ts us f → NoOthers text n ts us f → Reads text Or ts p d r → n < d
or_behind {text = text} {ts = ts} b h (either {q = q} {e = e} {r = r} a c) =
    h.deep q e r (moved (λ (p : Pat) (m : ℕ) (x : List Token). ReadsOthers text ts p m x q e r) (same b.reads a) c)

pattern_first : {text : List ℕ} {n : ℕ} {ts r : List Token} {p : Pat} {d : ℕ} → NoTree text Or n ts → Reads text Pattern ts p d r → n < d
pattern_first h (whole a c) = let g = h.deep _ _ _ a in let o = names_deeper c in omega arith

pub pattern_tuple : (text : List ℕ) (n : ℕ) (ts : List Token) → NoTree text Tuple n ts → NoTree text Pattern n ts
pattern_tuple text n ts h = record { deep = λ p d r a. pattern_first (or_deep text n ts h) a }

pub pattern_cons : (text : List ℕ) (n : ℕ) (ts : List Token) → NoTree text Cons n ts → NoTree text Pattern n ts
pattern_cons text n ts h = pattern_tuple text n ts (tuple_deep text n ts h)

pub pattern_others : (text : List ℕ) (n k : ℕ) (ts us : List Token) (f : Found) → IsFound text Tuple k ts us f → NoOthers text n ts us f → NoTree text Pattern n ts
pattern_others text n k ts us f b h =
    let none : NoTree text Or n ts = record { deep = λ p d r a. or_behind b h a } in
    record { deep = λ p d r a. pattern_first none a }

pattern_behind : {text : List ℕ} {n : ℕ} {ts us r : List Token} {f : Found} {p : Pat} {d : ℕ} → Reads text Or ts f.pat f.depth us → NoNames n ts us f → Reads text Pattern ts p d r → n < d
pattern_behind {ts = ts} b h (whole {q = q} {e = e} {r = r} a c) =
    h.deep q e r (moved (λ (p : Pat) (m : ℕ) (x : List Token). ReadsNames ts p m x q e r) (same b a) c)

pub pattern_names : (text : List ℕ) (n : ℕ) (ts us : List Token) (f : Found) → Reads text Or ts f.pat f.depth us → NoNames n ts us f → NoTree text Pattern n ts
pattern_names text n ts us f b h = record { deep = λ p d r a. pattern_behind b h a }

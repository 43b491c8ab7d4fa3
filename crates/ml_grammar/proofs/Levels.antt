-- Operators, fields and indices: where one of them is refused, and that it is found.
use Rattle.std.proofs.Common.{◌≡◌, ◌≢◌, ℕ, zero, suc, ◌+◌, ◌-◌, ◌<◌, ◌≤◌, max, false, List, drop, Some, None, refl, subst, ap, sym, ◌∙◌, arith}
use Rattle.oxml_base.specs.declared.span.Span.{Span}
use Rattle.ml_lexer.specs.declared.token.Token.{Token}
use Rattle.ml_cursor.specs.declared.front.Front.TheVariants as F
use Rattle.ml_cursor.specs.Fronts.{front}
use Rattle.ml_cursor.specs.Places.{Takes}
use Rattle.ml_tree.specs.declared.expr.Expr.{Expr}
use Rattle.ml_tree.specs.declared.expr.ExprKind.TheVariants as E
use Rattle.ml_grammar.specs.declared.looks.Suffix.{Suffix}
use Rattle.ml_grammar.specs.declared.looks.Suffix.TheVariants as S
use Rattle.ml_grammar.specs.declared.looks.Joint.{Joint}
use Rattle.ml_grammar.specs.Looks.{suffix, groups_left, operator_at}
use Rattle.ml_grammar.specs.Trees.{node, start_of, joined}
use Rattle.ml_grammar.specs.Grammar.{atom, simple, seq, operators, Reads, SuffixBy, LevelBy, a_simple, a_level, no_suffix, a_field, an_index, no_operator, to_right}
use Rattle.ml_grammar.specs.Readings.{IsRead, AreDeep, Infix, infix_of, Levels, OneSuffix, one_field, one_index}
use Rattle.ml_grammar.proofs.Deep.{Inside, inside, Along, along, deep_inside, deep_along, never, read_as, deep_at}
use Rattle.ml_grammar.proofs.Growth.{suffix_grows, level_grows}
use Rattle.ml_grammar.proofs.Unique.{same, same_takes, moved}

-- an operator and its second operand

pub infix_no_room : {text : List ℕ} {n : ℕ} {o : Joint} {a : Expr} {da left : ℕ} {ts : List Token} → left ≤ da → AreDeep (Infix text n o a da ts) left
infix_no_room {text} {n} {o} {a} {da} {left} {ts} h = record { deep = λ e d r x. inner x }
  where
    inner : {e : Expr} {d : ℕ} {r : List Token} → Infix text n o a da ts e d r → left < d
    inner (infix_of x) = omega arith

pub infix_deep : {text : List ℕ} {n : ℕ} {o : Joint} {a : Expr} {da left below : ℕ} {ts us : List Token} → us ≡ drop 1 ts → left ≤ below + 1 → AreDeep (Reads text (operators n) us) below → AreDeep (Infix text n o a da ts) left
infix_deep {text} {n} {o} {a} {da} {ts = ts} e b h = deep_inside b (λ y d r q. inner q) (deep_at (Reads text (operators n)) e h)
  where
    inner : {e : Expr} {d : ℕ} {r : List Token} → Infix text n o a da ts e d r → Inside (Reads text (operators n) (drop 1 ts)) d
    inner (infix_of x) = inside _ _ _ x (omega arith)

pub infix_read : {text : List ℕ} {n : ℕ} {o : Joint} {a b e : Expr} {da db d left below : ℕ} {ts us r : List Token} → us ≡ drop 1 ts → below < left → da < left → IsRead (Reads text (operators n) us) below b db r → e ≡ joined o a b → d ≡ max da db + 1 → IsRead (Infix text n o a da ts) left e d r
infix_read {text} {n} {b = b} {db = db} {r = r} f w p i h k =
    let m = i.small in
    read_as r (infix_of (subst (λ us. Reads text (operators n) us b db r) f i.reads)) h k (omega arith)

-- the operators of one level; the level is that above the operands'

pub level_none : {text : List ℕ} {n k : ℕ} {a : Expr} {da left : ℕ} {ts : List Token} → n ≡ suc k → operator_at n ts ≡ None → da ≤ left → IsRead (Levels text k a da ts) left a da ts
level_none {text} {n} {k} {a} {da} {left} {ts} e f h =
    record { reads = subst (λ o. LevelBy text k (groups_left (suc k)) o ts a da a da ts) (sym (ap (λ n. operator_at n ts) (sym e) ∙ f)) no_operator; small = h }

right : {text : List ℕ} {n k : ℕ} {o : Joint} {a e : Expr} {da d : ℕ} {ts r : List Token} → n ≡ suc k → groups_left n ≡ false → operator_at n ts ≡ Some o → LevelBy text k false (Some o) ts a da e d r → Levels text k a da ts e d r
right {text} {n} {k} {o} {a} {e} {da} {d} {ts} {r} q g f x =
    subst (λ b. LevelBy text k b (operator_at (suc k) ts) ts a da e d r) (sym (ap groups_left (sym q) ∙ g))
    (subst (λ o. LevelBy text k false o ts a da e d r) (sym (ap (λ n. operator_at n ts) (sym q) ∙ f)) x)

right_of : {text : List ℕ} {n k : ℕ} {o : Joint} {a e : Expr} {da d : ℕ} {ts r : List Token} → n ≡ suc k → groups_left n ≡ false → operator_at n ts ≡ Some o → Levels text k a da ts e d r → LevelBy text k false (Some o) ts a da e d r
right_of {text} {n} {k} {o} {a} {e} {da} {d} {ts} {r} q g f x =
    subst (λ o. LevelBy text k false o ts a da e d r) (ap (λ n. operator_at n ts) (sym q) ∙ f)
    (subst (λ b. LevelBy text k b (operator_at (suc k) ts) ts a da e d r) (ap groups_left (sym q) ∙ g) x)

pub level_right_read : {text : List ℕ} {n k : ℕ} {o : Joint} {a e : Expr} {da d left : ℕ} {ts r : List Token} → n ≡ suc k → groups_left n ≡ false → operator_at n ts ≡ Some o → IsRead (Infix text n o a da ts) left e d r → IsRead (Levels text k a da ts) left e d r
level_right_read {text} {n} {k} {o} {a} {e} {da} {d} {left} {ts} {r} q g f i =
    record { reads = right q g f (inner (subst (λ n. Infix text n o a da ts e d r) q i.reads)); small = i.small }
  where
    inner : {e : Expr} {d : ℕ} {r : List Token} → Infix text (suc k) o a da ts e d r → LevelBy text k false (Some o) ts a da e d r
    inner (infix_of x) = to_right x

pub level_right_deep : {text : List ℕ} {n k : ℕ} {o : Joint} {a : Expr} {da left : ℕ} {ts : List Token} → n ≡ suc k → groups_left n ≡ false → operator_at n ts ≡ Some o → AreDeep (Infix text n o a da ts) left → AreDeep (Levels text k a da ts) left
level_right_deep {text} {n} {k} {o} {a} {da} {left} {ts} q g f h = deep_along (λ y d r x. inner (right_of q g f x)) (subst (λ n. AreDeep (Infix text n o a da ts) left) q h)
  where
    inner : {e : Expr} {d : ℕ} {r : List Token} → LevelBy text k false (Some o) ts a da e d r → Along (Infix text (suc k) o a da ts) d
    inner (to_right x) = along _ _ _ (infix_of x) (omega arith)

-- the levels one by one

pub operators_step : {text : List ℕ} {n k : ℕ} {ts us r : List Token} {a e : Expr} {da d left : ℕ} → n ≡ suc k → Reads text (operators k) ts a da us → IsRead (Levels text k a da us) left e d r → IsRead (Reads text (operators n) ts) left e d r
operators_step {text} {n} {k} {ts} {r = r} {e = e} {d = d} {left = left} q x i =
    subst (λ n. IsRead (Reads text (operators n) ts) left e d r) (sym q) (record { reads = a_level x i.reads; small = i.small })

one_lower : {text : List ℕ} {k : ℕ} {ts r : List Token} {e : Expr} {d : ℕ} → Reads text (operators (suc k)) ts e d r → Along (Reads text (operators k) ts) d
one_lower (a_level x y) = along _ _ _ x (level_grows y)

-- what a higher level reads begins with what a lower one does
lower : {text : List ℕ} {ts : List Token} (k more : ℕ) (e : Expr) (d : ℕ) (r : List Token) → Reads text (operators (more + k)) ts e d r → Along (Reads text (operators k) ts) d
lower {text} {ts} k zero e d r x =
    along e d r (subst (λ n. Reads text (operators n) ts e d r) (let q : 0 + k ≡ k = omega arith in q) x) (omega arith)
lower {text} {ts} k (suc more) e d r x =
    let b = one_lower (subst (λ n. Reads text (operators n) ts e d r) (let q : suc more + k ≡ suc (more + k) = omega arith in q) x) in
    let i = lower k more b.tree b.depth b.rest b.reads in
    let m = i.most in
    let l = b.most in
    along i.tree i.depth i.rest i.reads (omega arith)

pub operators_deep : {text : List ℕ} {n k : ℕ} {ts : List Token} {left : ℕ} → k ≤ n → AreDeep (Reads text (operators k) ts) left → AreDeep (Reads text (operators n) ts) left
operators_deep {text} {n} {k} {ts} q h = deep_along (λ e d r x. lower k (n - k) e d r (subst (λ n. Reads text (operators n) ts e d r) (let p : n ≡ n - k + k = omega arith in p) x)) h

pub operators_deep_behind : {text : List ℕ} {n k : ℕ} {ts us : List Token} {a : Expr} {da left : ℕ} → suc k ≤ n → Reads text (operators k) ts a da us → AreDeep (Levels text k a da us) left → AreDeep (Reads text (operators n) ts) left
operators_deep_behind {text} {n} {k} {ts} {us} {a} {da} {left} q x h = operators_deep q (deep_along (λ e d r y. inner y) h)
  where
    inner : {e : Expr} {d : ℕ} {r : List Token} → Reads text (operators (suc k)) ts e d r → Along (Levels text k a da us) d
    inner (a_level {rest = r} {e = e} {d = d} z y) = along e d r (moved (λ a da us. Levels text k a da us e d r) (same x z) y) (omega arith)

-- one field or index

one_more : {text : List ℕ} {l : Suffix} {ts r : List Token} {a e : Expr} {da d : ℕ} → OneSuffix text a da l ts e d r → da < d
one_more (one_field p q) = omega arith
one_more (one_index x p) = omega arith

pub suffix_no_room : {text : List ℕ} {l : Suffix} {a : Expr} {da left : ℕ} {ts : List Token} → left ≤ da → AreDeep (OneSuffix text a da l ts) left
suffix_no_room h = record { deep = λ e d r x. let i = one_more x in omega arith }

pub field_read : {text : List ℕ} {a e : Expr} {da d left : ℕ} {ts us r : List Token} {s name : Span} → Takes F.Dot ts us s → Takes F.Lower us r name → e ≡ node (start_of a) name.end (E.Field a name) → d ≡ da + 1 → da < left → IsRead (OneSuffix text a da S.Field ts) left e d r
field_read {r = r} p q h k m = read_as r (one_field p q) h k (omega arith)

pub field_no_name : {text : List ℕ} {a : Expr} {da left : ℕ} {ts us : List Token} {s : Span} → Takes F.Dot ts us s → front us ≢ F.Lower → AreDeep (OneSuffix text a da S.Field ts) left
field_no_name {text} {a} {da} {left} {ts} t n = never (λ e d r x. inner x)
  where
    inner : {e : Expr} {d : ℕ} {r : List Token} → OneSuffix text a da S.Field ts e d r → ⊥
    inner (one_field p q) = n (ap front (sym (same_takes t p).rest) ∙ q.stands)

pub index_deep : {text : List ℕ} {a : Expr} {da left below : ℕ} {ts us vs : List Token} → us ≡ drop 1 ts → vs ≡ drop 1 us → left ≤ below + 1 → AreDeep (Reads text seq vs) below → AreDeep (OneSuffix text a da S.Index ts) left
index_deep {text} {a} {da} {ts = ts} e f b h = deep_inside b (λ e d r x. inner x) (deep_at (Reads text seq) (f ∙ ap (drop 1) e) h)
  where
    inner : {e : Expr} {d : ℕ} {r : List Token} → OneSuffix text a da S.Index ts e d r → Inside (Reads text seq (drop 1 (drop 1 ts))) d
    inner (one_index x p) = inside _ _ _ x (omega arith)

pub index_not_closed : {text : List ℕ} {a i : Expr} {da di left : ℕ} {ts us vs ws : List Token} → us ≡ drop 1 ts → vs ≡ drop 1 us → Reads text seq vs i di ws → front ws ≢ F.CloseBracket → AreDeep (OneSuffix text a da S.Index ts) left
index_not_closed {text} {a} {i} {da} {di} {left} {ts} {us} {vs} {ws} e f x n = never (λ e d r x. inner x)
  where
    first : Reads text seq (drop 1 (drop 1 ts)) i di ws
    first = subst (λ vs. Reads text seq vs i di ws) (f ∙ ap (drop 1) e) x

    inner : {e : Expr} {d : ℕ} {r : List Token} → OneSuffix text a da S.Index ts e d r → ⊥
    inner (one_index y p) = n (ap front (sym (same first y).rest) ∙ p.stands)

pub index_read : {text : List ℕ} {a i e : Expr} {da di d left below : ℕ} {ts us vs ws r : List Token} {s : Span} → us ≡ drop 1 ts → vs ≡ drop 1 us → below < left → da < left → IsRead (Reads text seq vs) below i di ws → Takes F.CloseBracket ws r s → e ≡ node (start_of a) s.end (E.Index a i) → d ≡ max da di + 1 → IsRead (OneSuffix text a da S.Index ts) left e d r
index_read {text} {i = i} {di = di} {ts = ts} {ws = ws} {r = r} e f b p x t h k =
    let m = x.small in
    read_as r (one_index (subst (λ vs. Reads text seq vs i di ws) (f ∙ ap (drop 1) e) x.reads) t) h k (omega arith)

-- fields and indices read one by one: from `a` at `ts` on, what goes on is a simple part from the start
pub record SimpleSoFar (text : List ℕ) (start : List Token) (a : Expr) (da : ℕ) (ts : List Token) : Type 0 where
  pub forth : (e : Expr) (d : ℕ) (r : List Token) → SuffixBy text (suffix ts) ts a da e d r → Reads text simple start e d r
  pub back : (e : Expr) (d : ℕ) (r : List Token) → Reads text simple start e d r → SuffixBy text (suffix ts) ts a da e d r

pub simple_init : {text : List ℕ} {start ts : List Token} {a : Expr} {da : ℕ} → Reads text atom start a da ts → SimpleSoFar text start a da ts
simple_init {text} {start} {ts} {a} {da} x = record { forth = λ e d r y. a_simple x y; back = λ e d r y. inner y }
  where
    inner : {e : Expr} {d : ℕ} {r : List Token} → Reads text simple start e d r → SuffixBy text (suffix ts) ts a da e d r
    inner (a_simple {rest = r} {e = e} {d = d} z y) = moved (λ a da ts. SuffixBy text (suffix ts) ts a da e d r) (same x z) y

suffix_forth : {text : List ℕ} {l : Suffix} {ts us r : List Token} {a c e : Expr} {da dc d : ℕ} → OneSuffix text a da l ts c dc us → SuffixBy text (suffix us) us c dc e d r → SuffixBy text l ts a da e d r
suffix_forth (one_field p q) y = a_field p q y
suffix_forth (one_index x p) y = an_index x p y

suffix_back : {text : List ℕ} {l : Suffix} {ts us r : List Token} {a c e : Expr} {da dc d : ℕ} → OneSuffix text a da l ts c dc us → SuffixBy text l ts a da e d r → SuffixBy text (suffix us) us c dc e d r
suffix_back {text} {r = r} {a = a} {e = e} {da = da} {d = d} (one_field {s = s} {name = name} p q) (a_field {vs = vs'} {ws = ws'} {name = name'} p' q' y) =
    let i = same_takes p p' in
    let j = same_takes q (subst (λ us. Takes F.Lower us ws' name') i.rest q') in
    moved (λ name z ws. SuffixBy text (suffix ws) ws (node (start_of a) name.end (E.Field a name)) (da + 1) e d r) j y
suffix_back {text} {r = r} {a = a} {e = e} {da = da} {d = d} (one_index {i = i0} {d = di0} x p) (an_index {ws = ws'} {i = i'} {di = di'} {s = s'} z q y) =
    let k = same x z in
    let l = same_takes p (subst (λ us. Takes F.CloseBracket us ws' s') k.rest q) in
    let v = moved (λ b db vs. SuffixBy text (suffix ws') ws' (node (start_of a) s'.end (E.Index a b)) (max da db + 1) e d r) k y in
    moved (λ sp n ws. SuffixBy text (suffix ws) ws (node (start_of a) sp.end (E.Index a i0)) (max da di0 + 1) e d r) l v

pub simple_step : {text : List ℕ} {start ts us : List Token} {a c : Expr} {da dc : ℕ} → SimpleSoFar text start a da ts → OneSuffix text a da (suffix ts) ts c dc us → SimpleSoFar text start c dc us
simple_step i x = record { forth = λ e d r y. i.forth e d r (suffix_forth x y); back = λ e d r y. suffix_back x (i.back e d r y) }

pub simple_done : {text : List ℕ} {start ts : List Token} {a : Expr} {da left : ℕ} → SimpleSoFar text start a da ts → suffix ts ≡ S.Nothing → da ≤ left → IsRead (Reads text simple start) left a da ts
simple_done {text} {start} {ts} {a} {da} i e h = record { reads = i.forth a da ts (subst (λ l. SuffixBy text l ts a da a da ts) (sym e) no_suffix); small = h }

one_along : {text : List ℕ} {l : Suffix} {ts r : List Token} {a e : Expr} {da d : ℕ} → (l ≡ S.Nothing → ⊥) → SuffixBy text l ts a da e d r → Along (OneSuffix text a da l ts) d
one_along n no_suffix = absurd (n refl)
one_along n (a_field p q y) = let i = suffix_grows y in along _ _ _ (one_field p q) (omega arith)
one_along n (an_index x p y) = let i = suffix_grows y in along _ _ _ (one_index x p) (omega arith)

pub simple_deep_behind : {text : List ℕ} {start ts : List Token} {a : Expr} {da left : ℕ} → SimpleSoFar text start a da ts → suffix ts ≢ S.Nothing → AreDeep (OneSuffix text a da (suffix ts) ts) left → AreDeep (Reads text simple start) left
simple_deep_behind i n h = deep_along (λ e d r x. one_along n (i.back e d r x)) h

pub simple_deep : {text : List ℕ} {ts : List Token} {left : ℕ} → AreDeep (Reads text atom ts) left → AreDeep (Reads text simple ts) left
simple_deep {text} {ts} h = deep_along (λ e d r x. inner x) h
  where
    inner : {e : Expr} {d : ℕ} {r : List Token} → Reads text simple ts e d r → Along (Reads text atom ts) d
    inner (a_simple x y) = let i = suffix_grows y in along _ _ _ x (omega arith)

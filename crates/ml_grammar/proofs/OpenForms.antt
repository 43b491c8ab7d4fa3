-- Open forms and prefixes: where one of them is refused, and that it is found.
use Rattle.std.proofs.Common.{◌≡◌, ℕ, ◌+◌, ◌<◌, ◌≤◌, max, Bool, List, drop, Option, subst, ap, sym, ◌∙◌, arith}
use Rattle.oxml_base.specs.declared.span.Span.{Span}
use Rattle.ml_lexer.specs.declared.token.Token.{Token}
use Rattle.ml_cursor.specs.declared.front.Front.TheVariants as F
use Rattle.ml_cursor.specs.Fronts.{front}
use Rattle.ml_cursor.specs.Places.{first_span, Takes}
use Rattle.ml_tree.specs.declared.pattern.Param.{Param}
use Rattle.ml_tree.specs.declared.words.Words.{Words}
use Rattle.ml_tree.specs.declared.expr.Expr.{Expr}
use Rattle.ml_tree.specs.declared.expr.Arm.{Arm}
use Rattle.ml_tree.specs.declared.expr.Bind.{Bind}
use Rattle.ml_tree.specs.declared.expr.ExprKind.TheVariants as E
use Rattle.ml_grammar.specs.declared.looks.Lead.{Lead}
use Rattle.ml_grammar.specs.declared.looks.Lead.TheVariants as O
use Rattle.ml_grammar.specs.declared.looks.ListKind.TheVariants as Q
use Rattle.ml_grammar.specs.Looks.{second, lead, is_rec, behind_rec, behind_bar}
use Rattle.ml_grammar.specs.Trees.{node, end_of, end_behind, end_of_arm, end_of_branches}
use Rattle.ml_parse_patterns.specs.Patterns.{ReadsParams}
use Rattle.ml_grammar.specs.Grammar.{seq, operators, listed, arms, binds, Borrows, Reads, OperandBy, ConBy, Lists, an_operand, an_apply, a_constructor, a_minus, a_word, an_overwrite, a_let, a_borrow, a_match, a_function, a_fun, an_if, an_exclave}
use Rattle.ml_grammar.specs.Readings.{IsRead, AreDeep, Until, until, Behind, behind_it, Branches, branches}
use Rattle.ml_grammar.proofs.Deep.{Inside, inside, Along, along, deep_inside, deep_along, never, read_as, deep_at}
use Rattle.ml_grammar.proofs.Growth.{operand_positive}
use Rattle.ml_grammar.proofs.Unique.{same, same_list, same_takes, same_borrows, one_params}

-- where nothing is left

pub no_room : {text : List ℕ} {l : Lead} {ts : List Token} {left : ℕ} → left ≡ 0 → AreDeep (OperandBy text l ts) left
no_room e = record { deep = λ y d r q. let i = operand_positive q in omega arith }

-- by the lead

pub operand_read : {text : List ℕ} {l : Lead} {ts r : List Token} {e : Expr} {d left : ℕ} → l ≡ lead ts → IsRead (OperandBy text l ts) left e d r → IsRead (Reads text (operators 0) ts) left e d r
operand_read {text} {l} {ts} {r} {e} {d} q i = record { reads = an_operand (subst (λ l. OperandBy text l ts e d r) q i.reads); small = i.small }

pub operand_deep : {text : List ℕ} {l : Lead} {ts : List Token} {left : ℕ} → l ≡ lead ts → AreDeep (OperandBy text l ts) left → AreDeep (Reads text (operators 0) ts) left
operand_deep {text} {l} {ts} {left} q i = record { deep = λ e d r x. by_lead x }
  where
    by_lead : {e : Expr} {d : ℕ} {r : List Token} → Reads text (operators 0) ts e d r → left < d
    by_lead (an_operand {rest = r} {e = e} {d = d} x) = i.deep e d r (subst (λ l. OperandBy text l ts e d r) (sym q) x)

pub application_read : {text : List ℕ} {ts r : List Token} {e : Expr} {d left : ℕ} → IsRead (Reads text (listed Q.Arguments) ts) left e d r → IsRead (OperandBy text O.Application ts) left e d r
application_read i = record { reads = an_apply i.reads; small = i.small }

pub application_deep : {text : List ℕ} {ts : List Token} {left : ℕ} → AreDeep (Reads text (listed Q.Arguments) ts) left → AreDeep (OperandBy text O.Application ts) left
application_deep {text} {ts} i = deep_along (λ y d r q. inner q) i
  where
    inner : {e : Expr} {d : ℕ} {r : List Token} → OperandBy text O.Application ts e d r → Along (Reads text (listed Q.Arguments) ts) d
    inner (an_apply x) = along _ _ _ x (omega arith)

pub constructor_read : {text : List ℕ} {ts r : List Token} {e : Expr} {d left : ℕ} → IsRead (ConBy text F.Upper ts) left e d r → IsRead (OperandBy text O.Constructor ts) left e d r
constructor_read i = record { reads = a_constructor i.reads; small = i.small }

pub constructor_deep : {text : List ℕ} {ts : List Token} {left : ℕ} → AreDeep (ConBy text F.Upper ts) left → AreDeep (OperandBy text O.Constructor ts) left
constructor_deep {text} {ts} i = deep_along (λ y d r q. inner q) i
  where
    inner : {e : Expr} {d : ℕ} {r : List Token} → OperandBy text O.Constructor ts e d r → Along (ConBy text F.Upper ts) d
    inner (a_constructor x) = along _ _ _ x (omega arith)

-- minus

pub minus_deep : {text : List ℕ} {ts us : List Token} {left below : ℕ} → us ≡ drop 1 ts → left ≤ below + 1 → AreDeep (Reads text (operators 0) us) below → AreDeep (OperandBy text O.Minus ts) left
minus_deep {text} {ts = ts} {us} {left} {below} e b h = deep_inside b (λ y d r q. inner q) (subst (λ us. AreDeep (Reads text (operators 0) us) below) e h)
  where
    inner : {y : Expr} {d : ℕ} {r : List Token} → OperandBy text O.Minus ts y d r → Inside (Reads text (operators 0) (drop 1 ts)) d
    inner (a_minus x) = inside _ _ _ x (omega arith)

pub minus_read : {text : List ℕ} {ts us r : List Token} {s : Span} {b : Expr} {e : Expr} {c d left below : ℕ} → us ≡ drop 1 ts → s ≡ first_span ts → below < left → IsRead (Reads text (operators 0) us) below b c r → e ≡ node s.start (end_of b) (E.Minus b) → d ≡ c + 1 → IsRead (OperandBy text O.Minus ts) left e d r
minus_read {text} {ts = ts} {r = r} {b = b} {c = c} {left = left} f g w i h k =
    let x = subst (λ us. Reads text (operators 0) us b c r) f i.reads in
    let m = i.small in
    read_as r (a_minus x) (h ∙ ap (λ s. node s.start (end_of b) (E.Minus b)) g) k (omega arith)

-- worded

pub worded_deep : {text : List ℕ} {w : Words} {ts us : List Token} {left below : ℕ} → us ≡ drop 1 ts → left ≤ below + 1 → AreDeep (Reads text (operators 0) us) below → AreDeep (OperandBy text (O.Word w) ts) left
worded_deep {text} {w} {ts = ts} {us} {left} {below} e b h = deep_inside b (λ y d r q. inner q) (subst (λ us. AreDeep (Reads text (operators 0) us) below) e h)
  where
    inner : {y : Expr} {d : ℕ} {r : List Token} → OperandBy text (O.Word w) ts y d r → Inside (Reads text (operators 0) (drop 1 ts)) d
    inner (a_word x) = inside _ _ _ x (omega arith)

pub worded_read : {text : List ℕ} {w : Words} {ts us r : List Token} {s : Span} {b : Expr} {e : Expr} {c d left below : ℕ} → us ≡ drop 1 ts → s ≡ first_span ts → below < left → IsRead (Reads text (operators 0) us) below b c r → e ≡ node s.start (end_of b) (E.Worded w b) → d ≡ c + 1 → IsRead (OperandBy text (O.Word w) ts) left e d r
worded_read {text} {w} {ts = ts} {r = r} {b = b} {c = c} {left = left} f g v i h k =
    let x = subst (λ us. Reads text (operators 0) us b c r) f i.reads in
    let m = i.small in
    read_as r (a_word x) (h ∙ ap (λ s. node s.start (end_of b) (E.Worded w b)) g) k (omega arith)

-- exclave

pub exclave_deep : {text : List ℕ} {ts us : List Token} {left below : ℕ} → us ≡ drop 1 ts → left ≤ below + 1 → AreDeep (Reads text seq us) below → AreDeep (OperandBy text O.Exclave ts) left
exclave_deep {text} {ts = ts} {us} {left} {below} e b h = deep_inside b (λ y d r q. inner q) (subst (λ us. AreDeep (Reads text seq us) below) e h)
  where
    inner : {y : Expr} {d : ℕ} {r : List Token} → OperandBy text O.Exclave ts y d r → Inside (Reads text seq (drop 1 ts)) d
    inner (an_exclave x) = inside _ _ _ x (omega arith)

pub exclave_read : {text : List ℕ} {ts us r : List Token} {s : Span} {b : Expr} {e : Expr} {c d left below : ℕ} → us ≡ drop 1 ts → s ≡ first_span ts → below < left → IsRead (Reads text seq us) below b c r → e ≡ node s.start (end_of b) (E.Exclave b) → d ≡ c + 1 → IsRead (OperandBy text O.Exclave ts) left e d r
exclave_read {text} {ts = ts} {r = r} {b = b} {c = c} {left = left} f g w i h k =
    let x = subst (λ us. Reads text seq us b c r) f i.reads in
    let m = i.small in
    read_as r (an_exclave x) (h ∙ ap (λ s. node s.start (end_of b) (E.Exclave b)) g) k (omega arith)

-- function

pub function_deep : {text : List ℕ} {ts us : List Token} {left below : ℕ} → us ≡ drop 1 ts → left ≤ below + 1 → AreDeep (Lists text arms (behind_bar us)) below → AreDeep (OperandBy text O.Function ts) left
function_deep {text} {ts = ts} {us} {left} {below} e b h = deep_inside b (λ y d r q. inner q) (subst (λ us. AreDeep (Lists text arms (behind_bar us)) below) e h)
  where
    inner : {y : Expr} {d : ℕ} {r : List Token} → OperandBy text O.Function ts y d r → Inside (Lists text arms (behind_bar (drop 1 ts))) d
    inner (a_function x) = inside _ _ _ x (omega arith)

pub function_read : {text : List ℕ} {ts us r : List Token} {s : Span} {b : List Arm} {e : Expr} {c d left below : ℕ} → us ≡ drop 1 ts → s ≡ first_span ts → below < left → IsRead (Lists text arms (behind_bar us)) below b c r → e ≡ node s.start (end_behind end_of_arm 0 b) (E.Function b) → d ≡ c + 1 → IsRead (OperandBy text O.Function ts) left e d r
function_read {text} {ts = ts} {r = r} {b = b} {c = c} {left = left} f g w i h k =
    let x = subst (λ us. Lists text arms (behind_bar us) b c r) f i.reads in
    let m = i.small in
    read_as r (a_function x) (h ∙ ap (λ s. node s.start (end_behind end_of_arm 0 b) (E.Function b)) g) k (omega arith)

-- let

pub let_deep : {text : List ℕ} {ts us vs : List Token} {left below : ℕ} → us ≡ drop 1 ts → vs ≡ behind_rec us → left ≤ below + 1 → AreDeep (Lists text binds vs) below → AreDeep (OperandBy text O.Let ts) left
let_deep {text} {ts} e f b h = deep_inside b (λ y d r q. inner q) (deep_at (Lists text binds) (f ∙ ap behind_rec e) h)
  where
    inner : {y : Expr} {d : ℕ} {r : List Token} → OperandBy text O.Let ts y d r → Inside (Lists text binds (behind_rec (drop 1 ts))) d
    inner (a_let x p z) = inside _ _ _ x (omega arith)

pub let_deep_behind : {text : List ℕ} {ts us vs ws : List Token} {bs : List Bind} {c left below : ℕ} → us ≡ drop 1 ts → vs ≡ behind_rec us → left ≤ below + 1 → Lists text binds vs bs c ws → AreDeep (Behind text F.In ws) below → AreDeep (OperandBy text O.Let ts) left
let_deep_behind {text} {ts} {us} {vs} {ws} {bs} {c} e f b x h = deep_inside b (λ y d r q. inner q) h
  where
    first : Lists text binds (behind_rec (drop 1 ts)) bs c ws
    first = subst (λ us. Lists text binds us bs c ws) (f ∙ ap behind_rec e) x

    inner : {y : Expr} {d : ℕ} {r : List Token} → OperandBy text O.Let ts y d r → Inside (Behind text F.In ws) d
    inner (a_let {rest = r} {b = b} {d = d} x p z) =
        inside _ _ _ (subst (λ us. Behind text F.In us b d r) (same_list first x).rest (behind_it p z)) (omega arith)

pub let_read : {text : List ℕ} {ts us vs ws r : List Token} {s : Span} {rc : Bool} {bs : List Bind} {b e : Expr} {dbs db d left below : ℕ} → us ≡ drop 1 ts → vs ≡ behind_rec us → s ≡ first_span ts → rc ≡ is_rec (front us) → below < left → IsRead (Lists text binds vs) below bs dbs ws → IsRead (Behind text F.In ws) below b db r → e ≡ node s.start (end_of b) (E.Let rc bs b) → d ≡ max dbs db + 1 → IsRead (OperandBy text O.Let ts) left e d r
let_read {text} {ts} {us} {vs} {ws} {r} {s} {rc} {bs} {b} {e} {dbs} {db} {d} {left} f g h k w i j m n =
    let x = subst (λ us. Lists text binds us bs dbs ws) (g ∙ ap behind_rec f) i.reads in
    let u = i.small in
    let v = j.small in
    read_as r (made x j.reads) (m ∙ (ap (λ s. node s.start (end_of b) (E.Let rc bs b)) h ∙ ap (λ rc. node (first_span ts).start (end_of b) (E.Let rc bs b)) (k ∙ ap (λ us. is_rec (front us)) f))) n (omega arith)
  where
    made : Lists text binds (behind_rec (drop 1 ts)) bs dbs ws → Behind text F.In ws b db r → OperandBy text O.Let ts (node (first_span ts).start (end_of b) (E.Let (is_rec (second ts)) bs b)) (max dbs db + 1) r
    made x (behind_it q z) = a_let x q z

-- let borrow_

pub borrow_deep : {text : List ℕ} {ts us : List Token} {left : ℕ} → us ≡ drop 1 ts → ((y x : Span) (r : List Token) → Borrows us y x r → ⊥) → AreDeep (OperandBy text O.Borrow ts) left
borrow_deep {text} {ts} {us} e h = never (λ y d r q. inner q)
  where
    inner : {y : Expr} {d : ℕ} {r : List Token} → OperandBy text O.Borrow ts y d r → ⊥
    inner (a_borrow {us = vs} {y = y} {x = x} n p z) = h y x vs (subst (λ us. Borrows us y x vs) (sym e) n)

pub borrow_deep_behind : {text : List ℕ} {ts us vs : List Token} {y x : Span} {left below : ℕ} → us ≡ drop 1 ts → left ≤ below + 1 → Borrows us y x vs → AreDeep (Behind text F.In vs) below → AreDeep (OperandBy text O.Borrow ts) left
borrow_deep_behind {text} {ts} {us} {vs} {y} {x} e b n h = deep_inside b (λ y d r q. inner q) h
  where
    first : Borrows (drop 1 ts) y x vs
    first = subst (λ us. Borrows us y x vs) e n

    inner : {y : Expr} {d : ℕ} {r : List Token} → OperandBy text O.Borrow ts y d r → Inside (Behind text F.In vs) d
    inner (a_borrow {rest = r} {b = b} {d = d} m p z) =
        inside _ _ _ (subst (λ us. Behind text F.In us b d r) (same_borrows first m).rest (behind_it p z)) (omega arith)

pub borrow_read : {text : List ℕ} {ts us vs r : List Token} {s y x : Span} {b e : Expr} {db d left below : ℕ} → us ≡ drop 1 ts → s ≡ first_span ts → below < left → Borrows us y x vs → IsRead (Behind text F.In vs) below b db r → e ≡ node s.start (end_of b) (E.Borrow y x b) → d ≡ db + 1 → IsRead (OperandBy text O.Borrow ts) left e d r
borrow_read {text} {ts} {us} {vs} {r} {s} {y} {x} {b} {e} {db} {d} {left} f g w n j m k =
    let v = j.small in
    read_as r (made (subst (λ us. Borrows us y x vs) f n) j.reads) (m ∙ ap (λ s. node s.start (end_of b) (E.Borrow y x b)) g) k (omega arith)
  where
    made : Borrows (drop 1 ts) y x vs → Behind text F.In vs b db r → OperandBy text O.Borrow ts (node (first_span ts).start (end_of b) (E.Borrow y x b)) (db + 1) r
    made n (behind_it q z) = a_borrow n q z

-- match

pub match_deep : {text : List ℕ} {ts us : List Token} {left below : ℕ} → us ≡ drop 1 ts → left ≤ below + 1 → AreDeep (Until text F.With us) below → AreDeep (OperandBy text O.Match ts) left
match_deep {text} {ts} e b h = deep_inside b (λ y d r q. inner q) (deep_at (Until text F.With) e h)
  where
    inner : {y : Expr} {d : ℕ} {r : List Token} → OperandBy text O.Match ts y d r → Inside (Until text F.With (drop 1 ts)) d
    inner (a_match x p z) = inside _ _ _ (until x p) (omega arith)

pub match_deep_behind : {text : List ℕ} {ts us vs : List Token} {a : Expr} {c left below : ℕ} → us ≡ drop 1 ts → left ≤ below + 1 → Until text F.With us a c vs → AreDeep (Lists text arms (behind_bar vs)) below → AreDeep (OperandBy text O.Match ts) left
match_deep_behind {text} {ts} {us} {vs} {a} {c} e b x h = deep_inside b (λ y d r q. inner (subst (λ us. Until text F.With us a c vs) e x) q) h
  where
    inner : {y : Expr} {d : ℕ} {r vs : List Token} → Until text F.With (drop 1 ts) a c vs → OperandBy text O.Match ts y d r → Inside (Lists text arms (behind_bar vs)) d
    inner (until x p) (a_match {rest = r} {cases = cs} {d = d} y q z) =
        inside _ _ _ (subst (λ us. Lists text arms (behind_bar (drop 1 us)) cs d r) (same x y).rest z) (omega arith)

pub match_read : {text : List ℕ} {ts us vs r : List Token} {s : Span} {a e : Expr} {cs : List Arm} {da dc d left below : ℕ} → us ≡ drop 1 ts → s ≡ first_span ts → below < left → IsRead (Until text F.With us) below a da vs → IsRead (Lists text arms (behind_bar vs)) below cs dc r → e ≡ node s.start (end_behind end_of_arm 0 cs) (E.Match a cs) → d ≡ max da dc + 1 → IsRead (OperandBy text O.Match ts) left e d r
match_read {text} {ts} {us} {vs} {r} {s} {a} {e} {cs} {da} {dc} {d} {left} f g w i j m k =
    let u = i.small in
    let v = j.small in
    read_as r (made (subst (λ us. Until text F.With us a da vs) f i.reads) j.reads) (m ∙ ap (λ s. node s.start (end_behind end_of_arm 0 cs) (E.Match a cs)) g) k (omega arith)
  where
    made : {vs : List Token} → Until text F.With (drop 1 ts) a da vs → Lists text arms (behind_bar vs) cs dc r → OperandBy text O.Match ts (node (first_span ts).start (end_behind end_of_arm 0 cs) (E.Match a cs)) (max da dc + 1) r
    made (until x q) z = a_match x q z

-- fun

pub fun_deep : {text : List ℕ} {ts us : List Token} {left below : ℕ} → us ≡ drop 1 ts → left ≤ below + 1 → AreDeep (ReadsParams text us) below → AreDeep (OperandBy text O.Fun ts) left
fun_deep {text} {ts} e b h = deep_inside b (λ y d r q. inner q) (deep_at (ReadsParams text) e h)
  where
    inner : {y : Expr} {d : ℕ} {r : List Token} → OperandBy text O.Fun ts y d r → Inside (ReadsParams text (drop 1 ts)) d
    inner (a_fun x p z) = inside _ _ _ x (omega arith)

pub fun_deep_behind : {text : List ℕ} {ts us vs : List Token} {ps : List Param} {c left below : ℕ} → us ≡ drop 1 ts → left ≤ below + 1 → ReadsParams text us ps c vs → AreDeep (Behind text F.Arrow vs) below → AreDeep (OperandBy text O.Fun ts) left
fun_deep_behind {text} {ts} {us} {vs} {ps} {c} e b x h = deep_inside b (λ y d r q. inner q) h
  where
    first : ReadsParams text (drop 1 ts) ps c vs
    first = subst (λ us. ReadsParams text us ps c vs) e x

    inner : {y : Expr} {d : ℕ} {r : List Token} → OperandBy text O.Fun ts y d r → Inside (Behind text F.Arrow vs) d
    inner (a_fun {rest = r} {b = b} {d = d} x p z) =
        inside _ _ _ (subst (λ us. Behind text F.Arrow us b d r) (one_params first x).rest (behind_it p z)) (omega arith)

pub fun_read : {text : List ℕ} {ts us vs r : List Token} {s : Span} {ps : List Param} {b e : Expr} {dp db d left below : ℕ} → us ≡ drop 1 ts → s ≡ first_span ts → below < left → IsRead (ReadsParams text us) below ps dp vs → IsRead (Behind text F.Arrow vs) below b db r → e ≡ node s.start (end_of b) (E.Fun ps b) → d ≡ max dp db + 1 → IsRead (OperandBy text O.Fun ts) left e d r
fun_read {text} {ts} {us} {vs} {r} {s} {ps} {b} {e} {dp} {db} {d} {left} f g w i j m k =
    let u = i.small in
    let v = j.small in
    read_as r (made (subst (λ us. ReadsParams text us ps dp vs) f i.reads) j.reads) (m ∙ ap (λ s. node s.start (end_of b) (E.Fun ps b)) g) k (omega arith)
  where
    made : ReadsParams text (drop 1 ts) ps dp vs → Behind text F.Arrow vs b db r → OperandBy text O.Fun ts (node (first_span ts).start (end_of b) (E.Fun ps b)) (max dp db + 1) r
    made x (behind_it q z) = a_fun x q z

-- if

pub if_deep : {text : List ℕ} {ts us : List Token} {left below : ℕ} → us ≡ drop 1 ts → left ≤ below + 1 → AreDeep (Until text F.Then us) below → AreDeep (OperandBy text O.If ts) left
if_deep {text} {ts} e b h = deep_inside b (λ y d r q. inner q) (deep_at (Until text F.Then) e h)
  where
    inner : {y : Expr} {d : ℕ} {r : List Token} → OperandBy text O.If ts y d r → Inside (Until text F.Then (drop 1 ts)) d
    inner (an_if x p z n) = inside _ _ _ (until x p) (omega arith)

pub if_deep_behind : {text : List ℕ} {ts us vs : List Token} {a : Expr} {c left below : ℕ} → us ≡ drop 1 ts → left ≤ below + 1 → Until text F.Then us a c vs → AreDeep (Branches text vs) below → AreDeep (OperandBy text O.If ts) left
if_deep_behind {text} {ts} {us} {vs} {a} {c} e b x h = deep_inside b (λ y d r q. inner (subst (λ us. Until text F.Then us a c vs) e x) q) h
  where
    inner : {y : Expr} {d : ℕ} {r vs : List Token} → Until text F.Then (drop 1 ts) a c vs → OperandBy text O.If ts y d r → Inside (Branches text vs) d
    inner (until x p) (an_if {rest = r} {a = a} {o = o} {da = da} {d = d} y q z n) =
        inside _ _ _ (subst (λ us. Branches text (drop 1 us) (a, o) (max da d) r) (same x y).rest (branches z n)) (omega arith)

pub if_read : {text : List ℕ} {ts us vs r : List Token} {s : Span} {a b e : Expr} {o : Option Expr} {da db d left below : ℕ} → us ≡ drop 1 ts → s ≡ first_span ts → below < left → IsRead (Until text F.Then us) below a da vs → IsRead (Branches text vs) below (b, o) db r → e ≡ node s.start (end_of_branches b o) (E.If a b o) → d ≡ max da db + 1 → IsRead (OperandBy text O.If ts) left e d r
if_read {text} {ts} {us} {vs} {r} {s} {a} {b} {e} {o} {da} {db} {d} {left} f g w i j m k =
    let u = i.small in
    let v = j.small in
    read_as r (made (subst (λ us. Until text F.Then us a da vs) f i.reads) j.reads) (m ∙ ap (λ s. node s.start (end_of_branches b o) (E.If a b o)) g) k (omega arith)
  where
    made : {vs : List Token} {b : Expr} {o : Option Expr} {db : ℕ} → Until text F.Then (drop 1 ts) a da vs → Branches text vs (b, o) db r → OperandBy text O.If ts (node (first_span ts).start (end_of_branches b o) (E.If a b o)) (max da db + 1) r
    made (until x q) (branches z n) = an_if x q z n

-- overwrite_

pub overwrite_deep : {text : List ℕ} {ts us vs ws : List Token} {name s : Span} {left below : ℕ} → us ≡ drop 1 ts → left ≤ below + 1 → Takes F.Lower us vs name → Takes F.With vs ws s → AreDeep (ConBy text (front ws) ws) below → AreDeep (OperandBy text O.Overwrite ts) left
overwrite_deep {text} {ts} {us} {vs} {ws} {name} {s} e b t u h = deep_inside b (λ y d r q. inner q) h
  where
    first : Takes F.Lower (drop 1 ts) vs name
    first = subst (λ us. Takes F.Lower us vs name) e t

    inner : {y : Expr} {d : ℕ} {r : List Token} → OperandBy text O.Overwrite ts y d r → Inside (ConBy text (front ws) ws) d
    inner (an_overwrite {vs = ws'} {rest = r} {e = e} {d = d} {s = s'} p q x) =
        let i = same_takes first p in
        let j = same_takes u (subst (λ us. Takes F.With us ws' s') i.rest q) in
        inside _ _ _ (subst (λ ws. ConBy text (front ws) ws e d r) j.rest x) (omega arith)

pub overwrite_read : {text : List ℕ} {ts us vs ws r : List Token} {s name w : Span} {b e : Expr} {db d left below : ℕ} → us ≡ drop 1 ts → s ≡ first_span ts → below < left → Takes F.Lower us vs name → Takes F.With vs ws w → IsRead (ConBy text (front ws) ws) below b db r → e ≡ node s.start (end_of b) (E.Overwrite name b) → d ≡ db + 1 → IsRead (OperandBy text O.Overwrite ts) left e d r
overwrite_read {text} {ts} {us} {vs} {ws} {r} {s} {name} {w} {b} f g k t u j m n =
    let v = j.small in
    read_as r (an_overwrite (subst (λ us. Takes F.Lower us vs name) f t) u j.reads) (m ∙ ap (λ s. node s.start (end_of b) (E.Overwrite name b)) g) n (omega arith)

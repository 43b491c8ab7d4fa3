-- What the readers of sequences, operators, suffixes and lists hand on, in the words of their calls.
use Rattle.std.proofs.Common.{◌≡◌, ◌≢◌, ℕ, suc, ◌+◌, ◌-◌, ◌<◌, ◌≤◌, max, ◌⊎◌, inl, inr, Bool, true, false, if◌then◌else◌, List, [], ◌∷◌, ◌++◌, drop, length, Option, Some, None, refl, subst, ap, sym, ◌∙◌, arith}
use Rattle.ml_lexer.specs.declared.token.Token.{Token}
use Rattle.ml_cursor.specs.declared.front.Front.TheVariants as F
use Rattle.ml_cursor.specs.Fronts.{front}
use Rattle.ml_cursor.specs.Places.{first_span}
use Rattle.ml_tree.specs.declared.expr.Expr.{Expr}
use Rattle.ml_tree.specs.declared.expr.ExprKind.TheVariants as E
use Rattle.ml_grammar.specs.declared.looks.ListKind.{ListKind}
use Rattle.ml_grammar.specs.declared.looks.ListKind.TheVariants as Q
use Rattle.ml_grammar.specs.declared.looks.Joint.{Joint}
use Rattle.ml_grammar.specs.declared.looks.Suffix.{Suffix}
use Rattle.ml_grammar.specs.declared.looks.Suffix.TheVariants as S
use Rattle.ml_grammar.specs.Looks.{operator_at, groups_left, goes_on, next, behind}
use Rattle.ml_grammar.specs.Trees.{node, start_of, joined, gathered}
use Rattle.ml_grammar.specs.Grammar.{Part, operators, tuple, seq, part_of, listed, exprs, Reads, Lists, LevelBy, to_left, no_operator, an_expression}
use Rattle.ml_grammar.specs.Readings.{IsRead, AreDeep, Infix, infix_of, Levels, OneSuffix}
use Rattle.ml_grammar.proofs.Deep.{Along, along, deep_along}
use Rattle.ml_grammar.proofs.Growth.{level_grows}
use Rattle.ml_grammar.proofs.Unique.{same, moved}
use Rattle.ml_grammar.proofs.Levels.{infix_read, index_deep, index_not_closed, index_read}
use Rattle.ml_grammar.proofs.Items.{ListSoFar, list_init, list_deep, listed_no_room, listed_read, expression_read, expression_deep}
use Rattle.ml_grammar.proofs.Handed.{takes, field_found, field_none, list_goes, list_read}
use Rattle.ml_grammar.proofs.Shorter.{item_shorter, to_next_rest}
use Rattle.ml_parse_forms.specs.declared.found.Found.{Found}

-- what was handed on is what was found
pub same_read : {A : Type 0} {P : A → ℕ → List Token → Type 0} {left : ℕ} {r : List Token} {f g : Found A} → f ≡ g → IsRead P left g.tree g.depth r → IsRead P left f.tree f.depth r
same_read {A} {P} {left} {r} e i = subst (λ (f : Found A). IsRead P left f.tree f.depth r) (sym e) i

-- where a list goes on or ends

pub then_place : {A : Type 0} {b : Bool} {x y : A} (z : A) → b ≡ true → x ≡ (if b then y else z) → x ≡ y
then_place {A} {y = y} z p q = q ∙ ap (λ (b : Bool). if b then y else z) p

pub else_place : {A : Type 0} {b : Bool} {x z : A} (y : A) → b ≡ false → x ≡ (if b then y else z) → x ≡ z
else_place {A} {z = z} y p q = q ∙ ap (λ (b : Bool). if b then y else z) p

-- a part of a list of this kind

pub part_read : {text : List ℕ} {q k : ListKind} {ts r : List Token} {e : Expr} {d left : ℕ} → q ≡ k → IsRead (Reads text (part_of k) ts) left e d r → IsRead (Reads text (part_of q) ts) left e d r
part_read {text} {q} {k} {ts} {r} {e} {d} {left} p i = subst (λ (k : ListKind). IsRead (Reads text (part_of k) ts) left e d r) (sym p) i

pub part_deep : {text : List ℕ} {q k : ListKind} {ts : List Token} {left : ℕ} → q ≡ k → AreDeep (Reads text (part_of k) ts) left → AreDeep (Reads text (part_of q) ts) left
part_deep {text} {q} {k} {ts} {left} p h = subst (λ (k : ListKind). AreDeep (Reads text (part_of k) ts) left) (sym p) h

pub either_tuple : {q : ListKind} → (q ≡ Q.Statements) ⊎ (q ≡ Q.Elements) → part_of q ≡ tuple
either_tuple (inl p) = ap part_of p
either_tuple (inr p) = ap part_of p

pub tuple_read : {text : List ℕ} {q : ListKind} {ts r : List Token} {e : Expr} {d left : ℕ} → (q ≡ Q.Statements) ⊎ (q ≡ Q.Elements) → IsRead (Reads text tuple ts) left e d r → IsRead (Reads text (part_of q) ts) left e d r
tuple_read {text} {q} {ts} {r} {e} {d} {left} p i = subst (λ (k : Part). IsRead (Reads text k ts) left e d r) (sym (either_tuple p)) i

pub tuple_deep : {text : List ℕ} {q : ListKind} {ts : List Token} {left : ℕ} → (q ≡ Q.Statements) ⊎ (q ≡ Q.Elements) → AreDeep (Reads text tuple ts) left → AreDeep (Reads text (part_of q) ts) left
tuple_deep {text} {q} {ts} {left} p h = subst (λ (k : Part). AreDeep (Reads text k ts) left) (sym (either_tuple p)) h

-- one part, or several as one expression

pub parts_no_room : {text : List ℕ} {q : ListKind} {ts us : List Token} {b : Bool} {f : Found Expr} {left : ℕ} → IsRead (Reads text (part_of q) ts) left f.tree f.depth us → b ≡ goes_on q us → b ≡ true → left ≤ f.depth → AreDeep (Reads text (listed q) ts) left
parts_no_room i g b h = listed_no_room i.reads (sym g ∙ b) h

pub parts_read : {text : List ℕ} {q : ListKind} {ts us vs r : List Token} {b : Bool} {left : ℕ} {f g h : Found Expr} {es : List Expr} {c : ℕ} → IsRead (Reads text (part_of q) ts) left f.tree f.depth us → b ≡ goes_on q us → b ≡ true → vs ≡ (if b then next q us else behind q us) → g ≡ f → g.depth < left → IsRead (Lists text (exprs q) vs) (left - 1) es c r → h.tree ≡ gathered q g.tree es → h.depth ≡ max g.depth c + 1 → IsRead (Reads text (listed q) ts) left h.tree h.depth r
parts_read {text} {q} {ts} {us} {left = left} {f} {g} i o b p e m y t d =
    let j : IsRead (Reads text (part_of q) ts) left g.tree g.depth us = same_read e i in
    let n = y.small in
    listed_read j.reads (sym o ∙ b) (then_place _ b p) y.reads t d (omega arith)

-- an operator and its second operand

pub second_read : {text : List ℕ} {n : ℕ} {o : Joint} {ts us r : List Token} {left : ℕ} {f g b h : Found Expr} → us ≡ drop 1 ts → g ≡ f → g.depth < left → IsRead (Reads text (operators n) us) (left - 1) b.tree b.depth r → h.tree ≡ joined o g.tree b.tree → h.depth ≡ max g.depth b.depth + 1 → IsRead (Infix text n o f.tree f.depth ts) left h.tree h.depth r
second_read {text} {n} {o} {ts} {us} {r} {left} {f} {g} {b} {h} p e m i t d =
    subst (λ (f : Found Expr). IsRead (Infix text n o f.tree f.depth ts) left h.tree h.depth r) e (infix_read p (omega arith) m i t d)

-- all levels up to the last

pub all_levels : {text : List ℕ} {k n : ℕ} {ts r : List Token} {e : Expr} {d left : ℕ} → k ≡ n → IsRead (Reads text (operators k) ts) left e d r → IsRead (Reads text (operators n) ts) left e d r
all_levels {text} {ts = ts} {r = r} {e = e} {d = d} {left = left} q i = subst (λ (n : ℕ). IsRead (Reads text (operators n) ts) left e d r) q i

-- the operators of one level, which groups to the left

pub level_left_read : {text : List ℕ} {n k : ℕ} {a e : Expr} {da d left : ℕ} {ts r : List Token} → n ≡ suc k → groups_left n ≡ true → IsRead (LevelBy text k true (operator_at (suc k) ts) ts a da) left e d r → IsRead (Levels text k a da ts) left e d r
level_left_read {text} {n} {k} {a} {e} {da} {d} {left} {ts} {r} q g i =
    subst (λ (b : Bool). IsRead (LevelBy text k b (operator_at (suc k) ts) ts a da) left e d r) (sym (ap groups_left (sym q) ∙ g)) i

pub level_left_deep : {text : List ℕ} {n k : ℕ} {a : Expr} {da left : ℕ} {ts : List Token} → n ≡ suc k → groups_left n ≡ true → AreDeep (LevelBy text k true (operator_at (suc k) ts) ts a da) left → AreDeep (Levels text k a da ts) left
level_left_deep {text} {n} {k} {a} {da} {left} {ts} q g h =
    subst (λ (b : Bool). AreDeep (LevelBy text k b (operator_at (suc k) ts) ts a da) left) (sym (ap groups_left (sym q) ∙ g)) h

abbrev pub ToLeft : List ℕ → ℕ → Expr → ℕ → List Token → Expr → ℕ → List Token → Type 0
ToLeft text k a da ts e d r = LevelBy text k true (operator_at (suc k) ts) ts a da e d r

-- operators read one by one: from `a` of depth `da` at `ts` on, what goes on is what goes on from the
-- first operand
pub record LeftSoFar (text : List ℕ) (k : ℕ) (first : Expr) (depth : ℕ) (start : List Token) (a : Expr) (da : ℕ) (ts : List Token) : Type 0 where
  pub forth : (e : Expr) (d : ℕ) (r : List Token) → ToLeft text k a da ts e d r → ToLeft text k first depth start e d r
  pub back : (e : Expr) (d : ℕ) (r : List Token) → ToLeft text k first depth start e d r → ToLeft text k a da ts e d r

pub left_init : {text : List ℕ} {k : ℕ} {a : Expr} {da : ℕ} {ts : List Token} → LeftSoFar text k a da ts a da ts
left_init = record { forth = λ e d r x. x; back = λ e d r x. x }

left_in : {text : List ℕ} {n k : ℕ} {o : Joint} {a e : Expr} {da d : ℕ} {ts r : List Token} → n ≡ suc k → operator_at n ts ≡ Some o → LevelBy text k true (Some o) ts a da e d r → ToLeft text k a da ts e d r
left_in {text} {n} {k} {o} {a} {e} {da} {d} {ts} {r} q f x =
    subst (λ o. LevelBy text k true o ts a da e d r) (sym (ap (λ n. operator_at n ts) (sym q) ∙ f)) x

left_of : {text : List ℕ} {n k : ℕ} {o : Joint} {a e : Expr} {da d : ℕ} {ts r : List Token} → n ≡ suc k → operator_at n ts ≡ Some o → ToLeft text k a da ts e d r → LevelBy text k true (Some o) ts a da e d r
left_of {text} {n} {k} {o} {a} {e} {da} {d} {ts} {r} q f x =
    subst (λ o. LevelBy text k true o ts a da e d r) (ap (λ n. operator_at n ts) (sym q) ∙ f) x

step_forth : {text : List ℕ} {k : ℕ} {o : Joint} {a c e : Expr} {da dc d : ℕ} {ts us r : List Token} → Infix text k o a da ts c dc us → ToLeft text k c dc us e d r → LevelBy text k true (Some o) ts a da e d r
step_forth (infix_of x) y = to_left x y

step_back : {text : List ℕ} {k : ℕ} {o : Joint} {a c e : Expr} {da dc d : ℕ} {ts us r : List Token} → Infix text k o a da ts c dc us → LevelBy text k true (Some o) ts a da e d r → ToLeft text k c dc us e d r
step_back {text} {k} {o} {a} {e = e} {da} {d = d} {r = r} (infix_of x) (to_left z y) =
    moved (λ b db vs. LevelBy text k true (operator_at (suc k) vs) vs (joined o a b) (max da db + 1) e d r) (same x z) y

pub left_step : {text : List ℕ} {n k : ℕ} {o : Joint} {first a c : Expr} {depth da dc left : ℕ} {start ts us : List Token} → n ≡ suc k → operator_at n ts ≡ Some o → LeftSoFar text k first depth start a da ts → IsRead (Infix text k o a da ts) left c dc us → LeftSoFar text k first depth start c dc us
left_step q f i x = record {
  forth = λ e d r y. i.forth e d r (left_in q f (step_forth x.reads y));
  back = λ e d r y. step_back x.reads (left_of q f (i.back e d r y));
}

pub no_some : {A : Type 0} (o : Option A) → ((x : A) → o ≡ Some x → ⊥) → o ≡ None
no_some None n = refl
no_some (Some x) n = absurd (n x refl)

pub left_done : {text : List ℕ} {n k : ℕ} {first a : Expr} {depth da left : ℕ} {start ts : List Token} → n ≡ suc k → operator_at n ts ≡ None → LeftSoFar text k first depth start a da ts → da ≤ left → IsRead (LevelBy text k true (operator_at (suc k) start) start first depth) left a da ts
left_done {text} {n} {k} {a = a} {da = da} {ts = ts} q f i h = record {
  reads = i.forth a da ts (subst (λ o. LevelBy text k true o ts a da a da ts) (sym (ap (λ n. operator_at n ts) (sym q) ∙ f)) no_operator);
  small = h;
}

pub left_deep : {text : List ℕ} {n k : ℕ} {o : Joint} {first a : Expr} {depth da left : ℕ} {start ts : List Token} → n ≡ suc k → operator_at n ts ≡ Some o → LeftSoFar text k first depth start a da ts → AreDeep (Infix text k o a da ts) left → AreDeep (LevelBy text k true (operator_at (suc k) start) start first depth) left
left_deep {text} {n} {k} {o} {a = a} {da = da} {ts = ts} q f i h = deep_along (λ e d r x. inner (left_of q f (i.back e d r x))) h
  where
    inner : {e : Expr} {d : ℕ} {r : List Token} → LevelBy text k true (Some o) ts a da e d r → Along (Infix text k o a da ts) d
    inner (to_left x y) = let m = level_grows y in along _ _ _ (infix_of x) (omega arith)

-- one field or index

drop_two : (ts : List Token) → drop 2 ts ≡ drop 1 (drop 1 ts)
drop_two [] = refl
drop_two (t ∷ ts) = refl

pub is_index : (s : Suffix) → s ≢ S.Nothing → s ≢ S.Field → s ≡ S.Index
is_index S.Nothing n m = absurd (n refl)
is_index S.Field n m = absurd (m refl)
is_index S.Index n m = refl

pub suffix_read : {text : List ℕ} {l s : Suffix} {ts r : List Token} {f g h : Found Expr} {left : ℕ} → s ≡ l → g ≡ f → IsRead (OneSuffix text g.tree g.depth l ts) left h.tree h.depth r → IsRead (OneSuffix text f.tree f.depth s ts) left h.tree h.depth r
suffix_read {text} {l} {s} {ts} {r} {f} {g} {h} {left} q e i =
    subst (λ (f : Found Expr). IsRead (OneSuffix text f.tree f.depth s ts) left h.tree h.depth r) e
    (subst (λ (l : Suffix). IsRead (OneSuffix text g.tree g.depth l ts) left h.tree h.depth r) (sym q) i)

pub suffix_deep : {text : List ℕ} {l s : Suffix} {ts : List Token} {f g : Found Expr} {left : ℕ} → s ≡ l → g ≡ f → AreDeep (OneSuffix text g.tree g.depth l ts) left → AreDeep (OneSuffix text f.tree f.depth s ts) left
suffix_deep {text} {l} {s} {ts} {f} {g} {left} q e i =
    subst (λ (f : Found Expr). AreDeep (OneSuffix text f.tree f.depth s ts) left) e
    (subst (λ (l : Suffix). AreDeep (OneSuffix text g.tree g.depth l ts) left) (sym q) i)

pub field_missing : {text : List ℕ} {s : Suffix} {ts : List Token} {f g : Found Expr} {left : ℕ} → s ≡ S.Field → g ≡ f → (front ts ≡ F.Dot → front (drop 1 ts) ≡ F.Lower → ⊥) → AreDeep (OneSuffix text f.tree f.depth s ts) left
field_missing q e n = suffix_deep q e (field_none n)

pub field_there : {text : List ℕ} {s : Suffix} {ts r : List Token} {f g h : Found Expr} {left : ℕ} → s ≡ S.Field → g ≡ f → g.depth < left → front ts ≡ F.Dot → front (drop 1 ts) ≡ F.Lower → r ≡ drop 1 (drop 1 ts) → h.tree ≡ node (start_of g.tree) (first_span (drop 1 ts)).end (E.Field g.tree (first_span (drop 1 ts))) → h.depth ≡ g.depth + 1 → IsRead (OneSuffix text f.tree f.depth s ts) left h.tree h.depth r
field_there q e m d l p t k = suffix_read q e (field_found d l p t k m)

pub index_too_deep : {text : List ℕ} {ts vs : List Token} {a : Expr} {da left below : ℕ} → vs ≡ drop 2 ts → left ≤ below + 1 → AreDeep (Reads text seq vs) below → AreDeep (OneSuffix text a da S.Index ts) left
index_too_deep {ts = ts} p b h = index_deep refl (p ∙ drop_two ts) b h

pub index_open : {text : List ℕ} {ts vs ws : List Token} {a i : Expr} {da di left : ℕ} → vs ≡ drop 2 ts → Reads text seq vs i di ws → front ws ≢ F.CloseBracket → AreDeep (OneSuffix text a da S.Index ts) left
index_open {ts = ts} p x n = index_not_closed refl (p ∙ drop_two ts) x n

pub index_found : {text : List ℕ} {ts vs ws r : List Token} {a i e : Expr} {da di d left : ℕ} → vs ≡ drop 2 ts → da < left → IsRead (Reads text seq vs) (left - 1) i di ws → front ws ≡ F.CloseBracket → r ≡ drop 1 ws → e ≡ node (start_of a) (first_span ws).end (E.Index a i) → d ≡ max da di + 1 → IsRead (OneSuffix text a da S.Index ts) left e d r
index_found {ts = ts} p m x s q t d = index_read refl (p ∙ drop_two ts) (omega arith) m x (takes s q) t d

-- the loop of a list of expressions

pub list_begins : {text : List ℕ} {q : ListKind} {ts : List Token} {xs : List Expr} {d : ℕ} → xs ≡ [] → d ≡ 0 → ListSoFar text (exprs q) ts xs d ts
list_begins {text} {q} {ts} {xs} {d} p e =
    subst (λ (xs : List Expr). ListSoFar text (exprs q) ts xs d ts) (sym p)
    (subst (λ (d : ℕ). ListSoFar text (exprs q) ts [] d ts) (sym e) list_init)

pub part_too_deep : {text : List ℕ} {q : ListKind} {start ts : List Token} {done : List Expr} {depth left : ℕ} → ListSoFar text (exprs q) start done depth ts → AreDeep (Reads text (part_of q) ts) left → AreDeep (Lists text (exprs q) start) left
part_too_deep i h = list_deep i (expression_deep h)

pub part_goes : {text : List ℕ} {q : ListKind} {start ts us vs : List Token} {b : Bool} {done xs : List Expr} {e : Expr} {depth de d left : ℕ} → ListSoFar text (exprs q) start done depth ts → IsRead (Reads text (part_of q) ts) left e de us → b ≡ goes_on q us → b ≡ true → vs ≡ (if b then next q us else behind q us) → xs ≡ done ++ (e ∷ []) → d ≡ max depth de → ListSoFar text (exprs q) start xs d vs
part_goes {text} {q} i x g b p t d = list_goes {k = exprs q} i (expression_read x) (sym g ∙ b) (then_place _ b p) t d

pub part_last : {text : List ℕ} {q : ListKind} {start ts us r : List Token} {b : Bool} {done xs : List Expr} {e : Expr} {depth de d left : ℕ} → ListSoFar text (exprs q) start done depth ts → depth ≤ left → IsRead (Reads text (part_of q) ts) left e de us → b ≡ goes_on q us → b ≡ false → r ≡ (if b then next q us else behind q us) → xs ≡ done ++ (e ∷ []) → d ≡ max depth de → IsRead (Lists text (exprs q) start) left xs d r
part_last {text} {q} i l x g b p t d = list_read {k = exprs q} i l (expression_read x) (sym g ∙ b) (else_place _ b p) t d

pub part_shorter : {text : List ℕ} (q : ListKind) {ts us vs : List Token} {b : Bool} {e : Expr} {d left : ℕ} → IsRead (Reads text (part_of q) ts) left e d us → b ≡ true → vs ≡ (if b then next q us else behind q us) → length vs < length ts
part_shorter q {us = us} x b p =
    let i = item_shorter (an_expression x.reads) in
    let j = to_next_rest (exprs q) us in
    let k = ap length (then_place _ b p) in
    omega arith

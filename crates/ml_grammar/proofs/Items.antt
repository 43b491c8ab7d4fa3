-- Lists and what they hold: where one of them is refused, and that it is found.
use Rattle.std.proofs.Common.{◌≡◌, ◌≢◌, ℕ, ◌+◌, ◌<◌, ◌≤◌, max, true, false, List, [], ◌∷◌, ◌++◌, drop, Option, Some, None, refl, subst, ap, sym, ◌∙◌, arith}
use Rattle.oxml_base.specs.declared.span.Span.{Span}
use Rattle.ml_lexer.specs.declared.token.Token.{Token}
use Rattle.ml_cursor.specs.declared.front.Front.{Front}
use Rattle.ml_cursor.specs.declared.front.Front.TheVariants as F
use Rattle.ml_cursor.specs.Fronts.{front}
use Rattle.ml_cursor.specs.Places.{first_span, Takes}
use Rattle.ml_tree.specs.declared.pattern.Pat.{Pat}
use Rattle.ml_tree.specs.declared.pattern.Param.{Param}
use Rattle.ml_tree.specs.declared.types.TyExpr.{TyExpr}
use Rattle.ml_tree.specs.declared.expr.Expr.{Expr}
use Rattle.ml_tree.specs.declared.expr.Arm.{Arm}
use Rattle.ml_tree.specs.declared.expr.Bind.{Bind}
use Rattle.ml_tree.specs.declared.expr.FieldExpr.{FieldExpr}
use Rattle.ml_grammar.specs.declared.looks.ListKind.{ListKind}
use Rattle.ml_grammar.specs.Looks.{goes_on, next, behind, is_else, is_colon, binds_function}
use Rattle.ml_grammar.specs.Trees.{arm, bind, field, gathered, name_pattern, pun}
use Rattle.ml_parse_patterns.specs.Patterns.{ReadsParams}
use Rattle.ml_grammar.specs.Grammar.{Kind, ItemOf, exprs, fields, arms, binds, part_of, listed, tuple, seq, more, ReadsPattern, to_next, past, HasType, ResultBy, TargetBy, Reads, ListedBy, ElseBy, GuardBy, Lists, ItemBy, a_list_of, alone, several, the_last, one_more, an_expression, a_set_field, a_pun, an_arm, a_bind, no_else, an_else, no_guard, a_guard, function_target, pattern_target, no_result, result}
use Rattle.ml_grammar.specs.Readings.{IsRead, AreDeep, Until, until, Results, results, Values, values, Actions, actions, Branches, branches, TargetsAreDeep}
use Rattle.ml_grammar.proofs.Deep.{Inside, inside, Along, along, deep_inside, deep_along, never, read_as, deep_at}
use Rattle.ml_grammar.proofs.Growth.{listed_grows}
use Rattle.ml_grammar.proofs.Unique.{Same, same, same_item, same_guard, same_result, same_target, one_pattern, moved}

true-false : {P : Type 0} → true ≡ false → P
true-false q = cc

-- one part, or several as one expression

listed_of : {text : List ℕ} {q : ListKind} {ts us : List Token} {a : Expr} {da : ℕ} → Reads text (part_of q) ts a da us → {e : Expr} {d : ℕ} {r : List Token} → Reads text (listed q) ts e d r → ListedBy text q (goes_on q us) us a da e d r
listed_of {text} {q} x (a_list_of {rest = r} {e = e} {d = d} z y) = moved (λ a da us. ListedBy text q (goes_on q us) us a da e d r) (same x z) y

pub listed_first_deep : {text : List ℕ} {q : ListKind} {ts : List Token} {left : ℕ} → AreDeep (Reads text (part_of q) ts) left → AreDeep (Reads text (listed q) ts) left
listed_first_deep {text} {q} {ts} h = deep_along (λ e d r x. inner x) h
  where
    inner : {e : Expr} {d : ℕ} {r : List Token} → Reads text (listed q) ts e d r → Along (Reads text (part_of q) ts) d
    inner (a_list_of z y) = along _ _ _ z (listed_grows y)

pub listed_alone : {text : List ℕ} {q : ListKind} {ts us r : List Token} {a : Expr} {da left : ℕ} → IsRead (Reads text (part_of q) ts) left a da us → goes_on q us ≡ false → r ≡ behind q us → IsRead (Reads text (listed q) ts) left a da r
listed_alone {text} {q} {ts} {us} {r} {a} {da} i g f =
    record { reads = a_list_of i.reads (subst (λ r. ListedBy text q (goes_on q us) us a da a da r) (sym f) (subst (λ b. ListedBy text q b us a da a da (behind q us)) (sym g) alone)); small = i.small }

several_deep : {text : List ℕ} {q : ListKind} {us r : List Token} {a e : Expr} {da d : ℕ} → ListedBy text q true us a da e d r → da < d
several_deep (several x) = omega arith

pub listed_no_room : {text : List ℕ} {q : ListKind} {ts us : List Token} {a : Expr} {da left : ℕ} → Reads text (part_of q) ts a da us → goes_on q us ≡ true → left ≤ da → AreDeep (Reads text (listed q) ts) left
listed_no_room {text} {q} {ts} {us} {a} {da} x g h = record {
  deep = λ e d r y.
      let i = several_deep (subst (λ b. ListedBy text q b us a da e d r) g (listed_of x y)) in
      omega arith;
}

several_inside : {text : List ℕ} {q : ListKind} {us r : List Token} {a e : Expr} {da d : ℕ} → ListedBy text q true us a da e d r → Inside (Lists text (exprs q) (next q us)) d
several_inside (several x) = inside _ _ _ x (omega arith)

pub listed_deep : {text : List ℕ} {q : ListKind} {ts us vs : List Token} {a : Expr} {da left below : ℕ} → Reads text (part_of q) ts a da us → goes_on q us ≡ true → vs ≡ next q us → left ≤ below + 1 → AreDeep (Lists text (exprs q) vs) below → AreDeep (Reads text (listed q) ts) left
listed_deep {text} {q} {ts} {us} {vs} {a} {da} x g f b h =
    deep_inside b (λ e d r y. several_inside (subst (λ b. ListedBy text q b us a da e d r) g (listed_of x y))) (deep_at (Lists text (exprs q)) f h)

pub listed_read : {text : List ℕ} {q : ListKind} {ts us vs r : List Token} {a e : Expr} {es : List Expr} {da c d left : ℕ} → Reads text (part_of q) ts a da us → goes_on q us ≡ true → vs ≡ next q us → Lists text (exprs q) vs es c r → e ≡ gathered q a es → d ≡ max da c + 1 → d ≤ left → IsRead (Reads text (listed q) ts) left e d r
listed_read {text} {q} {ts} {us} {vs} {r} {a} {e} {es} {da} {c} x g f y h k m =
    read_as r (a_list_of x (subst (λ b. ListedBy text q b us a da (gathered q a es) (max da c + 1) r) (sym g) (several (subst (λ vs. Lists text (exprs q) vs es c r) f y)))) h k m

-- lists read one by one: with the items read so far, what goes on is a list from the start

pub record ListSoFar (text : List ℕ) (k : Kind) (start : List Token) (done : List (ItemOf k)) (depth : ℕ) (ts : List Token) : Type 0 where
  pub forth : (xs : List (ItemOf k)) (d : ℕ) (r : List Token) → Lists text k ts xs d r → Lists text k start (done ++ xs) (max depth d) r
  pub back : (xs : List (ItemOf k)) (d : ℕ) (r : List Token) → Lists text k start xs d r → Along (Lists text k ts) d

pub list_init : {text : List ℕ} {k : Kind} {ts : List Token} → ListSoFar text k ts [] 0 ts
list_init {text} {k} {ts} = record {
  forth = λ xs d r x. subst (λ d. Lists text k ts xs d r) (let e : d ≡ max 0 d = omega arith in e) x;
  back = λ xs d r x. along xs d r x (omega arith);
}

append_one : {A : Type 0} (done : List A) (x : A) (xs : List A) → done ++ (x ∷ xs) ≡ (done ++ (x ∷ [])) ++ xs
append_one [] x xs = refl
append_one (y ∷ done) x xs = ap (λ zs. y ∷ zs) (append_one done x xs)

tail_of : {text : List ℕ} {k : Kind} {ts us : List Token} {x : ItemOf k} {dx : ℕ} → ItemBy text k ts x dx us → more k us ≡ true → {xs : List (ItemOf k)} {d : ℕ} {r : List Token} → Lists text k ts xs d r → Along (Lists text k (to_next k us)) d
tail_of {k = k} i m (the_last j n) = absurd (true-false (sym m ∙ (ap (more k) (sym (same_item i j).rest) ∙ n)))
tail_of {text} {k} i m (one_more {rest = r} {xs = xs} {d = d} j n y) =
    along xs d r (subst (λ us. Lists text k (to_next k us) xs d r) (same_item i j).rest y) (omega arith)

pub list_step : {text : List ℕ} {k : Kind} {start ts us vs : List Token} {done : List (ItemOf k)} {x : ItemOf k} {depth dx : ℕ} → ListSoFar text k start done depth ts → ItemBy text k ts x dx us → more k us ≡ true → vs ≡ to_next k us → ListSoFar text k start (done ++ (x ∷ [])) (max depth dx) vs
list_step {text} {k} {start} {ts} {us} {vs} {done} {x} {depth} {dx} i y m f = record {
  forth = λ xs d r z.
      subst (λ d. Lists text k start ((done ++ (x ∷ [])) ++ xs) d r) (let e : max depth (max dx d) ≡ max (max depth dx) d = omega arith in e)
      (subst (λ xs. Lists text k start xs (max depth (max dx d)) r) (append_one done x xs)
      (i.forth (x ∷ xs) (max dx d) r (one_more y m (subst (λ vs. Lists text k vs xs d r) f z))));
  back = λ xs d r z.
      let a = i.back xs d r z in
      let b = tail_of y m a.reads in
      let l = a.most in
      let n = b.most in
      along b.tree b.depth b.rest (subst (λ vs. Lists text k vs b.tree b.depth b.rest) (sym f) b.reads) (omega arith);
}

pub list_done : {text : List ℕ} {k : Kind} {start ts us r : List Token} {done : List (ItemOf k)} {x : ItemOf k} {depth dx : ℕ} → ListSoFar text k start done depth ts → ItemBy text k ts x dx us → more k us ≡ false → r ≡ past k us → Lists text k start (done ++ (x ∷ [])) (max depth dx) r
list_done {text} {k} {start} {ts} {us} {r} {done} {x} {depth} {dx} i y m f =
    subst (λ r. Lists text k start (done ++ (x ∷ [])) (max depth dx) r) (sym f) (i.forth (x ∷ []) dx (past k us) (the_last y m))

first_of_list : {text : List ℕ} {k : Kind} {ts r : List Token} {xs : List (ItemOf k)} {d : ℕ} → Lists text k ts xs d r → Along (ItemBy text k ts) d
first_of_list (the_last y m) = along _ _ _ y (omega arith)
first_of_list (one_more y m z) = along _ _ _ y (omega arith)

pub list_deep : {text : List ℕ} {k : Kind} {start ts : List Token} {done : List (ItemOf k)} {depth left : ℕ} → ListSoFar text k start done depth ts → AreDeep (ItemBy text k ts) left → AreDeep (Lists text k start) left
list_deep i h = deep_along (λ xs d r x. i.back xs d r x) (deep_along (λ xs d r x. first_of_list x) h)

-- expressions in lists

pub expression_read : {text : List ℕ} {q : ListKind} {ts r : List Token} {e : Expr} {d left : ℕ} → IsRead (Reads text (part_of q) ts) left e d r → IsRead (ItemBy text (exprs q) ts) left e d r
expression_read i = record { reads = an_expression i.reads; small = i.small }

pub expression_deep : {text : List ℕ} {q : ListKind} {ts : List Token} {left : ℕ} → AreDeep (Reads text (part_of q) ts) left → AreDeep (ItemBy text (exprs q) ts) left
expression_deep {text} {q} {ts} h = deep_along (λ e d r x. inner x) h
  where
    inner : {e : Expr} {d : ℕ} {r : List Token} → ItemBy text (exprs q) ts e d r → Along (Reads text (part_of q) ts) d
    inner (an_expression x) = along _ _ _ x (omega arith)

-- fields

pub field_no_name : {text : List ℕ} {ts : List Token} {left : ℕ} → front ts ≢ F.Lower → AreDeep (ItemBy text fields ts) left
field_no_name {text} {ts} n = never (λ y d r q. inner q)
  where
    inner : {y : FieldExpr} {d : ℕ} {r : List Token} → ItemBy text fields ts y d r → ⊥
    inner (a_set_field p q x) = n p
    inner (a_pun p q) = n p

pub pun_no_room : {text : List ℕ} {ts us : List Token} {s : Span} {left : ℕ} → Takes F.Lower ts us s → left ≡ 0 → front us ≢ F.Equal → AreDeep (ItemBy text fields ts) left
pun_no_room {text} {ts} {us} {s} {left} t e n = record { deep = λ y d r q. inner q }
  where
    inner : {y : FieldExpr} {d : ℕ} {r : List Token} → ItemBy text fields ts y d r → left < d
    inner (a_set_field p q x) = absurd (n (ap front t.rest_is ∙ q))
    inner (a_pun p q) = omega arith

pub pun_read : {text : List ℕ} {ts us : List Token} {s : Span} {f : FieldExpr} {d left : ℕ} → Takes F.Lower ts us s → front us ≢ F.Equal → f ≡ pun s → d ≡ 1 → 0 < left → IsRead (ItemBy text fields ts) left f d us
pun_read {text} {ts} {us} {s} t n h k p =
    read_as us (subst (λ us. ItemBy text fields ts (pun (first_span ts)) 1 us) (sym t.rest_is) (a_pun t.stands (λ q. n (ap front t.rest_is ∙ q)))) (h ∙ ap pun t.span_is) k (omega arith)

pub set_field_deep : {text : List ℕ} {ts us vs : List Token} {s : Span} {left : ℕ} → Takes F.Lower ts us s → front us ≡ F.Equal → vs ≡ drop 1 us → AreDeep (Reads text tuple vs) left → AreDeep (ItemBy text fields ts) left
set_field_deep {text} {ts} {us} {vs} t e f h = deep_along (λ y d r q. inner q) (deep_at (Reads text tuple) (f ∙ ap (drop 1) t.rest_is) h)
  where
    inner : {y : FieldExpr} {d : ℕ} {r : List Token} → ItemBy text fields ts y d r → Along (Reads text tuple (drop 1 (drop 1 ts))) d
    inner (a_set_field p q x) = along _ _ _ x (omega arith)
    inner (a_pun p q) = absurd (q (ap front (sym t.rest_is) ∙ e))

pub set_field_read : {text : List ℕ} {ts us vs r : List Token} {s : Span} {e : Expr} {f : FieldExpr} {c d left : ℕ} → Takes F.Lower ts us s → front us ≡ F.Equal → vs ≡ drop 1 us → IsRead (Reads text tuple vs) left e c r → f ≡ field s e → d ≡ c → IsRead (ItemBy text fields ts) left f d r
set_field_read {text} {ts} {us} {vs} {r} {s} {e} {f} {c} t p q i h k =
    let m = i.small in
    read_as r (a_set_field t.stands (ap front (sym t.rest_is) ∙ p) (subst (λ vs. Reads text tuple vs e c r) (q ∙ ap (drop 1) t.rest_is) i.reads)) (h ∙ ap (λ s. field s e) t.span_is) k (omega arith)

-- arms

pub guard_none : {text : List ℕ} {ts us : List Token} {left : ℕ} → front ts ≡ F.Arrow → us ≡ drop 1 ts → IsRead (GuardBy text (front ts) ts) left None 0 us
guard_none {text} {ts} {us} p e = record { reads = subst (λ f. GuardBy text f ts None 0 us) (sym p) (subst (λ us. GuardBy text F.Arrow ts None 0 us) (sym e) no_guard); small = omega arith }

pub guard_read : {text : List ℕ} {ts us r : List Token} {e : Expr} {d left : ℕ} → front ts ≡ F.When → us ≡ drop 1 ts → IsRead (Until text F.Arrow us) left e d r → IsRead (GuardBy text (front ts) ts) left (Some e) d r
guard_read {text} {ts} {us} {r} {e} {d} p q i = record { reads = subst (λ f. GuardBy text f ts (Some e) d r) (sym p) (inner (subst (λ us. Until text F.Arrow us e d r) q i.reads)); small = i.small }
  where
    inner : {r : List Token} → Until text F.Arrow (drop 1 ts) e d r → GuardBy text F.When ts (Some e) d r
    inner (until x q) = a_guard x q

guard_until : {text : List ℕ} {ts r : List Token} {g : Option Expr} {d : ℕ} → GuardBy text F.When ts g d r → Along (Until text F.Arrow (drop 1 ts)) d
guard_until (a_guard x p) = along _ _ _ (until x p) (omega arith)

pub guard_deep : {text : List ℕ} {ts us : List Token} {left : ℕ} → front ts ≡ F.When → us ≡ drop 1 ts → AreDeep (Until text F.Arrow us) left → AreDeep (GuardBy text (front ts) ts) left
guard_deep {text} {ts} {us} p e h = deep_along (λ g d r x. guard_until (subst (λ f. GuardBy text f ts g d r) p x)) (deep_at (Until text F.Arrow) e h)

guard_front : {text : List ℕ} {f : Front} {ts r : List Token} {g : Option Expr} {d : ℕ} {P : Type 0} → GuardBy text f ts g d r → (f ≡ F.Arrow → ⊥) → (f ≡ F.When → ⊥) → P
guard_front no_guard n m = absurd (n refl)
guard_front (a_guard x p) n m = absurd (m refl)

pub guard_neither : {text : List ℕ} {ts : List Token} {left : ℕ} → front ts ≢ F.When → front ts ≢ F.Arrow → AreDeep (GuardBy text (front ts) ts) left
guard_neither m n = never (λ g d r x. guard_front x n m)

pub action_deep : {text : List ℕ} {ts : List Token} {left : ℕ} → AreDeep (GuardBy text (front ts) ts) left → AreDeep (Actions text ts) left
action_deep {text} {ts} h = deep_along (λ y d r x. inner x) h
  where
    inner : {y : Option Expr × Expr} {d : ℕ} {r : List Token} → Actions text ts y d r → Along (GuardBy text (front ts) ts) d
    inner (actions x z) = along _ _ _ x (omega arith)

pub action_deep_behind : {text : List ℕ} {ts us : List Token} {g : Option Expr} {c left : ℕ} → GuardBy text (front ts) ts g c us → AreDeep (Reads text seq us) left → AreDeep (Actions text ts) left
action_deep_behind {text} {ts} {us} x h = deep_along (λ y d r z. inner z) h
  where
    inner : {y : Option Expr × Expr} {d : ℕ} {r : List Token} → Actions text ts y d r → Along (Reads text seq us) d
    inner (actions {rest = r} {b = b} {d = d} y z) = along b d r (subst (λ us. Reads text seq us b d r) (same_guard x y).rest z) (omega arith)

pub action_read : {text : List ℕ} {ts us r : List Token} {g : Option Expr} {b : Expr} {dg db d left : ℕ} → IsRead (GuardBy text (front ts) ts) left g dg us → IsRead (Reads text seq us) left b db r → d ≡ max dg db → IsRead (Actions text ts) left (g, b) d r
action_read {r = r} i j k = let m = i.small in let n = j.small in read_as r (actions i.reads j.reads) refl k (omega arith)

pub arm_deep : {text : List ℕ} {ts : List Token} {left : ℕ} → AreDeep (ReadsPattern text ts) left → AreDeep (ItemBy text arms ts) left
arm_deep {text} {ts} h = deep_along (λ y d r x. inner x) h
  where
    inner : {y : Arm} {d : ℕ} {r : List Token} → ItemBy text arms ts y d r → Along (ReadsPattern text ts) d
    inner (an_arm x g z) = along _ _ _ x (omega arith)

pub arm_deep_behind : {text : List ℕ} {ts us : List Token} {p : Pat} {c left : ℕ} → ReadsPattern text ts p c us → AreDeep (Actions text us) left → AreDeep (ItemBy text arms ts) left
arm_deep_behind {text} {ts} {us} x h = deep_along (λ y d r z. inner z) h
  where
    inner : {y : Arm} {d : ℕ} {r : List Token} → ItemBy text arms ts y d r → Along (Actions text us) d
    inner (an_arm {rest = r} {g = g} {b = b} {dg = dg} {d = d} y a z) =
        along (g, b) (max dg d) r (subst (λ us. Actions text us (g, b) (max dg d) r) (one_pattern x y).rest (actions a z)) (omega arith)

pub arm_read : {text : List ℕ} {ts us r : List Token} {p : Pat} {g : Option Expr} {b : Expr} {a : Arm} {dp db d left : ℕ} → IsRead (ReadsPattern text ts) left p dp us → IsRead (Actions text us) left (g, b) db r → a ≡ arm p g b → d ≡ max dp db → IsRead (ItemBy text arms ts) left a d r
arm_read {text} {ts} {us} {r} {p} {g} {b} {a} {dp} {db} i j h k =
    let m = i.small in
    let n = j.small in
    read_as r (inner j.reads) h k (omega arith)
  where
    inner : {g : Option Expr} {b : Expr} {db : ℕ} → Actions text us (g, b) db r → ItemBy text arms ts (arm p g b) (max dp db) r
    inner (actions x z) = an_arm i.reads x z

-- branches

pub else_none : {text : List ℕ} {ts : List Token} {left : ℕ} → is_else (front ts) ≡ false → IsRead (ElseBy text (is_else (front ts)) ts) left None 0 ts
else_none {text} {ts} e = record { reads = subst (λ b. ElseBy text b ts None 0 ts) (sym e) no_else; small = omega arith }

pub else_read : {text : List ℕ} {ts us r : List Token} {e : Expr} {d left : ℕ} → is_else (front ts) ≡ true → us ≡ drop 1 ts → IsRead (Reads text tuple us) left e d r → IsRead (ElseBy text (is_else (front ts)) ts) left (Some e) d r
else_read {text} {ts} {us} {r} {e} {d} p q i =
    record { reads = subst (λ b. ElseBy text b ts (Some e) d r) (sym p) (an_else (subst (λ us. Reads text tuple us e d r) q i.reads)); small = i.small }

else_branch : {text : List ℕ} {ts r : List Token} {o : Option Expr} {d : ℕ} → ElseBy text true ts o d r → Along (Reads text tuple (drop 1 ts)) d
else_branch (an_else x) = along _ _ _ x (omega arith)

pub else_deep : {text : List ℕ} {ts us : List Token} {left : ℕ} → is_else (front ts) ≡ true → us ≡ drop 1 ts → AreDeep (Reads text tuple us) left → AreDeep (ElseBy text (is_else (front ts)) ts) left
else_deep {text} {ts} {us} p e h = deep_along (λ o d r x. else_branch (subst (λ b. ElseBy text b ts o d r) p x)) (deep_at (Reads text tuple) e h)

pub branches_deep : {text : List ℕ} {ts : List Token} {left : ℕ} → AreDeep (Reads text tuple ts) left → AreDeep (Branches text ts) left
branches_deep {text} {ts} h = deep_along (λ y d r x. inner x) h
  where
    inner : {y : Expr × Option Expr} {d : ℕ} {r : List Token} → Branches text ts y d r → Along (Reads text tuple ts) d
    inner (branches x z) = along _ _ _ x (omega arith)

pub branches_deep_behind : {text : List ℕ} {ts us : List Token} {a : Expr} {c left : ℕ} → Reads text tuple ts a c us → AreDeep (ElseBy text (is_else (front us)) us) left → AreDeep (Branches text ts) left
branches_deep_behind {text} {ts} {us} x h = deep_along (λ y d r z. inner z) h
  where
    inner : {y : Expr × Option Expr} {d : ℕ} {r : List Token} → Branches text ts y d r → Along (ElseBy text (is_else (front us)) us) d
    inner (branches {rest = r} {o = o} {d = d} y z) = along o d r (subst (λ us. ElseBy text (is_else (front us)) us o d r) (same x y).rest z) (omega arith)

pub branches_read : {text : List ℕ} {ts us r : List Token} {a : Expr} {o : Option Expr} {da c d left : ℕ} → IsRead (Reads text tuple ts) left a da us → IsRead (ElseBy text (is_else (front us)) us) left o c r → d ≡ max da c → IsRead (Branches text ts) left (a, o) d r
branches_read {r = r} i j k = let m = i.small in let n = j.small in read_as r (branches i.reads j.reads) refl k (omega arith)

-- binds

pub result_none : {ts us : List Token} {s : Span} → is_colon (front ts) ≡ false → Takes F.Equal ts us s → Results ts None us
result_none {ts} {us} p t = subst (λ us. Results ts None us) (sym t.rest_is) (results (subst (λ b. ResultBy b ts None ts) (sym p) no_result) t.stands)

pub result_read : {ts us vs ws : List Token} {t : TyExpr} {s : Span} → is_colon (front ts) ≡ true → us ≡ drop 1 ts → HasType us t vs → Takes F.Equal vs ws s → Results ts (Some t) ws
result_read {ts} {us} {vs} {ws} {t} p e x k =
    subst (λ ws. Results ts (Some t) ws) (sym k.rest_is) (results (subst (λ b. ResultBy b ts (Some t) vs) (sym p) (result (subst (λ us. HasType us t vs) e x))) k.stands)

result_of_none : {ts r : List Token} {o : Option TyExpr} → ResultBy false ts o r → r ≡ ts
result_of_none no_result = refl

pub no_result_equal : {ts : List Token} → is_colon (front ts) ≡ false → front ts ≢ F.Equal → (t : Option TyExpr) (r : List Token) → Results ts t r → ⊥
no_result_equal {ts} p n t r x = inner x
  where
    inner : {t : Option TyExpr} {r : List Token} → Results ts t r → ⊥
    inner (results {us = us} {t = t} y q) = n (ap front (sym (result_of_none (subst (λ b. ResultBy b ts t us) p y))) ∙ q)

record TypeOf (ts : List Token) (r : List Token) : Type 0 where
  type : TyExpr
  reads : HasType (drop 1 ts) type r

result_of_some : {ts r : List Token} {o : Option TyExpr} → ResultBy true ts o r → TypeOf ts r
result_of_some (result {t = t} x) = record { type = t; reads = x }

pub result_no_type : {ts us : List Token} → is_colon (front ts) ≡ true → us ≡ drop 1 ts → ((t : TyExpr) (r : List Token) → HasType us t r → ⊥) → (t : Option TyExpr) (r : List Token) → Results ts t r → ⊥
result_no_type {ts} {us} p e n t r x = inner x
  where
    inner : {t : Option TyExpr} {r : List Token} → Results ts t r → ⊥
    inner (results {us = vs} {t = t} y q) =
        let w = result_of_some (subst (λ b. ResultBy b ts t vs) p y) in
        n w.type vs (subst (λ us. HasType us w.type vs) (sym e) w.reads)

pub result_not_equal : {ts us vs : List Token} {t : TyExpr} → is_colon (front ts) ≡ true → us ≡ drop 1 ts → HasType us t vs → front vs ≢ F.Equal → (t : Option TyExpr) (r : List Token) → Results ts t r → ⊥
result_not_equal {ts} {us} {vs} {t} p e x n o r y = inner y
  where
    first : ResultBy (is_colon (front ts)) ts (Some t) vs
    first = subst (λ b. ResultBy b ts (Some t) vs) (sym p) (result (subst (λ us. HasType us t vs) e x))

    inner : {o : Option TyExpr} {r : List Token} → Results ts o r → ⊥
    inner (results y q) = n (ap front (sym (same_result first y).rest) ∙ q)

same_results : {ts r s : List Token} {t u : Option TyExpr} → Results ts t r → Results ts u s → Same t u 0 0 r s
same_results (results x p) (results y q) = let i = same_result x y in record { tree = i.tree; depth = refl; rest = ap (drop 1) i.rest }

pub value_no_result : {text : List ℕ} {ts : List Token} {left : ℕ} → ((t : Option TyExpr) (r : List Token) → Results ts t r → ⊥) → AreDeep (Values text ts) left
value_no_result {text} {ts} n = never (λ y d r x. inner x)
  where
    inner : {y : Option TyExpr × Expr} {d : ℕ} {r : List Token} → Values text ts y d r → ⊥
    inner (values {us = us} {t = t} x z) = n t us x

pub value_deep : {text : List ℕ} {ts us : List Token} {t : Option TyExpr} {left : ℕ} → Results ts t us → AreDeep (Reads text seq us) left → AreDeep (Values text ts) left
value_deep {text} {ts} {us} x h = deep_along (λ y d r z. inner z) h
  where
    inner : {y : Option TyExpr × Expr} {d : ℕ} {r : List Token} → Values text ts y d r → Along (Reads text seq us) d
    inner (values {rest = r} {b = b} {d = d} y z) = along b d r (subst (λ us. Reads text seq us b d r) (same_results x y).rest z) (omega arith)

pub value_read : {text : List ℕ} {ts us r : List Token} {t : Option TyExpr} {b : Expr} {d left : ℕ} → Results ts t us → IsRead (Reads text seq us) left b d r → IsRead (Values text ts) left (t, b) d r
value_read x i = record { reads = values x i.reads; small = i.small }

pub function_target_read : {text : List ℕ} {ts us r : List Token} {s : Span} {p : Pat} {ps : List Param} {d : ℕ} → binds_function ts ≡ true → us ≡ drop 1 ts → s ≡ first_span ts → p ≡ name_pattern s → ReadsParams text us ps d r → TargetBy text (binds_function ts) ts p 1 ps d r
function_target_read {text} {ts} {us} {r} {s} {p} {ps} {d} b e f g x =
    subst (λ b. TargetBy text b ts p 1 ps d r) (sym b)
    (subst (λ p. TargetBy text true ts p 1 ps d r) (sym (g ∙ ap name_pattern f)) (function_target (subst (λ us. ReadsParams text us ps d r) e x)))

pub pattern_target_read : {text : List ℕ} {ts r : List Token} {p : Pat} {d : ℕ} → binds_function ts ≡ false → ReadsPattern text ts p d r → TargetBy text (binds_function ts) ts p d [] 0 r
pattern_target_read {text} {ts} {r} {p} {d} b x = subst (λ b. TargetBy text b ts p d [] 0 r) (sym b) (pattern_target x)

of_function : {text : List ℕ} {ts r : List Token} {p : Pat} {ps : List Param} {d c : ℕ} → TargetBy text true ts p d ps c r → (d ≡ 1) × ReadsParams text (drop 1 ts) ps c r
of_function (function_target x) = (refl, x)

of_pattern : {text : List ℕ} {ts r : List Token} {p : Pat} {ps : List Param} {d c : ℕ} → TargetBy text false ts p d ps c r → ReadsPattern text ts p d r
of_pattern (pattern_target x) = x

pub function_target_no_room : {text : List ℕ} {ts : List Token} {left : ℕ} → binds_function ts ≡ true → left ≡ 0 → TargetsAreDeep text ts left
function_target_no_room {text} {ts} b e = record { deep = λ p d ps c r x. let i = (of_function (subst (λ b. TargetBy text b ts p d ps c r) b x)).0 in omega arith }

pub function_target_deep : {text : List ℕ} {ts us : List Token} {left : ℕ} → binds_function ts ≡ true → us ≡ drop 1 ts → AreDeep (ReadsParams text us) left → TargetsAreDeep text ts left
function_target_deep {text} {ts} {us} b e h = record {
  deep = λ p d ps c r x.
      let i = (of_function (subst (λ b. TargetBy text b ts p d ps c r) b x)).1 in
      let k = h.deep ps c r (subst (λ us. ReadsParams text us ps c r) (sym e) i) in
      omega arith;
}

pub pattern_target_deep : {text : List ℕ} {ts : List Token} {left : ℕ} → binds_function ts ≡ false → AreDeep (ReadsPattern text ts) left → TargetsAreDeep text ts left
pattern_target_deep {text} {ts} b h = record {
  deep = λ p d ps c r x.
      let k = h.deep p d r (of_pattern (subst (λ b. TargetBy text b ts p d ps c r) b x)) in
      omega arith;
}

pub bind_deep : {text : List ℕ} {ts : List Token} {left : ℕ} → TargetsAreDeep text ts left → AreDeep (ItemBy text binds ts) left
bind_deep {text} {ts} {left} h = record { deep = λ y d r x. inner x }
  where
    inner : {y : Bind} {d : ℕ} {r : List Token} → ItemBy text binds ts y d r → left < d
    inner (a_bind {us = us} {p = p} {ps = ps} {dp = dp} {ds = ds} x t e z) = let k = h.deep p dp ps ds us x in omega arith

pub bind_deep_behind : {text : List ℕ} {ts us : List Token} {p : Pat} {ps : List Param} {dp ds left : ℕ} → TargetBy text (binds_function ts) ts p dp ps ds us → AreDeep (Values text us) left → AreDeep (ItemBy text binds ts) left
bind_deep_behind {text} {ts} {us} x h = deep_along (λ y d r z. inner z) h
  where
    inner : {y : Bind} {d : ℕ} {r : List Token} → ItemBy text binds ts y d r → Along (Values text us) d
    inner (a_bind {rest = r} {t = t} {b = b} {d = d} y u e z) =
        along (t, b) d r (subst (λ us. Values text us (t, b) d r) (same_target x y).rest (values (results u e) z)) (omega arith)

pub bind_read : {text : List ℕ} {ts us r : List Token} {p : Pat} {ps : List Param} {t : Option TyExpr} {b : Expr} {y : Bind} {dp ds db d left : ℕ} → TargetBy text (binds_function ts) ts p dp ps ds us → dp ≤ left → ds ≤ left → IsRead (Values text us) left (t, b) db r → y ≡ bind p ps t b → d ≡ max dp (max ds db) → IsRead (ItemBy text binds ts) left y d r
bind_read {text} {ts} {us} {r} {p} {ps} {t} {b} {y} {dp} {ds} {db} x m n i h k =
    let o = i.small in
    read_as r (inner i.reads) h k (omega arith)
  where
    inner : {t : Option TyExpr} {b : Expr} → Values text us (t, b) db r → ItemBy text binds ts (bind p ps t b) (max dp (max ds db)) r
    inner (values (results u e) z) = a_bind x u e z

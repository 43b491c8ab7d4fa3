-- Atoms and constructors with an argument: where one of them is refused, and that it is found.
use Rattle.std.proofs.Common.{◌≡◌, ◌≢◌, ℕ, ◌+◌, ◌<◌, ◌≤◌, max, false, List, [], ◌∷◌, drop, Some, None, refl, subst, ap, sym, ◌∙◌, arith}
use Rattle.std.specs.Prelude.{slice_get}
use Rattle.oxml_base.specs.declared.span.Span.{Span}
use Rattle.ml_lexer.specs.declared.token.Token.{Token}
use Rattle.ml_lexer.specs.declared.token.TokenKind.TheVariants.{Text}
use Rattle.ml_lexer.specs.Tokens.{IsLiteral}
use Rattle.ml_cursor.specs.declared.front.Front.{Front}
use Rattle.ml_cursor.specs.declared.front.Front.TheVariants as F
use Rattle.ml_cursor.specs.Fronts.{front}
use Rattle.ml_cursor.specs.Places.{first_span, Takes}
use Rattle.ml_tree.specs.declared.pattern.ConName.TheVariants.{Named}
use Rattle.ml_tree.specs.declared.expr.Expr.{Expr}
use Rattle.ml_tree.specs.declared.expr.FieldExpr.{FieldExpr}
use Rattle.ml_tree.specs.declared.expr.ExprKind.TheVariants as E
use Rattle.ml_grammar.specs.declared.looks.AtomLead.{AtomLead}
use Rattle.ml_grammar.specs.declared.looks.AtomLead.TheVariants as A
use Rattle.ml_grammar.specs.declared.looks.ListKind.TheVariants as Q
use Rattle.ml_grammar.specs.declared.looks.Joint.TheVariants.{Pair}
use Rattle.ml_grammar.specs.Looks.{atom_lead, groups_left, operator_at, operator, of_level}
use Rattle.ml_grammar.specs.Trees.{node, end_of, joined, leaf, width}
use Rattle.ml_grammar.specs.declared.looks.Leaf.{Leaf}
use Rattle.ml_grammar.specs.Grammar.{atom, simple, seq, operators, exprs, fields, Reads, AtomBy, ConBy, LevelBy, Lists, to_right, an_atom, a_leaf, a_text, a_paren, a_typed, a_begin, a_list, a_record, a_block, a_cell}
use Rattle.ml_grammar.specs.Readings.{IsRead, AreDeep, Levels, ClosesParens, closes_paren, closes_typed}
use Rattle.ml_grammar.proofs.Deep.{Inside, inside, deep_inside, never, read_as, deep_at}
use Rattle.ml_grammar.proofs.Growth.{atom_positive, con_positive}
use Rattle.ml_grammar.proofs.Unique.{same, same_list, same_level, moved}

pub no_room : {text : List ℕ} {l : AtomLead} {ts : List Token} {left : ℕ} → left ≡ 0 → AreDeep (AtomBy text l ts) left
no_room e = record { deep = λ y d r q. let i = atom_positive q in omega arith }

pub no_con_room : {text : List ℕ} {f : Front} {ts : List Token} {left : ℕ} → left ≡ 0 → AreDeep (ConBy text f ts) left
no_con_room e = record { deep = λ y d r q. let i = con_positive q in omega arith }

none-some : {A : Type 0} {x : A} {P : Type 0} → None ≡ Some x → P
none-some q = cc

some-some : {A : Type 0} {x y : A} → Some x ≡ Some y → x ≡ y
some-some q = cc

-- by the lead

pub atom_read : {text : List ℕ} {l : AtomLead} {ts r : List Token} {e : Expr} {d left : ℕ} → l ≡ atom_lead ts → IsRead (AtomBy text l ts) left e d r → IsRead (Reads text atom ts) left e d r
atom_read {text} {l} {ts} {r} {e} {d} q i = record { reads = an_atom (subst (λ l. AtomBy text l ts e d r) q i.reads); small = i.small }

pub atom_deep : {text : List ℕ} {l : AtomLead} {ts : List Token} {left : ℕ} → l ≡ atom_lead ts → AreDeep (AtomBy text l ts) left → AreDeep (Reads text atom ts) left
atom_deep {text} {l} {ts} {left} q i = record { deep = λ e d r x. by_lead x }
  where
    by_lead : {e : Expr} {d : ℕ} {r : List Token} → Reads text atom ts e d r → left < d
    by_lead (an_atom {rest = r} {e = e} {d = d} x) = i.deep e d r (subst (λ l. AtomBy text l ts e d r) (sym q) x)

pub no_atom : {text : List ℕ} {ts : List Token} {left : ℕ} → AreDeep (AtomBy text A.Nothing ts) left
no_atom {text} {ts} = never (λ y d r q. inner q)
  where
    inner : {y : Expr} {d : ℕ} {r : List Token} → AtomBy text A.Nothing ts y d r → ⊥
    inner q = elim q [ ]

-- paren

pub paren_deep : {text : List ℕ} {ts us : List Token} {left below : ℕ} → us ≡ drop 1 ts → left ≤ below + 1 → AreDeep (Reads text seq us) below → AreDeep (AtomBy text A.Paren ts) left
paren_deep {text} {ts} e b h = deep_inside b (λ y d r q. inner q) (deep_at (λ us. Reads text seq us) e h)
  where
    inner : {y : Expr} {d : ℕ} {r : List Token} → AtomBy text A.Paren ts y d r → Inside (Reads text seq (drop 1 ts)) d
    inner (a_paren x p) = inside _ _ _ x (omega arith)
    inner (a_typed x p t q) = inside _ _ _ x (omega arith)

pub paren_not_closed : {text : List ℕ} {ts us vs : List Token} {x : Expr} {c from left : ℕ} → us ≡ drop 1 ts → Reads text seq us x c vs → ((e : Expr) (r : List Token) → ClosesParens from x vs e r → ⊥) → AreDeep (AtomBy text A.Paren ts) left
paren_not_closed {text} {ts} {us} {vs} {x} {c} {from} e f n = never (λ y d r q. inner q)
  where
    first : Reads text seq (drop 1 ts) x c vs
    first = subst (λ us. Reads text seq us x c vs) e f

    inner : {y : Expr} {d : ℕ} {r : List Token} → AtomBy text A.Paren ts y d r → ⊥
    inner (a_paren {rest = r} {s = s} z p) = n _ r (closes_paren (subst (λ us. Takes F.CloseParen us r s) (same first z).rest p))
    inner (a_typed {vs = vs'} {rest = r} {c = c'} z p t q) = n _ r (closes_typed (subst (λ us. Takes F.Colon us vs' c') (same first z).rest p) t q)

pub paren_read : {text : List ℕ} {ts us vs r : List Token} {s : Span} {x e : Expr} {c d left below : ℕ} → us ≡ drop 1 ts → s ≡ first_span ts → below < left → IsRead (Reads text seq us) below x c vs → ClosesParens s.start x vs e r → d ≡ c + 1 → IsRead (AtomBy text A.Paren ts) left e d r
paren_read {text} {ts} {us} {vs} {r} {s} {x} {e} {c} {d} {left} f g b i t k =
    let m = i.small in
    read_as r (made (subst (λ us. Reads text seq us x c vs) f i.reads) (subst (λ s. ClosesParens s.start x vs e r) g t)) refl k (omega arith)
  where
    made : {e : Expr} → Reads text seq (drop 1 ts) x c vs → ClosesParens (first_span ts).start x vs e r → AtomBy text A.Paren ts e (c + 1) r
    made z (closes_paren p) = a_paren z p
    made z (closes_typed p t q) = a_typed z p t q

-- begin

pub begin_deep : {text : List ℕ} {ts us : List Token} {left below : ℕ} → us ≡ drop 1 ts → left ≤ below + 1 → AreDeep (Reads text seq us) below → AreDeep (AtomBy text A.Begin ts) left
begin_deep {text} {ts} e b h = deep_inside b (λ y d r q. inner q) (deep_at (λ us. Reads text seq us) e h)
  where
    inner : {y : Expr} {d : ℕ} {r : List Token} → AtomBy text A.Begin ts y d r → Inside (Reads text seq (drop 1 ts)) d
    inner (a_begin x p) = inside _ _ _ x (omega arith)

pub begin_not_closed : {text : List ℕ} {ts us vs : List Token} {x : Expr} {c left : ℕ} → us ≡ drop 1 ts → Reads text seq us x c vs → front vs ≢ F.End → AreDeep (AtomBy text A.Begin ts) left
begin_not_closed {text} {ts} {us} {vs} {x} {c} e f n = never (λ y d r q. inner q)
  where
    first : Reads text seq (drop 1 ts) x c vs
    first = subst (λ us. Reads text seq us x c vs) e f

    inner : {y : Expr} {d : ℕ} {r : List Token} → AtomBy text A.Begin ts y d r → ⊥
    inner (a_begin z p) = n (ap front (sym (same first z).rest) ∙ p.stands)

pub begin_read : {text : List ℕ} {ts us vs r : List Token} {s w : Span} {x : Expr} {e : Expr} {c d left below : ℕ} → us ≡ drop 1 ts → s ≡ first_span ts → below < left → IsRead (Reads text seq us) below x c vs → Takes F.End vs r w → e ≡ node s.start w.end (E.Paren x) → d ≡ c + 1 → IsRead (AtomBy text A.Begin ts) left e d r
begin_read {text} {ts} {us} {vs} {r} {w = w} {x = x} {c = c} {left = left} f g b i t h k =
    let m = i.small in
    read_as r (a_begin (subst (λ us. Reads text seq us x c vs) f i.reads) t) (h ∙ ap (λ s. node s.start w.end (E.Paren x)) g) k (omega arith)

-- list

pub list_deep : {text : List ℕ} {ts us : List Token} {left below : ℕ} → us ≡ drop 1 ts → left ≤ below + 1 → AreDeep (Lists text (exprs Q.Elements) us) below → AreDeep (AtomBy text A.List ts) left
list_deep {text} {ts} e b h = deep_inside b (λ y d r q. inner q) (deep_at (λ us. Lists text (exprs Q.Elements) us) e h)
  where
    inner : {y : Expr} {d : ℕ} {r : List Token} → AtomBy text A.List ts y d r → Inside (Lists text (exprs Q.Elements) (drop 1 ts)) d
    inner (a_list x p) = inside _ _ _ x (omega arith)

pub list_not_closed : {text : List ℕ} {ts us vs : List Token} {x : List Expr} {c left : ℕ} → us ≡ drop 1 ts → Lists text (exprs Q.Elements) us x c vs → front vs ≢ F.CloseBracket → AreDeep (AtomBy text A.List ts) left
list_not_closed {text} {ts} {us} {vs} {x} {c} e f n = never (λ y d r q. inner q)
  where
    first : Lists text (exprs Q.Elements) (drop 1 ts) x c vs
    first = subst (λ us. Lists text (exprs Q.Elements) us x c vs) e f

    inner : {y : Expr} {d : ℕ} {r : List Token} → AtomBy text A.List ts y d r → ⊥
    inner (a_list z p) = n (ap front (sym (same_list first z).rest) ∙ p.stands)

pub list_read : {text : List ℕ} {ts us vs r : List Token} {s w : Span} {x : List Expr} {e : Expr} {c d left below : ℕ} → us ≡ drop 1 ts → s ≡ first_span ts → below < left → IsRead (Lists text (exprs Q.Elements) us) below x c vs → Takes F.CloseBracket vs r w → e ≡ node s.start w.end (E.List x) → d ≡ c + 1 → IsRead (AtomBy text A.List ts) left e d r
list_read {text} {ts} {us} {vs} {r} {w = w} {x = x} {c = c} {left = left} f g b i t h k =
    let m = i.small in
    read_as r (a_list (subst (λ us. Lists text (exprs Q.Elements) us x c vs) f i.reads) t) (h ∙ ap (λ s. node s.start w.end (E.List x)) g) k (omega arith)

-- fields

pub fields_deep : {text : List ℕ} {ts us : List Token} {left below : ℕ} → us ≡ drop 1 ts → left ≤ below + 1 → AreDeep (Lists text fields us) below → AreDeep (AtomBy text A.Record ts) left
fields_deep {text} {ts} e b h = deep_inside b (λ y d r q. inner q) (deep_at (λ us. Lists text fields us) e h)
  where
    inner : {y : Expr} {d : ℕ} {r : List Token} → AtomBy text A.Record ts y d r → Inside (Lists text fields (drop 1 ts)) d
    inner (a_record x p) = inside _ _ _ x (omega arith)

pub fields_not_closed : {text : List ℕ} {ts us vs : List Token} {x : List FieldExpr} {c left : ℕ} → us ≡ drop 1 ts → Lists text fields us x c vs → front vs ≢ F.CloseBrace → AreDeep (AtomBy text A.Record ts) left
fields_not_closed {text} {ts} {us} {vs} {x} {c} e f n = never (λ y d r q. inner q)
  where
    first : Lists text fields (drop 1 ts) x c vs
    first = subst (λ us. Lists text fields us x c vs) e f

    inner : {y : Expr} {d : ℕ} {r : List Token} → AtomBy text A.Record ts y d r → ⊥
    inner (a_record z p) = n (ap front (sym (same_list first z).rest) ∙ p.stands)

pub fields_read : {text : List ℕ} {ts us vs r : List Token} {s w : Span} {x : List FieldExpr} {e : Expr} {c d left below : ℕ} → us ≡ drop 1 ts → s ≡ first_span ts → below < left → IsRead (Lists text fields us) below x c vs → Takes F.CloseBrace vs r w → e ≡ node s.start w.end (E.Fields x) → d ≡ c + 1 → IsRead (AtomBy text A.Record ts) left e d r
fields_read {text} {ts} {us} {vs} {r} {w = w} {x = x} {c = c} {left = left} f g b i t h k =
    let m = i.small in
    read_as r (a_record (subst (λ us. Lists text fields us x c vs) f i.reads) t) (h ∙ ap (λ s. node s.start w.end (E.Fields x)) g) k (omega arith)

-- leaves and texts

pub leaf_read : {text : List ℕ} {l : Leaf} {ts r : List Token} {e : Expr} {d left : ℕ} → r ≡ drop (width l) ts → e ≡ leaf l ts → d ≡ 1 → 0 < left → IsRead (AtomBy text (A.Leaf l) ts) left e d r
leaf_read {text} {l} {ts} {r} {e} {d} f h k p = read_as r (subst (λ r. AtomBy text (A.Leaf l) ts (leaf l ts) 1 r) (sym f) a_leaf) h k (omega arith)

pub text_read : {text : List ℕ} {t : Token} {ts r : List Token} {bytes : List ℕ} {e : Expr} {d left : ℕ} → slice_get ts 0 ≡ Some t → t.kind ≡ Text → r ≡ drop 1 ts → IsLiteral text t bytes → e ≡ node t.span.start t.span.end (E.Text (record { bytes = bytes })) → d ≡ 1 → 0 < left → IsRead (AtomBy text A.Text ts) left e d r
text_read {text} {t} {ts} {r} {bytes} {e} {d} f v g i h k p = read_as r (subst (λ r. AtomBy text A.Text ts (node t.span.start t.span.end (E.Text (record { bytes = bytes }))) 1 r) (sym g) (made ts f)) h k (omega arith)
  where
    made : (ts : List Token) → slice_get ts 0 ≡ Some t → AtomBy text A.Text ts (node t.span.start t.span.end (E.Text (record { bytes = bytes }))) 1 (drop 1 ts)
    made [] q = none-some q
    made (u ∷ us) q = subst (λ v. AtomBy text A.Text (v ∷ us) (node t.span.start t.span.end (E.Text (record { bytes = bytes }))) 1 us) (sym (some-some q)) (a_text v i)

text_token : {text : List ℕ} {ts r : List Token} {e : Expr} {d : ℕ} {t : Token} → AtomBy text A.Text ts e d r → slice_get ts 0 ≡ Some t → t.kind ≡ Text
text_token (a_text p x) q = ap (λ (t : Token). t.kind) (sym (some-some q)) ∙ p

pub text_no_token : {text : List ℕ} {ts : List Token} {left : ℕ} → slice_get ts 0 ≡ None → AreDeep (AtomBy text A.Text ts) left
text_no_token {text} {ts} e = never (λ y d r q. inner q e)
  where
    inner : {ts : List Token} {y : Expr} {d : ℕ} {r : List Token} → AtomBy text A.Text ts y d r → slice_get ts 0 ≡ None → ⊥
    inner (a_text p x) q = none-some (sym q)

pub text_other_kind : {text : List ℕ} {ts : List Token} {t : Token} {left : ℕ} → slice_get ts 0 ≡ Some t → t.kind ≢ Text → AreDeep (AtomBy text A.Text ts) left
text_other_kind e n = never (λ y d r q. n (text_token q e))

-- constructors with an argument

pub block_deep : {text : List ℕ} {ts us : List Token} {left below : ℕ} → us ≡ drop 1 ts → left ≤ below + 1 → AreDeep (Reads text simple us) below → AreDeep (ConBy text F.Upper ts) left
block_deep {text} {ts} e b h = deep_inside b (λ y d r q. inner q) (deep_at (Reads text simple) e h)
  where
    inner : {y : Expr} {d : ℕ} {r : List Token} → ConBy text F.Upper ts y d r → Inside (Reads text simple (drop 1 ts)) d
    inner (a_block x) = inside _ _ _ x (omega arith)

pub block_read : {text : List ℕ} {ts us r : List Token} {s : Span} {x e : Expr} {c d left below : ℕ} → us ≡ drop 1 ts → s ≡ first_span ts → below < left → IsRead (Reads text simple us) below x c r → e ≡ node s.start (end_of x) (E.Con (Named s) (Some x)) → d ≡ c + 1 → IsRead (ConBy text F.Upper ts) left e d r
block_read {text} {ts} {us} {r} {s} {x} {e} {c} {d} {left} f g b i h k =
    let m = i.small in
    read_as r (a_block (subst (λ us. Reads text simple us x c r) f i.reads)) (h ∙ ap (λ s. node s.start (end_of x) (E.Con (Named s) (Some x))) g) k (omega arith)

pub cell_deep : {text : List ℕ} {ts us : List Token} {left below : ℕ} → us ≡ drop 1 ts → left ≤ below + 1 → AreDeep (Reads text (operators 3) us) below → AreDeep (ConBy text F.OpenParen ts) left
cell_deep {text} {ts} e b h = deep_inside b (λ y d r q. inner q) (deep_at (Reads text (operators 3)) e h)
  where
    inner : {y : Expr} {d : ℕ} {r : List Token} → ConBy text F.OpenParen ts y d r → Inside (Reads text (operators 3) (drop 1 ts)) d
    inner (a_cell x p y q) = inside _ _ _ x (omega arith)

pub cell_no_pair : {text : List ℕ} {ts us vs : List Token} {x : Expr} {c left : ℕ} → us ≡ drop 1 ts → Reads text (operators 3) us x c vs → front vs ≢ F.ColonColon → AreDeep (ConBy text F.OpenParen ts) left
cell_no_pair {text} {ts} {us} {vs} {x} {c} e f n = never (λ y d r q. inner q)
  where
    first : Reads text (operators 3) (drop 1 ts) x c vs
    first = subst (λ us. Reads text (operators 3) us x c vs) e f

    inner : {y : Expr} {d : ℕ} {r : List Token} → ConBy text F.OpenParen ts y d r → ⊥
    inner (a_cell z p y q) = n (ap front (sym (same first z).rest) ∙ p)

pair_at : (vs : List Token) → front vs ≡ F.ColonColon → operator_at 4 vs ≡ Some Pair
unfolding operator_at
pair_at vs p = ap (λ f. of_level 4 (operator f)) p

four : groups_left 4 ≡ false
unfolding groups_left
four = refl

pair_level : {text : List ℕ} {vs r : List Token} {a b : Expr} {da db : ℕ} → front vs ≡ F.ColonColon → Reads text (operators 4) (drop 1 vs) b db r → Levels text 3 a da vs (joined Pair a b) (max da db + 1) r
pair_level {text} {vs} {r} {a} {b} {da} {db} p y =
    subst (λ g. LevelBy text 3 g (operator_at 4 vs) vs a da (joined Pair a b) (max da db + 1) r) (sym four)
    (subst (λ o. LevelBy text 3 false o vs a da (joined Pair a b) (max da db + 1) r) (sym (pair_at vs p)) (to_right y))

record Cell (text : List ℕ) (x : Expr) (c : ℕ) (vs : List Token) (w : Expr) (k : ℕ) (ws : List Token) : Type 0 where
  other : Expr
  depth : ℕ
  reads : Reads text (operators 4) (drop 1 vs) other depth ws
  tree : w ≡ joined Pair x other
  depth_is : k ≡ max c depth + 1

cells_of : {text : List ℕ} {x w : Expr} {c k : ℕ} {vs ws : List Token} → LevelBy text 3 false (Some Pair) vs x c w k ws → Cell text x c vs w k ws
cells_of (to_right y) = record { other = _; depth = _; reads = y; tree = refl; depth_is = refl }

cells : {text : List ℕ} {x w : Expr} {c k : ℕ} {vs ws : List Token} → front vs ≡ F.ColonColon → Levels text 3 x c vs w k ws → Cell text x c vs w k ws
cells {text} {x} {w} {c} {k} {vs} {ws} p y =
    cells_of (subst (λ o. LevelBy text 3 false o vs x c w k ws) (pair_at vs p) (subst (λ g. LevelBy text 3 g (operator_at 4 vs) vs x c w k ws) four y))

pub cell_deep_behind : {text : List ℕ} {ts us vs : List Token} {x : Expr} {c left below : ℕ} → us ≡ drop 1 ts → left ≤ below + 1 → Reads text (operators 3) us x c vs → AreDeep (Levels text 3 x c vs) below → AreDeep (ConBy text F.OpenParen ts) left
cell_deep_behind {text} {ts} {us} {vs} {x} {c} e b f h = deep_inside b (λ y d r q. inner q) h
  where
    first : Reads text (operators 3) (drop 1 ts) x c vs
    first = subst (λ us. Reads text (operators 3) us x c vs) e f

    inner : {y : Expr} {d : ℕ} {r : List Token} → ConBy text F.OpenParen ts y d r → Inside (Levels text 3 x c vs) d
    inner (a_cell {us = us'} {vs = r} {a = a'} {b = b'} {da = da'} {db = db'} z p y q) =
        let i = same first z in
        let l = moved (λ a da us. Levels text 3 a da us (joined Pair a b') (max da db' + 1) r) i (pair_level p y) in
        let m = i.depth in
        inside _ _ _ l (omega arith)

pub cell_not_closed : {text : List ℕ} {ts us vs ws : List Token} {x w : Expr} {c k left : ℕ} → us ≡ drop 1 ts → Reads text (operators 3) us x c vs → Levels text 3 x c vs w k ws → front ws ≢ F.CloseParen → AreDeep (ConBy text F.OpenParen ts) left
cell_not_closed {text} {ts} {us} {vs} {ws} {x} {w} {c} {k} e f l n = never (λ y d r q. inner q)
  where
    first : Reads text (operators 3) (drop 1 ts) x c vs
    first = subst (λ us. Reads text (operators 3) us x c vs) e f

    inner : {y : Expr} {d : ℕ} {r : List Token} → ConBy text F.OpenParen ts y d r → ⊥
    inner (a_cell {vs = r} {b = b'} {db = db'} z p y q) =
        let i = same first z in
        let m = moved (λ a da us. Levels text 3 a da us (joined Pair a b') (max da db' + 1) r) i (pair_level p y) in
        n (ap front (sym (same_level l m).rest) ∙ q.stands)

pub cell_read : {text : List ℕ} {ts us vs ws r : List Token} {s v : Span} {x w e : Expr} {c k d left below : ℕ} → us ≡ drop 1 ts → s ≡ first_span ts → below < left → Reads text (operators 3) us x c vs → front vs ≡ F.ColonColon → IsRead (Levels text 3 x c vs) below w k ws → Takes F.CloseParen ws r v → e ≡ node s.start v.end (E.Paren w) → d ≡ k + 1 → IsRead (ConBy text F.OpenParen ts) left e d r
cell_read {text} {ts} {us} {vs} {ws} {r} {s} {v} {x} {w} {e} {c} {k} {d} {left} f g b z q l t h m =
    let o = l.small in
    read_as r (made (cells q l.reads)) (h ∙ ap (λ s. node s.start v.end (E.Paren w)) g) m (omega arith)
  where
    first : Reads text (operators 3) (drop 1 ts) x c vs
    first = subst (λ us. Reads text (operators 3) us x c vs) f z

    made : Cell text x c vs w k ws → ConBy text F.OpenParen ts (node (first_span ts).start v.end (E.Paren w)) (k + 1) r
    made y = subst (λ w. ConBy text F.OpenParen ts (node (first_span ts).start v.end (E.Paren w)) (k + 1) r) (sym y.tree)
        (subst (λ k. ConBy text F.OpenParen ts (node (first_span ts).start v.end (E.Paren (joined Pair x y.other))) (k + 1) r) (sym y.depth_is) (a_cell first q y.reads t))

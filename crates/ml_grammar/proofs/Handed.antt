-- What the readers below hand on, in the words of the relation.
use Rattle.std.proofs.Common.{◌≡◌, ◌≢◌, ℕ, zero, suc, ◌-◌, ◌+◌, ◌<◌, ◌≤◌, false, true, List, [], ◌∷◌, ◌++◌, max, drop, refl, sym, ap, subst, ◌∙◌, arith}
use Rattle.oxml_base.specs.declared.span.Span.{Span}
use Rattle.ml_lexer.specs.declared.token.Token.{Token}
use Rattle.ml_cursor.specs.declared.front.Front.{Front}
use Rattle.ml_cursor.specs.declared.front.Front.TheVariants as F
use Rattle.ml_cursor.specs.Fronts.{front}
use Rattle.ml_cursor.specs.Places.{first_span, Takes}
use Rattle.ml_cursor.specs.declared.error.ParseErr.{ParseErr}
use Rattle.ml_cursor.specs.Says.{Says}
use Rattle.ml_parse_patterns.specs.declared.found.Found.{Found}
use Rattle.ml_parse_patterns.specs.declared.found.FoundParams.{FoundParams}
use Rattle.ml_parse_patterns.specs.declared.looks.Level.TheVariants.{Pattern}
use Rattle.ml_parse_patterns.specs.Patterns.{ReadsParams}
use Rattle.ml_parse_patterns.specs.Readings.{IsFound, AreParams, NoTree, NoParams}
use Rattle.ml_tree.specs.declared.types.TyExpr.{TyExpr}
use Rattle.ml_tree.specs.declared.expr.Expr.{Expr}
use Rattle.ml_tree.specs.declared.expr.ExprKind.TheVariants as E
use Rattle.ml_parse_types.specs.declared.looks.Row.TheVariants.{Factors}
use Rattle.ml_parse_types.specs.Types.{ReadsType, got}
use Rattle.ml_parse_types.specs.Readers.{IsNone}
use Rattle.ml_parse_types.proofs.Unique.{same_type}
use Rattle.ml_grammar.specs.declared.looks.Leaf.{Leaf}
use Rattle.ml_grammar.specs.declared.looks.Leaf.TheVariants as L
use Rattle.ml_grammar.specs.declared.looks.Lead.TheVariants as O
use Rattle.ml_grammar.specs.declared.looks.Suffix.TheVariants as S
use Rattle.ml_grammar.specs.Looks.{is_colon}
use Rattle.ml_grammar.specs.Trees.{node, start_of, width}
use Rattle.ml_grammar.specs.Grammar.{Kind, ItemOf, more, past, to_next, Lists, ItemBy, ReadsPattern, HasType, Borrows, borrows, OperandBy, an_overwrite, seq, Reads, ConBy, a_block, a_cell}
use Rattle.ml_grammar.specs.Readings.{IsRead, AreDeep, OneSuffix, one_field, NoResults, NoBorrows, ClosesParens, closes_paren, closes_typed, NotClosed, Until, until, Behind, behind_it}
use Rattle.ml_grammar.proofs.Deep.{Along, along, deep_along, deep_at, says, never, read_as}
use Rattle.ml_grammar.proofs.Unique.{same}
use Rattle.ml_grammar.proofs.Items.{ListSoFar, list_step, list_done, no_result_equal, result_no_type, result_not_equal}

-- a token that stands at a place, is passed, and gives its span
pub takes : {want : Front} {ts rest : List Token} → front ts ≡ want → rest ≡ drop 1 ts → Takes want ts rest (first_span ts)
takes p q = record { stands = p; rest_is = q; span_is = refl }

pub pattern_read : {text : List ℕ} {left : ℕ} {ts rest : List Token} {f : Found} → IsFound text Pattern left ts rest f → IsRead (ReadsPattern text ts) left f.pat f.depth rest
pattern_read h = record { reads = h.reads; small = h.small }

pub pattern_says : (text : List ℕ) (left : ℕ) (ts : List Token) (tokens : List Token) (e : ParseErr) → Says tokens (NoTree text Pattern left ts) e → Says tokens (AreDeep (ReadsPattern text ts) left) e
pattern_says text left ts tokens e h = says tokens (λ n. record { deep = n.deep }) e h

pub params_read : {text : List ℕ} {left : ℕ} {ts rest : List Token} {f : FoundParams} → AreParams text left ts rest f → IsRead (ReadsParams text ts) left f.list f.depth rest
params_read h = record { reads = h.reads; small = h.small }

pub params_says : (text : List ℕ) (left : ℕ) (ts : List Token) (tokens : List Token) (e : ParseErr) → Says tokens (NoParams text left ts) e → Says tokens (AreDeep (ReadsParams text ts) left) e
params_says text left ts tokens e h = says tokens (λ n. record { deep = n.deep }) e h

-- behind the last token of a leaf

one_after : (n : ℕ) (ts : List Token) → drop 1 (drop n ts) ≡ drop (suc n) ts
one_after zero ts = refl
one_after (suc n) [] = refl
one_after (suc n) (t ∷ ts) = one_after n ts

pub after_last : (l : Leaf) (ts : List Token) → drop 1 (drop (width l - 1) ts) ≡ drop (width l) ts
after_last L.Path ts = one_after 2 ts
after_last L.Unit ts = one_after 1 ts
after_last L.Nil ts = one_after 1 ts
after_last L.Int ts = refl
after_last L.Char ts = refl
after_last L.Name ts = refl
after_last L.Upper ts = refl
after_last L.True ts = refl
after_last L.False ts = refl

-- `.name`, or not

pub field_found : {text : List ℕ} {a e : Expr} {da d left : ℕ} {ts r : List Token} → front ts ≡ F.Dot → front (drop 1 ts) ≡ F.Lower → r ≡ drop 1 (drop 1 ts) → e ≡ node (start_of a) (first_span (drop 1 ts)).end (E.Field a (first_span (drop 1 ts))) → d ≡ da + 1 → da < left → IsRead (OneSuffix text a da S.Field ts) left e d r
field_found {r = r} p q f h k m = read_as r (one_field (takes p refl) (takes q f)) h k (omega arith)

pub field_none : {text : List ℕ} {a : Expr} {da left : ℕ} {ts : List Token} → (front ts ≡ F.Dot → front (drop 1 ts) ≡ F.Lower → ⊥) → AreDeep (OneSuffix text a da S.Field ts) left
field_none {text} {a} {da} {left} {ts} n = never (λ e d r x. inner x)
  where
    inner : {e : Expr} {d : ℕ} {r : List Token} → OneSuffix text a da S.Field ts e d r → ⊥
    inner (one_field p q) = n p.stands (ap front (sym p.rest_is) ∙ q.stands)

-- `[: type] =`, or not

pub results_no_equal : {ts : List Token} → is_colon (front ts) ≡ false → front ts ≢ F.Equal → NoResults ts
results_no_equal p n = record { none = no_result_equal p n }

pub results_no_type : {ts us : List Token} → is_colon (front ts) ≡ true → us ≡ drop 1 ts → IsNone (ReadsType Factors) us → NoResults ts
results_no_type p e n = record { none = result_no_type p e (λ t r x. n.none (got t r) x) }

pub results_not_equal : {ts us vs : List Token} {t : TyExpr} → is_colon (front ts) ≡ true → us ≡ drop 1 ts → HasType us t vs → front vs ≢ F.Equal → NoResults ts
results_not_equal p e x n = record { none = result_not_equal p e x n }

-- `borrow_ y = x`, or not

next_of : {w : Front} {us us' vs vs' : List Token} {s s' : Span} → us' ≡ us → Takes w us vs s → Takes w us' vs' s' → vs' ≡ vs
next_of e t u = u.rest_is ∙ (ap (drop 1) e ∙ sym t.rest_is)

pub no_borrow_word : {ts : List Token} → front ts ≢ F.Borrow → NoBorrows ts
no_borrow_word {ts} n = record { none = λ y x r q. inner q }
  where
    inner : {y x : Span} {r : List Token} → Borrows ts y x r → ⊥
    inner (borrows a b c d) = n a.stands

pub no_borrow_name : {ts us : List Token} {s : Span} → Takes F.Borrow ts us s → front us ≢ F.Lower → NoBorrows ts
no_borrow_name {ts} t n = record { none = λ y x r q. inner q }
  where
    inner : {y x : Span} {r : List Token} → Borrows ts y x r → ⊥
    inner (borrows a b c d) = n (ap front (sym (next_of refl t a)) ∙ b.stands)

pub no_borrow_equal : {ts us vs : List Token} {s y : Span} → Takes F.Borrow ts us s → Takes F.Lower us vs y → front vs ≢ F.Equal → NoBorrows ts
no_borrow_equal {ts} t u n = record { none = λ y x r q. inner q }
  where
    inner : {y x : Span} {r : List Token} → Borrows ts y x r → ⊥
    inner (borrows a b c d) = n (ap front (sym (next_of (next_of refl t a) u b)) ∙ c.stands)

pub no_borrow_of : {ts us vs ws : List Token} {s y e : Span} → Takes F.Borrow ts us s → Takes F.Lower us vs y → Takes F.Equal vs ws e → front ws ≢ F.Lower → NoBorrows ts
no_borrow_of {ts} t u v n = record { none = λ y x r q. inner q }
  where
    inner : {y x : Span} {r : List Token} → Borrows ts y x r → ⊥
    inner (borrows a b c d) = n (ap front (sym (next_of (next_of (next_of refl t a) u b) v c)) ∙ d.stands)

-- `name with`, or not

pub overwrite_none : {text : List ℕ} {ts us : List Token} {left : ℕ} → us ≡ drop 1 ts → (front us ≡ F.Lower → front (drop 1 us) ≡ F.With → ⊥) → AreDeep (OperandBy text O.Overwrite ts) left
overwrite_none {text} {ts} {us} e n = never (λ y d r q. inner q)
  where
    inner : {y : Expr} {d : ℕ} {r : List Token} → OperandBy text O.Overwrite ts y d r → ⊥
    inner (an_overwrite p q x) = n (ap front e ∙ p.stands) (ap front (ap (drop 1) e ∙ sym p.rest_is) ∙ q.stands)

-- `)` or `: type )`, or not

colon_paren : {P : Type 0} → F.Colon ≡ F.CloseParen → P
colon_paren q = cc

pub parens_open : {from : ℕ} {e : Expr} {ts : List Token} → front ts ≢ F.Colon → front ts ≢ F.CloseParen → NotClosed from e ts
parens_open {from} {e} {ts} m n = record { none = λ f r q. inner q }
  where
    inner : {f : Expr} {r : List Token} → ClosesParens from e ts f r → ⊥
    inner (closes_paren p) = n p.stands
    inner (closes_typed p t q) = m p.stands

pub parens_no_type : {from : ℕ} {e : Expr} {ts us : List Token} {c : Span} → Takes F.Colon ts us c → IsNone (ReadsType Factors) us → NotClosed from e ts
parens_no_type {from} {e} {ts} {us} {c} k n = record { none = λ f r q. inner q }
  where
    inner : {f : Expr} {r : List Token} → ClosesParens from e ts f r → ⊥
    inner (closes_paren p) = colon_paren (sym k.stands ∙ p.stands)
    inner (closes_typed {vs = vs} {t = t} p x q) = n.none (got t vs) (subst (λ us. HasType us t vs) (next_of refl k p) x)

rest_of_got : {t u : TyExpr} {r s : List Token} → got t r ≡ got u s → r ≡ s
rest_of_got e = ap (λ o. o.rest) e

pub parens_not_closed : {from : ℕ} {e : Expr} {ts us vs : List Token} {t : TyExpr} {c : Span} → Takes F.Colon ts us c → HasType us t vs → front vs ≢ F.CloseParen → NotClosed from e ts
parens_not_closed {from} {e} {ts} {us} {vs} {t} {c} k x n = record { none = λ f r q. inner q }
  where
    inner : {f : Expr} {r : List Token} → ClosesParens from e ts f r → ⊥
    inner (closes_paren p) = colon_paren (sym k.stands ∙ p.stands)
    inner (closes_typed {vs = vs'} {t = t'} p y q) =
        n (ap front (rest_of_got (same_type x (subst (λ us. HasType us t' vs') (next_of refl k p) y))) ∙ q.stands)

-- the loops of lists: one more, and what goes on; or the last one

pub list_goes : {text : List ℕ} {k : Kind} {start ts us vs : List Token} {done xs : List (ItemOf k)} {x : ItemOf k} {depth dx d left : ℕ} → ListSoFar text k start done depth ts → IsRead (ItemBy text k ts) left x dx us → more k us ≡ true → vs ≡ to_next k us → xs ≡ done ++ (x ∷ []) → d ≡ max depth dx → ListSoFar text k start xs d vs
list_goes {text} {k} {start} {ts} {us} {vs} {done} {xs} {x} {depth} {dx} {d} i y m f g h =
    subst (λ xs. ListSoFar text k start xs d vs) (sym g) (subst (λ d. ListSoFar text k start (done ++ (x ∷ [])) d vs) (sym h) (list_step i y.reads m f))

pub list_read : {text : List ℕ} {k : Kind} {start ts us r : List Token} {done xs : List (ItemOf k)} {x : ItemOf k} {depth dx d left : ℕ} → ListSoFar text k start done depth ts → depth ≤ left → IsRead (ItemBy text k ts) left x dx us → more k us ≡ false → r ≡ past k us → xs ≡ done ++ (x ∷ []) → d ≡ max depth dx → IsRead (Lists text k start) left xs d r
list_read {r = r} i l y m f g h = let n = y.small in read_as r (list_done i y.reads m f) g h (omega arith)

-- a constructor with its argument, by its first token

pub con_read : {text : List ℕ} {f : Front} {ts r : List Token} {e : Expr} {d left : ℕ} → f ≡ front ts → IsRead (ConBy text f ts) left e d r → IsRead (ConBy text (front ts) ts) left e d r
con_read {text} {f} {ts} {r} {e} {d} {left} q i = subst (λ f. IsRead (ConBy text f ts) left e d r) q i

pub con_deep : {text : List ℕ} {f : Front} {ts : List Token} {left : ℕ} → f ≡ front ts → AreDeep (ConBy text f ts) left → AreDeep (ConBy text (front ts) ts) left
con_deep {text} {f} {ts} {left} q i = subst (λ f. AreDeep (ConBy text f ts) left) q i

con_front : {text : List ℕ} {f : Front} {ts r : List Token} {e : Expr} {d : ℕ} → ConBy text f ts e d r → (f ≡ F.Upper → ⊥) → (f ≡ F.OpenParen → ⊥) → ⊥
con_front (a_block x) n m = n refl
con_front (a_cell x p y q) n m = m refl

pub no_con : {text : List ℕ} {ts : List Token} {left : ℕ} → front ts ≢ F.Upper → front ts ≢ F.OpenParen → AreDeep (ConBy text (front ts) ts) left
no_con n m = never (λ e d r x. con_front x n m)

-- a sequence and the token behind it, or the one before it

pub until_read : {text : List ℕ} {end : Front} {ts us r : List Token} {e : Expr} {d left : ℕ} → IsRead (Reads text seq ts) left e d us → front us ≡ end → r ≡ drop 1 us → IsRead (Until text end ts) left e d r
until_read {text} {end} {ts} {us} {r} {e} {d} i p f = record { reads = subst (λ r. Until text end ts e d r) (sym f) (until i.reads p); small = i.small }

pub until_deep : {text : List ℕ} {end : Front} {ts : List Token} {left : ℕ} → AreDeep (Reads text seq ts) left → AreDeep (Until text end ts) left
until_deep {text} {end} {ts} h = deep_along (λ e d r x. inner x) h
  where
    inner : {e : Expr} {d : ℕ} {r : List Token} → Until text end ts e d r → Along (Reads text seq ts) d
    inner (until x p) = along _ _ _ x (omega arith)

pub until_other : {text : List ℕ} {end : Front} {ts us : List Token} {e : Expr} {d left : ℕ} → Reads text seq ts e d us → front us ≢ end → AreDeep (Until text end ts) left
until_other {text} {end} {ts} {us} {e} {d} x n = never (λ e d r y. inner y)
  where
    inner : {e : Expr} {d : ℕ} {r : List Token} → Until text end ts e d r → ⊥
    inner (until y p) = n (ap front (sym (same x y).rest) ∙ p)

pub behind_read : {text : List ℕ} {first : Front} {ts us r : List Token} {e : Expr} {d left : ℕ} → front ts ≡ first → us ≡ drop 1 ts → IsRead (Reads text seq us) left e d r → IsRead (Behind text first ts) left e d r
behind_read {text} {first} {ts} {us} {r} {e} {d} p f i = record { reads = behind_it p (subst (λ us. Reads text seq us e d r) f i.reads); small = i.small }

pub behind_deep : {text : List ℕ} {first : Front} {ts us : List Token} {left : ℕ} → us ≡ drop 1 ts → AreDeep (Reads text seq us) left → AreDeep (Behind text first ts) left
behind_deep {text} {first} {ts} e h = deep_along (λ y d r x. inner x) (deep_at (Reads text seq) e h)
  where
    inner : {y : Expr} {d : ℕ} {r : List Token} → Behind text first ts y d r → Along (Reads text seq (drop 1 ts)) d
    inner (behind_it p x) = along _ _ _ x (omega arith)

pub behind_other : {text : List ℕ} {first : Front} {ts : List Token} {left : ℕ} → front ts ≢ first → AreDeep (Behind text first ts) left
behind_other {text} {first} {ts} n = never (λ e d r x. inner x)
  where
    inner : {e : Expr} {d : ℕ} {r : List Token} → Behind text first ts e d r → ⊥
    inner (behind_it p x) = n p

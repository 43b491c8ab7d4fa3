-- Operands: what the readers of their parts hand on, in the words of the relation.
use Rattle.std.proofs.Common.{◌≡◌, ◌≢◌, ℕ, ◌+◌, ◌<◌, ◌≤◌, max, false, List, drop, Option, Some, None, refl, subst, ap, sym, arith}
use Rattle.oxml_base.specs.declared.span.Span.{Span}
use Rattle.ml_lexer.specs.declared.token.Token.{Token}
use Rattle.ml_cursor.specs.declared.front.Front.{Front}
use Rattle.ml_cursor.specs.declared.front.Front.TheVariants as F
use Rattle.ml_cursor.specs.Fronts.{front}
use Rattle.ml_cursor.specs.Places.{first_span}
use Rattle.ml_tree.specs.declared.expr.Expr.{Expr}
use Rattle.ml_tree.specs.declared.expr.ExprKind.TheVariants as E
use Rattle.ml_parse_forms.specs.declared.found.Found.{Found}
use Rattle.ml_grammar.specs.declared.looks.Lead.TheVariants as O
use Rattle.ml_grammar.specs.Looks.{is_else}
use Rattle.ml_grammar.specs.Trees.{node}
use Rattle.ml_grammar.specs.Grammar.{operators, tuple, Reads, OperandBy, ConBy, ElseBy}
use Rattle.ml_grammar.specs.Readings.{IsRead, AreDeep, Levels, Branches, NoBorrows}
use Rattle.ml_grammar.proofs.Deep.{read_as}
use Rattle.ml_grammar.proofs.OpenForms.{borrow_deep}
use Rattle.ml_grammar.proofs.Items.{else_none, else_read, else_deep, branches_read}
use Rattle.ml_grammar.proofs.Atoms.{cell_deep_behind, cell_not_closed, cell_read}
use Rattle.ml_grammar.proofs.Handed.{takes}

-- `borrow_ y = x`

pub no_borrow : {text : List ℕ} {ts us : List Token} {left : ℕ} → us ≡ drop 1 ts → NoBorrows us → AreDeep (OperandBy text O.Borrow ts) left
no_borrow e n = borrow_deep e n.none

-- branches

pub branches_found : {text : List ℕ} {ts us r : List Token} {a : Expr} {o : Option Expr} {p : Expr × Option Expr} {da c d left : ℕ} → IsRead (Reads text tuple ts) left a da us → IsRead (ElseBy text (is_else (front us)) us) left o c r → p ≡ (a, o) → d ≡ max da c → IsRead (Branches text ts) left p d r
branches_found {text} {ts} {r = r} {d = d} {left = left} i j e f = subst (λ p. IsRead (Branches text ts) left p d r) (sym e) (branches_read i j f)

not_else : (f : Front) → f ≢ F.Else → is_else f ≡ false
not_else F.Else n = absurd (n refl)
not_else f n = refl

pub else_absent : {text : List ℕ} {o : Option Expr} {d left : ℕ} (tokens : List Token) (at new : ℕ) → front (drop at tokens) ≢ F.Else → (front (drop at tokens) ≢ F.Else → new ≡ at) → o ≡ None → d ≡ 0 → IsRead (ElseBy text (is_else (front (drop at tokens))) (drop at tokens)) left o d (drop new tokens)
else_absent {text} {o} {d} {left} tokens at new n stays e f =
    read_as (drop new tokens) (subst (λ k. ElseBy text (is_else (front (drop at tokens))) (drop at tokens) None 0 (drop k tokens)) (sym (stays n)) (absent (drop at tokens) n)) e f (omega arith)
  where
    absent : (ts : List Token) → front ts ≢ F.Else → ElseBy text (is_else (front ts)) ts None 0 ts
    absent ts n = (else_none {text = text} {ts = ts} {left = left} (not_else (front ts) n)).reads

pub else_found : {text : List ℕ} {ts us r : List Token} {e : Expr} {o : Option Expr} {c d left : ℕ} → front ts ≡ F.Else → us ≡ drop 1 ts → IsRead (Reads text tuple us) left e c r → o ≡ Some e → d ≡ c → IsRead (ElseBy text (is_else (front ts)) ts) left o d r
else_found {r = r} p q i h k =
    let m = i.small in
    read_as r (else_read (ap is_else p) q i).reads h k (omega arith)

pub else_refused : {text : List ℕ} {ts us : List Token} {left : ℕ} → front ts ≡ F.Else → us ≡ drop 1 ts → AreDeep (Reads text tuple us) left → AreDeep (ElseBy text (is_else (front ts)) ts) left
else_refused p q h = else_deep (ap is_else p) q h

-- `(a :: b)`: behind `a`, which was found as f and, before a `::`, handed on as g

pub cell_deep_from : {text : List ℕ} {ts us vs : List Token} {f g : Found Expr} {left below : ℕ} → us ≡ drop 1 ts → left ≤ below + 1 → IsRead (Reads text (operators 3) us) below f.tree f.depth vs → g ≡ f → AreDeep (Levels text 3 g.tree g.depth vs) below → AreDeep (ConBy text F.OpenParen ts) left
cell_deep_from {text} {vs = vs} {below = below} e b i q h =
    cell_deep_behind e b i.reads (subst (λ (f : Found Expr). AreDeep (Levels text 3 f.tree f.depth vs) below) q h)

pub cell_open : {text : List ℕ} {ts us vs ws : List Token} {f g : Found Expr} {w : Expr} {k left below : ℕ} → us ≡ drop 1 ts → IsRead (Reads text (operators 3) us) below f.tree f.depth vs → g ≡ f → IsRead (Levels text 3 g.tree g.depth vs) below w k ws → front ws ≢ F.CloseParen → AreDeep (ConBy text F.OpenParen ts) left
cell_open {text} {vs = vs} {ws = ws} {w = w} {k = k} e i q l n =
    cell_not_closed e i.reads (subst (λ (f : Found Expr). Levels text 3 f.tree f.depth vs w k ws) q l.reads) n

pub cell_found : {text : List ℕ} {ts us vs ws r : List Token} {s : Span} {f g : Found Expr} {w e : Expr} {k d left below : ℕ} → us ≡ drop 1 ts → s ≡ first_span ts → below < left → IsRead (Reads text (operators 3) us) below f.tree f.depth vs → g ≡ f → front vs ≡ F.ColonColon → IsRead (Levels text 3 g.tree g.depth vs) below w k ws → front ws ≡ F.CloseParen → r ≡ drop 1 ws → e ≡ node s.start (first_span ws).end (E.Paren w) → d ≡ k + 1 → IsRead (ConBy text F.OpenParen ts) left e d r
cell_found {text} {vs = vs} {ws = ws} {w = w} {k = k} {below = below} h s b i q p l c m n o =
    cell_read h s b i.reads p (subst (λ (f : Found Expr). IsRead (Levels text 3 f.tree f.depth vs) below w k ws) q l) (takes c m) n o

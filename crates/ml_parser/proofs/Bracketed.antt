-- Brackets, fields, arms and bindings: the exits of their readers, in the words of what these call.
use Rattle.std.proofs.Common.{◌≡◌, ◌≢◌, ℕ, ◌+◌, ◌<◌, ◌≤◌, ◌↔◌, max, Bool, true, false, cond, IsTrue, List, [], drop, length, Option, Some, None, Result, Ok, Err, IfErr, IsErrAnd, refl, subst, ap, sym, ◌∙◌, arith}
use Rattle.oxml_base.specs.declared.span.Span.{Span}
use Rattle.ml_lexer.specs.declared.token.Token.{Token}
use Rattle.ml_cursor.specs.declared.front.Front.{Front}
use Rattle.ml_cursor.specs.declared.front.Front.TheVariants as F
use Rattle.ml_cursor.specs.declared.error.ParseErr.{ParseErr}
use Rattle.ml_cursor.specs.declared.error.ParseErr.TheVariants.{NoMemory}
use Rattle.ml_cursor.specs.Fronts.{front}
use Rattle.ml_cursor.specs.Places.{first_span, Takes}
use Rattle.ml_cursor.specs.Says.{Says}
use Rattle.ml_tree.specs.declared.pattern.Pat.{Pat}
use Rattle.ml_tree.specs.declared.pattern.Param.{Param}
use Rattle.ml_tree.specs.declared.types.TyExpr.{TyExpr}
use Rattle.ml_tree.specs.declared.expr.Expr.{Expr}
use Rattle.ml_tree.specs.declared.expr.Arm.{Arm}
use Rattle.ml_tree.specs.declared.expr.Bind.{Bind}
use Rattle.ml_tree.specs.declared.expr.FieldExpr.{FieldExpr}
use Rattle.ml_grammar.specs.declared.looks.AtomLead.TheVariants as A
use Rattle.ml_grammar.specs.Looks.{binds_function}
use Rattle.ml_grammar.specs.Trees.{arm, bind, pun}
use Rattle.ml_grammar.specs.Grammar.{Kind, ItemOf, fields, arms, binds, seq, to_next, ReadsPattern, TargetBy, Reads, AtomBy, GuardBy, ItemBy}
use Rattle.ml_grammar.specs.Readings.{IsRead, AreDeep, NotClosed, NoResults, Until, Results, Values, Actions}
use Rattle.ml_grammar.proofs.Deep.{read_as}
use Rattle.ml_grammar.proofs.Atoms.{paren_not_closed}
use Rattle.ml_grammar.proofs.Items.{ListSoFar, list_init, guard_none, guard_read, guard_neither, action_read, arm_read, bind_read, pun_read, value_no_result, value_read}
use Rattle.ml_grammar.proofs.Shorter.{item_shorter, to_next_rest}

-- want of memory says nothing
pub memory_out : (tokens : List Token) (Q : Type 0) {A : Type 0} (r : Result A ParseErr) {e : ParseErr} → e ≡ NoMemory → IsErrAnd r (λ x. x ≡ e) → IfErr r (Says tokens Q)
memory_out tokens Q (Ok v) m h = absurd h
memory_out tokens Q (Err x) m h = subst (Says tokens Q) (sym (h ∙ m)) tt

-- the depth that a form leaves to its parts

pub room : (below left : ℕ) → below + 1 ≡ left → below < left
room below left e = omega arith

pub most : (below left : ℕ) → below + 1 ≡ left → left ≤ below + 1
most below left e = omega arith

-- a token that stands at a place, was passed, and gave its span
pub took : {want : Front} {ts rest : List Token} {s : Span} → front ts ≡ want → rest ≡ drop 1 ts → s ≡ first_span ts → Takes want ts rest s
took p q r = record { stands = p; rest_is = q; span_is = r }

-- what a call says where its answer is yes, and where it is no

false_true : {P : Type 0} → false ≡ true → P
false_true q = cc

pub so : {b : Bool} {P : Type 0} → IsTrue b ↔ P → b ≡ true → P
so {b = true} s e = s.0 refl
so {b = false} s e = false_true e

pub not_so : {b : Bool} {P : Type 0} → IsTrue b ↔ P → b ≡ false → P → ⊥
not_so {b = true} s e p = false_true (sym e)
not_so {b = false} s e p = false_true (s.1 p)

pub then : {b : Bool} {P : Type 0} → (IsTrue b → P) → b ≡ true → P
then {b = true} f e = f refl
then {b = false} f e = false_true e

pub at_true : {A : Type 0} {b : Bool} {x z : A} (y : A) → z ≡ cond b x y → b ≡ true → z ≡ x
at_true {b = true} y p e = p
at_true {b = false} y p e = false_true e

pub at_false : {A : Type 0} {b : Bool} {y z : A} (x : A) → z ≡ cond b x y → b ≡ false → z ≡ y
at_false {b = false} x p e = p
at_false {b = true} x p e = false_true (sym e)

pub same_place : (tokens : List Token) {at new : ℕ} → new ≡ at → drop new tokens ≡ drop at tokens
same_place tokens e = ap (λ k. drop k tokens) e

-- parentheses

pub paren_unclosed : {text : List ℕ} {ts us vs : List Token} {x : Expr} {c from left : ℕ} → us ≡ drop 1 ts → Reads text seq us x c vs → NotClosed from x vs → AreDeep (AtomBy text A.Paren ts) left
paren_unclosed e x n = paren_not_closed e x n.none

-- fields

pub pun_found : {text : List ℕ} {ts us vs : List Token} {s : Span} {f : FieldExpr} {d left : ℕ} → Takes F.Lower ts us s → front us ≢ F.Equal → vs ≡ us → f ≡ pun s → d ≡ 1 → d ≤ left → IsRead (ItemBy text fields ts) left f d vs
pun_found {text} {ts} {us} {vs} {s} {f} {d} {left} t n e h k m =
    subst (λ r. IsRead (ItemBy text fields ts) left f d r) (sym e) (pun_read t n h k (omega arith))

-- arms

pub guard_found : {text : List ℕ} {ts us r : List Token} {e : Expr} {g : Option Expr} {c d left : ℕ} → front ts ≡ F.When → us ≡ drop 1 ts → IsRead (Until text F.Arrow us) left e c r → g ≡ Some e → d ≡ c → IsRead (GuardBy text (front ts) ts) left g d r
guard_found {r = r} p q i h k =
    let j = guard_read p q i in
    let m = j.small in
    read_as r j.reads h k (omega arith)

pub no_guard_found : {text : List ℕ} {ts us r : List Token} {g : Option Expr} {d left : ℕ} → us ≡ ts → front us ≡ F.Arrow → r ≡ drop 1 us → g ≡ None → d ≡ 0 → IsRead (GuardBy text (front ts) ts) left g d r
no_guard_found {text} {r = r} {left = left} e p q h k =
    let i = guard_none {text = text} {left = left} (ap front (sym e) ∙ p) (q ∙ ap (drop 1) e) in
    read_as r i.reads h k (omega arith)

pub no_arrow : {text : List ℕ} {ts us : List Token} {left : ℕ} → front ts ≢ F.When → us ≡ ts → front us ≢ F.Arrow → AreDeep (GuardBy text (front ts) ts) left
no_arrow m e n = guard_neither m (λ p. n (ap front e ∙ p))

pub action_found : {text : List ℕ} {ts us r : List Token} {g : Option Expr} {b : Expr} {y : Option Expr × Expr} {dg db d left : ℕ} → IsRead (GuardBy text (front ts) ts) left g dg us → IsRead (Reads text seq us) left b db r → y ≡ (g, b) → d ≡ max dg db → IsRead (Actions text ts) left y d r
action_found {text} {ts} {r = r} {d = d} {left = left} i j h k = subst (λ y. IsRead (Actions text ts) left y d r) (sym h) (action_read i j k)

pub arm_found : {text : List ℕ} {ts us r : List Token} {p : Pat} {y : Option Expr × Expr} {a : Arm} {dp db d left : ℕ} → IsRead (ReadsPattern text ts) left p dp us → IsRead (Actions text us) left y db r → a ≡ arm p y.0 y.1 → d ≡ max dp db → IsRead (ItemBy text arms ts) left a d r
arm_found {y = y} i j h k = arm_read {g = y.0} {b = y.1} i j h k

-- bindings

pub no_result_found : {text : List ℕ} {ts : List Token} {left : ℕ} → NoResults ts → AreDeep (Values text ts) left
no_result_found n = value_no_result n.none

pub value_found : {text : List ℕ} {ts us r : List Token} {t : Option TyExpr} {b : Expr} {y : Option TyExpr × Expr} {c d left : ℕ} → Results ts t us → IsRead (Reads text seq us) left b c r → y ≡ (t, b) → d ≡ c → IsRead (Values text ts) left y d r
value_found {r = r} x i h k =
    let j = value_read x i in
    let m = j.small in
    read_as r j.reads h k (omega arith)

pub bind_found : {text : List ℕ} {ts us r : List Token} {p : Pat} {ps : List Param} {y : Option TyExpr × Expr} {b : Bind} {dp ds c d left : ℕ} → TargetBy text (binds_function ts) ts p dp ps ds us → dp ≤ left → ds ≤ left → IsRead (Values text us) left y c r → b ≡ bind p ps y.0 y.1 → d ≡ max dp (max ds c) → IsRead (ItemBy text binds ts) left b d r
bind_found {y = y} x m n i h k = bind_read {t = y.0} {b = y.1} x m n i h k

-- lists

pub list_starts : {text : List ℕ} {k : Kind} {start ts : List Token} {xs : List (ItemOf k)} {d : ℕ} → ts ≡ start → xs ≡ [] → d ≡ 0 → ListSoFar text k start xs d ts
list_starts {text} {k} {start} {ts} {xs} {d} e h m =
    subst (λ ts. ListSoFar text k start xs d ts) (sym e)
    (subst (λ xs. ListSoFar text k start xs d start) (sym h)
    (subst (λ d. ListSoFar text k start [] d start) (sym m) list_init))

pub next_shorter : {text : List ℕ} {k : Kind} {ts us vs : List Token} {x : ItemOf k} {d : ℕ} → ItemBy text k ts x d us → vs ≡ to_next k us → length vs < length ts
next_shorter {k = k} {us = us} i e =
    let j = item_shorter i in
    let l = to_next_rest k us in
    let m = ap length e in
    omega arith

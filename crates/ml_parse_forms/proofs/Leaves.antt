-- Leaves and texts, from what stands at a place.
use Rattle.std.proofs.Common.{◌≡◌, ℕ, ◌-◌, ◌<◌, List, drop, Some, None, All, ap, ap₂, subst, ◌∙◌}
use Rattle.std.specs.Prelude.{slice_get}
use Rattle.std.proofs.lemmas.Option.{slice_get_within, get_or_from_slice_get}
use Rattle.std.proofs.lemmas.List.Elements.{All-get_or}
use Rattle.oxml_base.specs.declared.span.Span.{Span}
use Rattle.ml_lexer.specs.declared.token.Token.{Token}
use Rattle.ml_lexer.specs.declared.token.TokenKind.TheVariants.{Text}
use Rattle.ml_lexer.specs.Tokens.{IsSound, IsTextToken, IsLiteral}
use Rattle.ml_cursor.specs.Places.{span, first_span, span_of}
use Rattle.ml_cursor.proofs.Lists.{first_from}
use Rattle.ml_tree.specs.declared.expr.Expr.{Expr}
use Rattle.ml_tree.specs.declared.expr.ExprKind.{ExprKind}
use Rattle.ml_tree.specs.declared.expr.ExprKind.TheVariants as E
use Rattle.ml_grammar.specs.declared.looks.Leaf.{Leaf}
use Rattle.ml_grammar.specs.declared.looks.AtomLead.TheVariants as A
use Rattle.ml_grammar.specs.Trees.{node, width, leaf_kind}
use Rattle.ml_grammar.specs.Grammar.{AtomBy}
use Rattle.ml_grammar.specs.Readings.{IsRead, AreDeep}
use Rattle.ml_grammar.proofs.Atoms.{leaf_read, text_read, text_no_token, text_other_kind}
use Rattle.ml_grammar.proofs.Handed.{after_last}

-- a leaf, of its first and its last token
pub leaf_there : {text : List ℕ} (l : Leaf) (ts us : List Token) {r : List Token} {f g s : Span} {k : ExprKind} {e : Expr} {d left : ℕ} → us ≡ drop (width l - 1) ts → f ≡ first_span ts → g ≡ first_span us → s ≡ span f.start g.end → k ≡ leaf_kind l ts → e ≡ node s.start s.end k → r ≡ drop 1 us → d ≡ 1 → 0 < left → IsRead (AtomBy text (A.Leaf l) ts) left e d r
leaf_there l ts us u p q i j h n m z =
    let spans = i ∙ ap₂ (λ (f g : Span). span f.start g.end) p (q ∙ ap first_span u) in
    leaf_read (n ∙ (ap (drop 1) u ∙ after_last l ts)) (h ∙ ap₂ (λ (s : Span) (k : ExprKind). node s.start s.end k) spans j) m z

-- a token of the kind Text is a literal of the text
pub sound_text : (text : List ℕ) (tokens : List Token) (at : ℕ) (t : Token) → All (IsSound text) tokens → slice_get tokens at ≡ Some t → t.kind ≡ Text → IsTextToken text t
sound_text text tokens at t all e h =
    let lt = slice_get_within tokens at t e in
    let there = All-get_or (IsSound text) tokens at t lt all in
    let sound : IsSound text t = subst (λ (x : Token). IsSound text x) (get_or_from_slice_get tokens at t t e) there in
    sound h

pub text_there : (text : List ℕ) (tokens : List Token) (at : ℕ) (t : Token) {r : List Token} {bytes : List ℕ} {s : Span} {e : Expr} {d left : ℕ} → slice_get tokens at ≡ Some t → t.kind ≡ Text → r ≡ drop 1 (drop at tokens) → IsLiteral text t bytes → s ≡ first_span (drop at tokens) → e ≡ node s.start s.end (E.Text (record { bytes = bytes })) → d ≡ 1 → 0 < left → IsRead (AtomBy text A.Text (drop at tokens)) left e d r
text_there text tokens at t {bytes = bytes} e k p l f g h m =
    let here : slice_get (drop at tokens) 0 ≡ Some t = first_from at tokens ∙ e in
    let q = f ∙ ap span_of here in
    text_read here k p l (g ∙ ap (λ (s : Span). node s.start s.end (E.Text (record { bytes = bytes }))) q) h m

pub text_absent : {text : List ℕ} (tokens : List Token) (at : ℕ) {left : ℕ} → slice_get tokens at ≡ None → AreDeep (AtomBy text A.Text (drop at tokens)) left
text_absent tokens at e = text_no_token (first_from at tokens ∙ e)

pub text_other : {text : List ℕ} (tokens : List Token) (at : ℕ) (t : Token) {left : ℕ} → slice_get tokens at ≡ Some t → (t.kind ≡ Text → ⊥) → AreDeep (AtomBy text A.Text (drop at tokens)) left
text_other tokens at t e n = text_other_kind (first_from at tokens ∙ e) n

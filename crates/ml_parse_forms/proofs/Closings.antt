-- What closes the parentheses around an expression.
use Rattle.std.proofs.Common.{◌≡◌, ℕ, List, drop, sym, ap, ap₂, subst, ◌∙◌}
use Rattle.oxml_base.specs.declared.span.Span.{Span}
use Rattle.ml_lexer.specs.declared.token.Token.{Token}
use Rattle.ml_cursor.specs.declared.front.Front.TheVariants as F
use Rattle.ml_cursor.specs.Fronts.{front}
use Rattle.ml_cursor.specs.Places.{span, first_span}
use Rattle.ml_tree.specs.declared.types.TyExpr.{TyExpr}
use Rattle.ml_tree.specs.declared.expr.Expr.{Expr}
use Rattle.ml_tree.specs.declared.expr.ExprKind.TheVariants as E
use Rattle.ml_grammar.specs.Trees.{node}
use Rattle.ml_grammar.specs.Grammar.{HasType}
use Rattle.ml_grammar.specs.Readings.{ClosesParens, closes_paren, closes_typed}
use Rattle.ml_grammar.proofs.Handed.{takes}

pub paren_closed : {from : ℕ} {e f : Expr} {ts r : List Token} → front ts ≡ F.CloseParen → r ≡ drop 1 ts → f ≡ node from (first_span ts).end (E.Paren e) → ClosesParens from e ts f r
paren_closed {from} {e} {f} {ts} {r} p q h = subst (λ f. ClosesParens from e ts f r) (sym h) (closes_paren (takes p q))

pub typed_closed : {from : ℕ} {e f g : Expr} {ts us vs r : List Token} {t : TyExpr} {s w : Span} → front ts ≡ F.Colon → us ≡ drop 1 ts → HasType us t vs → front vs ≡ F.CloseParen → r ≡ drop 1 vs → s ≡ first_span vs → w ≡ span from s.end → g ≡ e → f ≡ node w.start w.end (E.Typed g t) → ClosesParens from e ts f r
typed_closed {from} {e} {f} {g} {ts} {us} {vs} {r} {t} p q x c d i j k h =
    let tree : f ≡ node from (first_span vs).end (E.Typed e t) = h ∙ ap₂ (λ (w : Span) (e : Expr). node w.start w.end (E.Typed e t)) (j ∙ ap (λ (s : Span). span from s.end) i) k in
    subst (λ f. ClosesParens from e ts f r) (sym tree) (closes_typed (takes p q) x (takes c d))

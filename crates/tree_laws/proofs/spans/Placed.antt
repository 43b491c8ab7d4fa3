-- Where an expression stands among the tokens that it was read from.
use Rattle.std.proofs.Common.{◌≡◌, ◌≢◌, ℕ, ◌-◌, ◌<◌, ◌≤◌, List, length, Option, refl, sym, ap, ◌∙◌, subst, arith}
use Rattle.std.specs.List.{All}
use Rattle.std.proofs.lemmas.List.{append_assoc}
use Rattle.oxml_base.specs.declared.span.Span.{Span}
use Rattle.ml_lexer.specs.declared.token.Token.{Token}
use Rattle.ml_cursor.specs.declared.front.Front.{Front}
use Rattle.ml_cursor.specs.declared.front.Front.TheVariants as F
use Rattle.ml_cursor.specs.Places.{span, first_span, Takes}
use Rattle.ml_tree.specs.declared.expr.Expr.{Expr}
use Rattle.ml_tree.specs.declared.pattern.Pat.{Pat}
use Rattle.ml_tree.specs.declared.pattern.Param.{Param}
use Rattle.ml_tree.specs.declared.types.TyExpr.{TyExpr}
use Rattle.ml_tree.specs.declared.expr.Arm.{Arm, out-roll-Arm}
use Rattle.ml_tree.specs.declared.expr.Bind.{Bind, out-roll-Bind}
use Rattle.ml_tree.specs.declared.expr.ExprKind.{ExprKind}
use Rattle.ml_tree.specs.declared.expr.ExprKind.TheOpen.{Arm-F, Bind-F}
use Rattle.ml_tree.specs.declared.expr.FieldExpr.{FieldExpr, out-FieldExpr}
use Rattle.ml_parse_types.proofs.Shorter.{drop_one}
use Rattle.ml_grammar.specs.declared.looks.Joint.{Joint}
use Rattle.ml_grammar.specs.declared.looks.Joint.TheVariants as J
use Rattle.ml_grammar.specs.Trees.{node, arm, bind, start_of, end_of, end_of_arm, end_of_bind, joined}
use Rattle.ml_grammar.specs.Grammar.{Kind, ItemOf, exprs, fields, arms, binds}
use Rattle.tree_laws.specs.Spans.{Edges, Nests, both, expr_edges, field_edges, arm_edges, bind_edges}
use Rattle.tree_laws.specs.Spans.{node as node_edges}
use Rattle.tree_laws.proofs.spans.Behind.{Behind}
use Rattle.tree_laws.proofs.spans.EdgeForms.{of_joined}
use Rattle.tree_laws.proofs.spans.Fits.{Fits, fits_node, fits_both, widened}

-- from the first token of the list to that of another, which stands before the rest, with its parts between
pub record Placed (whole : List Token) (floor : ℕ) (ts rest : List Token) (e : Expr) : Type 0 where
  pub starts : start_of e ≡ (first_span ts).start
  pub last : List Token
  pub last_behind : Behind whole last
  pub after : length rest < length last
  pub upto : length last ≤ length ts
  pub ends : end_of e ≡ (first_span last).end
  pub fits : Fits whole floor (length ts) (length last) (expr_edges e)

-- where one of a list ends, and its edges
abbrev pub end_item : (k : Kind) → ItemOf k → ℕ
end_item (exprs q) x = end_of x
end_item fields x = end_of (out-FieldExpr x).expr
end_item arms x = end_of_arm x
end_item binds x = end_of_bind x

abbrev pub edges_of : (k : Kind) → ItemOf k → Edges
edges_of (exprs q) x = expr_edges x
edges_of fields x = field_edges x
edges_of arms x = arm_edges x
edges_of binds x = bind_edges x

-- what ends with the first token of a list that stands before the rest, and has its parts before that
pub record Lies (whole : List Token) (floor : ℕ) (ts rest : List Token) (to : ℕ) (parts : Edges) : Type 0 where
  pub last : List Token
  pub last_behind : Behind whole last
  pub after : length rest < length last
  pub upto : length last ≤ length ts
  pub ends : to ≡ (first_span last).end
  pub fits : Fits whole floor (length ts) (length last) parts

pub lies : {w ts r : List Token} {floor : ℕ} {e : Expr} → Placed w floor ts r e → Lies w floor ts r (end_of e) (expr_edges e)
lies h = record { last = h.last; last_behind = h.last_behind; after = h.after; upto = h.upto; ends = h.ends; fits = h.fits }

-- the same with fewer tokens behind it
pub later : {w ts r s : List Token} {floor : ℕ} {e : Expr} → Placed w floor ts r e → length s ≤ length r → Placed w floor ts s e
later h le = record { starts = h.starts; last = h.last; last_behind = h.last_behind; after = omega (arith, h.after, le); upto = h.upto; ends = h.ends; fits = h.fits }

-- a node whose parts lie between
pub place : {w ts r last : List Token} {floor from to : ℕ} {k : ExprKind} {parts : Edges} → expr_edges (node from to k) ≡ node_edges (span from to) parts → from ≡ (first_span ts).start → to ≡ (first_span last).end → Behind w ts → Behind w last → length r < length last → length last ≤ length ts → Fits w floor (length ts) (length last) parts → Placed w floor ts r (node from to k)
place {w} {ts} {r} {last} {floor} {from} {to} {k} {parts} e p q a b lt le h = record {
  starts = p;
  last = last;
  last_behind = b;
  after = lt;
  upto = le;
  ends = q;
  fits = subst (Fits w floor (length ts) (length last)) (sym e) (fits_node {whole = w} {ts = ts} {last = last} {floor = floor} {s = span from to} {parts = parts} a b p q le h);
}

-- a node that begins with the first token, and ends with its last part
pub begun : {w ts us r : List Token} {floor to : ℕ} {k : ExprKind} {parts : Edges} → expr_edges (node (first_span ts).start to k) ≡ node_edges (span (first_span ts).start to) parts → Behind w ts → Lies w floor us r to parts → length us ≤ length ts → Placed w floor ts r (node (first_span ts).start to k)
begun {ts = ts} {us = us} e a h le = place e refl h.ends a h.last_behind h.after (omega (arith, h.upto, le)) (widened h.fits le (omega arith))

pub taken_less : {c : Front} {ts r : List Token} {s : Span} → Takes c ts r s → c ≢ F.Nothing → length r < length ts
taken_less {ts = ts} t n = let e = ap length t.rest_is in let l = drop_one ts (λ q. n (sym t.stands ∙ q)) in omega arith

-- a node that begins with the first token, and ends with a token of its own
pub closed : {w ts r s : List Token} {floor from : ℕ} {c : Front} {o : Span} {k : ExprKind} {parts : Edges} → expr_edges (node from o.end k) ≡ node_edges (span from o.end) parts → from ≡ (first_span ts).start → Behind w ts → Behind w s → Takes c s r o → c ≢ F.Nothing → length s ≤ length ts → Fits w floor (length ts) (length s) parts → Placed w floor ts r (node from o.end k)
closed e p a b t n le h = place e p (ap (λ o. o.end) t.span_is) a b (taken_less t n) le h

-- behind the first of two parts the second: both lie in the range of the two
pub lies_behind : {w ts vs r : List Token} {floor to : ℕ} {first parts : Edges} {m : ℕ} → Fits w floor (length ts) m first → length vs ≤ m → length vs ≤ length ts → Lies w floor vs r to parts → Lies w floor ts r to (both first parts)
lies_behind g le lt h = record {
  last = h.last;
  last_behind = h.last_behind;
  after = h.after;
  upto = omega (arith, h.upto, lt);
  ends = h.ends;
  fits = fits_both (widened g (omega arith) (omega (arith, h.upto, le))) (widened h.fits lt (omega arith));
}

-- a node of two parts
pub pair_placed : {w ts us vs r : List Token} {floor : ℕ} {a b : Expr} {k : ExprKind} → expr_edges (node (start_of a) (end_of b) k) ≡ node_edges (span (start_of a) (end_of b)) (both (expr_edges a) (expr_edges b)) → Behind w ts → Placed w floor ts us a → length vs ≤ length us → Placed w floor vs r b → Placed w floor ts r (node (start_of a) (end_of b) k)
pair_placed e c h le g =
    place e h.starts g.ends c g.last_behind g.after (omega (arith, g.upto, le, h.after, h.upto))
    (fits_both (widened h.fits (omega arith) (omega (arith, g.upto, le, h.after))) (widened g.fits (omega (arith, le, h.after, h.upto)) (omega arith)))

-- two operands with their operator
pub joined_placed : {w ts us vs r : List Token} {floor : ℕ} {a b : Expr} (o : Joint) → Behind w ts → Placed w floor ts us a → length vs ≤ length us → Placed w floor vs r b → Placed w floor ts r (joined o a b)
joined_placed {a = a} {b = b} J.Pair c h le g = pair_placed (of_joined J.Pair a b) c h le g
joined_placed {a = a} {b = b} (J.Binary op) c h le g = pair_placed (of_joined (J.Binary op) a b) c h le g

-- parts with their edges and their end as they are
pub edged : {w ts r : List Token} {floor to from : ℕ} {a b : Edges} → a ≡ b → from ≡ to → Lies w floor ts r to b → Lies w floor ts r from a
edged {w} {ts} {r} {floor} e q h = record {
  last = h.last;
  last_behind = h.last_behind;
  after = h.after;
  upto = h.upto;
  ends = q ∙ h.ends;
  fits = subst (Fits w floor (length ts) (length h.last)) (sym e) h.fits;
}

pub arm_ends : (p : Pat) (g : Option Expr) (b : Expr) → end_of_arm (arm p g b) ≡ end_of b
arm_ends p g b = ap (λ (r : Arm-F ExprKind Arm Bind Expr FieldExpr). end_of r.body) (out-roll-Arm (record { pat = p; guard = g; body = b }))

pub bind_ends : (p : Pat) (ps : List Param) (t : Option TyExpr) (b : Expr) → end_of_bind (bind p ps t b) ≡ end_of b
bind_ends p ps t b = ap (λ (r : Bind-F ExprKind Arm Bind Expr FieldExpr). end_of r.body) (out-roll-Bind (record { pat = p; params = ps; result = t; body = b }))

pub regrouped : {w ts r : List Token} {floor to : ℕ} (a b c : Edges) → Lies w floor ts r to (both (both a b) c) → Lies w floor ts r to (both a (both b c))
regrouped {w} {ts} {r} {floor} {to} a b c h = record {
  last = h.last;
  last_behind = h.last_behind;
  after = h.after;
  upto = h.upto;
  ends = h.ends;
  fits = record { by = λ s i. subst (All (Nests w (length w - floor))) (append_assoc (a s) (b s) (c s)) (h.fits.by s i) };
}

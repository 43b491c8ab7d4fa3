-- How many tokens are left behind the small parts of a form.
use Rattle.std.proofs.Common.{◌≡◌, ℕ, ◌+◌, ◌<◌, ◌≤◌, Bool, true, false, List, [], ◌∷◌, drop, length, Option, ap, sym, ◌∙◌, arith, cond}
use Rattle.oxml_base.specs.declared.span.Span.{Span}
use Rattle.ml_lexer.specs.declared.token.Token.{Token}
use Rattle.ml_cursor.specs.declared.front.Front.{Front}
use Rattle.ml_cursor.specs.declared.front.Front.TheVariants as F
use Rattle.ml_cursor.specs.Fronts.{front}
use Rattle.ml_cursor.specs.Places.{Takes}
use Rattle.ml_tree.specs.declared.types.TyExpr.{TyExpr}
use Rattle.ml_parse_types.proofs.Shorter.{length-drop, drop_one, type_rest}
use Rattle.ml_grammar.specs.declared.looks.ListKind.{ListKind}
use Rattle.ml_grammar.specs.declared.looks.ListKind.TheVariants as Q
use Rattle.ml_grammar.specs.Looks.{next, behind, behind_statements, behind_semi}
use Rattle.ml_grammar.specs.Grammar.{Kind, exprs, fields, arms, binds, past, ResultBy, no_result, result, Borrows, borrows}

-- what is shorter than the tail leaves a first token
pub tail : {n : ℕ} (ts : List Token) → n < length (drop 1 ts) → length (drop 1 ts) + 1 ≤ length ts
tail [] h = absurd (omega (arith, h))
tail (t ∷ ts) h = omega arith

pub taken : {w : Front} {ts r : List Token} {s : Span} → Takes w ts r s → length r ≤ length ts
taken {ts = ts} t = let e = ap length t.rest_is in let l = length-drop 1 ts in omega arith

dot_nothing : {P : Type 0} → F.Dot ≡ F.Nothing → P
dot_nothing q = cc

pub dot_taken : {ts r : List Token} {s : Span} → Takes F.Dot ts r s → length r + 1 ≤ length ts
dot_taken {ts = ts} t = let e = ap length t.rest_is in let l = drop_one ts (λ q. dot_nothing (sym t.stands ∙ q)) in omega arith

or_drop : (b : Bool) (ts : List Token) → length (cond b (drop 1 ts) ts) ≤ length ts
or_drop true ts = length-drop 1 ts
or_drop false ts = omega arith

statements_rest : (ts : List Token) → length (behind_statements ts) ≤ length ts
unfolding behind_statements
statements_rest ts = or_drop _ ts

semi_rest : (ts : List Token) → length (behind_semi ts) ≤ length ts
unfolding behind_semi
semi_rest ts = or_drop _ ts

pub next_rest : (q : ListKind) (ts : List Token) → length (next q ts) ≤ length ts
unfolding next
next_rest Q.Arguments ts = omega arith
next_rest Q.Parts ts = length-drop 1 ts
next_rest Q.Statements ts = length-drop 1 ts
next_rest Q.Elements ts = length-drop 1 ts

pub behind_rest : (q : ListKind) (ts : List Token) → length (behind q ts) ≤ length ts
unfolding behind
behind_rest Q.Arguments ts = omega arith
behind_rest Q.Parts ts = omega arith
behind_rest Q.Statements ts = statements_rest ts
behind_rest Q.Elements ts = statements_rest ts

pub past_rest : (k : Kind) (ts : List Token) → length (past k ts) ≤ length ts
past_rest (exprs q) ts = behind_rest q ts
past_rest fields ts = semi_rest ts
past_rest arms ts = omega arith
past_rest binds ts = omega arith

pub result_rest : {b : Bool} {ts r : List Token} {t : Option TyExpr} → ResultBy b ts t r → length r ≤ length ts
result_rest no_result = omega arith
result_rest {ts = ts} (result x) = let i = type_rest x in let l = length-drop 1 ts in omega arith

pub borrows_rest : {ts r : List Token} {y x : Span} → Borrows ts y x r → length r ≤ length ts
borrows_rest (borrows a b c d) = let i = taken a in let j = taken b in let k = taken c in let l = taken d in omega arith

lower_nothing : {P : Type 0} → F.Lower ≡ F.Nothing → P
lower_nothing q = cc

pub lower_first : (ts : List Token) → front ts ≡ F.Lower → length (drop 1 ts) + 1 ≤ length ts
lower_first ts p = let l = drop_one ts (λ q. lower_nothing (sym p ∙ q)) in omega arith

pub lower_left : {ts r : List Token} {s : Span} → Takes F.Lower ts r s → length r < length ts
lower_left {ts = ts} t = let e = ap length t.rest_is in let l = lower_first ts t.stands in omega arith

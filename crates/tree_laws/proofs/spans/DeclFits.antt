-- The types of declarations lie among their tokens.
use Rattle.std.proofs.Common.{ℕ, ◌+◌, Bool, List, drop, length, sym, subst, arith}
use Rattle.std.specs.Prelude.{map}
use Rattle.ml_lexer.specs.declared.token.Token.{Token}
use Rattle.ml_tree.specs.declared.types.Arg.{Arg}
use Rattle.ml_tree.specs.declared.types.DeclBody.{DeclBody}
use Rattle.ml_tree.specs.declared.types.Decl.{Decl}
use Rattle.ml_parse_types.specs.declared.looks.After.{After}
use Rattle.ml_parse_types.specs.declared.looks.BodyStart.{BodyStart}
use Rattle.ml_parse_types.specs.Types.{Got}
use Rattle.ml_parse_types.specs.Decls.{ReadsItems, items, ItemsBy, last_item, next_item, ReadsArg, con_arg, ArgsBy, no_args, some_args, ReadsCon, con, ReadsField, field, BodyBy, barred, variant, fields, alias, ReadsDecl, decl, decl_behind}
use Rattle.ml_parse_types.proofs.Shorter.{length-drop, words_rest, vars_rest}
use Rattle.tree_laws.specs.Spans.{Edges, all, arg_edges, con_edges, field_decl_edges, body_edges, decl_edges}
use Rattle.tree_laws.proofs.spans.Behind.{Behind, behind_less, one, then}
use Rattle.tree_laws.proofs.spans.TypesBehind.{Leaves, items_behind, words_behind, vars_behind, arg_behind_it, con_behind_it, field_behind_it, decl_behind_it}
use Rattle.tree_laws.proofs.spans.Fits.{Fits, fits_none, fits_both, widened}
use Rattle.tree_laws.proofs.spans.TypeFits.{of_arg, type_fits}

-- the parts of each such item lie among its tokens
abbrev Fitting : {A : Type 0} → List Token → ℕ → (A → Edges) → (List Token → Got A → Type 0) → Type 0
Fitting {A} w floor edges Item = (ts : List Token) (o : Got A) → Item ts o → Behind w ts → Fits w floor (length ts) (length o.rest + 1) (edges o.value)

mutual
  items_fit : {A : Type 0} {Item : List Token → Got A → Type 0} {behind : List Token → After} {w : List Token} {floor : ℕ} (edges : A → Edges) → Leaves Item → Fitting w floor edges Item → {ts : List Token} {l : Got (List A)} → ReadsItems Item behind ts l → Behind w ts → Fits w floor (length ts) (length l.rest + 1) (all (map edges l.value))
  items_fit edges p h (items {ts = ts} {a = a} i f) b = items_by_fit edges p h f b (p ts a i) (h ts a i b)

  items_by_fit : {A : Type 0} {Item : List Token → Got A → Type 0} {behind : List Token → After} {w : List Token} {floor : ℕ} (edges : A → Edges) → Leaves Item → Fitting w floor edges Item → {ts : List Token} {v : After} {a : Got A} {l : Got (List A)} → ItemsBy Item behind v a l → Behind w ts → Behind ts a.rest → Fits w floor (length ts) (length a.rest + 1) (edges a.value) → Fits w floor (length ts) (length l.rest + 1) (all (map edges l.value))
  items_by_fit {w = w} {floor = floor} edges p h {ts = ts} (last_item {n = n} {a = a}) b c g =
      let i = length-drop n a.rest in fits_both (widened g (omega arith) (omega arith)) (fits_none w floor (length ts) (length (drop n a.rest) + 1))
  items_by_fit edges p h (next_item {a = a} x) b c g =
      let i = length-drop 1 a.rest in let j = behind_less (items_behind p x) in let k = behind_less c in
      fits_both (widened g (omega arith) (omega arith)) (widened (items_fit edges p h x (then b (then c one))) (omega arith) (omega arith))

arg_fits : {w : List Token} {floor : ℕ} → Fitting w floor arg_edges ReadsArg
arg_fits {w} {floor} ts o (con_arg {w = v} {t = ty} x y) a =
    let i = words_rest x in
    subst (Fits w floor (length ts) (length ty.rest + 1)) (sym (of_arg v.value ty.value)) (widened (type_fits y (then a (words_behind x))) i (omega arith))

args_fit : {w ts : List Token} {floor : ℕ} {k : Bool} {o : Got (List Arg)} → ArgsBy k ts o → Behind w ts → Fits w floor (length ts) (length o.rest + 1) (all (map arg_edges o.value))
args_fit {w = w} {floor = floor} (no_args {ts = ts}) a = fits_none w floor (length ts) (length ts + 1)
args_fit (some_args {ts = ts} x) a = let i = length-drop 1 ts in widened (items_fit arg_edges arg_behind_it arg_fits x (then a one)) i (omega arith)

con_fits : {w : List Token} {floor : ℕ} → Fitting w floor con_edges ReadsCon
con_fits ts o (con e x) a = let i = length-drop 1 ts in widened (args_fit x (then a one)) i (omega arith)

field_fits : {w : List Token} {floor : ℕ} → Fitting w floor field_decl_edges ReadsField
field_fits {w} {floor} ts o (field {w = v} {t = ty} x e f y) a =
    let b : Behind v.rest (drop 1 (drop 1 v.rest)) = then one one in
    let i = words_rest x in let j = behind_less b in
    subst (Fits w floor (length ts) (length ty.rest + 1)) (sym (of_arg v.value ty.value)) (widened (type_fits y (then a (then (words_behind x) b))) (omega arith) (omega arith))

body_fits : {w ts : List Token} {floor : ℕ} {k : BodyStart} {o : Got DeclBody} → BodyBy k ts o → Behind w ts → Fits w floor (length ts) (length o.rest + 1) (body_edges o.value)
body_fits (barred {ts = ts} x) a = let i = length-drop 1 ts in widened (items_fit con_edges con_behind_it con_fits x (then a one)) i (omega arith)
body_fits (variant x) a = items_fit con_edges con_behind_it con_fits x a
body_fits (fields {ts = ts} x) a = let i = length-drop 1 ts in widened (items_fit field_decl_edges field_behind_it field_fits x (then a one)) i (omega arith)
body_fits (alias x) a = type_fits x a

decl_fits : {w : List Token} {floor : ℕ} → Fitting w floor decl_edges ReadsDecl
decl_fits ts o (decl {v = v} x e f y) a =
    let b : Behind v.rest (drop 1 (drop 1 v.rest)) = then one one in
    let i = vars_rest x in let j = behind_less b in
    widened (body_fits y (then a (then (vars_behind x) b))) (omega arith) (omega arith)

pub decls_fit : {w ts : List Token} {floor : ℕ} {o : Got (List Decl)} → ReadsItems ReadsDecl decl_behind ts o → Behind w ts → Fits w floor (length ts) (length o.rest + 1) (all (map decl_edges o.value))
decls_fit x a = items_fit decl_edges decl_behind_it decl_fits x a

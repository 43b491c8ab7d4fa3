-- The parts of a type lie among its tokens.
use Rattle.std.proofs.Common.{◌≡◌, ◌≢◌, ℕ, ◌+◌, ◌<◌, Bool, true, false, List, [], ◌∷◌, drop, length, refl, sym, ap, ◌∙◌, subst, arith}
use Rattle.std.specs.Prelude.{map, Some}
use Rattle.oxml_base.specs.declared.span.Span.{Span}
use Rattle.ml_lexer.specs.declared.token.Token.{Token}
use Rattle.ml_cursor.specs.Fronts.{front}
use Rattle.ml_cursor.specs.Places.{first_span, extent}
use Rattle.ml_tree.specs.declared.words.Words.{Words}
use Rattle.ml_tree.specs.declared.types.TyExpr.{TyExpr, fold-roll-TyExpr}
use Rattle.ml_tree.specs.declared.types.TyKind.{TyKind, fold-roll-TyKind, map-TyKind, roll-TyKind}
use Rattle.ml_tree.specs.declared.types.TyKind.TheVariants as T
use Rattle.ml_tree.specs.declared.types.TyKind.TheOpen as t
use Rattle.ml_tree.specs.declared.types.TyKind.TheOpen.{TyKind-F}
use Rattle.ml_tree.specs.declared.types.Arg.{Arg, fold-roll-Arg}
use Rattle.ml_parse_types.specs.declared.looks.Row.{Row}
use Rattle.ml_parse_types.specs.declared.looks.After.{After}
use Rattle.ml_parse_types.specs.declared.looks.TypeStart.{TypeStart}
use Rattle.ml_parse_types.specs.declared.looks.TypeStart.TheVariants.{Variable, Named, Other}
use Rattle.ml_parse_types.specs.Looks.{type_start, no_words}
use Rattle.ml_parse_types.specs.Types.{Got, Read, a_type, variable, applied, an_arg, an_arrow, product_by, group_by, arguments_by, NamesBy, no_name, one_name, AtomBy, a_variable, a_name, a_group, ReadsOperand, operand, ReadsPart, alone, factor, argument, ReadsList, row, ListBy, the_last, one_more, ReadsSide, side, SideBy, no_arrow, to_arrow, ReadsType}
use Rattle.ml_parse_types.proofs.Shorter.{some-some, none-some, product-rest, length-drop, words_rest, part_rest, list_rest, side_rest}
use Rattle.tree_laws.specs.Spans.{Edges, none, both, all, node, type_step, arg_step, type_node, type_edges, type_kind_edges, arg_edges}
use Rattle.tree_laws.proofs.spans.Behind.{Behind, behind_less, one, then}
use Rattle.tree_laws.proofs.spans.TypesBehind.{words_behind, part_behind, list_behind, group_behind}
use Rattle.tree_laws.proofs.spans.Fits.{Fits, fits_none, fits_both, fits_first, widened, token_fits, made}

of_kind : (s : Span) (l : TyKind-F TyKind Arg TyExpr) (k : TyKind) → roll-TyKind l ≡ k → type_edges (a_type s k) ≡ node s (type_step (map-TyKind TyKind Arg TyExpr Edges Edges Edges type_kind_edges arg_edges type_edges l))
of_kind s l k q =
    fold-roll-TyExpr Edges Edges Edges type_step arg_step type_node (record { id = 0; span = s; kind = k }) ∙
    ap (node s) (ap type_kind_edges (sym q) ∙ fold-roll-TyKind Edges Edges Edges type_step arg_step type_node l)

of_variable : (s : Span) → type_edges (variable s) ≡ node s none
of_variable s = of_kind s (t.Var s) (T.Var s) (T.rolls-Var s)

of_applied : (s name : Span) (args : List TyExpr) → type_edges (applied s name args) ≡ node s (all (map type_edges args))
of_applied s name args = of_kind s (t.Con name args) (T.Con name args) (T.rolls-Con name args)

of_tuple : (s : Span) (parts : List TyExpr) → type_edges (a_type s (T.Tuple parts)) ≡ node s (all (map type_edges parts))
of_tuple s parts = of_kind s (t.Tuple parts) (T.Tuple parts) (T.rolls-Tuple parts)

of_arrow : (s : Span) (a b : Arg) → type_edges (an_arrow s a b) ≡ node s (both (arg_edges a) (arg_edges b))
of_arrow s a b = of_kind s (t.Arrow a b) (T.Arrow a b) (T.rolls-Arrow a b)

pub of_arg : (w : Words) (ty : TyExpr) → arg_edges (an_arg w ty) ≡ type_edges ty
of_arg w ty = fold-roll-Arg Edges Edges Edges type_step arg_step type_node (record { words = w; ty = ty })

starts : (ts : List Token) (k : TypeStart) → k ≡ type_start (front ts) → k ≢ Other → length (drop 1 ts) < length ts
starts [] k e h = absurd (h e)
starts (t ∷ ts) k e h = omega arith

names_fit : {w ts : List Token} {floor : ℕ} {k : Bool} {a o : Read TyExpr} → NamesBy ts k a o → Behind w ts → length a.rest < length ts → Fits w floor (length ts) (length a.rest + 1) (type_edges a.value) → Fits w floor (length ts) (length o.rest + 1) (type_edges o.value)
names_fit no_name b lt h = h
names_fit {w = w} {ts = ts} {floor = floor} (one_name {a = a} x) b lt h =
    let r : List Token = drop 1 a.rest in
    let i = length-drop 1 a.rest in
    let g : Fits w floor (length ts) (length r + 1) (all (map type_edges (a.value ∷ []))) = fits_both (widened h (omega arith) (omega arith)) (fits_none w floor (length ts) (length r + 1)) in
    names_fit x b (omega arith) (made r (of_applied (extent ts r) (first_span a.rest) (a.value ∷ [])) b (omega arith) g)

arguments_fit : {w : List Token} {floor : ℕ} (ts : List Token) (l : Read (List TyExpr)) (b : Bool) (o : Read TyExpr) → Behind w ts → length l.rest < length ts → Fits w floor (length ts) (length l.rest + 1) (all (map type_edges l.value)) → arguments_by ts l b ≡ Some o → Fits w floor (length ts) (length o.rest + 1) (type_edges o.value)
arguments_fit {w} {floor} ts l true o a lt h q =
    let r : List Token = drop 1 l.rest in
    let i = length-drop 1 l.rest in
    subst (λ (x : Read TyExpr). Fits w floor (length ts) (length x.rest + 1) (type_edges x.value)) (some-some q)
    (made r (of_applied (extent ts r) (first_span l.rest) l.value) a (omega arith) (widened h (omega arith) (omega arith)))
arguments_fit ts l false o a lt h q = none-some _ q

group_fits : {w : List Token} {floor : ℕ} (ts : List Token) (l : Read (List TyExpr)) (list : List TyExpr) (o : Read TyExpr) → Behind w ts → length l.rest < length ts → Fits w floor (length ts) (length l.rest + 1) (all (map type_edges l.value)) → Fits w floor (length ts) (length l.rest + 1) (all (map type_edges list)) → group_by ts l list ≡ Some o → Fits w floor (length ts) (length o.rest + 1) (type_edges o.value)
group_fits ts l [] o a lt h g q = arguments_fit ts l _ o a lt h q
group_fits {w} {floor} ts l (t ∷ []) o a lt h g q =
    subst (λ (x : Read TyExpr). Fits w floor (length ts) (length x.rest + 1) (type_edges x.value)) (some-some q) (fits_first (type_edges t) none g)
group_fits ts l (t ∷ u ∷ list) o a lt h g q = arguments_fit ts l _ o a lt h q

product_fits : {w : List Token} {floor : ℕ} (ts r : List Token) (d : ℕ) (list : List TyExpr) → Behind w ts → length r < length ts → Fits w floor (length ts) (length r + 1) (all (map type_edges list)) → Fits w floor (length ts) (length r + 1) (type_edges (product_by ts d r list).value)
product_fits ts r d [] a lt h = made r (of_tuple (extent ts r) []) a lt h
product_fits ts r d (t ∷ []) a lt h = fits_first (type_edges t) none h
product_fits ts r d (t ∷ u ∷ list) a lt h = made r (of_tuple (extent ts r) (t ∷ u ∷ list)) a lt h

atom_less : {k : TypeStart} {ts : List Token} {o : Read TyExpr} → AtomBy k ts o → k ≡ type_start (front ts) → length o.rest < length ts
atom_less (a_variable {ts = ts}) e = starts ts Variable e (λ h. cc)
atom_less (a_name {ts = ts}) e = starts ts Named e (λ h. cc)
atom_less (a_group {ts = ts} {l = l} {o = o} x g) e = let i = behind_less (group_behind ts l l.value o g) in let j = list_rest x in let k = length-drop 1 ts in omega arith

mutual
  atom_fits : {w ts : List Token} {floor : ℕ} {k : TypeStart} {o : Read TyExpr} → AtomBy k ts o → k ≡ type_start (front ts) → Behind w ts → Fits w floor (length ts) (length o.rest + 1) (type_edges o.value)
  atom_fits {w = w} {floor = floor} (a_variable {ts = ts}) e a =
      let i = starts ts Variable e (λ h. cc) in
      widened (subst (Fits w floor (length ts) (length ts)) (sym (of_variable (first_span ts))) (token_fits (first_span ts) a refl refl)) (omega arith) (omega arith)
  atom_fits {w = w} {floor = floor} (a_name {ts = ts}) e a =
      let i = starts ts Named e (λ h. cc) in
      widened (subst (Fits w floor (length ts) (length ts)) (sym (of_applied (first_span ts) (first_span ts) [])) (token_fits (first_span ts) a refl refl)) (omega arith) (omega arith)
  atom_fits {w = w} {floor = floor} (a_group {ts = ts} {l = l} {o = o} x g) e a =
      let i = length-drop 1 ts in let j = list_rest x in
      let h : Fits w floor (length ts) (length l.rest + 1) (all (map type_edges l.value)) = widened (list_fits x (then a one)) (omega arith) (omega arith) in
      group_fits ts l l.value o a (omega arith) h h g

  operand_fits : {w ts : List Token} {floor : ℕ} {o : Read TyExpr} → ReadsOperand ts o → Behind w ts → Fits w floor (length ts) (length o.rest + 1) (type_edges o.value)
  operand_fits (operand x f) a = names_fit f a (atom_less x refl) (atom_fits x refl a)

  row_part_fits : {w ts : List Token} {floor : ℕ} {k : Row} {o : Read TyExpr} → ReadsPart k ts o → Behind w ts → Fits w floor (length ts) (length o.rest + 1) (type_edges o.value)
  row_part_fits (alone x) a = operand_fits x a
  row_part_fits (factor x) a = operand_fits x a
  row_part_fits {w = w} {floor = floor} (argument {ts = ts} {t = ty} {r = r} x) a = subst (Fits w floor (length ts) (length r + 1)) (of_arg no_words ty) (side_fits x a)

  list_fits : {w ts : List Token} {floor : ℕ} {k : Row} {l : Read (List TyExpr)} → ReadsList k ts l → Behind w ts → Fits w floor (length ts) (length l.rest + 1) (all (map type_edges l.value))
  list_fits (row x f) a = others_fit f a (part_behind x) (part_rest x) (row_part_fits x a)

  others_fit : {w ts : List Token} {floor : ℕ} {k : Row} {v : After} {a : Read TyExpr} {l : Read (List TyExpr)} → ListBy k v a l → Behind w ts → Behind ts a.rest → length a.rest < length ts → Fits w floor (length ts) (length a.rest + 1) (type_edges a.value) → Fits w floor (length ts) (length l.rest + 1) (all (map type_edges l.value))
  others_fit {w = w} {ts = ts} {floor = floor} (the_last {n = n} {a = a}) b c lt h =
      let i = length-drop n a.rest in fits_both (widened h (omega arith) (omega arith)) (fits_none w floor (length ts) (length (drop n a.rest) + 1))
  others_fit (one_more {a = a} x) b c lt h =
      let i = length-drop 1 a.rest in let j = list_rest x in
      fits_both (widened h (omega arith) (omega arith)) (widened (list_fits x (then b (then c one))) (omega arith) (omega arith))

  side_fits : {w ts : List Token} {floor : ℕ} {k : Row} {o : Read Arg} → ReadsSide k ts o → Behind w ts → Fits w floor (length ts) (length o.rest + 1) (arg_edges o.value)
  side_fits {w = w} {floor = floor} (side {ts = ts} {w = v} {l = l} x y f) a =
      let b = then a (words_behind x) in
      let i = words_rest x in let j = list_rest y in
      let e = product-rest v.rest l.rest l.depth l.value in
      let n = ap length e in
      let h : Fits w floor (length v.rest) (length l.rest + 1) (type_edges (product_by v.rest l.depth l.rest l.value).value) = product_fits v.rest l.rest l.depth l.value b j (list_fits y b) in
      side_by_fits f a (subst (Behind ts) (sym e) (then (words_behind x) (list_behind y))) (omega arith) (widened h i (omega arith))

  side_by_fits : {w ts : List Token} {floor : ℕ} {k : Row} {b : Bool} {v : Words} {q : Read TyExpr} {o : Read Arg} → SideBy k b ts v q o → Behind w ts → Behind ts q.rest → length q.rest < length ts → Fits w floor (length ts) (length q.rest + 1) (type_edges q.value) → Fits w floor (length ts) (length o.rest + 1) (arg_edges o.value)
  side_by_fits {w = w} {floor = floor} (no_arrow {ts = ts} {w = v} {p = q}) a b lt h = subst (Fits w floor (length ts) (length q.rest + 1)) (sym (of_arg v q.value)) h
  side_by_fits {w = w} {floor = floor} (to_arrow {ts = ts} {w = v} {p = q} {a = o} x) a b lt h =
      let i = length-drop 1 q.rest in let j = side_rest x in
      let g : Fits w floor (length ts) (length o.rest + 1) (arg_edges (an_arg v q.value)) = widened (subst (Fits w floor (length ts) (length q.rest + 1)) (sym (of_arg v q.value)) h) (omega arith) (omega arith) in
      subst (Fits w floor (length ts) (length o.rest + 1)) (sym (of_arg no_words (an_arrow (extent ts o.rest) (an_arg v q.value) o.value)))
      (made o.rest (of_arrow (extent ts o.rest) (an_arg v q.value) o.value) a (omega arith) (fits_both g (widened (side_fits x (then a (then b one))) (omega arith) (omega arith))))

pub type_fits : {w ts : List Token} {floor : ℕ} {k : Row} {o : Got TyExpr} → ReadsType k ts o → Behind w ts → Fits w floor (length ts) (length o.rest + 1) (type_edges o.value)
type_fits {w = w} {ts = ts} {floor = floor} {o = o} x a = subst (Fits w floor (length ts) (length o.rest + 1)) (of_arg no_words o.value) (side_fits x.reads a)

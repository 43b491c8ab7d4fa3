-- The parts of a pattern lie among its tokens.
use Rattle.std.proofs.Common.{◌≡◌, ℕ, ◌+◌, ◌<◌, Bool, List, ◌∷◌, drop, length, refl, sym, subst, arith}
use Rattle.std.specs.Prelude.{map}
use Rattle.ml_lexer.specs.declared.token.Token.{Token}
use Rattle.ml_cursor.specs.Places.{first_span}
use Rattle.ml_tree.specs.declared.pattern.Pat.{Pat}
use Rattle.ml_tree.specs.declared.pattern.FieldPat.{FieldPat}
use Rattle.ml_tree.specs.declared.pattern.Param.{Param}
use Rattle.ml_parse_types.proofs.Shorter.{length-drop, words_rest, type_rest}
use Rattle.ml_parse_patterns.specs.declared.looks.Lead.{Lead}
use Rattle.ml_parse_patterns.specs.declared.looks.Leaf.TheVariants.{Bound}
use Rattle.ml_parse_patterns.specs.declared.looks.Level.{Level}
use Rattle.ml_parse_patterns.specs.declared.looks.Listing.{Listing}
use Rattle.ml_parse_patterns.specs.declared.looks.ParamLead.{ParamLead}
use Rattle.ml_parse_patterns.specs.Looks.{node, leaf_kind, param_lead}
use Rattle.ml_parse_patterns.specs.Patterns.{ReadsNames, no_name, one_name, ReadsSimple, leaf, name, quoted, paren, typed, bracket, brace, Reads, simple, bare, applied, no_cons, cons, no_tuple, tuple, either, whole, ReadsOthers, no_other, one_other, ReadsList, last_one, one_more, ReadsField, pun, field, ReadsFields, last_field, next_field, ReadsParamBy, short, parens, annotated, ReadsParams, last_param, next_param}
use Rattle.ml_parse_patterns.proofs.Shorter.{shorter, params_shorter, field_shorter, fields_shorter, short_shorter}
use Rattle.tree_laws.specs.Spans.{all, type_edges, pattern_edges, field_pattern_edges, param_edges, both}
use Rattle.tree_laws.proofs.spans.Behind.{Behind, behind_less, dropped, one, then, next_to}
use Rattle.tree_laws.proofs.spans.TypesBehind.{words_behind}
use Rattle.tree_laws.proofs.spans.PatternsBehind.{pattern_behind, field_behind, param_behind}
use Rattle.tree_laws.proofs.spans.PatternForms.{of_leaf, of_name, of_text, of_con, of_cons, of_or, of_tuple, of_list, of_fields, of_named, of_typed, of_paren, of_field}
use Rattle.tree_laws.proofs.spans.Fits.{Fits, Fit, fits_none, fits_both, widened, made, bare_node, named_fits}
use Rattle.tree_laws.proofs.spans.TypeFits.{type_fits}

pub names_fit : {w start us r : List Token} {floor : ℕ} {p q : Pat} {d e : ℕ} → ReadsNames start p d us q e r → Behind w start → length us < length start → Fit w floor start us (pattern_edges p) → Fit w floor start r (pattern_edges q)
names_fit (no_name n) a lt h = h
names_fit {start = start} (one_name {p = p} {us = us} f l x) a lt h =
    let i = length-drop 2 us in
    names_fit x a (omega arith) (made (drop 2 us) (of_named start (drop 2 us) p (first_span (drop 1 us))) a (omega arith) (widened h (omega arith) (omega arith)))

list_less : {text : List ℕ} {k : Listing} {ts r : List Token} {ps : List Pat} {d : ℕ} → ReadsList text k ts ps d r → length r < length ts
list_less (last_one {n = n} {us = us} x f) = let i = shorter x in let j = length-drop n us in omega arith
list_less (one_more {n = n} {us = us} x f y) = let i = shorter x in let j = list_less y in let k = length-drop n us in omega arith

mutual
  simple_fits : {text : List ℕ} {w ts r : List Token} {floor : ℕ} {l : Lead} {q : Pat} {d : ℕ} → ReadsSimple text l ts q d r → Behind w ts → length r < length ts → Fit w floor ts r (pattern_edges q)
  simple_fits (leaf {l = l} {n = n} {ts = ts}) a lt = bare_node (drop n ts) (of_leaf ts (drop n ts) l) a lt
  simple_fits (name {w = v} {ts = ts} {us = us} x f) a lt = bare_node (drop 1 us) (of_name ts (drop 1 us) v (first_span us)) a lt
  simple_fits (quoted {bytes = bytes} {ts = ts} f x) a lt = bare_node (drop 1 ts) (of_text ts (drop 1 ts) bytes) a lt
  simple_fits (paren {p = q} {ts = ts} {us = us} x f) a lt =
      made (drop 1 us) (of_paren ts (drop 1 us) q) a lt (let i = length-drop 1 ts in let j = length-drop 1 us in widened (pattern_fits x (then a one)) (omega arith) (omega arith))
  simple_fits (typed {p = q} {t = t} {ts = ts} {us = us} {vs = vs} x f c g) a lt =
      let b : Behind ts (drop 1 us) = then one (then (pattern_behind x) one) in
      let i = length-drop 1 ts in let j = length-drop 1 us in let k = type_rest c in let l = length-drop 1 vs in let m = behind_less b in
      made (drop 1 vs) (of_typed ts (drop 1 vs) q t) a lt (fits_both (widened (pattern_fits x (then a one)) (omega arith) (omega arith)) (widened (type_fits c (then a b)) (omega arith) (omega arith)))
  simple_fits (bracket {ps = ps} {ts = ts} {us = us} x) a lt =
      made us (of_list ts us ps) a lt (let i = length-drop 1 ts in widened (list_fits x (then a one)) (omega arith) (omega arith))
  simple_fits (brace {fs = fs} {more = more} {ts = ts} {us = us} x) a lt =
      made us (of_fields ts us fs more) a lt (let i = length-drop 1 ts in widened (fields_fit x (then a one)) (omega arith) (omega arith))

  pub pattern_fits : {text : List ℕ} {w ts r : List Token} {floor : ℕ} {level : Level} {q : Pat} {d : ℕ} → Reads text level ts q d r → Behind w ts → Fit w floor ts r (pattern_edges q)
  pattern_fits (simple x) a = simple_fits x a (shorter (simple x))
  pattern_fits (bare n x) a = pattern_fits x a
  pattern_fits (applied {p = q} {ts = ts} {us = us} m x) a =
      made us (of_con ts us (first_span ts) q) a (let i = length-drop 1 ts in let j = shorter x in omega arith) (let i = length-drop 1 ts in widened (pattern_fits x (then a one)) (omega arith) (omega arith))
  pattern_fits (no_cons x n) a = pattern_fits x a
  pattern_fits (cons {p = o} {q = q} {ts = ts} {us = us} {r = r} x m y) a =
      let i = shorter x in let j = shorter y in let k = length-drop 1 us in
      made r (of_cons ts r o q) a (omega arith) (fits_both (widened (pattern_fits x a) (omega arith) (omega arith)) (widened (pattern_fits y (then a (then (pattern_behind x) one))) (omega arith) (omega arith)))
  pattern_fits (no_tuple x n) a = pattern_fits x a
  pattern_fits (tuple {p = o} {qs = qs} {ts = ts} {us = us} {r = r} x m y) a =
      let i = shorter x in let j = list_less y in let k = length-drop 1 us in
      made r (of_tuple ts r (o ∷ qs)) a (omega arith) (fits_both (widened (pattern_fits x a) (omega arith) (omega arith)) (widened (list_fits y (then a (then (pattern_behind x) one))) (omega arith) (omega arith)))
  pattern_fits (either x y) a = others_fit y a (shorter x) (pattern_behind x) (pattern_fits x a)
  pattern_fits (whole x y) a = names_fit y a (shorter x) (pattern_fits x a)

  others_fit : {text : List ℕ} {w start us r : List Token} {floor : ℕ} {o q : Pat} {d e : ℕ} → ReadsOthers text start o d us q e r → Behind w start → length us < length start → Behind start us → Fit w floor start us (pattern_edges o) → Fit w floor start r (pattern_edges q)
  others_fit (no_other n) a lt b h = h
  others_fit (one_other {p = o} {q = q} {start = start} {us = us} {vs = vs} f x y) a lt b h =
      let i = shorter x in let k = length-drop 1 us in
      others_fit y a (omega arith) (then b (then one (pattern_behind x)))
      (made vs (of_or start vs o q) a (omega arith) (fits_both (widened h (omega arith) (omega arith)) (widened (pattern_fits x (then a (then b one))) (omega arith) (omega arith))))

  list_fits : {text : List ℕ} {w ts r : List Token} {floor : ℕ} {k : Listing} {ps : List Pat} {d : ℕ} → ReadsList text k ts ps d r → Behind w ts → Fit w floor ts r (all (map pattern_edges ps))
  list_fits {w = w} {r = r} {floor = floor} (last_one {n = n} {ts = ts} {us = us} x f) a =
      let i = length-drop n us in
      fits_both (widened (pattern_fits x a) (omega arith) (omega arith)) (fits_none w floor (length ts) (length r + 1))
  list_fits (one_more {n = n} {us = us} x f y) a =
      let i = shorter x in let j = list_less y in let k = length-drop n us in
      fits_both (widened (pattern_fits x a) (omega arith) (omega arith)) (widened (list_fits y (then a (then (pattern_behind x) (dropped n us)))) (omega arith) (omega arith))

  field_fits : {text : List ℕ} {w ts r : List Token} {floor : ℕ} {f : FieldPat} {d : ℕ} → ReadsField text ts f d r → Behind w ts → length r < length ts → Fit w floor ts r (field_pattern_edges f)
  field_fits {w = w} {floor = floor} (pun {ts = ts} l n) a lt =
      subst (Fits w floor (length ts) (length (drop 1 ts) + 1)) (sym (of_field (first_span ts) (node ts (drop 1 ts) (leaf_kind (Bound (first_span ts))))))
      (fits_both (named_fits a (omega arith)) (bare_node (drop 1 ts) (of_leaf ts (drop 1 ts) (Bound (first_span ts))) a lt))
  field_fits {w = w} {r = r} {floor = floor} (field {p = q} {ts = ts} l e x) a lt =
      let i = length-drop 2 ts in
      subst (Fits w floor (length ts) (length r + 1)) (sym (of_field (first_span ts) q))
      (fits_both (named_fits a (omega arith)) (widened (pattern_fits x (next_to 2 a)) (omega arith) (omega arith)))

  fields_fit : {text : List ℕ} {w ts r : List Token} {floor : ℕ} {fs : List FieldPat} {more : Bool} {d : ℕ} → ReadsFields text ts fs more d r → Behind w ts → Fit w floor ts r (all (map field_pattern_edges fs))
  fields_fit {w = w} {r = r} {floor = floor} (last_field {n = n} {ts = ts} {us = us} x g) a =
      let i = length-drop n us in let j = field_shorter x in
      fits_both (widened (field_fits x a j) (omega arith) (omega arith)) (fits_none w floor (length ts) (length r + 1))
  fields_fit (next_field {us = us} x g y) a =
      let i = field_shorter x in let j = fields_shorter y in let k = length-drop 1 us in
      fits_both (widened (field_fits x a i) (omega arith) (omega arith)) (widened (fields_fit y (then a (then (field_behind x) one))) (omega arith) (omega arith))

param_fits_by : {text : List ℕ} {w ts r : List Token} {floor : ℕ} {l : ParamLead} {o : Param} {d : ℕ} → ReadsParamBy text l ts o d r → l ≡ param_lead ts → Behind w ts → Fit w floor ts r (param_edges o)
param_fits_by (short {l = l} {n = n} {ts = ts}) e a = bare_node (drop n ts) (of_leaf ts (drop n ts) l) a (short_shorter ts l n e)
param_fits_by (parens {ts = ts} {us = us} {vs = vs} v x f) e a =
    let h = words_rest v in let i = length-drop 1 ts in let j = length-drop 1 vs in
    widened (pattern_fits x (then a (then one (words_behind v)))) (omega arith) (omega arith)
param_fits_by {w = w} {floor = floor} (annotated {p = q} {t = t} {ts = ts} {us = us} {vs = vs} {xs = xs} v x f c g) e a =
    let b = then a (then one (words_behind v)) in
    let h = words_rest v in let i = length-drop 1 ts in let j = shorter x in let k = length-drop 1 vs in let l = type_rest c in let m = length-drop 1 xs in
    let n : Fit w floor us xs (both (pattern_edges q) (type_edges t)) = fits_both (widened (pattern_fits x b) (omega arith) (omega arith)) (widened (type_fits c (then b (then (pattern_behind x) one))) (omega arith) (omega arith)) in
    widened (made xs (of_typed us xs q t) b (omega arith) n) (omega arith) (omega arith)

pub params_fit : {text : List ℕ} {w ts r : List Token} {floor : ℕ} {ps : List Param} {d : ℕ} → ReadsParams text ts ps d r → Behind w ts → Fit w floor ts r (all (map param_edges ps))
params_fit {w = w} {r = r} {floor = floor} (last_param {ts = ts} x f) a = fits_both (param_fits_by x refl a) (fits_none w floor (length ts) (length r + 1))
params_fit (next_param {us = us} x f y) a =
    let i = params_shorter y in let j = behind_less (param_behind x) in
    fits_both (widened (param_fits_by x refl a) (omega arith) (omega arith)) (widened (params_fit y (then a (param_behind x))) (omega arith) (omega arith))

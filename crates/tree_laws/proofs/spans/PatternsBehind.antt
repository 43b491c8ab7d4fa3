-- What is left behind patterns and parameters stands behind what they were read from.
use Rattle.std.proofs.Common.{ℕ, Bool, List}
use Rattle.ml_lexer.specs.declared.token.Token.{Token}
use Rattle.ml_tree.specs.declared.pattern.Pat.{Pat}
use Rattle.ml_tree.specs.declared.pattern.FieldPat.{FieldPat}
use Rattle.ml_tree.specs.declared.pattern.Param.{Param}
use Rattle.ml_parse_patterns.specs.declared.looks.Lead.{Lead}
use Rattle.ml_parse_patterns.specs.declared.looks.Level.{Level}
use Rattle.ml_parse_patterns.specs.declared.looks.Listing.{Listing}
use Rattle.ml_parse_patterns.specs.declared.looks.ParamLead.{ParamLead}
use Rattle.ml_parse_patterns.specs.Patterns.{ReadsNames, no_name, one_name, ReadsSimple, leaf, name, quoted, paren, typed, bracket, brace, Reads, simple, bare, applied, no_cons, cons, no_tuple, tuple, either, whole, ReadsOthers, no_other, one_other, ReadsList, last_one, one_more, ReadsField, pun, field, ReadsFields, last_field, next_field, ReadsParamBy, short, parens, annotated, ReadsParams, last_param, next_param}
use Rattle.tree_laws.proofs.spans.Behind.{Behind, same, dropped, one, then}
use Rattle.tree_laws.proofs.spans.TypesBehind.{words_behind, type_behind}

pub names_behind : {start us r : List Token} {p q : Pat} {d e : ℕ} → ReadsNames start p d us q e r → Behind us r
names_behind (no_name n) = same
names_behind (one_name {us = us} f l x) = then (dropped 2 us) (names_behind x)

mutual
  simple_behind : {text : List ℕ} {l : Lead} {ts r : List Token} {q : Pat} {d : ℕ} → ReadsSimple text l ts q d r → Behind ts r
  simple_behind (leaf {n = n} {ts = ts}) = dropped n ts
  simple_behind (name v f) = then (words_behind v) one
  simple_behind (quoted f x) = one
  simple_behind (paren x f) = then one (then (pattern_behind x) one)
  simple_behind (typed x f c g) = then one (then (pattern_behind x) (then one (then (type_behind c) one)))
  simple_behind (bracket x) = then one (list_behind x)
  simple_behind (brace x) = then one (fields_behind x)

  pub pattern_behind : {text : List ℕ} {level : Level} {ts r : List Token} {q : Pat} {d : ℕ} → Reads text level ts q d r → Behind ts r
  pattern_behind (simple x) = simple_behind x
  pattern_behind (bare n x) = pattern_behind x
  pattern_behind (applied m x) = then one (pattern_behind x)
  pattern_behind (no_cons x n) = pattern_behind x
  pattern_behind (cons x m y) = then (pattern_behind x) (then one (pattern_behind y))
  pattern_behind (no_tuple x n) = pattern_behind x
  pattern_behind (tuple x m y) = then (pattern_behind x) (then one (list_behind y))
  pattern_behind (either x y) = then (pattern_behind x) (others_behind y)
  pattern_behind (whole x y) = then (pattern_behind x) (names_behind y)

  others_behind : {text : List ℕ} {start us r : List Token} {o q : Pat} {d e : ℕ} → ReadsOthers text start o d us q e r → Behind us r
  others_behind (no_other n) = same
  others_behind (one_other f x y) = then one (then (pattern_behind x) (others_behind y))

  pub list_behind : {text : List ℕ} {k : Listing} {ts r : List Token} {ps : List Pat} {d : ℕ} → ReadsList text k ts ps d r → Behind ts r
  list_behind (last_one {n = n} {us = us} x f) = then (pattern_behind x) (dropped n us)
  list_behind (one_more {n = n} {us = us} x f y) = then (pattern_behind x) (then (dropped n us) (list_behind y))

  pub field_behind : {text : List ℕ} {ts r : List Token} {f : FieldPat} {d : ℕ} → ReadsField text ts f d r → Behind ts r
  field_behind (pun l n) = one
  field_behind (field {ts = ts} l e x) = then (dropped 2 ts) (pattern_behind x)

  pub fields_behind : {text : List ℕ} {ts r : List Token} {fs : List FieldPat} {more : Bool} {d : ℕ} → ReadsFields text ts fs more d r → Behind ts r
  fields_behind (last_field {n = n} {us = us} x g) = then (field_behind x) (dropped n us)
  fields_behind (next_field {us = us} x g y) = then (field_behind x) (then one (fields_behind y))

pub param_behind : {text : List ℕ} {l : ParamLead} {ts r : List Token} {o : Param} {d : ℕ} → ReadsParamBy text l ts o d r → Behind ts r
param_behind (short {n = n} {ts = ts}) = dropped n ts
param_behind (parens w x f) = then one (then (words_behind w) (then (pattern_behind x) one))
param_behind (annotated w x f c g) = then one (then (words_behind w) (then (pattern_behind x) (then one (then (type_behind c) one))))

pub params_behind : {text : List ℕ} {ts r : List Token} {ps : List Param} {d : ℕ} → ReadsParams text ts ps d r → Behind ts r
params_behind (last_param x f) = param_behind x
params_behind (next_param x f y) = then (param_behind x) (params_behind y)

-- How deep readings are.
use Rattle.std.proofs.Common.{ℕ, ◌≤◌, List, arith}
use Rattle.ml_lexer.specs.declared.token.Token.{Token}
use Rattle.ml_tree.specs.declared.pattern.Pat.{Pat}
use Rattle.ml_tree.specs.declared.pattern.FieldPat.{FieldPat}
use Rattle.ml_parse_patterns.specs.declared.looks.Lead.{Lead}
use Rattle.ml_parse_patterns.specs.declared.looks.Level.{Level}
use Rattle.ml_parse_patterns.specs.declared.looks.Listing.{Listing}
use Rattle.ml_parse_patterns.specs.declared.looks.ParamLead.{ParamLead}
use Rattle.ml_tree.specs.declared.pattern.Param.{Param}
use Rattle.ml_parse_patterns.specs.Patterns.{ReadsNames, no_name, one_name, ReadsSimple, leaf, name, quoted, paren, typed, bracket, brace, Reads, simple, bare, applied, no_cons, cons, no_tuple, tuple, either, whole, ReadsOthers, no_other, one_other, ReadsList, last_one, one_more, ReadsField, pun, field, ReadsParamBy, short, parens, annotated}

pub names_deeper : {start us r : List Token} {p q : Pat} {d e : ℕ} → ReadsNames start p d us q e r → d ≤ e
names_deeper (no_name n) = omega arith
names_deeper (one_name f l a) = let h = names_deeper a in omega arith

pub others_deeper : {text : List ℕ} {start us r : List Token} {p q : Pat} {d e : ℕ} → ReadsOthers text start p d us q e r → d ≤ e
others_deeper (no_other n) = omega arith
others_deeper (one_other f a c) = let h = others_deeper c in omega arith

pub simple_positive : {text : List ℕ} {l : Lead} {ts r : List Token} {p : Pat} {d : ℕ} → ReadsSimple text l ts p d r → 1 ≤ d
simple_positive leaf = omega arith
simple_positive (name a f) = omega arith
simple_positive (quoted e a) = omega arith
simple_positive (paren a f) = omega arith
simple_positive (typed a f t c) = omega arith
simple_positive (bracket a) = omega arith
simple_positive (brace a) = omega arith

-- each pattern has a depth of at least one
pub positive : {text : List ℕ} {level : Level} {ts r : List Token} {p : Pat} {d : ℕ} → Reads text level ts p d r → 1 ≤ d
positive (simple a) = simple_positive a
positive (bare n a) = positive a
positive (applied m a) = omega arith
positive (no_cons a n) = positive a
positive (cons a m c) = omega arith
positive (no_tuple a n) = positive a
positive (tuple a m c) = omega arith
positive (either a c) = let h = positive a in let g = others_deeper c in omega arith
positive (whole a c) = let h = positive a in let g = names_deeper c in omega arith

pub list_positive : {text : List ℕ} {k : Listing} {ts r : List Token} {ps : List Pat} {d : ℕ} → ReadsList text k ts ps d r → 1 ≤ d
list_positive (last_one a f) = positive a
list_positive (one_more a f c) = let h = positive a in omega arith

pub field_positive : {text : List ℕ} {ts r : List Token} {f : FieldPat} {d : ℕ} → ReadsField text ts f d r → 1 ≤ d
field_positive (pun l n) = omega arith
field_positive (field l e a) = positive a

pub param_positive : {text : List ℕ} {l : ParamLead} {ts r : List Token} {p : Param} {d : ℕ} → ReadsParamBy text l ts p d r → 1 ≤ d
param_positive short = omega arith
param_positive (parens w a f) = positive a
param_positive (annotated w a f t c) = omega arith

-- What is read takes at least one token.
use Rattle.std.proofs.Common.{◌≡◌, ◌<◌, ◌≤◌, ℕ, zero, suc, Bool, List, [], ◌∷◌, length, drop, refl, sym, arith, Some}
use Rattle.std.specs.Prelude.{slice_get}
use Rattle.ml_lexer.specs.declared.token.Token.{Token}
use Rattle.ml_tree.specs.declared.pattern.Pat.{Pat}
use Rattle.ml_tree.specs.declared.pattern.FieldPat.{FieldPat}
use Rattle.ml_tree.specs.declared.pattern.Param.{Param}
use Rattle.ml_cursor.specs.declared.front.Front.{Front}
use Rattle.ml_cursor.specs.Fronts.{front}
use Rattle.ml_parse_types.proofs.Shorter.{length-drop, words_rest, type_rest}
use Rattle.ml_parse_patterns.specs.declared.looks.Leaf.{Leaf}
use Rattle.ml_parse_patterns.specs.declared.looks.Lead.{Lead}
use Rattle.ml_parse_patterns.specs.declared.looks.Lead.TheVariants.{Whole}
use Rattle.ml_parse_patterns.specs.declared.looks.Level.{Level}
use Rattle.ml_parse_patterns.specs.declared.looks.Listing.{Listing}
use Rattle.ml_parse_patterns.specs.declared.looks.ParamLead.{ParamLead}
use Rattle.ml_parse_patterns.specs.declared.looks.ParamLead.TheVariants.{Short}
use Rattle.ml_parse_patterns.specs.Looks.{lead, lead_by, minus_by, paren_by, bracket_by, param_lead, param_lead_by, parens_by}
use Rattle.ml_parse_patterns.specs.Patterns.{ReadsNames, no_name, one_name, ReadsSimple, leaf, name, quoted, paren, typed, bracket, brace, Reads, simple, bare, applied, no_cons, cons, no_tuple, tuple, either, whole, ReadsOthers, no_other, one_other, ReadsList, last_one, one_more, ReadsField, pun, field, ReadsFields, last_field, next_field, ReadsParamBy, short, parens, annotated, ReadsParams, last_param, next_param}

pub lower_some : (ts : List Token) → front ts ≡ Front.Lower → length (drop 1 ts) < length ts
lower_some [] h = absurd (cc)
lower_some (t ∷ ts) h = omega arith

-- a leaf takes at least one token
minus_width : (f : Front) (ts : List Token) (l : Leaf) → minus_by f ts ≡ Whole l zero → ⊥
minus_width Front.Int ts l h = cc
minus_width _ ts l h = cc

paren_width : (f : Front) (l : Leaf) → paren_by f ≡ Whole l zero → ⊥
paren_width Front.CloseParen l h = cc
paren_width _ l h = cc

bracket_width : (f : Front) (l : Leaf) → bracket_by f ≡ Whole l zero → ⊥
bracket_width Front.CloseBracket l h = cc
bracket_width _ l h = cc

lead_width : (f : Front) (ts : List Token) (l : Leaf) → lead_by f ts ≡ Whole l zero → ⊥
lead_width Front.Minus ts l h = minus_width (front (drop 1 ts)) ts l h
lead_width Front.OpenParen ts l h = paren_width (front (drop 1 ts)) l h
lead_width Front.OpenBracket ts l h = bracket_width (front (drop 1 ts)) l h
lead_width _ ts l h = cc

pub leaf_shorter : (ts : List Token) (l : Leaf) (n : ℕ) → Whole l n ≡ lead ts → length (drop n ts) < length ts
unfolding lead
leaf_shorter [] l n h = absurd (cc)
leaf_shorter (t ∷ ts) l zero h = absurd (lead_width (front (t ∷ ts)) (t ∷ ts) l (sym h))
leaf_shorter (t ∷ ts) l (suc n) h = omega (arith, length-drop n ts)

open_width : (f : Front) (l : Leaf) → parens_by f ≡ Short l zero → ⊥
open_width Front.CloseParen l h = cc
open_width _ l h = cc

param_width : (f : Front) (ts : List Token) (l : Leaf) → param_lead_by f ts ≡ Short l zero → ⊥
param_width Front.OpenParen ts l h = open_width (front (drop 1 ts)) l h
param_width _ ts l h = cc

pub short_shorter : (ts : List Token) (l : Leaf) (n : ℕ) → Short l n ≡ param_lead ts → length (drop n ts) < length ts
unfolding param_lead
short_shorter [] l n h = absurd (cc)
short_shorter (t ∷ ts) l zero h = absurd (param_width (front (t ∷ ts)) (t ∷ ts) l (sym h))
short_shorter (t ∷ ts) l (suc n) h = omega (arith, length-drop n ts)

pub token_some : (ts : List Token) (t : Token) → slice_get ts 0 ≡ Some t → length (drop 1 ts) < length ts
token_some [] t h = absurd (cc)
token_some (u ∷ ts) t h = omega arith

pub names_rest : {start us r : List Token} {p q : Pat} {d e : ℕ} → ReadsNames start p d us q e r → length r ≤ length us
names_rest (no_name n) = omega arith
names_rest (one_name {us = us} f l a) = omega (arith, names_rest a, length-drop 2 us)

mutual
  simple_shorter : {text : List ℕ} {l : Lead} {ts r : List Token} {p : Pat} {d : ℕ} → ReadsSimple text l ts p d r → l ≡ lead ts → length r < length ts
  simple_shorter (leaf {l = l} {n = n} {ts = ts}) e = leaf_shorter ts l n e
  simple_shorter (name {ts = ts} {us = us} w f) e = (let h = words_rest w in omega (arith, h, lower_some us f))
  simple_shorter (quoted {t = t} {ts = ts} f a) e = token_some ts t f
  simple_shorter (paren {ts = ts} {us = us} a f) e = omega (arith, shorter a, length-drop 1 ts, length-drop 1 us)
  simple_shorter (typed {ts = ts} {us = us} {vs = vs} a f t c) e = (let h = type_rest t in omega (arith, h, shorter a, length-drop 1 ts, length-drop 1 us, length-drop 1 vs))
  simple_shorter (bracket {ts = ts} a) e = omega (arith, list_shorter a, length-drop 1 ts)
  simple_shorter (brace {ts = ts} a) e = omega (arith, fields_shorter a, length-drop 1 ts)

  -- each pattern takes a token
  pub shorter : {text : List ℕ} {level : Level} {ts r : List Token} {p : Pat} {d : ℕ} → Reads text level ts p d r → length r < length ts
  shorter (simple a) = simple_shorter a refl
  shorter (bare n a) = shorter a
  shorter (applied {ts = ts} m a) = omega (arith, shorter a, length-drop 1 ts)
  shorter (no_cons a n) = shorter a
  shorter (cons {us = us} a m c) = omega (arith, shorter a, shorter c, length-drop 1 us)
  shorter (no_tuple a n) = shorter a
  shorter (tuple {us = us} a m c) = omega (arith, shorter a, list_shorter c, length-drop 1 us)
  shorter (either a c) = omega (arith, shorter a, others_rest c)
  shorter (whole a c) = omega (arith, shorter a, names_rest c)

  pub others_rest : {text : List ℕ} {start us r : List Token} {p q : Pat} {d e : ℕ} → ReadsOthers text start p d us q e r → length r ≤ length us
  others_rest (no_other n) = omega arith
  others_rest (one_other {us = us} f a c) = omega (arith, shorter a, others_rest c, length-drop 1 us)

  list_shorter : {text : List ℕ} {k : Listing} {ts r : List Token} {ps : List Pat} {d : ℕ} → ReadsList text k ts ps d r → length r < length ts
  list_shorter (last_one {n = n} {us = us} a f) = omega (arith, shorter a, length-drop n us)
  list_shorter (one_more {n = n} {us = us} a f c) = omega (arith, shorter a, list_shorter c, length-drop n us)

  pub field_shorter : {text : List ℕ} {ts r : List Token} {f : FieldPat} {d : ℕ} → ReadsField text ts f d r → length r < length ts
  field_shorter (pun {ts = ts} l n) = lower_some ts l
  field_shorter (field {ts = ts} l e a) = omega (arith, shorter a, length-drop 2 ts)

  pub fields_shorter : {text : List ℕ} {ts r : List Token} {fs : List FieldPat} {more : Bool} {d : ℕ} → ReadsFields text ts fs more d r → length r < length ts
  fields_shorter (last_field {n = n} {us = us} a f) = omega (arith, field_shorter a, length-drop n us)
  fields_shorter (next_field {us = us} a f c) = omega (arith, field_shorter a, fields_shorter c, length-drop 1 us)

-- each parameter takes a token
param_by_shorter : {text : List ℕ} {l : ParamLead} {ts r : List Token} {p : Param} {d : ℕ} → ReadsParamBy text l ts p d r → l ≡ param_lead ts → length r < length ts
param_by_shorter (short {l = l} {n = n} {ts = ts}) e = short_shorter ts l n e
param_by_shorter (parens {ts = ts} {vs = vs} w a f) e = (let h = words_rest w in omega (arith, h, shorter a, length-drop 1 ts, length-drop 1 vs))
param_by_shorter (annotated {ts = ts} {vs = vs} {xs = xs} w a f t c) e =
    (let h = words_rest w in let g = type_rest t in omega (arith, h, g, shorter a, length-drop 1 ts, length-drop 1 vs, length-drop 1 xs))

pub param_shorter : {text : List ℕ} {ts r : List Token} {p : Param} {d : ℕ} → ReadsParamBy text (param_lead ts) ts p d r → length r < length ts
param_shorter a = param_by_shorter a refl

pub params_shorter : {text : List ℕ} {ts r : List Token} {ps : List Param} {d : ℕ} → ReadsParams text ts ps d r → length r < length ts
params_shorter (last_param a f) = param_shorter a
params_shorter (next_param a f c) = omega (arith, param_shorter a, params_shorter c)

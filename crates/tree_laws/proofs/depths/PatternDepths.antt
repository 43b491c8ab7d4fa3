-- The depth of the reading of a pattern is that of its tree.
use Rattle.std.proofs.Common.{◌≡◌, ◌+◌, ℕ, Bool, List, ◌∷◌, drop, sym, ap, ◌∙◌, arith, Some, None}
use Rattle.std.specs.Prelude.{max, map}
use Rattle.oxml_base.specs.declared.span.Span.{Span}
use Rattle.ml_lexer.specs.declared.token.Token.{Token}
use Rattle.ml_cursor.specs.Places.{extent, first_span}
use Rattle.ml_tree.specs.declared.types.TyExpr.{TyExpr}
use Rattle.ml_tree.specs.declared.words.Words.{Words}
use Rattle.ml_tree.specs.declared.pattern.Pat.{Pat, fold-roll-Pat}
use Rattle.ml_tree.specs.declared.pattern.FieldPat.{FieldPat, fold-roll-FieldPat}
use Rattle.ml_tree.specs.declared.pattern.Param.{Param}
use Rattle.ml_tree.specs.declared.pattern.PatKind.{PatKind, fold-roll-PatKind, map-PatKind, roll-PatKind}
use Rattle.ml_tree.specs.declared.pattern.PatKind.TheVariants as Kind
use Rattle.ml_tree.specs.declared.pattern.PatKind.TheOpen as p
use Rattle.ml_tree.specs.declared.pattern.PatKind.TheOpen.{PatKind-F}
use Rattle.ml_tree.specs.declared.pattern.ConName.TheVariants.{Named}
use Rattle.ml_tree.specs.Depth.{greatest, pattern_step, field_pattern_step, pattern_node, pattern_depth, pattern_kind_depth, field_pattern_depth, param_depth}
use Rattle.ml_parse_types.specs.Looks.{no_words}
use Rattle.ml_parse_patterns.specs.declared.looks.Leaf.{Leaf}
use Rattle.ml_parse_patterns.specs.declared.looks.Leaf.TheVariants.{Any, Bound, Int, Char, Con}
use Rattle.ml_parse_patterns.specs.declared.looks.Lead.{Lead}
use Rattle.ml_parse_patterns.specs.declared.looks.Level.{Level}
use Rattle.ml_parse_patterns.specs.declared.looks.Listing.{Listing}
use Rattle.ml_parse_patterns.specs.declared.looks.ParamLead.{ParamLead}
use Rattle.ml_parse_patterns.specs.Looks.{node, leaf_kind}
use Rattle.ml_parse_patterns.specs.Patterns.{ReadsNames, no_name, one_name, ReadsSimple, leaf, name, quoted, paren, typed, bracket, brace, Reads, simple, bare, applied, no_cons, cons, no_tuple, tuple, either, whole, ReadsOthers, no_other, one_other, ReadsList, last_one, one_more, ReadsField, pun, field, ReadsFields, last_field, next_field, ReadsParamBy, short, parens, annotated, ReadsParams, last_param, next_param}
use Rattle.ml_grammar.specs.Trees.{name_pattern}

-- a node, by the parts of its kind
node_at : (ts r : List Token) (l : PatKind-F PatKind FieldPat Pat) (k : PatKind) → roll-PatKind l ≡ k → pattern_depth (node ts r k) ≡ pattern_step (map-PatKind PatKind FieldPat Pat ℕ ℕ ℕ pattern_kind_depth field_pattern_depth pattern_depth l) + 1
node_at ts r l k q =
    fold-roll-Pat ℕ ℕ ℕ pattern_step field_pattern_step pattern_node (record { id = 0; span = extent ts r; kind = k }) ∙
    ap (λ n. n + 1) (ap pattern_kind_depth (sym q) ∙ fold-roll-PatKind ℕ ℕ ℕ pattern_step field_pattern_step pattern_node l)

of_leaf : (ts r : List Token) (l : Leaf) → pattern_depth (node ts r (leaf_kind l)) ≡ 1
of_leaf ts r Any = node_at ts r p.Any Kind.Any Kind.rolls-Any
of_leaf ts r (Bound s) = node_at ts r (p.Name _ s) (leaf_kind (Bound s)) (Kind.rolls-Name _ s)
of_leaf ts r (Int z) = node_at ts r (p.Int z) (Kind.Int z) (Kind.rolls-Int z)
of_leaf ts r (Char c) = node_at ts r (p.Char c) (Kind.Char c) (Kind.rolls-Char c)
of_leaf ts r (Con n) = node_at ts r (p.Con n None) (Kind.Con n None) (Kind.rolls-Con n None)

of_name : (ts r : List Token) (w : Words) (s : Span) → pattern_depth (node ts r (Kind.Name w s)) ≡ 1
of_name ts r w s = node_at ts r (p.Name w s) (Kind.Name w s) (Kind.rolls-Name w s)

of_text : (ts r : List Token) (bytes : List ℕ) → pattern_depth (node ts r (Kind.Text (record { bytes = bytes }))) ≡ 1
of_text ts r bytes = node_at ts r (p.Text (record { bytes = bytes })) (Kind.Text (record { bytes = bytes })) (Kind.rolls-Text (record { bytes = bytes }))

of_con : (ts r : List Token) (s : Span) (q : Pat) → pattern_depth (node ts r (Kind.Con (Named s) (Some q))) ≡ pattern_depth q + 1
of_con ts r s q = node_at ts r (p.Con (Named s) (Some q)) (Kind.Con (Named s) (Some q)) (Kind.rolls-Con (Named s) (Some q))

of_cons : (ts r : List Token) (a b : Pat) → pattern_depth (node ts r (Kind.Cons a b)) ≡ max (pattern_depth a) (pattern_depth b) + 1
of_cons ts r a b = node_at ts r (p.Cons a b) (Kind.Cons a b) (Kind.rolls-Cons a b)

of_or : (ts r : List Token) (a b : Pat) → pattern_depth (node ts r (Kind.Or a b)) ≡ max (pattern_depth a) (pattern_depth b) + 1
of_or ts r a b = node_at ts r (p.Or a b) (Kind.Or a b) (Kind.rolls-Or a b)

of_tuple : (ts r : List Token) (ps : List Pat) → pattern_depth (node ts r (Kind.Tuple ps)) ≡ greatest (map pattern_depth ps) + 1
of_tuple ts r ps = node_at ts r (p.Tuple ps) (Kind.Tuple ps) (Kind.rolls-Tuple ps)

of_list : (ts r : List Token) (ps : List Pat) → pattern_depth (node ts r (Kind.List ps)) ≡ greatest (map pattern_depth ps) + 1
of_list ts r ps = node_at ts r (p.List ps) (Kind.List ps) (Kind.rolls-List ps)

of_fields : (ts r : List Token) (fs : List FieldPat) (more : Bool) → pattern_depth (node ts r (Kind.Fields fs more)) ≡ greatest (map field_pattern_depth fs) + 1
of_fields ts r fs more = node_at ts r (p.Fields fs more) (Kind.Fields fs more) (Kind.rolls-Fields fs more)

of_named : (ts r : List Token) (a : Pat) (s : Span) → pattern_depth (node ts r (Kind.Named a s)) ≡ pattern_depth a + 1
of_named ts r a s = node_at ts r (p.Named a s) (Kind.Named a s) (Kind.rolls-Named a s)

of_typed : (ts r : List Token) (a : Pat) (t : TyExpr) → pattern_depth (node ts r (Kind.Typed a t)) ≡ pattern_depth a + 1
of_typed ts r a t = node_at ts r (p.Typed a t) (Kind.Typed a t) (Kind.rolls-Typed a t)

of_paren : (ts r : List Token) (a : Pat) → pattern_depth (node ts r (Kind.Paren a)) ≡ pattern_depth a + 1
of_paren ts r a = node_at ts r (p.Paren a) (Kind.Paren a) (Kind.rolls-Paren a)

of_field : (s : Span) (q : Pat) → field_pattern_depth (record { id = 0; name = s; pat = q }) ≡ pattern_depth q
of_field s q = fold-roll-FieldPat ℕ ℕ ℕ pattern_step field_pattern_step pattern_node (record { id = 0; name = s; pat = q })

pub of_name_pattern : (s : Span) → pattern_depth (name_pattern s) ≡ 1
of_name_pattern s =
    fold-roll-Pat ℕ ℕ ℕ pattern_step field_pattern_step pattern_node (record { id = 0; span = s; kind = Kind.Name no_words s }) ∙
    ap (λ n. n + 1) (ap pattern_kind_depth (sym (Kind.rolls-Name no_words s)) ∙ fold-roll-PatKind ℕ ℕ ℕ pattern_step field_pattern_step pattern_node (p.Name no_words s))

names_depth_is : {start us r : List Token} {p q : Pat} {d e : ℕ} → ReadsNames start p d us q e r → d ≡ pattern_depth p → e ≡ pattern_depth q
names_depth_is (no_name n) h = h
names_depth_is {start = start} (one_name {p = p} {us = us} f l x) h = let n = of_named start (drop 2 us) p (first_span (drop 1 us)) in names_depth_is x (omega arith)

mutual
  simple_depth_is : {text : List ℕ} {l : Lead} {ts r : List Token} {q : Pat} {d : ℕ} → ReadsSimple text l ts q d r → d ≡ pattern_depth q
  simple_depth_is (leaf {l = l} {n = n} {ts = ts}) = sym (of_leaf ts (drop n ts) l)
  simple_depth_is (name {w = w} {ts = ts} {us = us} v f) = sym (of_name ts (drop 1 us) w (first_span us))
  simple_depth_is (quoted {bytes = bytes} {ts = ts} f x) = sym (of_text ts (drop 1 ts) bytes)
  simple_depth_is (paren {p = q} {ts = ts} {us = us} x f) = let n = of_paren ts (drop 1 us) q in let i = pattern_depth_is x in omega arith
  simple_depth_is (typed {p = q} {t = t} {ts = ts} {us = us} {vs = vs} x f c g) = let n = of_typed ts (drop 1 vs) q t in let i = pattern_depth_is x in omega arith
  simple_depth_is (bracket {ps = ps} {ts = ts} {us = us} x) = let n = of_list ts us ps in let i = list_depth_is x in omega arith
  simple_depth_is (brace {fs = fs} {more = more} {ts = ts} {us = us} x) = let n = of_fields ts us fs more in let i = fields_depth_is x in omega arith

  pub pattern_depth_is : {text : List ℕ} {level : Level} {ts r : List Token} {q : Pat} {d : ℕ} → Reads text level ts q d r → d ≡ pattern_depth q
  pattern_depth_is (simple x) = simple_depth_is x
  pattern_depth_is (bare n x) = pattern_depth_is x
  pattern_depth_is (applied {p = q} {ts = ts} {us = us} m x) = let n = of_con ts us (first_span ts) q in let i = pattern_depth_is x in omega arith
  pattern_depth_is (no_cons x n) = pattern_depth_is x
  pattern_depth_is (cons {p = o} {q = q} {ts = ts} {r = r} x m y) = let n = of_cons ts r o q in let i = pattern_depth_is x in let j = pattern_depth_is y in omega arith
  pattern_depth_is (no_tuple x n) = pattern_depth_is x
  pattern_depth_is (tuple {p = o} {qs = qs} {ts = ts} {r = r} x m y) = let n = of_tuple ts r (o ∷ qs) in let i = pattern_depth_is x in let j = list_depth_is y in omega arith
  pattern_depth_is (either x y) = others_depth_is y (pattern_depth_is x)
  pattern_depth_is (whole x y) = names_depth_is y (pattern_depth_is x)

  others_depth_is : {text : List ℕ} {start us r : List Token} {o q : Pat} {d e : ℕ} → ReadsOthers text start o d us q e r → d ≡ pattern_depth o → e ≡ pattern_depth q
  others_depth_is (no_other n) h = h
  others_depth_is (one_other {p = o} {q = q} {start = start} {vs = vs} f x y) h = let n = of_or start vs o q in let i = pattern_depth_is x in others_depth_is y (omega arith)

  list_depth_is : {text : List ℕ} {k : Listing} {ts r : List Token} {ps : List Pat} {d : ℕ} → ReadsList text k ts ps d r → d ≡ greatest (map pattern_depth ps)
  list_depth_is (last_one x f) = let i = pattern_depth_is x in omega arith
  list_depth_is (one_more x f y) = let i = pattern_depth_is x in let j = list_depth_is y in omega arith

  field_depth_is : {text : List ℕ} {ts r : List Token} {f : FieldPat} {d : ℕ} → ReadsField text ts f d r → d ≡ field_pattern_depth f
  field_depth_is (pun {ts = ts} l n) = sym (of_field (first_span ts) (node ts (drop 1 ts) (leaf_kind (Bound (first_span ts)))) ∙ of_leaf ts (drop 1 ts) (Bound (first_span ts)))
  field_depth_is (field {p = q} {ts = ts} l e x) = pattern_depth_is x ∙ sym (of_field (first_span ts) q)

  fields_depth_is : {text : List ℕ} {ts r : List Token} {fs : List FieldPat} {more : Bool} {d : ℕ} → ReadsFields text ts fs more d r → d ≡ greatest (map field_pattern_depth fs)
  fields_depth_is (last_field x g) = let i = field_depth_is x in omega arith
  fields_depth_is (next_field x g y) = let i = field_depth_is x in let j = fields_depth_is y in omega arith

param_depth_is : {text : List ℕ} {l : ParamLead} {ts r : List Token} {o : Param} {d : ℕ} → ReadsParamBy text l ts o d r → d ≡ param_depth o
param_depth_is (short {l = l} {n = n} {ts = ts}) = sym (of_leaf ts (drop n ts) l)
param_depth_is (parens w x f) = pattern_depth_is x
param_depth_is (annotated {p = q} {t = t} {us = us} {xs = xs} w x f c g) = let n = of_typed us xs q t in let i = pattern_depth_is x in omega arith

pub params_depth_is : {text : List ℕ} {ts r : List Token} {ps : List Param} {d : ℕ} → ReadsParams text ts ps d r → d ≡ greatest (map param_depth ps)
params_depth_is (last_param x f) = let i = param_depth_is x in omega arith
params_depth_is (next_param x f y) = let i = param_depth_is x in let j = params_depth_is y in omega arith

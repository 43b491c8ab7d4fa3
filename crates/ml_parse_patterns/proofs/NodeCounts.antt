-- At most two nodes for each token read.
use Rattle.std.proofs.Common.{◌≡◌, ◌≢◌, ◌≤◌, ◌+◌, ◌*◌, ℕ, Bool, List, [], ◌∷◌, length, drop, refl, sym, ap, ◌∙◌, arith, Some, None}
use Rattle.std.specs.Prelude.{sum, map}
use Rattle.std.proofs.lemmas.List.Sums.{sum_by-cons}
use Rattle.oxml_base.specs.declared.span.Span.{Span}
use Rattle.ml_lexer.specs.declared.token.Token.{Token}
use Rattle.ml_tree.specs.declared.pattern.Pat.{Pat, fold-roll-Pat}
use Rattle.ml_tree.specs.declared.pattern.FieldPat.{FieldPat, fold-roll-FieldPat}
use Rattle.ml_tree.specs.declared.pattern.Param.{Param}
use Rattle.ml_tree.specs.declared.pattern.PatKind.{PatKind, fold-roll-PatKind, map-PatKind, roll-PatKind}
use Rattle.ml_tree.specs.declared.pattern.PatKind.TheVariants as Kind
use Rattle.ml_tree.specs.declared.pattern.PatKind.TheOpen as p
use Rattle.ml_tree.specs.declared.pattern.PatKind.TheOpen.{PatKind-F}
use Rattle.ml_tree.specs.declared.pattern.ConName.TheVariants.{Named}
use Rattle.ml_tree.specs.Nodes.{pattern_step, field_pattern_node, pattern_node, pattern_nodes, pattern_kind_nodes, field_pattern_nodes, param_nodes}
use Rattle.ml_cursor.specs.Fronts.{front}
use Rattle.ml_cursor.specs.declared.front.Front.TheVariants as Front
use Rattle.ml_cursor.specs.Places.{extent, first_span}
use Rattle.ml_tree.specs.declared.types.TyExpr.{TyExpr}
use Rattle.ml_tree.specs.declared.words.Words.{Words}
use Rattle.ml_parse_patterns.proofs.Shorter.{leaf_shorter, short_shorter, lower_some, token_some, fields_shorter}
use Rattle.ml_parse_types.proofs.Shorter.{length-drop, words_rest, type_rest}
use Rattle.ml_parse_patterns.specs.declared.looks.Leaf.{Leaf}
use Rattle.ml_parse_patterns.specs.declared.looks.Leaf.TheVariants.{Any, Bound, Int, Char, Con}
use Rattle.ml_parse_patterns.specs.declared.looks.Lead.{Lead}
use Rattle.ml_parse_patterns.specs.declared.looks.Level.{Level}
use Rattle.ml_parse_patterns.specs.declared.looks.Listing.{Listing}
use Rattle.ml_parse_patterns.specs.declared.looks.ParamLead.{ParamLead}
use Rattle.ml_parse_patterns.specs.Looks.{node, leaf_kind, lead, param_lead}
use Rattle.ml_parse_patterns.specs.Patterns.{ReadsNames, no_name, one_name, ReadsSimple, leaf, name, quoted, paren, typed, bracket, brace, Reads, simple, bare, applied, no_cons, cons, no_tuple, tuple, either, whole, ReadsOthers, no_other, one_other, ReadsList, last_one, one_more, ReadsField, pun, field, ReadsFields, last_field, next_field, ReadsParamBy, short, parens, annotated, ReadsParams, last_param, next_param}

-- the nodes of a kind, by its parts
kind_at : (l : PatKind-F PatKind FieldPat Pat) (k : PatKind) → roll-PatKind l ≡ k → pattern_kind_nodes k ≡ pattern_step (map-PatKind PatKind FieldPat Pat ℕ ℕ ℕ pattern_kind_nodes field_pattern_nodes pattern_nodes l)
kind_at l k e = ap pattern_kind_nodes (sym e) ∙ fold-roll-PatKind ℕ ℕ ℕ pattern_step field_pattern_node pattern_node l

of_node : (ts r : List Token) (k : PatKind) → pattern_nodes (node ts r k) ≡ pattern_kind_nodes k + 1
of_node ts r k = fold-roll-Pat ℕ ℕ ℕ pattern_step field_pattern_node pattern_node (record { id = 0; span = extent ts r; kind = k })

of_leaf : (l : Leaf) → pattern_kind_nodes (leaf_kind l) ≡ 0
of_leaf Any = kind_at p.Any Kind.Any Kind.rolls-Any
of_leaf (Bound s) = kind_at (p.Name _ s) (leaf_kind (Bound s)) (Kind.rolls-Name _ s)
of_leaf (Int z) = kind_at (p.Int z) (Kind.Int z) (Kind.rolls-Int z)
of_leaf (Char c) = kind_at (p.Char c) (Kind.Char c) (Kind.rolls-Char c)
of_leaf (Con n) = kind_at (p.Con n None) (Kind.Con n None) (Kind.rolls-Con n None)

of_con : (s : Span) (q : Pat) → pattern_kind_nodes (Kind.Con (Named s) (Some q)) ≡ pattern_nodes q
of_con s q = kind_at (p.Con (Named s) (Some q)) (Kind.Con (Named s) (Some q)) (Kind.rolls-Con (Named s) (Some q))

of_cons : (a b : Pat) → pattern_kind_nodes (Kind.Cons a b) ≡ pattern_nodes a + pattern_nodes b
of_cons a b = kind_at (p.Cons a b) (Kind.Cons a b) (Kind.rolls-Cons a b)

of_tuple : (ps : List Pat) → pattern_kind_nodes (Kind.Tuple ps) ≡ sum (map pattern_nodes ps)
of_tuple ps = kind_at (p.Tuple ps) (Kind.Tuple ps) (Kind.rolls-Tuple ps)

of_field : (s : Span) (q : Pat) → field_pattern_nodes (record { id = 0; name = s; pat = q }) ≡ pattern_nodes q + 1
of_field s q = fold-roll-FieldPat ℕ ℕ ℕ pattern_step field_pattern_node pattern_node (record { id = 0; name = s; pat = q })

of_list : (ps : List Pat) → pattern_kind_nodes (Kind.List ps) ≡ sum (map pattern_nodes ps)
of_list ps = kind_at (p.List ps) (Kind.List ps) (Kind.rolls-List ps)

of_fields : (fs : List FieldPat) (more : Bool) → pattern_kind_nodes (Kind.Fields fs more) ≡ sum (map field_pattern_nodes fs)
of_fields fs more = kind_at (p.Fields fs more) (Kind.Fields fs more) (Kind.rolls-Fields fs more)

of_or : (a b : Pat) → pattern_kind_nodes (Kind.Or a b) ≡ pattern_nodes a + pattern_nodes b
of_or a b = kind_at (p.Or a b) (Kind.Or a b) (Kind.rolls-Or a b)

of_named : (a : Pat) (s : Span) → pattern_kind_nodes (Kind.Named a s) ≡ pattern_nodes a
of_named a s = kind_at (p.Named a s) (Kind.Named a s) (Kind.rolls-Named a s)

of_typed : (a : Pat) (t : TyExpr) → pattern_kind_nodes (Kind.Typed a t) ≡ pattern_nodes a
of_typed a t = kind_at (p.Typed a t) (Kind.Typed a t) (Kind.rolls-Typed a t)

of_paren : (a : Pat) → pattern_kind_nodes (Kind.Paren a) ≡ pattern_nodes a
of_paren a = kind_at (p.Paren a) (Kind.Paren a) (Kind.rolls-Paren a)

of_name : (w : Words) (s : Span) → pattern_kind_nodes (Kind.Name w s) ≡ 0
of_name w s = kind_at (p.Name w s) (Kind.Name w s) (Kind.rolls-Name w s)

of_text : (bytes : List ℕ) → pattern_kind_nodes (Kind.Text (record { bytes = bytes })) ≡ 0
of_text bytes = kind_at (p.Text (record { bytes = bytes })) (Kind.Text (record { bytes = bytes })) (Kind.rolls-Text (record { bytes = bytes }))

sum_more : (x : ℕ) (xs : List ℕ) → sum (x ∷ xs) ≡ x + sum xs
sum_more x xs = sum_by-cons (λ n. n) x xs

drop_two : (ts : List Token) → front (drop 1 ts) ≡ Front.Lower → length (drop 2 ts) + 2 ≤ length ts
drop_two [] h = absurd (cc)
drop_two (t ∷ []) h = absurd (cc)
drop_two (t ∷ u ∷ ts) h = omega arith

front_some : (ts : List Token) → front ts ≢ Front.Nothing → length (drop 1 ts) + 1 ≤ length ts
front_some [] h = absurd (h refl)
front_some (t ∷ ts) h = omega arith

stands : (ts : List Token) (f : _) → front ts ≡ f → f ≢ Front.Nothing → length (drop 1 ts) + 1 ≤ length ts
stands ts f e n = front_some ts (λ h. n (sym e ∙ h))

tail_some : (ts : List Token) → 1 ≤ length (drop 1 ts) → length (drop 1 ts) + 1 ≤ length ts
tail_some [] h = absurd (omega (arith, h))
tail_some (t ∷ ts) h = omega arith

pub names_nodes : {start us r : List Token} {p q : Pat} {d e : ℕ} → ReadsNames start p d us q e r → pattern_nodes q + 2 * length r ≤ pattern_nodes p + 2 * length us
names_nodes (no_name n) = omega arith
names_nodes {start = start} (one_name {p = p} {us = us} f l a) =
    omega (arith, names_nodes a, of_node start (drop 2 us) (Kind.Named p (first_span (drop 1 us))), of_named p (first_span (drop 1 us)), drop_two us l)

mutual
  simple_nodes : {text : List ℕ} {l : Lead} {ts r : List Token} {q : Pat} {d : ℕ} → ReadsSimple text l ts q d r → l ≡ lead ts → pattern_nodes q + 1 + 2 * length r ≤ 2 * length ts
  simple_nodes (leaf {l = l} {n = n} {ts = ts}) e = omega (arith, of_node ts (drop n ts) (leaf_kind l), of_leaf l, leaf_shorter ts l n e)
  simple_nodes (name {w = w} {ts = ts} {us = us} v f) e = (let h = words_rest v in omega (arith, h, of_node ts (drop 1 us) (Kind.Name w (first_span us)), of_name w (first_span us), lower_some us f))
  simple_nodes (quoted {t = t} {bytes = bytes} {ts = ts} f a) e = omega (arith, of_node ts (drop 1 ts) (Kind.Text (record { bytes = bytes })), of_text bytes, token_some ts t f)
  simple_nodes (paren {p = q} {ts = ts} {us = us} a f) e = omega (arith, pattern_bound a, of_node ts (drop 1 us) (Kind.Paren q), of_paren q, length-drop 1 ts, stands us _ f (λ h. cc))
  simple_nodes (typed {p = q} {t = t} {ts = ts} {us = us} {vs = vs} a f c g) e = (let h = type_rest c in omega (arith, h, pattern_bound a, of_node ts (drop 1 vs) (Kind.Typed q t), of_typed q t, length-drop 1 ts, stands us _ f (λ h. cc), length-drop 1 vs))
  simple_nodes (bracket {ps = ps} {ts = ts} {us = us} a) e = (let h = list_bound a in omega (arith, h, of_node ts us (Kind.List ps), of_list ps, tail_some ts (omega (arith, h))))
  simple_nodes (brace {fs = fs} {more = more} {ts = ts} {us = us} a) e = (let h = fields_bound a in omega (arith, h, of_node ts us (Kind.Fields fs more), of_fields fs more, tail_some ts (omega (arith, fields_shorter a))))

  -- at most two nodes for each token
  pub pattern_bound : {text : List ℕ} {level : Level} {ts r : List Token} {q : Pat} {d : ℕ} → Reads text level ts q d r → pattern_nodes q + 1 + 2 * length r ≤ 2 * length ts
  pattern_bound (simple a) = simple_nodes a refl
  pattern_bound (bare n a) = pattern_bound a
  pattern_bound (applied {p = q} {ts = ts} {us = us} m a) = (let h = pattern_bound a in omega (arith, h, of_node ts us (Kind.Con (Named (first_span ts)) (Some q)), of_con (first_span ts) q, tail_some ts (omega (arith, h))))
  pattern_bound (no_cons a n) = pattern_bound a
  pattern_bound (cons {p = o} {q = q} {ts = ts} {us = us} {r = r} a m c) = omega (arith, pattern_bound a, pattern_bound c, of_node ts r (Kind.Cons o q), of_cons o q, stands us _ m (λ h. cc))
  pattern_bound (no_tuple a n) = pattern_bound a
  pattern_bound (tuple {p = o} {qs = qs} {ts = ts} {us = us} {r = r} a m c) =
      omega (arith, pattern_bound a, list_bound c, of_node ts r (Kind.Tuple (o ∷ qs)), of_tuple (o ∷ qs), sum_more (pattern_nodes o) (map pattern_nodes qs), stands us _ m (λ h. cc))
  pattern_bound (either a c) = omega (arith, pattern_bound a, others_nodes c)
  pattern_bound (whole a c) = omega (arith, pattern_bound a, names_nodes c)

  others_nodes : {text : List ℕ} {start us r : List Token} {o q : Pat} {d e : ℕ} → ReadsOthers text start o d us q e r → pattern_nodes q + 2 * length r ≤ pattern_nodes o + 2 * length us
  others_nodes (no_other n) = omega arith
  others_nodes (one_other {p = o} {q = q} {start = start} {us = us} {vs = vs} f a c) =
      omega (arith, pattern_bound a, others_nodes c, of_node start vs (Kind.Or o q), of_or o q, stands us _ f (λ h. cc))

  list_bound : {text : List ℕ} {k : Listing} {ts r : List Token} {ps : List Pat} {d : ℕ} → ReadsList text k ts ps d r → sum (map pattern_nodes ps) + 1 + 2 * length r ≤ 2 * length ts
  list_bound (last_one {p = o} {n = n} {us = us} a f) = omega (arith, pattern_bound a, sum_more (pattern_nodes o) [], length-drop n us)
  list_bound (one_more {p = o} {ps = ps} {n = n} {us = us} a f c) = omega (arith, pattern_bound a, list_bound c, sum_more (pattern_nodes o) (map pattern_nodes ps), length-drop n us)

  field_bound : {text : List ℕ} {ts r : List Token} {f : FieldPat} {d : ℕ} → ReadsField text ts f d r → field_pattern_nodes f + 2 * length r ≤ 2 * length ts
  field_bound (pun {ts = ts} l n) =
      omega (arith, of_field (first_span ts) (node ts (drop 1 ts) (leaf_kind (Bound (first_span ts)))), of_node ts (drop 1 ts) (leaf_kind (Bound (first_span ts))), of_leaf (Bound (first_span ts)), lower_some ts l)
  field_bound (field {p = q} {ts = ts} l e a) = omega (arith, pattern_bound a, of_field (first_span ts) q, length-drop 2 ts)

  fields_bound : {text : List ℕ} {ts r : List Token} {fs : List FieldPat} {more : Bool} {d : ℕ} → ReadsFields text ts fs more d r → sum (map field_pattern_nodes fs) + 2 * length r ≤ 2 * length ts
  fields_bound (last_field {f = f} {n = n} {us = us} a g) = omega (arith, field_bound a, sum_more (field_pattern_nodes f) [], length-drop n us)
  fields_bound (next_field {f = f} {fs = fs} {us = us} a g c) = omega (arith, field_bound a, fields_bound c, sum_more (field_pattern_nodes f) (map field_pattern_nodes fs), length-drop 1 us)

param_by_bound : {text : List ℕ} {l : ParamLead} {ts r : List Token} {o : Param} {d : ℕ} → ReadsParamBy text l ts o d r → l ≡ param_lead ts → param_nodes o + 1 + 2 * length r ≤ 2 * length ts
param_by_bound (short {l = l} {n = n} {ts = ts}) e = omega (arith, of_node ts (drop n ts) (leaf_kind l), of_leaf l, short_shorter ts l n e)
param_by_bound (parens {ts = ts} {vs = vs} w a f) e = (let h = words_rest w in omega (arith, h, pattern_bound a, length-drop 1 ts, length-drop 1 vs))
param_by_bound (annotated {p = q} {t = t} {ts = ts} {us = us} {vs = vs} {xs = xs} w a f c g) e =
    (let h = words_rest w in let i = type_rest c in omega (arith, h, i, pattern_bound a, of_node us xs (Kind.Typed q t), of_typed q t, length-drop 1 ts, stands vs _ f (λ h. cc), length-drop 1 xs))

pub params_bound : {text : List ℕ} {ts r : List Token} {ps : List Param} {d : ℕ} → ReadsParams text ts ps d r → sum (map param_nodes ps) + 1 + 2 * length r ≤ 2 * length ts
params_bound (last_param {p = o} a f) = omega (arith, param_by_bound a refl, sum_more (param_nodes o) [])
params_bound (next_param {p = o} {ps = ps} a f c) = omega (arith, param_by_bound a refl, params_bound c, sum_more (param_nodes o) (map param_nodes ps))

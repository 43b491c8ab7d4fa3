-- One tree, depth and rest for each part.
use Rattle.std.proofs.Common.{◌≡◌, ◌≢◌, ℕ, ◌+◌, max, Bool, true, false, List, [], ◌∷◌, drop, Some, refl, sym, ap, ap₂, subst, ◌∙◌}
use Rattle.ml_lexer.specs.declared.token.Token.{Token}
use Rattle.ml_lexer.specs.Tokens.{IsLiteral}
use Rattle.ml_lexer.proofs.Unique.{one_literal}
use Rattle.ml_tree.specs.declared.pattern.Pat.{Pat}
use Rattle.ml_tree.specs.declared.pattern.FieldPat.{FieldPat}
use Rattle.ml_tree.specs.declared.pattern.Param.{Param}
use Rattle.ml_tree.specs.declared.pattern.PatKind.TheVariants as Kind
use Rattle.ml_tree.specs.declared.pattern.ConName.TheVariants.{Named}
use Rattle.ml_tree.specs.declared.types.TyExpr.{TyExpr}
use Rattle.ml_tree.specs.declared.words.Words.{Words}
use Rattle.ml_cursor.specs.declared.front.Front.{Front}
use Rattle.ml_cursor.specs.Fronts.{front}
use Rattle.ml_cursor.specs.Places.{first_span}
use Rattle.ml_parse_patterns.specs.declared.looks.Lead.{Lead}
use Rattle.ml_parse_patterns.specs.declared.looks.Level.{Level}
use Rattle.ml_parse_patterns.specs.declared.looks.Level.TheVariants.{Cons, Pattern}
use Rattle.ml_parse_patterns.specs.declared.looks.Listing.{Listing}
use Rattle.ml_parse_patterns.specs.declared.looks.Listing.TheVariants.{Components}
use Rattle.ml_parse_patterns.specs.declared.looks.After.{After}
use Rattle.ml_parse_patterns.specs.declared.looks.After.TheVariants.{Goes, Stops}
use Rattle.ml_parse_patterns.specs.declared.looks.AfterField.{AfterField}
use Rattle.ml_parse_patterns.specs.declared.looks.AfterField.TheVariants.{Next, Ends}
use Rattle.ml_parse_patterns.specs.declared.looks.ParamLead.{ParamLead}
use Rattle.ml_parse_types.specs.declared.looks.Row.TheVariants.{Factors}
use Rattle.ml_parse_types.specs.Types.{Got, got, ReadsType, ReadsWords}
use Rattle.ml_parse_types.proofs.Unique.{same_words, same_type}
use Rattle.ml_parse_patterns.specs.Looks.{node, after, after_field, param_lead, is_param}
use Rattle.ml_parse_patterns.specs.Patterns.{ReadsNames, no_name, one_name, ReadsSimple, leaf, name, quoted, paren, typed, bracket, brace, Reads, simple, bare, applied, no_cons, cons, no_tuple, tuple, either, whole, ReadsOthers, no_other, one_other, ReadsList, last_one, one_more, ReadsField, pun, field, ReadsFields, last_field, next_field, ReadsParamBy, short, parens, annotated, ReadsParams, last_param, next_param}

-- a second reading gives what a first one gave
pub record Same {A : Type 0} (x y : A) (d e : ℕ) (us vs : List Token) : Type 0 where
  pub tree : y ≡ x
  pub depth : e ≡ d
  pub rest : vs ≡ us

itself : {A : Type 0} {x : A} {d : ℕ} {us : List Token} → Same x x d d us us
itself = record { tree = refl; depth = refl; rest = refl }

-- what holds of the second reading holds of the first
pub moved : {A : Type 0} {x y : A} {d e : ℕ} {us vs : List Token} (P : A → ℕ → List Token → Type 0) → Same x y d e us vs → P y e vs → P x d us
moved {x = x} {d = d} {e = e} {vs = vs} P s h =
    subst (λ (r : List Token). P x d r) s.rest (subst (λ (n : ℕ). P x n vs) s.depth (subst (λ a. P a e vs) s.tree h))

again : {A B : Type 0} {x y : A} {d e : ℕ} {us vs : List Token} (f : A → List Token → B) (g : ℕ → ℕ) (h : List Token → List Token) → Same x y d e us vs → Same (f x us) (f y vs) (g d) (g e) (h us) (h vs)
again f g h s = record { tree = ap₂ f s.tree s.rest; depth = ap g s.depth; rest = ap h s.rest }

joined : {A B C : Type 0} {x y : A} {z w : B} {c d e f : ℕ} {us vs r s : List Token} (m : A → B → List Token → C) (g : ℕ → ℕ → ℕ) → Same x y c d us vs → Same z w e f r s → Same (m x z r) (m y w s) (g c e) (g d f) r s
joined {x = x} {z = z} {s = s} m g a b = record {
  tree = ap₂ (λ h i. m h i s) a.tree b.tree ∙ ap (λ t. m x z t) b.rest;
  depth = ap₂ g a.depth b.depth;
  rest = b.rest;
}

pub one_words : {ts us vs : List Token} {w x : Words} → ReadsWords ts (got w us) → ReadsWords ts (got x vs) → (x ≡ w) × (vs ≡ us)
one_words a b =
    let e = same_words a b in
    (sym (ap (λ (o : Got Words). o.value) e), sym (ap (λ (o : Got Words). o.rest) e))

one_type : {ts us vs : List Token} {t u : TyExpr} → ReadsType Factors ts (got t us) → ReadsType Factors ts (got u vs) → Same t u 0 0 us vs
one_type a b =
    let e = same_type a b in
    record { tree = sym (ap (λ (o : Got TyExpr). o.value) e); depth = refl; rest = sym (ap (λ (o : Got TyExpr). o.rest) e) }

-- no reading goes two ways
fronts_differ : {a b : Front} {P : Type 0} (us vs : List Token) → vs ≡ us → front us ≡ a → front vs ≡ b → (a ≡ b → ⊥) → P
fronts_differ us vs e f g h = absurd (h (sym f ∙ sym (ap front e) ∙ g))

not_front : {a : Front} {P : Type 0} (us vs : List Token) → vs ≡ us → front us ≡ a → front vs ≢ a → P
not_front us vs e f g = absurd (g (ap front e ∙ f))

not_front' : {a : Front} {P : Type 0} (us vs : List Token) → vs ≡ us → front us ≢ a → front vs ≡ a → P
not_front' us vs e f g = absurd (f (sym (ap front e) ∙ g))

true_false : {P : Type 0} (b : Bool) → b ≡ true → b ≡ false → P
true_false b e f = absurd (cc)

pub same_names : {start us vs ws : List Token} {p q o : Pat} {d e f : ℕ} → ReadsNames start p d us q e vs → ReadsNames start p d us o f ws → Same q o e f vs ws
same_names (no_name n) (no_name m) = itself
same_names (no_name n) (one_name f l a) = absurd (n f)
same_names (one_name f l a) (no_name n) = absurd (n f)
same_names (one_name f l a) (one_name g m b) = same_names a b

stops-stops : {m n : ℕ} → Stops m ≡ Stops n → m ≡ n
stops-stops h = cc

goes-goes : {m n : ℕ} → Goes m ≡ Goes n → m ≡ n
goes-goes h = cc

stops≢goes : {m n : ℕ} {P : Type 0} → Stops m ≡ Goes n → P
stops≢goes h = absurd (cc)

ends-tokens : {a b : Bool} {m n : ℕ} → Ends a m ≡ Ends b n → m ≡ n
ends-tokens h = cc

ends-flag : {a b : Bool} {m n : ℕ} → Ends a m ≡ Ends b n → a ≡ b
ends-flag h = cc

ends≢next : {a : Bool} {m : ℕ} {P : Type 0} → Ends a m ≡ Next → P
ends≢next h = absurd (cc)

same_after : (k : Listing) {us vs : List Token} {a b : After} → vs ≡ us → after k us ≡ a → after k vs ≡ b → b ≡ a
same_after k e f g = sym g ∙ ap (after k) e ∙ f

same_after_field : {us vs : List Token} {a b : AfterField} → vs ≡ us → after_field us ≡ a → after_field vs ≡ b → b ≡ a
same_after_field e f g = sym g ∙ ap after_field e ∙ f

mutual
  pub same_simple : {text : List ℕ} {l : Lead} {ts us vs : List Token} {p q : Pat} {d e : ℕ} → ReadsSimple text l ts p d us → ReadsSimple text l ts q e vs → Same p q d e us vs
  same_simple leaf leaf = itself
  same_simple {ts = ts} (name a f) (name b g) =
      let s = one_words a b in
      record { tree = ap₂ (λ (w : Words) (r : List Token). node ts (drop 1 r) (Kind.Name w (first_span r))) s.0 s.1; depth = refl; rest = ap (λ r. drop 1 r) s.1 }
  same_simple {text = text} {ts = ts} (quoted {t = t} {bytes = bs} e a) (quoted {t = u} {bytes = cs} f b) =
      let same : u ≡ t = (let h = e in let i = f in cc) in
      let bytes : cs ≡ bs = one_literal text t cs bs (subst (λ (x : Token). IsLiteral text x cs) same b) a in
      record { tree = ap (λ (x : List ℕ). node ts (drop 1 ts) (Kind.Text (record { bytes = x }))) bytes; depth = refl; rest = refl }
  same_simple {ts = ts} (paren a f) (paren b g) =
      again (λ (p : Pat) (r : List Token). node ts (drop 1 r) (Kind.Paren p)) (λ n. n + 1) (λ r. drop 1 r) (same a b)
  same_simple (paren {us = us} a f) (typed {us = vs} b g t c) = fronts_differ us vs (same a b).rest f g (λ h. cc)
  same_simple (typed {us = us} a f t c) (paren {us = vs} b g) = fronts_differ us vs (same a b).rest f g (λ h. cc)
  same_simple {ts = ts} (typed a f t c) (typed {t = u} {vs = ws} b g v m) =
      let s = same a b in
      let i = one_type t (subst (λ (r : List Token). ReadsType Factors (drop 1 r) (got u ws)) s.rest v) in
      let j = joined (λ (p : Pat) (x : TyExpr) (r : List Token). node ts (drop 1 r) (Kind.Typed p x)) (λ n m. n + 1) s i in
      record { tree = j.tree; depth = j.depth; rest = ap (λ r. drop 1 r) j.rest }
  same_simple {ts = ts} (bracket a) (bracket b) =
      again (λ (ps : List Pat) (r : List Token). node ts r (Kind.List ps)) (λ n. n + 1) (λ r. r) (same_list a b)
  same_simple {ts = ts} (brace a) (brace b) =
      again (λ (fs : List FieldPat × Bool) (r : List Token). node ts r (Kind.Fields fs.0 fs.1)) (λ n. n + 1) (λ r. r) (same_fields a b)

  pub same : {text : List ℕ} {level : Level} {ts us vs : List Token} {p q : Pat} {d e : ℕ} → Reads text level ts p d us → Reads text level ts q e vs → Same p q d e us vs
  same (simple a) (simple b) = same_simple a b
  same (bare n a) (bare m b) = same a b
  same (bare n a) (applied m b) = true_false _ m n
  same (applied m b) (bare n a) = true_false _ m n
  same {ts = ts} (applied m a) (applied n b) =
      again (λ (p : Pat) (r : List Token). node ts r (Kind.Con (Named (first_span ts)) (Some p))) (λ n. n + 1) (λ r. r) (same a b)
  same (no_cons a n) (no_cons b m) = same a b
  same (no_cons {us = us} a n) (cons {us = vs} b m c) = not_front' us vs (same a b).rest n m
  same (cons {us = us} a m c) (no_cons {us = vs} b n) = not_front us vs (same a b).rest m n
  same {text = text} {ts = ts} (cons a m c) (cons {q = q} {e = e} {r = r} b n d) =
      let s = same a b in
      let t = same c (subst (λ (x : List Token). Reads text Cons (drop 1 x) q e r) s.rest d) in
      joined (λ (p o : Pat) (x : List Token). node ts x (Kind.Cons p o)) (λ n m. max n m + 1) s t
  same (no_tuple a n) (no_tuple b m) = same a b
  same (no_tuple {us = us} a n) (tuple {us = vs} b m c) = not_front' us vs (same a b).rest n m
  same (tuple {us = us} a m c) (no_tuple {us = vs} b n) = not_front us vs (same a b).rest m n
  same {text = text} {ts = ts} (tuple a m c) (tuple {qs = qs} {e = e} {r = r} b n d) =
      let s = same a b in
      let t = same_list c (subst (λ (x : List Token). ReadsList text Components (drop 1 x) qs e r) s.rest d) in
      joined (λ (p : Pat) (o : List Pat) (x : List Token). node ts x (Kind.Tuple (p ∷ o))) (λ n m. max n m + 1) s t
  same {text = text} {ts = ts} (either a c) (either {q = q} {e = e} {r = r} b d) =
      same_others c (moved (λ (p : Pat) (n : ℕ) (x : List Token). ReadsOthers text ts p n x q e r) (same a b) d)
  same {ts = ts} (whole a c) (whole {q = q} {e = e} {r = r} b d) =
      same_names c (moved (λ (p : Pat) (n : ℕ) (x : List Token). ReadsNames ts p n x q e r) (same a b) d)

  pub same_others : {text : List ℕ} {start us vs ws : List Token} {p q o : Pat} {d e f : ℕ} → ReadsOthers text start p d us q e vs → ReadsOthers text start p d us o f ws → Same q o e f vs ws
  same_others (no_other n) (no_other m) = itself
  same_others (no_other n) (one_other f a c) = absurd (n f)
  same_others (one_other f a c) (no_other n) = absurd (n f)
  same_others {text = text} {start = start} {p = p} {d = d} (one_other f a c) (one_other {o = o} {f = n} {r = r} g b e) =
      same_others c (moved (λ (q : Pat) (m : ℕ) (x : List Token). ReadsOthers text start (node start x (Kind.Or p q)) (max d m + 1) x o n r) (same a b) e)

  pub same_list : {text : List ℕ} {k : Listing} {ts us vs : List Token} {ps qs : List Pat} {d e : ℕ} → ReadsList text k ts ps d us → ReadsList text k ts qs e vs → Same ps qs d e us vs
  same_list (last_one a f) (last_one {us = vs} b g) =
      let s = same a b in
      record { tree = ap (λ p. p ∷ []) s.tree; depth = s.depth; rest = ap₂ (λ (n : ℕ) (r : List Token). drop n r) (stops-stops (same_after _ s.rest f g)) s.rest }
  same_list (last_one a f) (one_more b g d) = stops≢goes (sym (same_after _ (same a b).rest f g))
  same_list (one_more a f c) (last_one b g) = stops≢goes (same_after _ (same a b).rest f g)
  same_list {text = text} {k = k} (one_more {n = m} {us = us} a f c) (one_more {ps = qs} {e = e} {n = n} {us = vs} {r = r} b g d) =
      let s = same a b in
      let here : drop n vs ≡ drop m us = ap₂ (λ (i : ℕ) (x : List Token). drop i x) (goes-goes (same_after _ s.rest f g)) s.rest in
      let t = same_list c (subst (λ (x : List Token). ReadsList text k x qs e r) here d) in
      joined (λ (p : Pat) (o : List Pat) (x : List Token). p ∷ o) (λ n m. max n m) s t

  pub same_field : {text : List ℕ} {ts us vs : List Token} {p q : FieldPat} {d e : ℕ} → ReadsField text ts p d us → ReadsField text ts q e vs → Same p q d e us vs
  same_field (pun l n) (pun m o) = itself
  same_field (pun l n) (field m e b) = absurd (n e)
  same_field (field m e b) (pun l n) = absurd (n e)
  same_field {ts = ts} (field l f a) (field m g b) =
      again (λ (p : Pat) (r : List Token). let f : FieldPat = record { id = 0; name = first_span ts; pat = p } in f) (λ n. n) (λ r. r) (same a b)

  pub same_fields : {text : List ℕ} {ts us vs : List Token} {fs gs : List FieldPat} {a b : Bool} {d e : ℕ} → ReadsFields text ts fs a d us → ReadsFields text ts gs b e vs → Same {A = List FieldPat × Bool} (fs, a) (gs, b) d e us vs
  same_fields (last_field a f) (last_field b g) =
      let s = same_field a b in
      let h = same_after_field s.rest f g in
      record { tree = ap₂ (λ (p : FieldPat) (m : Bool). (p ∷ [], m)) s.tree (ends-flag h); depth = s.depth; rest = ap₂ (λ (n : ℕ) (r : List Token). drop n r) (ends-tokens h) s.rest }
  same_fields (last_field a f) (next_field b g d) = ends≢next (sym (same_after_field (same_field a b).rest f g))
  same_fields (next_field a f c) (last_field b g) = ends≢next (same_after_field (same_field a b).rest f g)
  same_fields {text = text} (next_field a f c) (next_field {fs = gs} {more = more} {e = e} {r = r} b g d) =
      let s = same_field a b in
      let t = same_fields c (subst (λ (x : List Token). ReadsFields text (drop 1 x) gs more e r) s.rest d) in
      joined (λ (p : FieldPat) (o : List FieldPat × Bool) (x : List Token). (p ∷ o.0, o.1)) (λ n m. max n m) s t

pub same_param : {text : List ℕ} {l : ParamLead} {ts us vs : List Token} {p q : Param} {d e : ℕ} → ReadsParamBy text l ts p d us → ReadsParamBy text l ts q e vs → Same p q d e us vs
same_param short short = itself
same_param {text = text} (parens w a f) (parens {p = q} {d = e} {vs = vs} x b g) =
    let i = one_words w x in
    let s = same a (subst (λ (r : List Token). Reads text Pattern r q e vs) i.1 b) in
    let j = again (λ (p : Pat) (r : List Token). p) (λ n. n) (λ r. drop 1 r) s in
    record { tree = ap₂ (λ (w : Words) (p : Pat). let m : Param = record { words = w; pat = p } in m) i.0 s.tree; depth = s.depth; rest = j.rest }
same_param {text = text} (parens {vs = us} w a f) (annotated {p = q} {d = e} {vs = vs} x b g t h) =
    let i = one_words w x in
    fronts_differ us vs (same a (subst (λ (r : List Token). Reads text Pattern r q e vs) i.1 b)).rest f g (λ h. cc)
same_param {text = text} (annotated {vs = us} w a f t h) (parens {p = q} {d = e} {vs = vs} x b g) =
    let i = one_words w x in
    fronts_differ us vs (same a (subst (λ (r : List Token). Reads text Pattern r q e vs) i.1 b)).rest f g (λ h. cc)
same_param {text = text} (annotated {us = us} w a f t h) (annotated {p = q} {t = u} {d = e} {us = us'} {vs = vs} {xs = ws} x b g v m) =
    let i = one_words w x in
    let s = same a (subst (λ (r : List Token). Reads text Pattern r q e vs) i.1 b) in
    let o = one_type t (subst (λ (r : List Token). ReadsType Factors (drop 1 r) (got u ws)) s.rest v) in
    let j = joined (λ (p : Pat) (x : TyExpr) (r : List Token). node us r (Kind.Typed p x)) (λ n m. n + 1) s o in
    let moves : node us' ws (Kind.Typed q u) ≡ node us ws (Kind.Typed q u) = ap (λ (r : List Token). node r ws (Kind.Typed q u)) i.1 in
    record { tree = ap₂ (λ (w : Words) (p : Pat). let m : Param = record { words = w; pat = p } in m) i.0 (moves ∙ j.tree); depth = j.depth; rest = ap (λ r. drop 1 r) o.rest }

pub same_params : {text : List ℕ} {ts us vs : List Token} {ps qs : List Param} {d e : ℕ} → ReadsParams text ts ps d us → ReadsParams text ts qs e vs → Same ps qs d e us vs
same_params (last_param a f) (last_param b g) = again (λ (p : Param) (r : List Token). p ∷ []) (λ n. n) (λ r. r) (same_param a b)
same_params (last_param {us = us} a f) (next_param {us = vs} b g d) = true_false _ g (ap (λ r. is_param (param_lead r)) (same_param a b).rest ∙ f)
same_params (next_param {us = us} a f c) (last_param {us = vs} b g) = true_false _ (ap (λ r. is_param (param_lead r)) (same_param a b).rest ∙ f) g
same_params {text = text} (next_param a f c) (next_param {ps = qs} {e = e} {r = r} b g d) =
    let s = same_param a b in
    let t = same_params c (subst (λ (x : List Token). ReadsParams text x qs e r) s.rest d) in
    joined (λ (p : Param) (o : List Param) (x : List Token). p ∷ o) (λ n m. max n m) s t

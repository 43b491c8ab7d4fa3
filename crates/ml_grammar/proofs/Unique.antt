-- No list of tokens has two trees.
use Rattle.std.proofs.Common.{◌≡◌, ℕ, suc, ◌+◌, max, Bool, true, List, [], ◌∷◌, drop, Option, Some, refl, subst, ap, sym, ◌∙◌}
use Rattle.ml_lexer.specs.declared.token.Token.{Token}
use Rattle.ml_lexer.specs.Tokens.{IsLiteral}
use Rattle.ml_cursor.specs.declared.front.Front.{Front}
use Rattle.ml_cursor.specs.Fronts.{front}
use Rattle.ml_tree.specs.declared.pattern.Pat.{Pat}
use Rattle.ml_tree.specs.declared.pattern.Param.{Param}
use Rattle.ml_tree.specs.declared.types.TyExpr.{TyExpr}
use Rattle.ml_tree.specs.declared.expr.Expr.{Expr}
use Rattle.ml_grammar.specs.declared.looks.AtomLead.{AtomLead}
use Rattle.ml_grammar.specs.declared.looks.Suffix.{Suffix}
use Rattle.ml_grammar.specs.declared.looks.Lead.{Lead}
use Rattle.ml_grammar.specs.declared.looks.Joint.{Joint}
use Rattle.ml_grammar.specs.declared.looks.ListKind.{ListKind}
use Rattle.ml_grammar.specs.Looks.{suffix, second, operator_at, groups_left, goes_on, is_else, is_colon, is_rec, behind_bar}
use Rattle.ml_grammar.specs.Trees.{node, start_of, end_of, end_behind, end_of_arm, end_of_branches, arm, bind, field, gathered, joined}
use Rattle.ml_tree.specs.declared.pattern.ConName.TheVariants.{Named}
use Rattle.ml_tree.specs.declared.expr.ExprKind.TheVariants as E
use Rattle.ml_cursor.specs.Places.{first_span, Takes}
use Rattle.oxml_base.specs.declared.span.Span.{Span}
use Rattle.ml_cursor.specs.declared.front.Front.TheVariants.{CloseParen, CloseBracket, CloseBrace, Colon, End, Lower, Equal, With}
use Rattle.ml_parse_patterns.specs.Patterns.{ReadsParams}
use Rattle.ml_parse_patterns.proofs.Unique.{same as same_level_pattern, same_params as same_parameters}
use Rattle.ml_grammar.specs.Grammar.{ReadsPattern, Borrows, borrows, Part, tuple, seq, operators, arms, Kind, ItemOf, HasType, ResultBy, no_result, result, TargetBy, function_target, pattern_target, Reads, AtomBy, SuffixBy, ListedBy, LevelBy, OperandBy, ConBy, ElseBy, GuardBy, Lists, ItemBy, more, to_next, past, an_atom, a_simple, an_operand, a_level, a_list_of, a_leaf, a_text, a_paren, a_typed, a_begin, a_list, a_record, no_suffix, a_field, an_index, alone, several, no_operator, to_left, to_right, an_apply, a_constructor, a_minus, a_word, an_overwrite, a_let, a_borrow, a_match, a_function, a_fun, an_if, an_exclave, a_block, a_cell, no_else, an_else, no_guard, a_guard, the_last, one_more, an_expression, a_set_field, a_pun, an_arm, a_bind}
use Rattle.ml_parse_types.specs.Types.{Got}
use Rattle.ml_parse_types.proofs.Unique.{same_type as one_type}
use Rattle.ml_lexer.proofs.Unique.{one_literal}
use Rattle.ml_grammar.specs.declared.looks.Joint.TheVariants.{Pair}

-- the second reading is the first
pub record Same {A : Type 0} (x y : A) (d c : ℕ) (r s : List Token) : Type 0 where
  pub tree : y ≡ x
  pub depth : c ≡ d
  pub rest : s ≡ r

pub it : {A : Type 0} (x : A) (d : ℕ) (r : List Token) → Same x x d d r r
it x d r = record { tree = refl; depth = refl; rest = refl }

-- what holds of the second reading holds of the first
pub moved : {A : Type 0} {x y : A} {d c : ℕ} {r s : List Token} (P : A → ℕ → List Token → Type 0) → Same x y d c r s → P y c s → P x d r
moved {A} {x} {y} {d} {c} {r} {s} P i h = subst (λ s'. P x d s') i.rest (subst (λ c'. P x c' s) i.depth (subst (λ y'. P y' c s) i.tree h))

-- a part made of one part, of two, and of three
pub made : {A B : Type 0} {x y : A} {d c : ℕ} {r s : List Token} (f : A → List Token → B) (g : ℕ → ℕ) (h : List Token → List Token) → Same x y d c r s → Same (f x r) (f y s) (g d) (g c) (h r) (h s)
made {A} {B} {x} {y} {d} {c} {r} {s} f g h i = record { tree = ap (λ y'. f y' s) i.tree ∙ ap (λ s'. f x s') i.rest; depth = ap g i.depth; rest = ap h i.rest }

made2 : {A B C : Type 0} {x y : A} {d c : ℕ} {r s : List Token} {x2 y2 : B} {d2 c2 : ℕ} {r2 s2 : List Token} (f : A → List Token → B → List Token → C) (g : ℕ → ℕ → ℕ) (h : List Token → List Token) → Same x y d c r s → Same x2 y2 d2 c2 r2 s2 → Same (f x r x2 r2) (f y s y2 s2) (g d d2) (g c c2) (h r2) (h s2)
made2 {A} {B} {C} {x} {y} {d} {c} {r} {s} {x2} {y2} {d2} {c2} {r2} {s2} f g h i j = record {
  tree = ap (λ a. f a s y2 s2) i.tree ∙ (ap (λ a. f x a y2 s2) i.rest ∙ (ap (λ a. f x r a s2) j.tree ∙ ap (λ a. f x r x2 a) j.rest));
  depth = ap (λ a. g a c2) i.depth ∙ ap (λ a. g d a) j.depth;
  rest = ap h j.rest;
}

-- a part whose depth is that of the first of two
made3 : {A B C : Type 0} {x y : A} {d c : ℕ} {r s : List Token} {x2 y2 : B} {r2 s2 : List Token} (f : A → List Token → B → List Token → C) (g : ℕ → ℕ) (h : List Token → List Token) → Same x y d c r s → Same x2 y2 0 0 r2 s2 → Same (f x r x2 r2) (f y s y2 s2) (g d) (g c) (h r2) (h s2)
made3 f g h i j = made2 f (λ d e. g d) h i j

-- three parts, the rest being that of the last
made4 : {A B C D : Type 0} {x1 y1 : A} {x2 y2 : B} {x3 y3 : C} {d1 c1 d2 c2 d3 c3 : ℕ} {r1 s1 r2 s2 r3 s3 : List Token} (f : A → B → C → D) (g : ℕ → ℕ → ℕ → ℕ) → Same x1 y1 d1 c1 r1 s1 → Same x2 y2 d2 c2 r2 s2 → Same x3 y3 d3 c3 r3 s3 → Same (f x1 x2 x3) (f y1 y2 y3) (g d1 d2 d3) (g c1 c2 c3) r3 s3
made4 {A} {B} {C} {D} {x1} {y1} {x2} {y2} {x3} {y3} {d1} {c1} {d2} {c2} {d3} {c3} f g i j l = record {
  tree = ap (λ a. f a y2 y3) i.tree ∙ (ap (λ a. f x1 a y3) j.tree ∙ ap (λ a. f x1 x2 a) l.tree);
  depth = ap (λ a. g a c2 c3) i.depth ∙ (ap (λ a. g d1 a c3) j.depth ∙ ap (λ a. g d1 d2 a) l.depth);
  rest = l.rest;
}

pub same_literal : {text : List ℕ} {t : Token} {bs cs : List ℕ} → IsLiteral text t bs → IsLiteral text t cs → cs ≡ bs
same_literal {text} {t} {bs} {cs} a b = one_literal text t cs bs b a

pub one_pattern : {text : List ℕ} {ts r s : List Token} {p q : Pat} {d c : ℕ} → ReadsPattern text ts p d r → ReadsPattern text ts q c s → Same p q d c r s
one_pattern x y = let i = same_level_pattern x y in record { tree = i.tree; depth = i.depth; rest = i.rest }

pub one_params : {text : List ℕ} {ts r s : List Token} {p q : List Param} {d c : ℕ} → ReadsParams text ts p d r → ReadsParams text ts q c s → Same p q d c r s
one_params x y = let i = same_parameters x y in record { tree = i.tree; depth = i.depth; rest = i.rest }

pub same_type : {ts r s : List Token} {t u : TyExpr} → HasType ts t r → HasType ts u s → Same t u 0 0 r s
same_type x y = let e = one_type y x in record { tree = ap (λ (g : Got TyExpr). g.value) e; depth = refl; rest = ap (λ (g : Got TyExpr). g.rest) e }

pub same_result : {b : Bool} {ts r s : List Token} {t u : Option TyExpr} → ResultBy b ts t r → ResultBy b ts u s → Same t u 0 0 r s
same_result no_result no_result = it _ _ _
same_result (result x) (result y) = let i = same_type x y in record { tree = ap Some i.tree; depth = refl; rest = i.rest }

-- what a bind gives its value: a pattern and parameters with their depths
pub record SameTarget (p q : Pat) (ps qs : List Param) (d c ds cs : ℕ) (r s : List Token) : Type 0 where
  pub pattern : q ≡ p
  pub params : qs ≡ ps
  pub depth : c ≡ d
  pub depths : cs ≡ ds
  pub rest : s ≡ r

pub same_target : {text : List ℕ} {b : Bool} {ts r s : List Token} {p q : Pat} {ps qs : List Param} {d c ds cs : ℕ} → TargetBy text b ts p d ps ds r → TargetBy text b ts q c qs cs s → SameTarget p q ps qs d c ds cs r s
same_target (function_target x) (function_target y) =
    let i = one_params x y in
    record { pattern = refl; params = i.tree; depth = refl; depths = i.depth; rest = i.rest }
same_target (pattern_target x) (pattern_target y) =
    let i = one_pattern x y in
    record { pattern = i.tree; params = refl; depth = i.depth; depths = refl; rest = i.rest }

pub same_takes : {want : Front} {ts r s : List Token} {x y : Span} → Takes want ts r x → Takes want ts s y → Same x y 0 0 r s
same_takes p q = record { tree = q.span_is ∙ sym p.span_is; depth = refl; rest = q.rest_is ∙ sym p.rest_is }

-- the names of a borrow
pub record SameBorrows (y v x w : Span) (r s : List Token) : Type 0 where
  pub name : v ≡ y
  pub origin : w ≡ x
  pub rest : s ≡ r

pub same_borrows : {ts r s : List Token} {y v x w : Span} → Borrows ts y x r → Borrows ts v w s → SameBorrows y v x w r s
same_borrows (borrows a b c d) (borrows {vs = vs'} {ws = ws'} {rest = r'} {y = y'} {e = e'} {x = x'} f g h k) =
    let i = same_takes a f in
    let j = same_takes b (subst (λ us. Takes Lower us vs' y') i.rest g) in
    let l = same_takes c (subst (λ us. Takes Equal us ws' e') j.rest h) in
    let m = same_takes d (subst (λ us. Takes Lower us r' x') l.rest k) in
    record { name = j.tree; origin = m.tree; rest = m.rest }

-- one token at one place is not two
pub no_clash : {us vs : List Token} {a b : Front} (P : Type 0) → vs ≡ us → front us ≡ a → front vs ≡ b → (a ≡ b → ⊥) → P
no_clash P i p q n = absurd (n (sym p ∙ (ap front (sym i) ∙ q)))

pub no_both : {us vs : List Token} {b c : Bool} (f : List Token → Bool) (P : Type 0) → vs ≡ us → f us ≡ b → f vs ≡ c → (b ≡ c → ⊥) → P
no_both f P i p q n = absurd (n (sym p ∙ (ap f (sym i) ∙ q)))

mutual
  pub same : {text : List ℕ} {p : Part} {ts r s : List Token} {e f : Expr} {d c : ℕ} → Reads text p ts e d r → Reads text p ts f c s → Same e f d c r s
  same {text = text} (an_atom x) (an_atom y) = same_atom x y
  same {text = text} (a_simple x g) (a_simple {rest = s} {e = f} {d = c} y h) =
      same_suffix g (moved (λ b db vs. SuffixBy text (suffix vs) vs b db f c s) (same x y) h)
  same {text = text} (an_operand x) (an_operand y) = same_operand x y
  same {text = text} (a_level {k = k} x g) (a_level {rest = s} {e = f} {d = c} y h) =
      same_level g (moved (λ b db vs. LevelBy text k (groups_left (suc k)) (operator_at (suc k) vs) vs b db f c s) (same x y) h)
  same {text = text} (a_list_of {q = q} x g) (a_list_of {rest = s} {e = f} {d = c} y h) =
      same_listed g (moved (λ b db vs. ListedBy text q (goes_on q vs) vs b db f c s) (same x y) h)

  pub same_atom : {text : List ℕ} {l : AtomLead} {ts r s : List Token} {e f : Expr} {d c : ℕ} → AtomBy text l ts e d r → AtomBy text l ts f c s → Same e f d c r s
  same_atom a_leaf a_leaf = it _ _ _
  same_atom {text = text} (a_text {t = t} p x) (a_text q y) = record { tree = ap (λ bs. node t.span.start t.span.end (E.Text (record { bytes = bs }))) (same_literal x y); depth = refl; rest = refl }
  same_atom {ts = ts} (a_paren x p) (a_paren {rest = r'} {s = s'} y q) =
      let i = same x y in
      made3 (λ e us s vs. node (first_span ts).start s.end (E.Paren e)) (λ d. d + 1) (λ r. r) i (same_takes p (subst (λ us. Takes CloseParen us r' s') i.rest q))
  same_atom (a_paren x p) (a_typed y q z w) = no_clash _ (same x y).rest p.stands q.stands (λ h. cc)
  same_atom (a_typed x p z w) (a_paren y q) = no_clash _ (same x y).rest p.stands q.stands (λ h. cc)
  same_atom {ts = ts} (a_typed {d = d} x p t w) (a_typed {vs = vs'} {ws = ws'} {rest = r'} {d = d'} {t = t'} {c = c'} {s = s'} y q u v) =
      let i = same x y in
      let j = same_takes p (subst (λ us. Takes Colon us vs' c') i.rest q) in
      let k = same_type t (subst (λ us. HasType us t' ws') j.rest u) in
      let l = same_takes w (subst (λ us. Takes CloseParen us r' s') k.rest v) in
      let e = made4 {d1 = d} {c1 = d'} (λ e t s. node (first_span ts).start s.end (E.Typed e t)) (λ a b c. a + 1) i k l in
      e
  same_atom {ts = ts} (a_begin x p) (a_begin {rest = r'} {s = s'} y q) =
      let i = same x y in
      made3 (λ e us s vs. node (first_span ts).start s.end (E.Paren e)) (λ d. d + 1) (λ r. r) i (same_takes p (subst (λ us. Takes End us r' s') i.rest q))
  same_atom {ts = ts} (a_list x p) (a_list {rest = r'} {s = s'} y q) =
      let i = same_list x y in
      made3 (λ es us s vs. node (first_span ts).start s.end (E.List es)) (λ d. d + 1) (λ r. r) i (same_takes p (subst (λ us. Takes CloseBracket us r' s') i.rest q))
  same_atom {ts = ts} (a_record x p) (a_record {rest = r'} {s = s'} y q) =
      let i = same_list x y in
      made3 (λ fs us s vs. node (first_span ts).start s.end (E.Fields fs)) (λ d. d + 1) (λ r. r) i (same_takes p (subst (λ us. Takes CloseBrace us r' s') i.rest q))

  pub same_suffix : {text : List ℕ} {l : Suffix} {ts r s : List Token} {a e f : Expr} {da d c : ℕ} → SuffixBy text l ts a da e d r → SuffixBy text l ts a da f c s → Same e f d c r s
  same_suffix no_suffix no_suffix = it _ _ _
  same_suffix {text = text} (a_field {a = a} {da = da} p q x) (a_field {vs = vs'} {ws = ws'} {rest = s} {e = f} {d = c} {s = s'} {name = name'} p2 q2 y) =
      let i = same_takes p p2 in
      let j = same_takes q (subst (λ us. Takes Lower us ws' name') i.rest q2) in
      same_suffix x (moved (λ name z ws. SuffixBy text (suffix ws) ws (node (start_of a) name.end (E.Field a name)) (da + 1) f c s) j y)
  same_suffix {text = text} (an_index {a = a} {i = i0} {da = da} {di = di0} i p x) (an_index {ws = ws'} {rest = s} {i = i'} {e = f} {di = di'} {d = c} {s = s'} j q y) =
      let k = same i j in
      let l = same_takes p (subst (λ us. Takes CloseBracket us ws' s') k.rest q) in
      let z = moved (λ b db vs. SuffixBy text (suffix ws') ws' (node (start_of a) s'.end (E.Index a b)) (max da db + 1) f c s) k y in
      same_suffix x (moved (λ sp n ws. SuffixBy text (suffix ws) ws (node (start_of a) sp.end (E.Index a i0)) (max da di0 + 1) f c s) l z)

  pub same_listed : {text : List ℕ} {q : ListKind} {b : Bool} {ts r s : List Token} {a e f : Expr} {da d c : ℕ} → ListedBy text q b ts a da e d r → ListedBy text q b ts a da f c s → Same e f d c r s
  same_listed alone alone = it _ _ _
  same_listed {text = text} {q = q} {a = a} {da = da} (several x) (several y) = made (λ es us. gathered q a es) (λ d. max da d + 1) (λ r. r) (same_list x y)

  pub same_level : {text : List ℕ} {k : ℕ} {b : Bool} {o : Option Joint} {ts r s : List Token} {a e f : Expr} {da d c : ℕ} → LevelBy text k b o ts a da e d r → LevelBy text k b o ts a da f c s → Same e f d c r s
  same_level no_operator no_operator = it _ _ _
  same_level {text = text} (to_left {k = k} {o = o} {a = a} {da = da} x g) (to_left {rest = s} {e = f} {d = c} y h) =
      same_level g (moved (λ b db vs. LevelBy text k true (operator_at (suc k) vs) vs (joined o a b) (max da db + 1) f c s) (same x y) h)
  same_level {text = text} {a = a} {da = da} (to_right {o = o} x) (to_right y) = made (λ b us. joined o a b) (λ d. max da d + 1) (λ r. r) (same x y)

  pub same_operand : {text : List ℕ} {l : Lead} {ts r s : List Token} {e f : Expr} {d c : ℕ} → OperandBy text l ts e d r → OperandBy text l ts f c s → Same e f d c r s
  same_operand {text = text} (an_apply x) (an_apply y) = same x y
  same_operand (a_constructor x) (a_constructor y) = same_con x y
  same_operand {text = text} {ts = ts} (a_minus x) (a_minus y) = made (λ a us. node (first_span ts).start (end_of a) (E.Minus a)) (λ d. d + 1) (λ r. r) (same x y)
  same_operand {text = text} {ts = ts} (a_word {w = w} x) (a_word y) = made (λ a us. node (first_span ts).start (end_of a) (E.Worded w a)) (λ d. d + 1) (λ r. r) (same x y)
  same_operand {text = text} {ts = ts} (an_overwrite p1 p2 x) (an_overwrite {us = us'} {vs = vs'} {rest = s} {e = f} {d = c} {s = s'} q1 q2 y) =
      let i = same_takes p1 q1 in
      let j = same_takes p2 (subst (λ us. Takes With us vs' s') i.rest q2) in
      let k = same_con x (subst (λ vs. ConBy text (front vs) vs f c s) j.rest y) in
      made4 (λ name z e. node (first_span ts).start (end_of e) (E.Overwrite name e)) (λ a b c. c + 1) i j k
  same_operand {text = text} {ts = ts} (a_let x p z) (a_let {rest = s} {b = b'} {d = c} y q w) =
      let i = same_list x y in
      made2 (λ bs us b vs. node (first_span ts).start (end_of b) (E.Let (is_rec (second ts)) bs b)) (λ d c. max d c + 1) (λ r. r) i (same z (subst (λ us. Reads text seq (drop 1 us) b' c s) i.rest w))
  same_operand {text = text} {ts = ts} (a_borrow {y = y} {x = x0} n p x) (a_borrow {rest = s} {y = y'} {x = x'} {b = b'} {d = c} m q z) =
      let i = same_borrows n m in
      let j = same x (subst (λ us. Reads text seq (drop 1 us) b' c s) i.rest z) in
      record {
        tree = ap (λ w. node (first_span ts).start (end_of b') (E.Borrow w x' b')) i.name ∙ (ap (λ w. node (first_span ts).start (end_of b') (E.Borrow y w b')) i.origin ∙ ap (λ w. node (first_span ts).start (end_of w) (E.Borrow y x0 w)) j.tree);
        depth = ap (λ w. w + 1) j.depth;
        rest = j.rest;
      }
  same_operand {text = text} {ts = ts} (a_match x p z) (a_match {rest = s} {cases = cs'} {d = c} y q w) =
      let i = same x y in
      made2 (λ a us cs vs. node (first_span ts).start (end_behind end_of_arm 0 cs) (E.Match a cs)) (λ d c. max d c + 1) (λ r. r) i (same_list z (subst (λ us. Lists text arms (behind_bar (drop 1 us)) cs' c s) i.rest w))
  same_operand {text = text} {ts = ts} (a_function x) (a_function y) = made (λ cs us. node (first_span ts).start (end_behind end_of_arm 0 cs) (E.Function cs)) (λ d. d + 1) (λ r. r) (same_list x y)
  same_operand {text = text} {ts = ts} (a_fun x p z) (a_fun {rest = s} {b = b'} {d = c} y q w) =
      let i = one_params x y in
      made2 (λ ps us b vs. node (first_span ts).start (end_of b) (E.Fun ps b)) (λ d c. max d c + 1) (λ r. r) i (same z (subst (λ us. Reads text seq (drop 1 us) b' c s) i.rest w))
  same_operand {text = text} {ts = ts} (an_if x p z n) (an_if {vs = vs'} {rest = s} {a = a'} {o = o'} {da = da'} {d = d'} y q w m) =
      let i = same x y in
      let j = same z (subst (λ us. Reads text tuple (drop 1 us) a' da' vs') i.rest w) in
      let l = same_else n (subst (λ us. ElseBy text (is_else (front us)) us o' d' s) j.rest m) in
      made4 (λ c a o. node (first_span ts).start (end_of_branches a o) (E.If c a o)) (λ a b c. max a (max b c) + 1) i j l
  same_operand {text = text} {ts = ts} (an_exclave x) (an_exclave y) = made (λ b us. node (first_span ts).start (end_of b) (E.Exclave b)) (λ d. d + 1) (λ r. r) (same x y)

  pub same_con : {text : List ℕ} {f : Front} {ts r s : List Token} {x y : Expr} {d c : ℕ} → ConBy text f ts x d r → ConBy text f ts y c s → Same x y d c r s
  same_con {ts = ts} (a_block x) (a_block y) =
      made (λ a us. node (first_span ts).start (end_of a) (E.Con (Named (first_span ts)) (Some a))) (λ d. d + 1) (λ r. r) (same x y)
  same_con {text = text} {ts = ts} (a_cell x p z p2) (a_cell {vs = vs'} {rest = r'} {b = b'} {db = db'} {s = s'} y q w q2) =
      let i = same x y in
      let j = same z (subst (λ us. Reads text (operators 4) (drop 1 us) b' db' vs') i.rest w) in
      let k = same_takes p2 (subst (λ us. Takes CloseParen us r' s') j.rest q2) in
      made4 (λ a b s. node (first_span ts).start s.end (E.Paren (joined Pair a b))) (λ a b c. max a b + 1 + 1) i j k

  pub same_else : {text : List ℕ} {b : Bool} {ts r s : List Token} {x y : Option Expr} {d c : ℕ} → ElseBy text b ts x d r → ElseBy text b ts y c s → Same x y d c r s
  same_else no_else no_else = it _ _ _
  same_else (an_else x) (an_else y) = made (λ e us. Some e) (λ d. d) (λ r. r) (same x y)

  pub same_guard : {text : List ℕ} {f : Front} {ts r s : List Token} {x y : Option Expr} {d c : ℕ} → GuardBy text f ts x d r → GuardBy text f ts y c s → Same x y d c r s
  same_guard no_guard no_guard = it _ _ _
  same_guard (a_guard x p) (a_guard y q) = made (λ e us. Some e) (λ d. d) (drop 1) (same x y)

  pub same_list : {text : List ℕ} {k : Kind} {ts r s : List Token} {xs ys : List (ItemOf k)} {d c : ℕ} → Lists text k ts xs d r → Lists text k ts ys c s → Same xs ys d c r s
  same_list {text = text} {k = k} (the_last x n) (the_last y m) = made (λ x us. x ∷ []) (λ d. d) (past k) (same_item x y)
  same_list {text = text} {k = k} (the_last x n) (one_more y m ys) = no_both (more k) _ (same_item x y).rest n m (λ h. cc)
  same_list {text = text} {k = k} (one_more x n xs) (the_last y m) = no_both (more k) _ (same_item x y).rest n m (λ h. cc)
  same_list {text = text} {k = k} (one_more x n xs) (one_more {rest = s} {xs = ys'} {d = c} y m ys) =
      let i = same_item x y in
      made2 (λ x us xs r. x ∷ xs) max (λ r. r) i (same_list xs (subst (λ us. Lists text k (to_next k us) ys' c s) i.rest ys))

  pub same_item : {text : List ℕ} {k : Kind} {ts r s : List Token} {x y : ItemOf k} {d c : ℕ} → ItemBy text k ts x d r → ItemBy text k ts y c s → Same x y d c r s
  same_item {text = text} (an_expression x) (an_expression y) = same x y
  same_item {text = text} {ts = ts} (a_set_field p1 p2 x) (a_set_field q1 q2 y) = made (λ e us. field (first_span ts) e) (λ d. d) (λ r. r) (same x y)
  same_item {text = text} (a_set_field p1 p2 x) (a_pun q1 q2) = absurd (q2 p2)
  same_item {text = text} (a_pun p1 p2) (a_set_field q1 q2 y) = absurd (p2 q2)
  same_item {text = text} (a_pun p1 p2) (a_pun q1 q2) = it _ _ _
  same_item {text = text} (an_arm x g z) (an_arm {us = us'} {vs = vs'} {rest = s} {g = g'} {b = b'} {dg = dg'} {d = c} y h w) =
      let i = one_pattern x y in
      let j = same_guard g (subst (λ us. GuardBy text (front us) us g' dg' vs') i.rest h) in
      let l = same z (subst (λ us. Reads text seq us b' c s) j.rest w) in
      made4 (λ p g b. arm p g b) (λ a b c. max a (max b c)) i j l
  same_item {text = text} (a_bind {p = p} {ps = ps} {t = t} {dp = dp} {ds = ds} x u e z) (a_bind {us = us'} {vs = vs'} {rest = s} {p = p'} {ps = ps'} {t = t'} {b = b'} {dp = dp'} {ds = ds'} {d = c} y v f w) =
      let i = same_target x y in
      let j = same_result u (subst (λ us. ResultBy (is_colon (front us)) us t' vs') i.rest v) in
      let l = same z (subst (λ us. Reads text seq (drop 1 us) b' c s) j.rest w) in
      record {
        tree = ap (λ a. bind a ps' t' b') i.pattern ∙ (ap (λ a. bind p a t' b') i.params ∙ (ap (λ a. bind p ps a b') j.tree ∙ ap (λ a. bind p ps t a) l.tree));
        depth = ap (λ a. max a (max ds' c)) i.depth ∙ (ap (λ a. max dp (max a c)) i.depths ∙ ap (λ a. max dp (max ds a)) l.depth);
        rest = l.rest;
      }

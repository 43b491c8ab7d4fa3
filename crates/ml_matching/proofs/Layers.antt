-- What each kind of pattern with parts means, and which patterns take all fields of a constructor.
use Rattle.std.proofs.Common.{◌≡◌, ℕ, Bool, List, [], ◌∷◌, map, Some, refl, sym, ap, ◌∙◌}
use Rattle.ml_tree.specs.declared.pattern.FieldPat.{FieldPat}
use Rattle.ml_tree.specs.declared.pattern.Pat.{Pat, fold_out-Pat, out-Pat}
use Rattle.ml_tree.specs.declared.pattern.PatKind.{PatKind, fold-roll-PatKind, map-PatKind, out-PatKind, roll-PatKind, roll-out-PatKind}
use Rattle.ml_tree.specs.declared.pattern.PatKind.TheOpen as o
use Rattle.ml_tree.specs.declared.pattern.PatKind.TheOpen.{PatKind-F}
use Rattle.ml_tree.specs.declared.pattern.PatKind.TheVariants as P
use Rattle.ml_meaning.specs.Names.{References}
use Rattle.ml_meaning.specs.Patterns as p
use Rattle.ml_meaning.specs.Patterns.{PatMeaning, pattern_step, field_step, pat_step}
use Rattle.ml_meaning.specs.Values.{Value}
use Rattle.ml_matching.specs.Fitting.{pattern_meaning, kind_meaning, field_meaning, sole}

taken : (f : p.Fits) (vs : List Value) (v : Value) → Some v ≡ sole vs → p.one_field f vs ≡ f v
taken f [] v one = cc
taken f (u ∷ []) v one = let same : u ≡ v = cc in ap f same
taken f (u ∷ (w ∷ ws)) v one = cc

module _ (refs : References) where
  abbrev layer : PatKind-F PatKind FieldPat Pat → PatKind-F (ℕ → PatMeaning) (ℕ × p.Fits) PatMeaning
  layer l = map-PatKind PatKind FieldPat Pat (ℕ → PatMeaning) (ℕ × p.Fits) PatMeaning (kind_meaning refs) (field_meaning refs) (pattern_meaning refs) l

  at_layer : (l : PatKind-F PatKind FieldPat Pat) (k v : PatKind) (node : ℕ) → k ≡ v → roll-PatKind l ≡ v → kind_meaning refs k node ≡ pattern_step refs (layer l) node
  at_layer l k v node is rolls =
      ap (λ j. kind_meaning refs j node) (is ∙ sym rolls)
      ∙ ap (λ h. h node) (fold-roll-PatKind (ℕ → PatMeaning) (ℕ × p.Fits) PatMeaning (pattern_step refs) (field_step refs) (pat_step refs) l)

  wholes : (qs : List Pat) → map (λ q. q.whole) (map (pattern_meaning refs) qs) ≡ map (p.fits refs) qs
  wholes [] = refl
  wholes (q ∷ qs) = ap (λ fs. p.fits refs q ∷ fs) (wholes qs)

  pub cons_fits : (k : PatKind) (node : ℕ) (a b : Pat) (v : Value) → k ≡ P.Cons a b → (kind_meaning refs k node).whole v ≡ p.cell_fits (p.fits refs a) (p.fits refs b) (p.cell_of v)
  cons_fits k node a b v is = ap (λ m. m.whole v) (at_layer (o.Cons a b) k _ node is (P.rolls-Cons a b))

  pub or_fits : (k : PatKind) (node : ℕ) (a b : Pat) (v : Value) → k ≡ P.Or a b → (kind_meaning refs k node).whole v ≡ p.or_else (p.fits refs a v) (p.fits refs b v)
  or_fits k node a b v is = ap (λ m. m.whole v) (at_layer (o.Or a b) k _ node is (P.rolls-Or a b))

  pub tuple_fits : (k : PatKind) (node : ℕ) (qs : List Pat) (v : Value) → k ≡ P.Tuple qs → (kind_meaning refs k node).whole v ≡ p.block_fits (Some 0) (p.all_fit (map (p.fits refs) qs)) v
  tuple_fits k node qs v is =
      ap (λ m. m.whole v) (at_layer (o.Tuple qs) k _ node is (P.rolls-Tuple qs))
      ∙ ap (λ fs. p.block_fits (Some 0) (p.all_fit fs) v) (wholes qs)

  pub list_fits : (k : PatKind) (node : ℕ) (qs : List Pat) (v : Value) → k ≡ P.List qs → (kind_meaning refs k node).whole v ≡ p.list_fits (map (p.fits refs) qs) v
  list_fits k node qs v is =
      ap (λ m. m.whole v) (at_layer (o.List qs) k _ node is (P.rolls-List qs))
      ∙ ap (λ fs. p.list_fits fs v) (wholes qs)

  pub record_fits : (k : PatKind) (node : ℕ) (fs : List FieldPat) (rest : Bool) (v : Value) → k ≡ P.Fields fs rest → (kind_meaning refs k node).whole v ≡ p.block_fits (Some 0) (p.record_fits refs (map (field_meaning refs) fs)) v
  record_fits k node fs rest v is = ap (λ m. m.whole v) (at_layer (o.Fields fs rest) k _ node is (P.rolls-Fields fs rest))

  -- ---- against the fields of a constructor

  pat_is : (q : Pat) → pattern_meaning refs q ≡ kind_meaning refs (out-Pat q).kind (out-Pat q).id
  pat_is q = fold_out-Pat (ℕ → PatMeaning) (ℕ × p.Fits) PatMeaning (pattern_step refs) (field_step refs) (pat_step refs) q

  pub tuple_takes : (q : Pat) (qs : List Pat) (vs : List Value) → (out-Pat q).kind ≡ P.Tuple qs → (pattern_meaning refs q).fields vs ≡ p.tuple_fields refs (map (p.fits refs) qs) vs
  tuple_takes q qs vs is =
      ap (λ m. m.fields vs) (pat_is q ∙ at_layer (o.Tuple qs) (out-Pat q).kind _ (out-Pat q).id is (P.rolls-Tuple qs))
      ∙ ap (λ fs. p.tuple_fields refs fs vs) (wholes qs)

  -- a layer whose pattern takes the one field of a constructor
  abbrev Plain : PatKind-F PatKind FieldPat Pat → Type 0
  Plain l = (node : ℕ) → (pattern_step refs (layer l) node).fields ≡ p.one_field (pattern_step refs (layer l) node).whole

  plain_layer : (k : PatKind) (l : PatKind-F PatKind FieldPat Pat) → roll-PatKind l ≡ k → (k ≡ P.Any → ⊥) → ((qs : List Pat) → k ≡ P.Tuple qs → ⊥) → ((q : Pat) → k ≡ P.Paren q → ⊥) → Plain l
  plain_layer k o.Any is any tuple paren = absurd (any (sym is ∙ P.rolls-Any))
  plain_layer k (o.Name words name) is any tuple paren = λ node. refl
  plain_layer k (o.Int z) is any tuple paren = λ node. refl
  plain_layer k (o.Char c) is any tuple paren = λ node. refl
  plain_layer k (o.Text lit) is any tuple paren = λ node. refl
  plain_layer k (o.Con name arg) is any tuple paren = λ node. refl
  plain_layer k (o.Cons a b) is any tuple paren = λ node. refl
  plain_layer k (o.Tuple qs) is any tuple paren = absurd (tuple qs (sym is ∙ P.rolls-Tuple qs))
  plain_layer k (o.List qs) is any tuple paren = λ node. refl
  plain_layer k (o.Fields fs rest) is any tuple paren = λ node. refl
  plain_layer k (o.Or a b) is any tuple paren = λ node. refl
  plain_layer k (o.Named q name) is any tuple paren = λ node. refl
  plain_layer k (o.Typed q ty) is any tuple paren = λ node. refl
  plain_layer k (o.Paren q) is any tuple paren = absurd (paren q (sym is ∙ P.rolls-Paren q))

  plain_kind : (k : PatKind) (node : ℕ) → (k ≡ P.Any → ⊥) → ((qs : List Pat) → k ≡ P.Tuple qs → ⊥) → ((q : Pat) → k ≡ P.Paren q → ⊥) → (kind_meaning refs k node).fields ≡ p.one_field (kind_meaning refs k node).whole
  plain_kind k node any tuple paren =
      let same = at_layer (out-PatKind k) k k node refl (roll-out-PatKind k) in
      ap (λ m. m.fields) same
      ∙ (plain_layer k (out-PatKind k) (roll-out-PatKind k) any tuple paren node
      ∙ ap (λ m. p.one_field m.whole) (sym same))

  pub one_field_fits : (q : Pat) (vs : List Value) (v : Value) → ((out-Pat q).kind ≡ P.Any → ⊥) → ((qs : List Pat) → (out-Pat q).kind ≡ P.Tuple qs → ⊥) → ((inner : Pat) → (out-Pat q).kind ≡ P.Paren inner → ⊥) → Some v ≡ sole vs → (pattern_meaning refs q).fields vs ≡ (kind_meaning refs (out-Pat q).kind (out-Pat q).id).whole v
  one_field_fits q vs v any tuple paren one =
      ap (λ m. m.fields vs) (pat_is q)
      ∙ (ap (λ f. f vs) (plain_kind (out-Pat q).kind (out-Pat q).id any tuple paren) ∙ taken (kind_meaning refs (out-Pat q).kind (out-Pat q).id).whole vs v one)

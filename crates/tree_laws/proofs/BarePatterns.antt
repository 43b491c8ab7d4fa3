-- What a fold over patterns that looks at no number gives is the same without the numbers.
use Rattle.std.proofs.Common.{◌≡◌, ℕ, map, Some, None, sym, ap, ◌∙◌, subst}
use Rattle.oxml_base.specs.declared.span.Span.{Span}
use Rattle.ml_tree.specs.declared.types.TyExpr.{TyExpr}
use Rattle.ml_tree.specs.declared.pattern.Pat.{Pat, ind-Pat, fold-Pat, fold-roll-Pat, map-Pat, roll-Pat}
use Rattle.ml_tree.specs.declared.pattern.FieldPat.{FieldPat, fold-FieldPat, fold-roll-FieldPat, map-FieldPat, roll-FieldPat}
use Rattle.ml_tree.specs.declared.pattern.PatKind.{PatKind, fold-PatKind, fold-roll-PatKind, map-PatKind, roll-PatKind}
use Rattle.ml_tree.specs.declared.pattern.PatKind.TheVariants as P
use Rattle.ml_tree.specs.declared.pattern.PatKind.TheOpen as p
use Rattle.ml_tree.specs.declared.pattern.PatKind.TheOpen.{PatKind-F, FieldPat-F, Pat-F}
use Rattle.ml_numbers.specs.Bare as I
use Rattle.ml_numbers.specs.Bare.{bare_type}
use Rattle.tree_laws.proofs.BareFolds.{two_same, all_same}

-- the steps of such a fold
pub record BlindPatterns {K F X : Type 0} (k : PatKind-F K F X → K) (f : FieldPat-F K F X → F) (x : Pat-F K F X → X) : Type 0 where
  pub typed : (z : X) (t : TyExpr) → k (p.Typed z (bare_type t)) ≡ k (p.Typed z t)
  pub field : (i : ℕ) (s : Span) (z : X) → f (record { id = 0; name = s; pat = z }) ≡ f (record { id = i; name = s; pat = z })
  pub pattern : (i : ℕ) (s : Span) (z : K) → x (record { id = 0; span = s; kind = z }) ≡ x (record { id = i; span = s; kind = z })

module _ {K F X : Type 0} (k : PatKind-F K F X → K) (f : FieldPat-F K F X → F) (x : Pat-F K F X → X) (blind : BlindPatterns k f x) where
  abbrev kind_of : PatKind → K
  kind_of y = fold-PatKind K F X k f x y

  abbrev KindPart : Type 0
  KindPart = (y : PatKind) × (kind_of (I.bare_pattern_kind y) ≡ kind_of y)

  abbrev field_of : FieldPat → F
  field_of y = fold-FieldPat K F X k f x y

  abbrev FieldPart : Type 0
  FieldPart = (y : FieldPat) × (field_of (I.bare_field_pattern y) ≡ field_of y)

  abbrev pat_of : Pat → X
  pat_of y = fold-Pat K F X k f x y

  abbrev PatPart : Type 0
  PatPart = (y : Pat) × (pat_of (I.bare_pattern y) ≡ pat_of y)

  abbrev layer_kind : PatKind-F KindPart FieldPart PatPart → PatKind-F PatKind FieldPat Pat
  layer_kind y = map-PatKind KindPart FieldPart PatPart PatKind FieldPat Pat (λ q. q.0) (λ q. q.0) (λ q. q.0) y

  abbrev bared_kind : PatKind-F PatKind FieldPat Pat → PatKind-F PatKind FieldPat Pat
  bared_kind l = map-PatKind PatKind FieldPat Pat PatKind FieldPat Pat I.bare_pattern_kind I.bare_field_pattern I.bare_pattern l

  abbrev viewed_kind : PatKind-F PatKind FieldPat Pat → PatKind-F K F X
  viewed_kind l = map-PatKind PatKind FieldPat Pat K F X kind_of field_of pat_of l

  rolled_kind : (l : PatKind-F PatKind FieldPat Pat) → kind_of (roll-PatKind l) ≡ k (viewed_kind l)
  rolled_kind l = fold-roll-PatKind K F X k f x l

  abbrev layer_field : FieldPat-F KindPart FieldPart PatPart → FieldPat-F PatKind FieldPat Pat
  layer_field y = map-FieldPat KindPart FieldPart PatPart PatKind FieldPat Pat (λ q. q.0) (λ q. q.0) (λ q. q.0) y

  abbrev bared_field : FieldPat-F PatKind FieldPat Pat → FieldPat-F PatKind FieldPat Pat
  bared_field l = map-FieldPat PatKind FieldPat Pat PatKind FieldPat Pat I.bare_pattern_kind I.bare_field_pattern I.bare_pattern l

  abbrev viewed_field : FieldPat-F PatKind FieldPat Pat → FieldPat-F K F X
  viewed_field l = map-FieldPat PatKind FieldPat Pat K F X kind_of field_of pat_of l

  rolled_field : (l : FieldPat-F PatKind FieldPat Pat) → field_of (roll-FieldPat l) ≡ f (viewed_field l)
  rolled_field l = fold-roll-FieldPat K F X k f x l

  abbrev layer_pat : Pat-F KindPart FieldPart PatPart → Pat-F PatKind FieldPat Pat
  layer_pat y = map-Pat KindPart FieldPart PatPart PatKind FieldPat Pat (λ q. q.0) (λ q. q.0) (λ q. q.0) y

  abbrev bared_pat : Pat-F PatKind FieldPat Pat → Pat-F PatKind FieldPat Pat
  bared_pat l = map-Pat PatKind FieldPat Pat PatKind FieldPat Pat I.bare_pattern_kind I.bare_field_pattern I.bare_pattern l

  abbrev viewed_pat : Pat-F PatKind FieldPat Pat → Pat-F K F X
  viewed_pat l = map-Pat PatKind FieldPat Pat K F X kind_of field_of pat_of l

  rolled_pat : (l : Pat-F PatKind FieldPat Pat) → pat_of (roll-Pat l) ≡ x (viewed_pat l)
  rolled_pat l = fold-roll-Pat K F X k f x l

  kind_law : (y : PatKind-F KindPart FieldPart PatPart) → kind_of (I.pattern_step (bared_kind (layer_kind y))) ≡ k (viewed_kind (layer_kind y))
  kind_law p.Any = rolled_kind p.Any
  kind_law (p.Name words s) = rolled_kind (p.Name words s)
  kind_law (p.Int z) = rolled_kind (p.Int z)
  kind_law (p.Char z) = rolled_kind (p.Char z)
  kind_law (p.Text z) = rolled_kind (p.Text z)
  kind_law (p.Con name None) = rolled_kind (p.Con name None)
  kind_law (p.Con name (Some q)) = rolled_kind (p.Con name (Some (I.bare_pattern q.0))) ∙ ap (λ u. k (p.Con name (Some u))) q.1
  kind_law (p.Cons q r) = rolled_kind (p.Cons (I.bare_pattern q.0) (I.bare_pattern r.0)) ∙ two_same (λ u v. k (p.Cons u v)) q.1 r.1
  kind_law (p.Or q r) = rolled_kind (p.Or (I.bare_pattern q.0) (I.bare_pattern r.0)) ∙ two_same (λ u v. k (p.Or u v)) q.1 r.1
  kind_law (p.Tuple ps) = rolled_kind (p.Tuple (map I.bare_pattern (map (λ q. q.0) ps))) ∙ ap (λ us. k (p.Tuple us)) (all_same pat_of I.bare_pattern ps)
  kind_law (p.List ps) = rolled_kind (p.List (map I.bare_pattern (map (λ q. q.0) ps))) ∙ ap (λ us. k (p.List us)) (all_same pat_of I.bare_pattern ps)
  kind_law (p.Fields ps more) = rolled_kind (p.Fields (map I.bare_field_pattern (map (λ q. q.0) ps)) more) ∙ ap (λ us. k (p.Fields us more)) (all_same field_of I.bare_field_pattern ps)
  kind_law (p.Named q name) = rolled_kind (p.Named (I.bare_pattern q.0) name) ∙ ap (λ u. k (p.Named u name)) q.1
  kind_law (p.Typed q t) = ap kind_of (sym (P.rolls-Typed (I.bare_pattern q.0) (bare_type t))) ∙ (rolled_kind (p.Typed (I.bare_pattern q.0) (bare_type t)) ∙ (ap (λ u. k (p.Typed u (bare_type t))) q.1 ∙ blind.typed (pat_of q.0) t))
  kind_law (p.Paren q) = rolled_kind (p.Paren (I.bare_pattern q.0)) ∙ ap (λ u. k (p.Paren u)) q.1

  field_law : (y : FieldPat-F KindPart FieldPart PatPart) → field_of (I.field_pattern_node (bared_field (layer_field y))) ≡ f (viewed_field (layer_field y))
  field_law y = rolled_field (record { id = 0; name = y.name; pat = I.bare_pattern y.pat.0 }) ∙ (ap (λ u. f (record { id = 0; name = y.name; pat = u })) y.pat.1 ∙ blind.field y.id y.name (pat_of y.pat.0))

  pat_law : (y : Pat-F KindPart FieldPart PatPart) → pat_of (I.pattern_node (bared_pat (layer_pat y))) ≡ x (viewed_pat (layer_pat y))
  pat_law y = rolled_pat (record { id = 0; span = y.span; kind = I.bare_pattern_kind y.kind.0 }) ∙ (ap (λ u. x (record { id = 0; span = y.span; kind = u })) y.kind.1 ∙ blind.pattern y.id y.span (kind_of y.kind.0))

  kind_case : (l : PatKind-F PatKind FieldPat Pat) (y : PatKind-F KindPart FieldPart PatPart) → layer_kind y ≡ l → kind_of (I.bare_pattern_kind (roll-PatKind l)) ≡ kind_of (roll-PatKind l)
  kind_case l y same = ap kind_of (fold-roll-PatKind PatKind FieldPat Pat I.pattern_step I.field_pattern_node I.pattern_node l) ∙ (subst (λ l. kind_of (I.pattern_step (bared_kind l)) ≡ k (viewed_kind l)) same (kind_law y) ∙ sym (rolled_kind l))

  field_case : (l : FieldPat-F PatKind FieldPat Pat) (y : FieldPat-F KindPart FieldPart PatPart) → layer_field y ≡ l → field_of (I.bare_field_pattern (roll-FieldPat l)) ≡ field_of (roll-FieldPat l)
  field_case l y same = ap field_of (fold-roll-FieldPat PatKind FieldPat Pat I.pattern_step I.field_pattern_node I.pattern_node l) ∙ (subst (λ l. field_of (I.field_pattern_node (bared_field l)) ≡ f (viewed_field l)) same (field_law y) ∙ sym (rolled_field l))

  pat_case : (l : Pat-F PatKind FieldPat Pat) (y : Pat-F KindPart FieldPart PatPart) → layer_pat y ≡ l → pat_of (I.bare_pattern (roll-Pat l)) ≡ pat_of (roll-Pat l)
  pat_case l y same = ap pat_of (fold-roll-Pat PatKind FieldPat Pat I.pattern_step I.field_pattern_node I.pattern_node l) ∙ (subst (λ l. pat_of (I.pattern_node (bared_pat l)) ≡ x (viewed_pat l)) same (pat_law y) ∙ sym (rolled_pat l))

  pub pattern_same : (y : Pat) → pat_of (I.bare_pattern y) ≡ pat_of y
  pattern_same y = ind-Pat (λ y. kind_of (I.bare_pattern_kind y) ≡ kind_of y) (λ y. field_of (I.bare_field_pattern y) ≡ field_of y) (λ y. pat_of (I.bare_pattern y) ≡ pat_of y) kind_case field_case pat_case y

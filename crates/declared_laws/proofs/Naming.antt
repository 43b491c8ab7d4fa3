-- Each declaration that a written type names is mentioned there.
use Rattle.std.proofs.Common.{◌≡◌, ℕ, ◌⊎◌, inl, inr, List, [], ◌∷◌, ◌++◌, map, length, Option, Some, None, refl, sym, ap, ◌∙◌, subst}
use Rattle.oxml_base.specs.declared.span.Span.{Span}
use Rattle.ml_tree.specs.declared.reference.TyRef.{TyRef}
use Rattle.ml_tree.specs.declared.reference.TyRef.TheVariants as r
use Rattle.ml_tree.specs.declared.types.TyExpr.{TyExpr, ind-TyExpr, fold-roll-TyExpr, map-TyExpr, roll-TyExpr}
use Rattle.ml_tree.specs.declared.types.Arg.{Arg, fold-roll-Arg, map-Arg, roll-Arg}
use Rattle.ml_tree.specs.declared.types.TyKind.{TyKind, fold-roll-TyKind, map-TyKind, roll-TyKind}
use Rattle.ml_tree.specs.declared.types.TyKind.TheOpen as t
use Rattle.ml_tree.specs.declared.types.TyKind.TheOpen.{TyKind-F, Arg-F, TyExpr-F}
use Rattle.ml_types.specs.Types.{Tree}
use Rattle.ml_mentions.specs.declared.mentions.Mention.{Mention}
use Rattle.ml_mentions.specs.declared.mentions.Mention.TheVariants.{Named}
use Rattle.ml_mentions.specs.Lists.{all}
use Rattle.ml_mentions.specs.Mentions as m
use Rattle.ml_decls.specs.Lists.{IsIn, find}
use Rattle.ml_decls.specs.Said as s
use Rattle.ml_decls.proofs.Members.{in_left, in_right, in_either}
use Rattle.declared_laws.proofs.Expansions.{numbers, all_numbers}

-- a name that names the declaration d is among mentions
pub record IsMentioned (types : List (ℕ × TyRef)) (ms : List Mention) (d : ℕ) : Type 0 where
  pub id : ℕ
  pub whole : Span
  pub arguments : ℕ
  pub stands : IsIn (Named id whole arguments) ms
  pub names : find types id ≡ Some (r.Decl d)

module _ (types : List (ℕ × TyRef)) where
  among : (ms ns : List Mention) (d : ℕ) → ((x : Mention) → IsIn x ms → IsIn x ns) → IsMentioned types ms d → IsMentioned types ns d
  among ms ns d more h = record { id = h.id; whole = h.whole; arguments = h.arguments; stands = more (Named h.id h.whole h.arguments) h.stands; names = h.names }

  -- each declaration that the type names is mentioned
  abbrev Covers : List ℕ → List Mention → Type 0
  Covers ds ms = (d : ℕ) → IsIn d ds → IsMentioned types ms d

  abbrev KindCovers : TyKind → Type 0
  KindCovers k = (id : ℕ) (whole : Span) → Covers (numbers (s.kind_written types k id)) (m.kind_mentions k id whole)

  abbrev ArgCovers : Arg → Type 0
  ArgCovers a = Covers (numbers (s.arg_written types a)) (m.arg_mentions a)

  abbrev ExprCovers : TyExpr → Type 0
  ExprCovers x = Covers (numbers (s.written types x)) (m.mentions x)

  abbrev KindPart : Type 0
  KindPart = (k : TyKind) × KindCovers k

  abbrev ArgPart : Type 0
  ArgPart = (a : Arg) × ArgCovers a

  abbrev ExprPart : Type 0
  ExprPart = (x : TyExpr) × ExprCovers x

  two_cover : (ds es : List ℕ) (ms ns : List Mention) → Covers ds ms → Covers es ns → Covers (ds ++ es) (ms ++ ns)
  two_cover ds es ms ns f g d i = by (in_either d ds es i)
    where
      by : IsIn d ds ⊎ IsIn d es → IsMentioned types (ms ++ ns) d
      by (inl u) = among ms (ms ++ ns) d (λ x j. in_left x ms ns j) (f d u)
      by (inr u) = among ns (ms ++ ns) d (λ x j. in_right x ms ns j) (g d u)

  parts_cover : (xs : List ExprPart) → Covers (all_numbers (s.listed (map (s.written types) (map (λ q. q.0) xs)))) (all (map m.mentions (map (λ q. q.0) xs)))
  parts_cover [] d i = absurd i
  parts_cover (x ∷ xs) d i = two_cover (numbers (s.written types x.0)) (all_numbers (s.listed (map (s.written types) (map (λ q. q.0) xs)))) (m.mentions x.0) (all (map m.mentions (map (λ q. q.0) xs))) x.1 (parts_cover xs) d i

  name_covers : (xs : List ExprPart) (id : ℕ) (whole : Span) (arguments : ℕ) (o : Option TyRef) → find types id ≡ o → Covers (numbers (s.type_named (map (s.written types) (map (λ q. q.0) xs)) o)) (Named id whole arguments ∷ all (map m.mentions (map (λ q. q.0) xs)))
  name_covers xs id whole arguments None e d i = absurd i
  name_covers xs id whole arguments (Some (r.Var v)) e d i = absurd i
  name_covers xs id whole arguments (Some (r.Decl n)) e d (inl q) = record { id = id; whole = whole; arguments = arguments; stands = inl refl; names = e ∙ ap (λ z. Some (r.Decl z)) (sym q) }
  name_covers xs id whole arguments (Some (r.Decl n)) e d (inr i) =
      among (all (map m.mentions (map (λ q. q.0) xs))) (Named id whole arguments ∷ all (map m.mentions (map (λ q. q.0) xs))) d (λ x j. inr j) (parts_cover xs d i)

  variable_covers : (o : Option TyRef) (ms : List Mention) → Covers (numbers (s.variable_type o)) ms
  variable_covers None ms d i = absurd i
  variable_covers (Some (r.Var v)) ms d i = absurd i
  variable_covers (Some (r.Decl n)) ms d i = absurd i

  -- ---- by the form of the type expression

  abbrev layer_kind : TyKind-F KindPart ArgPart ExprPart → TyKind-F TyKind Arg TyExpr
  layer_kind y = map-TyKind KindPart ArgPart ExprPart TyKind Arg TyExpr (λ q. q.0) (λ q. q.0) (λ q. q.0) y

  abbrev layer_arg : Arg-F KindPart ArgPart ExprPart → Arg-F TyKind Arg TyExpr
  layer_arg y = map-Arg KindPart ArgPart ExprPart TyKind Arg TyExpr (λ q. q.0) (λ q. q.0) (λ q. q.0) y

  abbrev layer_expr : TyExpr-F KindPart ArgPart ExprPart → TyExpr-F TyKind Arg TyExpr
  layer_expr y = map-TyExpr KindPart ArgPart ExprPart TyKind Arg TyExpr (λ q. q.0) (λ q. q.0) (λ q. q.0) y

  abbrev kind_tree : TyKind-F TyKind Arg TyExpr → ℕ → Tree
  kind_tree l = s.step types (map-TyKind TyKind Arg TyExpr (ℕ → Tree) Tree Tree (s.kind_written types) (s.arg_written types) (s.written types) l)

  abbrev kind_names : TyKind-F TyKind Arg TyExpr → ℕ → Span → List Mention
  kind_names l = m.step (map-TyKind TyKind Arg TyExpr (ℕ → Span → List Mention) (List Mention) (List Mention) m.kind_mentions m.arg_mentions m.mentions l)

  kind_law : (y : TyKind-F KindPart ArgPart ExprPart) (id : ℕ) (whole : Span) → Covers (numbers (kind_tree (layer_kind y) id)) (kind_names (layer_kind y) id whole)
  kind_law (t.Var name) id whole d i = variable_covers (find types id) (kind_names (t.Var name) id whole) d i
  kind_law (t.Con name args) id whole d i = name_covers args id whole (length (map m.mentions (map (λ q. q.0) args))) (find types id) refl d i
  kind_law (t.Tuple parts) id whole d i = parts_cover parts d i
  kind_law (t.Arrow from to) id whole d i =
      two_cover (numbers (s.arg_written types from.0)) (numbers (s.arg_written types to.0) ++ []) (m.arg_mentions from.0) (m.arg_mentions to.0) from.1 (last (numbers (s.arg_written types to.0)) (m.arg_mentions to.0) to.1) d i
    where
      last : (ds : List ℕ) (ms : List Mention) → Covers ds ms → Covers (ds ++ []) ms
      last ds ms f e j = by (in_either e ds [] j)
        where
          by : IsIn e ds ⊎ IsIn e [] → IsMentioned types ms e
          by (inl u) = f e u
          by (inr u) = absurd u

  kind_case : (l : TyKind-F TyKind Arg TyExpr) (y : TyKind-F KindPart ArgPart ExprPart) → layer_kind y ≡ l → KindCovers (roll-TyKind l)
  kind_case l y same id whole =
      let tree : s.kind_written types (roll-TyKind l) id ≡ kind_tree l id = ap (λ (z : ℕ → Tree). z id) (fold-roll-TyKind (ℕ → Tree) Tree Tree (s.step types) (s.arg_step types) (s.node types) l) in
      let names : m.kind_mentions (roll-TyKind l) id whole ≡ kind_names l id whole = ap (λ (z : ℕ → Span → List Mention). z id whole) (fold-roll-TyKind (ℕ → Span → List Mention) (List Mention) (List Mention) m.step m.arg_step m.node l) in
      let law : Covers (numbers (kind_tree l id)) (kind_names l id whole) = subst (λ (z : TyKind-F TyKind Arg TyExpr). Covers (numbers (kind_tree z id)) (kind_names z id whole)) same (kind_law y id whole) in
      subst (λ (z : List Mention). Covers (numbers (s.kind_written types (roll-TyKind l) id)) z) (sym names) (subst (λ (z : Tree). Covers (numbers z) (kind_names l id whole)) (sym tree) law)

  arg_case : (l : Arg-F TyKind Arg TyExpr) (y : Arg-F KindPart ArgPart ExprPart) → layer_arg y ≡ l → ArgCovers (roll-Arg l)
  arg_case l y same =
      let tree : s.arg_written types (roll-Arg l) ≡ s.written types l.ty = fold-roll-Arg (ℕ → Tree) Tree Tree (s.step types) (s.arg_step types) (s.node types) l in
      let names : m.arg_mentions (roll-Arg l) ≡ m.mentions l.ty = fold-roll-Arg (ℕ → Span → List Mention) (List Mention) (List Mention) m.step m.arg_step m.node l in
      let law : ExprCovers l.ty = subst (λ (z : Arg-F TyKind Arg TyExpr). ExprCovers z.ty) same y.ty.1 in
      subst (λ (z : List Mention). Covers (numbers (s.arg_written types (roll-Arg l))) z) (sym names) (subst (λ (z : Tree). Covers (numbers z) (m.mentions l.ty)) (sym tree) law)

  expr_case : (l : TyExpr-F TyKind Arg TyExpr) (y : TyExpr-F KindPart ArgPart ExprPart) → layer_expr y ≡ l → ExprCovers (roll-TyExpr l)
  expr_case l y same =
      let tree : s.written types (roll-TyExpr l) ≡ s.kind_written types l.kind l.id = fold-roll-TyExpr (ℕ → Tree) Tree Tree (s.step types) (s.arg_step types) (s.node types) l in
      let names : m.mentions (roll-TyExpr l) ≡ m.kind_mentions l.kind l.id l.span = fold-roll-TyExpr (ℕ → Span → List Mention) (List Mention) (List Mention) m.step m.arg_step m.node l in
      let law : Covers (numbers (s.kind_written types l.kind l.id)) (m.kind_mentions l.kind l.id l.span) = subst (λ (z : TyExpr-F TyKind Arg TyExpr). Covers (numbers (s.kind_written types z.kind z.id)) (m.kind_mentions z.kind z.id z.span)) same (y.kind.1 y.id y.span) in
      subst (λ (z : List Mention). Covers (numbers (s.written types (roll-TyExpr l))) z) (sym names) (subst (λ (z : Tree). Covers (numbers z) (m.kind_mentions l.kind l.id l.span)) (sym tree) law)

  pub written_mentions : (x : TyExpr) (d : ℕ) → IsIn d (numbers (s.written types x)) → IsMentioned types (m.mentions x) d
  written_mentions x = ind-TyExpr KindCovers ArgCovers ExprCovers kind_case arg_case expr_case x

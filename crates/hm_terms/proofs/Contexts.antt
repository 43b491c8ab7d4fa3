-- What terms are read by, while the solver grows.
use Rattle.std.proofs.Common.{◌≡◌, ℕ, ◌<◌, List, length, Option, Some, None, refl, sym, ap, ◌∙◌, subst, arith}
use Rattle.std.specs.List.{slice_get}
use Rattle.ml_types.specs.declared.node.TyId.{TyId}
use Rattle.ml_types.specs.Types.{Tree}
use Rattle.ml_types.specs.declared.declared.DeclInfo.{DeclInfo}
use Rattle.ml_types.specs.declared.declared.ConInfo.{ConInfo}
use Rattle.ml_typing.specs.declared.equation.Unknown.TheVariants.{Binder}
use Rattle.ml_typing.specs.Terms.{Context, Shape, Make, shapes, with_shapes, shape_at, at_fresh, top, named, argument}
use Rattle.ml_typing.specs.Typing.{alias_of}
use Rattle.ml_types.specs.Types.{ConHead}
use Rattle.hm_unify.specs.Solutions.{Stands}
use Rattle.hm_terms.specs.Stores.{Store, Knows, IsReady, Grows}
use Rattle.hm_terms.specs.Shapes.{Lowers}
use Rattle.hm_terms.specs.Contexts.{Shows, ShowsAny, IsRead, op_place}
use Rattle.hm_terms.proofs.Growth.{longer, stands_grow, node_same, link_same}
use Rattle.hm_terms.proofs.Holding.{knows_lowers}

pub shows_grow : (old new : Store) → IsReady old → Grows old new → (x : TyId) (w : Tree) → Shows old x w → Shows new x w
shows_grow old new r g x w k = record {
  before = omega (arith, k.before, g.names.mark);
  stands = stands_grow old new (longer old new g) r.closed x w k.stands;
}

shows_any_grow : (old new : Store) → IsReady old → Grows old new → (o : Option TyId) (w : Option Tree) → ShowsAny old o w → ShowsAny new o w
shows_any_grow old new r g None w k = k
shows_any_grow old new r g (Some x) w k = (k.0, k.1, shows_grow old new r g x k.0 k.2)

pub read_grows : (old new : Store) (decls : List DeclInfo) (c : Context) → IsRead old decls c → Grows old new → IsRead new decls c
read_grows old new decls c k g = record {
  ready = g.ready r;
  decls_are = k.decls_are;
  declared = λ x y p. shows_grow old new r g y (c.declared x) (k.declared x y (sym (g.names.declared x.0) ∙ p));
  schemes = λ b. subst (λ (o : Option TyId). ShowsAny new o (c.scheme b)) (sym (g.names.schemes b)) (shows_any_grow old new r g (old.schemes b) (c.scheme b) (k.schemes b));
  operations = λ op x p. shows_grow old new r g x (c.operation op) (k.operations op x (ap (λ (xs : List TyId). slice_get xs (op_place op)) (sym g.names.operations) ∙ p));
  closed_links = λ x y h p. (let below : x.0 < old.mark = omega (arith, h, g.names.mark) in let q = k.closed_links x y below (sym (link_same old new (longer old new g) x (omega (arith, below, r.mark_within))) ∙ p) in omega (arith, q, g.names.mark));
  closed_parts = λ x p n i h e q. (let below : x.0 < old.mark = omega (arith, h, g.names.mark) in let w = k.closed_parts x p n i below (sym (node_same old new (longer old new g) x (omega (arith, below, r.mark_within))) ∙ e) q in omega (arith, w, g.names.mark));
}
  where
    r : IsReady old
    r = k.ready

pub top_scheme : (s new : Store) (decls : List DeclInfo) (c : Context) (b node : ℕ) (id x : TyId) → s.schemes b ≡ Some id → ((w : Tree) → IsReady s → Stands s.nodes s.bound id w → Lowers s new (at_fresh node w) x) → IsRead s decls c → Lowers s new (top (c.scheme b) b node) x
top_scheme s new decls c b node id x is lowers k =
    let shown = subst (λ (o : Option TyId). ShowsAny s o (c.scheme b)) is (k.schemes b) in
    subst (λ (o : Option Tree). Lowers s new (top o b node) x) (sym shown.1) (lowers shown.0 k.ready shown.2.stands)

pub top_none : (s new : Store) (decls : List DeclInfo) (c : Context) (b node : ℕ) (x : TyId) → s.schemes b ≡ None → Knows s new (Binder b) x → IsRead s decls c → Lowers s new (top (c.scheme b) b node) x
top_none s new decls c b node x is knows k =
    let shown = subst (λ (o : Option TyId). ShowsAny s o (c.scheme b)) is (k.schemes b) in
    subst (λ (o : Option Tree). Lowers s new (top o b node) x) (sym shown) (knows_lowers s new (Binder b) x k.ready knows)

-- a declared type at the fresh types of a node, by the id at which abbreviations are expanded
pub declared_lowers : (s new : Store) (decls : List DeclInfo) (c : Context) (ty y x : TyId) (node : ℕ) → s.declared ty.0 ≡ Some y → ((w : Tree) → IsReady s → Stands s.nodes s.bound y w → Lowers s new (at_fresh node w) x) → IsRead s decls c → Lowers s new (at_fresh node (c.declared ty)) x
declared_lowers s new decls c ty y x node is lowers k = lowers (c.declared ty) k.ready (k.declared ty y is).stands

pub named_plain : (declared : TyId → Tree) (d : ℕ) (hs : List Shape) (o : Option DeclInfo) → alias_of o ≡ None → named declared d hs o ≡ Make (ConHead d (length hs)) (shapes hs)
named_plain declared d hs None e = refl
named_plain declared d hs (Some info) e =
    ap (λ (z : Option TyId). elim z as (λ _. Shape) [ None ↦ Make (ConHead d (length hs)) (shapes hs) | Some body ↦ with_shapes (shape_at hs) (declared body) ]) e

pub named_abbreviation : (declared : TyId → Tree) (d : ℕ) (hs : List Shape) (o : Option DeclInfo) (body : TyId) → alias_of o ≡ Some body → named declared d hs o ≡ with_shapes (shape_at hs) (declared body)
named_abbreviation declared d hs None body e = absurd (let g : None ≡ Some body = e in cc)
named_abbreviation declared d hs (Some info) body e =
    ap (λ (z : Option TyId). elim z as (λ _. Shape) [ None ↦ Make (ConHead d (length hs)) (shapes hs) | Some x ↦ with_shapes (shape_at hs) (declared x) ]) e

pub argument_some : (declared : TyId → Tree) (node : ℕ) (o : Option ConInfo) (q : ConInfo) → o ≡ Some q → argument declared node o ≡ argument declared node (Some q)
argument_some declared node o q e = ap (argument declared node) e

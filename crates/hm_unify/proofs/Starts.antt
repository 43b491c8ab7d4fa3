-- The closure where it begins.
use Rattle.std.proofs.Common.{◌≡◌, ℕ, ◌<◌, ◌≤◌, ◌⊎◌, List, [], length, Option, Some, None, refl, sym, ap, ◌∙◌, inl, inr, arith, get_or}
use Rattle.std.specs.List.{slice_get}
use Rattle.std.specs.Option.{option_and_then}
use Rattle.std.proofs.lemmas.Option.{slice_get_cases}
use Rattle.ml_types.specs.declared.node.TyId.{TyId}
use Rattle.ml_types.specs.declared.node.TyNode.{TyNode}
use Rattle.ml_types.specs.Types.{Tree}
use Rattle.hm_unify.specs.declared.classes.End.{End}
use Rattle.hm_unify.specs.declared.classes.End.TheVariants.{Built}
use Rattle.hm_unify.specs.declared.classes.Classes.{Classes}
use Rattle.hm_unify.specs.Solutions.{Bound, Pairs, node_at, number_at, variable_of, link, Ends, here, there, IsSolution}
use Rattle.hm_unify.specs.Classes.{up}
use Rattle.hm_unify.specs.Closing.{kind, kind_by, end_at, class_of, Respects, IsBuiltRoot, IsClosure, PairsWithin}
use Rattle.hm_unify.specs.States.{IsTabled}
use Rattle.hm_unify.proofs.Ends.{Ends-end_at, Ends-within, head-kind, headed, number-var}

pub id-from : (x y : TyId) → x.0 ≡ y.0 → x ≡ y
id-from x y h = ap (λ n. let r : TyId = record { 0 = n } in r) h

built_cases : (e : TyId) (o : Option ℕ) (r : ℕ) → kind_by e o ≡ Built r → (o ≡ None) × (e.0 ≡ r)
built_cases e None r h = (refl, cc)
built_cases e (Some n) r h = absurd cc

same_kind_by : (e g : TyId) (o p : Option ℕ) → kind_by e o ≡ kind_by g p → ((n : ℕ) × (o ≡ Some n) × (p ≡ Some n)) ⊎ (e ≡ g)
same_kind_by e g None None h = let q : e.0 ≡ g.0 = cc in inr (id-from e g q)
same_kind_by e g None (Some n) h = absurd cc
same_kind_by e g (Some n) None h = absurd cc
same_kind_by e g (Some n) (Some m) h = let q : n ≡ m = cc in inl (n, refl, ap Some (sym q))

-- a solution gives an id the type of its end
pub Ends-same : (nodes : List TyNode) (bound : Bound) (d : TyId → Tree) → ((x y : TyId) → link nodes bound x ≡ Some y → d x ≡ d y) → (x e : TyId) → Ends nodes bound x e → d x ≡ d e
Ends-same nodes bound d step x e (here w p) = refl
Ends-same nodes bound d step x e (there w y g p q) = step w y p ∙ Ends-same nodes bound d step y g q

abbrev same : End → End
same e = e

pub Respects-start : (nodes : List TyNode) (bound : Bound) → IsTabled nodes bound → (d : TyId → Tree) → IsSolution nodes bound d → Respects (class_of nodes bound same) d
Respects-start nodes bound tabled d s x y e =
    let ex = end_at nodes bound x in
    let ey = end_at nodes bound y in
    let dx : d x ≡ d ex = Ends-same nodes bound d s.bound_is x ex (Ends-end_at nodes bound tabled x) in
    let dy : d y ≡ d ey = Ends-same nodes bound d s.bound_is y ey (Ends-end_at nodes bound tabled y) in
    dx ∙ by ex ey (same_kind_by ex ey (number_at nodes ex) (number_at nodes ey) e) ∙ sym dy
  where
    by : (a b : TyId) → ((n : ℕ) × (number_at nodes a ≡ Some n) × (number_at nodes b ≡ Some n)) ⊎ (a ≡ b) → d a ≡ d b
    by a b (inl h) = s.one_variable a b h.0 (number-var nodes a h.0 h.1) (number-var nodes b h.0 h.2)
    by a b (inr h) = ap d h

node_within : (nodes : List TyNode) (x : TyId) → x.0 < length nodes → (n : TyNode) × (node_at nodes x ≡ Some n)
node_within nodes x h = by (slice_get_cases nodes x.0).1
  where
    by : ((n : TyNode) × (x.0 < length nodes) × (slice_get nodes x.0 ≡ Some n) × (get_or nodes x.0 n ≡ n)) ⊎ ((length nodes ≤ x.0) × (slice_get nodes x.0 ≡ None)) → (n : TyNode) × (node_at nodes x ≡ Some n)
    by (inl w) = (w.0, w.2)
    by (inr w) = absurd (omega (arith, h, w.0))

pub built-start : (nodes : List TyNode) (bound : Bound) → IsTabled nodes bound → (x : TyId) (r : ℕ) → x.0 < length nodes → kind nodes (end_at nodes bound x) ≡ Built r → IsBuiltRoot nodes (class_of nodes bound same) r
built-start nodes bound tabled x r x_in h =
    let e = end_at nodes bound x in
    let w = node_within nodes e (Ends-within nodes bound tabled x e (Ends-end_at nodes bound tabled x) x_in) in
    let c = built_cases e (number_at nodes e) r h in
    let rid : TyId = record { 0 = r } in
    let er : e ≡ rid = id-from e rid c.1 in
    let atr : node_at nodes rid ≡ Some w.0 = ap (slice_get nodes) (sym c.1) ∙ w.1 in
    let var : variable_of w.0 ≡ None = sym (ap (option_and_then variable_of) w.1) ∙ c.0 in
    let hd = headed w.0 var in
    record {
      node = w.0;
      head = hd.0;
      at_root = atr;
      has_head = hd.1;
      itself = head-kind nodes bound tabled rid w.0 hd.0 atr hd.1;
    }

pub IsClosure-start : (nodes : List TyNode) (bound : Bound) → IsTabled nodes bound → (pairs : Pairs) (classes : Classes) → ((e : End) → up classes e ≡ None) → PairsWithin (length nodes) pairs → IsClosure nodes bound pairs classes pairs []
IsClosure-start nodes bound tabled pairs classes none within =
    record {
      root_of = same;
      forest = record { root = λ e h. refl; linked = λ e g h. absurd (not_linked e g h) };
      closing = record {
        respected = λ d s q. Respects-start nodes bound tabled d s;
        forced = λ d s q. q;
        covers = λ d r q. q;
        roots = λ x n h p q. record {
          root = x.0;
          node = n;
          is_root = head-kind nodes bound tabled x n h p q;
          at_root = p;
          head = q;
          parts = λ d r e. refl;
        };
        built = λ x r x_in h. built-start nodes bound tabled x r x_in h;
      };
      are_seen = λ e g h. absurd (not_linked e g h);
      todo_within = within;
      seen_within = tt;
    }
  where
    not_linked : (e g : End) → up classes e ≡ Some g → ⊥
    not_linked e g h = let q : None ≡ Some g = sym (none e) ∙ h in cc

-- Joining two classes keeps what the closure keeps.
use Rattle.std.proofs.Common.{◌≡◌, ℕ, ◌<◌, List, length, Some, true, false, cond, eqb, sym, ap, ◌∙◌, subst, ⊎_elim, arith}
use Rattle.std.specs.List.{slice_get}
use Rattle.std.proofs.lemmas.Bool.Decides.{eqb_tells}
use Rattle.ml_types.specs.declared.node.TyId.{TyId}
use Rattle.ml_types.specs.declared.node.TyNode.{TyNode}
use Rattle.ml_types.specs.Types.{Head, head_of, Tree}
use Rattle.hm_unify.specs.declared.classes.End.{End}
use Rattle.hm_unify.specs.declared.classes.End.TheVariants.{Free, Built}
use Rattle.hm_unify.specs.Solutions.{Bound, Pairs, node_at, IsSolution, Equates}
use Rattle.hm_unify.specs.Classes.{code, moved}
use Rattle.hm_unify.specs.Closing.{Naming, Respects, HasRoot, IsBuiltRoot, IsClosing, IsBuiltIn, DoesParts, ToDo, their_parts}

pub code-injective : (a b : End) → code a ≡ code b → a ≡ b
code-injective (Free n) (Free m) h = let e : n ≡ m = omega arith in ap Free e
code-injective (Free n) (Built m) h = absurd (omega arith)
code-injective (Built n) (Free m) h = absurd (omega arith)
code-injective (Built n) (Built m) h = let e : n ≡ m = omega arith in ap Built e

-- what a move does to an end
pub data Moves (from to e : End) : Type 0 where
  is_from : e ≡ from → moved from to e ≡ to → Moves from to e
  stays : (e ≡ from → ⊥) → moved from to e ≡ e → Moves from to e

pub Moves-cases : (from to e : End) → Moves from to e
Moves-cases from to e =
    ⊎_elim
    (λ (h : (eqb (code e) (code from) ≡ true) × (code e ≡ code from)). is_from (code-injective e from h.1) (ap (λ b. cond b to e) h.0))
    (λ (h : (eqb (code e) (code from) ≡ false) × (code e ≡ code from → ⊥)). stays (λ q. h.1 (ap code q)) (ap (λ b. cond b to e) h.0))
    (eqb_tells (code e) (code from))

pub moved-other : (from to e : End) → (e ≡ from → ⊥) → moved from to e ≡ e
moved-other from to e h = other (Moves-cases from to e)
  where
    other : Moves from to e → moved from to e ≡ e
    other (is_from q p) = absurd (h q)
    other (stays q p) = p

pub moved-here : (from to e : End) → e ≡ from → moved from to e ≡ to
moved-here from to e h = here (Moves-cases from to e)
  where
    here : Moves from to e → moved from to e ≡ to
    here (is_from q p) = p
    here (stays q p) = absurd (q h)

-- the names after a join
abbrev pub renamed : Naming → End → End → Naming
renamed name from to x = moved from to (name x)

pub Respects-before : (name : Naming) (from to : End) (d : TyId → Tree) → Respects (renamed name from to) d → Respects name d
Respects-before name from to d r x y e = r x y (ap (moved from to) e)

Respects-after : (name : Naming) (u v : TyId) (from to : End) (d : TyId → Tree) → name u ≡ from → name v ≡ to → Respects name d → d u ≡ d v → Respects (renamed name from to) d
Respects-after name u v from to d nu nv r same x y e = by_cases (Moves-cases from to (name x)) (Moves-cases from to (name y))
  where
    by_cases : Moves from to (name x) → Moves from to (name y) → d x ≡ d y
    by_cases (is_from p q) (is_from a b) = r x y (p ∙ sym a)
    by_cases (is_from p q) (stays a b) = r x u (p ∙ sym nu) ∙ same ∙ r v y (nv ∙ sym q ∙ e ∙ b)
    by_cases (stays p q) (is_from a b) = r x v (sym q ∙ e ∙ b ∙ sym nv) ∙ sym same ∙ r u y (nu ∙ sym a)
    by_cases (stays p q) (stays a b) = r x y (sym q ∙ e ∙ b)

IsBuiltRoot-stays : (nodes : List TyNode) (name : Naming) (from to : End) (r : ℕ) → (Built r ≡ from → ⊥) → IsBuiltRoot nodes name r → IsBuiltRoot nodes (renamed name from to) r
IsBuiltRoot-stays nodes name from to r other b =
    record {
      node = b.node;
      head = b.head;
      at_root = b.at_root;
      has_head = b.has_head;
      itself = ap (moved from to) b.itself ∙ moved-other from to (Built r) other;
    }

pub IsClosing-join : (nodes : List TyNode) (bound : Bound) (pairs : Pairs) (name : Naming) (todo todo' : Pairs) (u v : TyId) (from to : End) → IsClosing nodes bound pairs name todo → name u ≡ from → name v ≡ to → (from ≡ to → ⊥) → v.0 < length nodes → ((d : TyId → Tree) → Equates d todo → d u ≡ d v) → ((d : TyId → Tree) → Respects (renamed name from to) d → Equates d todo' → Equates d todo) → ((d : TyId → Tree) → IsSolution nodes bound d → Equates d pairs → Equates d todo') → ((x : TyId) (n : TyNode) (h : Head) → node_at nodes x ≡ Some n → head_of n ≡ Some h → name x ≡ from → HasRoot nodes (renamed name from to) todo' x n h) → IsClosing nodes bound pairs (renamed name from to) todo'
IsClosing-join nodes bound pairs name todo todo' u v from to k nu nv apart v_in same back forth new_roots =
    record {
      respected = λ d s q. Respects-after name u v from to d nu nv (k.respected d s q) (same d (k.forced d s q));
      forced = forth;
      covers = λ d r e. k.covers d (Respects-before name from to d r) (back d r e);
      roots = λ x n h p q. roots_by x n h p q (Moves-cases from to (name x));
      built = λ x r x_in e. built_by x r x_in e (Moves-cases from to (name x));
    }
  where
    roots_by : (x : TyId) (n : TyNode) (h : Head) → node_at nodes x ≡ Some n → head_of n ≡ Some h → Moves from to (name x) → HasRoot nodes (renamed name from to) todo' x n h
    roots_by x n h p q (is_from a b) = new_roots x n h p q a
    roots_by x n h p q (stays a b) =
        let o : HasRoot nodes name todo x n h = k.roots x n h p q in
        record {
          root = o.root;
          node = o.node;
          is_root = b ∙ o.is_root;
          at_root = o.at_root;
          head = o.head;
          parts = λ d r e. o.parts d (Respects-before name from to d r) (back d r e);
        }

    built_by : (x : TyId) (r : ℕ) → x.0 < length nodes → renamed name from to x ≡ Built r → Moves from to (name x) → IsBuiltRoot nodes (renamed name from to) r
    built_by x r x_in e (is_from a b) =
        let is_to : to ≡ Built r = sym b ∙ e in
        IsBuiltRoot-stays nodes name from to r (λ (z : Built r ≡ from). apart (sym z ∙ sym is_to)) (k.built v r v_in (nv ∙ is_to))
    built_by x r x_in e (stays a b) =
        let is : name x ≡ Built r = sym b ∙ e in
        IsBuiltRoot-stays nodes name from to r (λ (z : Built r ≡ from). a (is ∙ z)) (k.built x r x_in is)

pub their_parts-from : (nodes : List TyNode) (todo todo' : Pairs) (left right : End) (r s : ℕ) (n m : TyNode) → left ≡ Built r → right ≡ Built s → IsBuiltIn nodes left → slice_get nodes r ≡ Some n → slice_get nodes s ≡ Some m → head_of n ≡ head_of m → DoesParts todo todo' n m → ToDo nodes todo todo' left right
their_parts-from nodes todo todo' left right r s n m lr rs b p q e d =
    let c : IsBuiltIn nodes (Built r) = subst (IsBuiltIn nodes) lr b in
    let same : c.0 ≡ n = (let o : Some c.0 ≡ Some n = sym c.2 ∙ p in cc) in
    let h : head_of n ≡ Some c.1 = sym (ap head_of same) ∙ c.3 in
    their_parts r s n m c.1 lr rs p q h (sym e ∙ h) d

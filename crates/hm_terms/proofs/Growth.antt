-- Solvers that have more nodes at the end: what was there stays.
use Rattle.std.proofs.Common.{◌≡◌, ℕ, zero, suc, ◌<◌, ◌≤◌, List, [], ◌∷◌, ◌++◌, length, Option, Some, None, get_or, refl, sym, ap, ◌∙◌, subst, arith, append_assoc, length-append}
use Rattle.std.specs.List.{slice_get}
use Rattle.std.specs.Option.{option_and_then}
use Rattle.std.proofs.lemmas.List.{append-nil}
use Rattle.std.proofs.lemmas.Option.{slice_get_within}
use Rattle.ml_types.specs.declared.node.TyId.{TyId}
use Rattle.ml_types.specs.declared.node.TyNode.{TyNode}
use Rattle.ml_types.specs.declared.node.TyNode.TheVariants.{Var}
use Rattle.ml_types.specs.Types.{parts_of, Tree, Trees}
use Rattle.ml_typing.specs.Typing.{Assignment}
use Rattle.hm_unify.specs.Solutions.{Bound, node_at, number_at, variable_of, link, Ends, here, there, Stands, variable, built, StandAll, none, more}
use Rattle.hm_unify.proofs.Ends.{link-number, number-var}
use Rattle.hm_terms.specs.Stores.{IsClosed, Store, Reading, Reaches, at_end, in_part, IsBefore, IsOwn, IsReady, Extended, Grows}

-- more nodes at the end, and the same bindings
pub record Longer (old new : Store) : Type 0 where
  pub tail : List TyNode
  pub nodes : new.nodes ≡ old.nodes ++ tail
  pub bound : (n : ℕ) → get_or new.bound n None ≡ get_or old.bound n None
  pub mark : new.mark ≡ old.mark

pub longer : (old new : Store) → Grows old new → Longer old new
longer old new g = record { tail = g.more; nodes = g.nodes; bound = g.bound; mark = g.names.mark }

at_append : {A : Type 0} (xs ys : List A) (i : ℕ) → i < length xs → slice_get (xs ++ ys) i ≡ slice_get xs i
at_append [] ys i h = absurd (omega arith)
at_append (x ∷ xs) ys zero h = refl
at_append (x ∷ xs) ys (suc i) h = at_append xs ys i (omega arith)

pub node_same : (old new : Store) → Longer old new → (x : TyId) → x.0 < length old.nodes → node_at new.nodes x ≡ node_at old.nodes x
node_same old new g x h = ap (λ (ns : List TyNode). node_at ns x) g.nodes ∙ at_append old.nodes g.tail x.0 h

pub node_old : (old new : Store) → Longer old new → (x : TyId) (n : TyNode) → node_at old.nodes x ≡ Some n → node_at new.nodes x ≡ Some n
node_old old new g x n h = node_same old new g x (slice_get_within old.nodes x.0 n h) ∙ h

pub length_longer : (old new : Store) → Longer old new → length old.nodes ≤ length new.nodes
length_longer old new g = omega (arith, ap length g.nodes, length-append old.nodes g.tail)

linked_by : (m k : Bound) (o : Option ℕ) → ((n : ℕ) → get_or k n None ≡ get_or m n None) → option_and_then (λ n. get_or k n None) o ≡ option_and_then (λ n. get_or m n None) o
linked_by m k None h = refl
linked_by m k (Some n) h = h n

pub link_same : (old new : Store) → Longer old new → (x : TyId) → x.0 < length old.nodes → link new.nodes new.bound x ≡ link old.nodes old.bound x
link_same old new g x h =
    ap (λ (o : Option TyNode). option_and_then (λ n. get_or new.bound n None) (option_and_then variable_of o)) (node_same old new g x h)
    ∙ linked_by old.bound new.bound (number_at old.nodes x) g.bound

pub linked_within : (s : Store) → IsClosed s.nodes s.bound → (x y : TyId) → link s.nodes s.bound x ≡ Some y → y.0 < length s.nodes
linked_within s k x y h = let l = link-number s.nodes s.bound x y h in k.targets_in l.0 y l.2

pub link_within : (s : Store) (x y : TyId) → link s.nodes s.bound x ≡ Some y → x.0 < length s.nodes
link_within s x y h = let l = link-number s.nodes s.bound x y h in slice_get_within s.nodes x.0 (Var l.0) (number-var s.nodes x l.0 l.1)

pub ends_within : (s : Store) (x e : TyId) (n : TyNode) → Ends s.nodes s.bound x e → node_at s.nodes e ≡ Some n → x.0 < length s.nodes
ends_within s x e n (here w p) at = slice_get_within s.nodes w.0 n at
ends_within s x e n (there w y v p q) at = link_within s w y p

pub stands_within : (s : Store) (x : TyId) (w : Tree) → Stands s.nodes s.bound x w → x.0 < length s.nodes
stands_within s x w (variable y e n ends at) = ends_within s y e (Var n) ends at
stands_within s x w (built y e n h ws ends at head all) = ends_within s y e n ends at

pub end_within : (s : Store) → IsClosed s.nodes s.bound → (x e : TyId) → x.0 < length s.nodes → Ends s.nodes s.bound x e → e.0 < length s.nodes
end_within s k x e h (here w p) = h
end_within s k x e h (there w y v p q) = end_within s k y v (linked_within s k w y p) q

pub ends_grow : (old new : Store) → Longer old new → IsClosed old.nodes old.bound → (x e : TyId) → x.0 < length old.nodes → Ends old.nodes old.bound x e → Ends new.nodes new.bound x e
ends_grow old new g k x e h (here w p) = here w (link_same old new g w h ∙ p)
ends_grow old new g k x e h (there w y v p q) = there w y v (link_same old new g w h ∙ p) (ends_grow old new g k y v (linked_within old k w y p) q)

pub ends_back : (old new : Store) → Longer old new → IsClosed old.nodes old.bound → (x e : TyId) → x.0 < length old.nodes → Ends new.nodes new.bound x e → Ends old.nodes old.bound x e
ends_back old new g k x e h (here w p) = here w (sym (link_same old new g w h) ∙ p)
ends_back old new g k x e h (there w y v p q) =
    let l : link old.nodes old.bound w ≡ Some y = sym (link_same old new g w h) ∙ p in
    there w y v l (ends_back old new g k y v (linked_within old k w y l) q)

-- what stands at the ids below a mark, closed under parts and links, stays where these stay
record SameBelow (mark : ℕ) (nodes others : List TyNode) (m k : Bound) : Type 0 where
  node_is : (x : TyId) → x.0 < mark → node_at others x ≡ node_at nodes x
  ends : (x e : TyId) → x.0 < mark → Ends nodes m x e → Ends others k x e
  end_below : (x e : TyId) → x.0 < mark → Ends nodes m x e → e.0 < mark
  part : (x : TyId) (n : TyNode) (i : ℕ) (p : TyId) → x.0 < mark → node_at nodes x ≡ Some n → slice_get (parts_of n) i ≡ Some p → p.0 < mark

abbrev AllBelow : ℕ → List TyId → Type 0
AllBelow mark [] = Unit {0}
AllBelow mark (p ∷ ps) = (p.0 < mark) × AllBelow mark ps

all_below : (mark : ℕ) (ps : List TyId) → ((i : ℕ) (p : TyId) → slice_get ps i ≡ Some p → p.0 < mark) → AllBelow mark ps
all_below mark [] h = tt
all_below mark (p ∷ ps) h = (h 0 p refl, all_below mark ps (λ i q e. h (suc i) q e))

mutual
  stands_stays : (mark : ℕ) (nodes others : List TyNode) (m k : Bound) → SameBelow mark nodes others m k → (x : TyId) (w : Tree) → x.0 < mark → Stands nodes m x w → Stands others k x w
  stands_stays mark nodes others m k s x w h (variable y e n ends at) =
      variable y e n (s.ends y e h ends) (s.node_is e (s.end_below y e h ends) ∙ at)
  stands_stays mark nodes others m k s x w h (built y e n i ws ends at head all) =
      let below = s.end_below y e h ends in
      built y e n i ws (s.ends y e h ends) (s.node_is e below ∙ at) head
      (stand_all_stays mark nodes others m k s (parts_of n) ws (all_below mark (parts_of n) (λ j p q. s.part e n j p below at q)) all)

  stand_all_stays : (mark : ℕ) (nodes others : List TyNode) (m k : Bound) → SameBelow mark nodes others m k → (xs : List TyId) (ws : Trees) → AllBelow mark xs → StandAll nodes m xs ws → StandAll others k xs ws
  stand_all_stays mark nodes others m k s xs ws h none = none
  stand_all_stays mark nodes others m k s xs ws h (more x ys w us one all) =
      more x ys w us (stands_stays mark nodes others m k s x w h.0 one) (stand_all_stays mark nodes others m k s ys us h.1 all)

same_below : (old new : Store) → Longer old new → IsClosed old.nodes old.bound → SameBelow (length old.nodes) old.nodes new.nodes old.bound new.bound
same_below old new g k = record {
  node_is = node_same old new g;
  ends = ends_grow old new g k;
  end_below = end_within old k;
  part = λ x n i p h at q. k.parts_in x n i p at q;
}

pub stands_grow : (old new : Store) → Longer old new → IsClosed old.nodes old.bound → (x : TyId) (w : Tree) → Stands old.nodes old.bound x w → Stands new.nodes new.bound x w
stands_grow old new g k x w s =
    stands_stays (length old.nodes) old.nodes new.nodes old.bound new.bound (same_below old new g k) x w (stands_within old x w s) s

pub reaches_back : (old new : Store) → Longer old new → IsClosed old.nodes old.bound → (x : TyId) (n : ℕ) → x.0 < length old.nodes → Reaches new.nodes new.bound x n → Reaches old.nodes old.bound x n
reaches_back old new g k x n h (at_end y e m ends at) =
    let back = ends_back old new g k y e h ends in
    at_end y e m back (sym (node_same old new g e (end_within old k y e h back)) ∙ at)
reaches_back old new g k x n h (in_part y e p j i m ends at part r) =
    let back = ends_back old new g k y e h ends in
    let here' : node_at old.nodes e ≡ Some j = sym (node_same old new g e (end_within old k y e h back)) ∙ at in
    in_part y e p j i m back here' part (reaches_back old new g k p m (k.parts_in e j i p here' part) r)

pub before_back : (old new : Store) → Longer old new → old.mark ≤ length old.nodes → (n : ℕ) → IsBefore new n → IsBefore old n
before_back old new g k n b =
    let below : b.0.0 < old.mark = subst (λ m. b.0.0 < m) g.mark b.1 in
    (b.0, below, sym (node_same old new g b.0 (omega (arith, below, k))) ∙ b.2)

pub own_grows : (old new : Store) → Longer old new → IsReady old → (x : TyId) → x.0 < length old.nodes → IsOwn old x → IsOwn new x
own_grows old new g k x h o = λ n r b. o n (reaches_back old new g k.closed x n h r) (before_back old new g k.mark_within n b)

pub reading_back : (old new : Store) → Grows old new → (t : TyId → Tree) (a : Assignment) → Reading new t a → Reading old t a
reading_back old new g t a r =
    let l = longer old new g in
    record {
      solves = record {
        nodes_are = λ x n h p q. r.solves.nodes_are x n h (node_old old new l x n p) q;
        one_variable = λ x y n p q. r.solves.one_variable x y n (node_old old new l x (Var n) p) (node_old old new l y (Var n) q);
        bound_is = λ x y p. r.solves.bound_is x y (link_same old new l x (link_within old x y p) ∙ p);
      };
      reads = λ u x p. r.reads u x (g.ids u x p);
    }

pub grows_same : (s : Store) → Grows s s
grows_same s = record {
  more = [];
  nodes = sym (append-nil s.nodes);
  bound = λ n. refl;
  ids = λ u x h. h;
  names = record { schemes = λ b. refl; operations = refl; declared = λ n. refl; mark = refl };
  ready = λ r. r;
  extends = λ r t a k. record { types = t; reading = k; agrees = λ x h. refl };
}

pub grows_then : (a b c : Store) → Grows a b → Grows b c → Grows a c
grows_then a b c g k = record {
  more = g.more ++ k.more;
  nodes = k.nodes ∙ ap (λ (ns : List TyNode). ns ++ k.more) g.nodes ∙ append_assoc a.nodes g.more k.more;
  bound = λ n. k.bound n ∙ g.bound n;
  ids = λ u x h. k.ids u x (g.ids u x h);
  names = record { schemes = λ n. k.names.schemes n ∙ g.names.schemes n; operations = k.names.operations ∙ g.names.operations; declared = λ n. k.names.declared n ∙ g.names.declared n; mark = k.names.mark ∙ g.names.mark };
  ready = λ r. k.ready (g.ready r);
  extends = λ r t as_ h. extended r t as_ (g.extends r t as_ h);
}
  where
    extended : IsReady a → (t : TyId → Tree) (as_ : Assignment) → Extended a b t as_ → Extended a c t as_
    extended r t as_ e =
        let f = k.extends (g.ready r) e.types as_ e.reading in
        record { types = f.types; reading = f.reading; agrees = λ x h. f.agrees x (omega (arith, h, length_longer a b (longer a b g))) ∙ e.agrees x h }

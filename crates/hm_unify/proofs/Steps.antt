-- One step of the closure.
use Rattle.std.proofs.Common.{◌≡◌, ℕ, ◌<◌, ◌⊎◌, List, [], ◌∷◌, ◌++◌, length, Some, refl, sym, ap, ◌∙◌, subst, inl, inr}
use Rattle.std.specs.List.{slice_get}
use Rattle.ml_types.specs.declared.node.TyId.{TyId}
use Rattle.ml_types.specs.declared.node.TyNode.{TyNode}
use Rattle.ml_types.specs.Types.{Head, head_of, parts_of, Tree, trees}
use Rattle.hm_unify.specs.declared.classes.End.{End}
use Rattle.hm_unify.specs.declared.classes.End.TheVariants.{Free, Built}
use Rattle.hm_unify.specs.declared.classes.Classes.{Classes}
use Rattle.hm_unify.specs.Solutions.{Bound, Pairs, IsSolution, Equates, IsIdOf, NoInfinite}
use Rattle.hm_unify.specs.Classes.{up, IsForest, IsRoot, moved, joined}
use Rattle.hm_unify.specs.Closing.{Naming, kind, end_at, class_of, Respects, HasRoot, IsBuiltRoot, IsClosing, IsSeen, IsClosure, PairsWithin, MayLink, LinksTo, Links, DoesParts, ToDo, no_parts, their_parts, Merges, Clashes}
use Rattle.hm_unify.specs.States.{IsTabled}
use Rattle.hm_unify.proofs.Equations.{Equates-front, Equates-back, Equates-append, IsIdOf-front, IsIdOf-back, PairsWithin-front, PairsWithin-back, PairsWithin-append}
use Rattle.hm_unify.proofs.Joins.{moved-here, moved-other, renamed, Respects-before, IsClosing-join}

-- the pair that is done next, and what is still to do without it
pub record IsNext (todo rest : Pairs) (u v : TyId) : Type 0 where
  pub same : (d : TyId → Tree) → Equates d todo → d u ≡ d v
  pub front : (d : TyId → Tree) → Equates d todo → Equates d rest
  pub popped : (d : TyId → Tree) → d u ≡ d v → Equates d rest → Equates d todo

pub IsNext-first : (rest : Pairs) (u v : TyId) → IsNext (rest ++ (u, v) ∷ []) rest u v
IsNext-first rest u v =
    record {
      same = λ d h. (Equates-back d rest ((u, v) ∷ []) h).0;
      front = λ d h. Equates-front d rest ((u, v) ∷ []) h;
      popped = λ d e h. Equates-append d rest ((u, v) ∷ []) h (e, tt);
    }

IsNext-swap : (todo rest : Pairs) (u v : TyId) → IsNext todo rest u v → IsNext todo rest v u
IsNext-swap todo rest u v n =
    record { same = λ d h. sym (n.same d h); front = n.front; popped = λ d e h. n.popped d (sym e) h }

ToDo-swap : (nodes : List TyNode) (todo todo' : Pairs) (left right : End) → ToDo nodes todo todo' left right → ToDo nodes todo todo' right left
ToDo-swap nodes todo todo' left right (no_parts (inl h) e) = no_parts (inr h) e
ToDo-swap nodes todo todo' left right (no_parts (inr h) e) = no_parts (inl h) e
ToDo-swap nodes todo todo' left right (their_parts r s n m h lr rs p q a b d) =
    their_parts s r m n h rs lr q p b a (record {
      old = d.old;
      parts = λ t e. sym (d.parts t e);
      new = λ t e g. d.new t e (sym g);
      within = λ k x y w. d.within k y x w;
    })

from_free : (from to : End) → MayLink from to → ((n : ℕ) × (from ≡ Free n)) ⊎ ((n : ℕ) × (to ≡ Free n)) → (n : ℕ) × (from ≡ Free n)
from_free (Free n) to m h = (n, refl)
from_free (Built r) (Free n) m h = absurd m
from_free (Built r) (Built s) m (inl h) = absurd (let e : Built r ≡ Free h.0 = h.1 in cc)
from_free (Built r) (Built s) m (inr h) = absurd (let e : Built s ≡ Free h.0 = h.1 in cc)

-- the two of the pair are in one class afterwards
one_class : (name : Naming) (u v : TyId) (from to : End) → name u ≡ from → name v ≡ to → (from ≡ to → ⊥) → renamed name from to u ≡ renamed name from to v
one_class name u v from to nu nv apart =
    moved-here from to (name u) nu ∙ sym nv ∙ sym (moved-other from to (name v) (λ e. apart (sym e ∙ nv)))

IsClosing-link : (nodes : List TyNode) (bound : Bound) (pairs : Pairs) (name : Naming) (todo rest todo' : Pairs) (u v : TyId) (from to : End) → IsClosing nodes bound pairs name todo → IsNext todo rest u v → name u ≡ from → name v ≡ to → (from ≡ to → ⊥) → u.0 < length nodes → v.0 < length nodes → MayLink from to → ToDo nodes rest todo' from to → IsClosing nodes bound pairs (renamed name from to) todo'
IsClosing-link nodes bound pairs name todo rest todo' u v from to k next nu nv apart u_in v_in may (no_parts h e) =
    let free = from_free from to may h in
    let back : (d : TyId → Tree) → Respects (renamed name from to) d → Equates d todo' → Equates d todo = λ d r g. next.popped d (r u v (one_class name u v from to nu nv apart)) (subst (Equates d) e g) in
    let forth : (d : TyId → Tree) → IsSolution nodes bound d → Equates d pairs → Equates d todo' = λ d s q. subst (Equates d) (sym e) (next.front d (k.forced d s q)) in
    IsClosing-join nodes bound pairs name todo todo' u v from to k nu nv apart v_in next.same back forth
    (λ x n h p q is_from. absurd (let b : Built (k.roots x n h p q).root ≡ Free free.0 = sym (k.roots x n h p q).is_root ∙ is_from ∙ free.1 in cc))
IsClosing-link nodes bound pairs name todo rest todo' u v from to k next nu nv apart u_in v_in may (their_parts r s n m h fr ts p q a b done) =
    let back : (d : TyId → Tree) → Respects (renamed name from to) d → Equates d todo' → Equates d todo = λ d w g. next.popped d (w u v (one_class name u v from to nu nv apart)) (done.old d g) in
    let rid : TyId = record { 0 = r } in
    let sid : TyId = record { 0 = s } in
    let r_itself : name rid ≡ Built r = (k.built u r u_in (nu ∙ fr)).itself in
    let s_itself : name sid ≡ Built s = (k.built v s v_in (nv ∙ ts)).itself in
    let equal : (d : TyId → Tree) → IsSolution nodes bound d → Equates d pairs → d rid ≡ d sid = λ d w g. (k.respected d w g rid u (r_itself ∙ sym fr ∙ sym nu)) ∙ next.same d (k.forced d w g) ∙ (k.respected d w g v sid (nv ∙ ts ∙ sym s_itself)) in
    let forth : (d : TyId → Tree) → IsSolution nodes bound d → Equates d pairs → Equates d todo' = λ d w g. done.new d (next.front d (k.forced d w g)) (w.parts rid sid n m h h p q a b (equal d w g)) in
    IsClosing-join nodes bound pairs name todo todo' u v from to k nu nv apart v_in next.same back forth
    (λ x n' h' p' q' is_from. new_root x n' h' is_from (k.roots x n' h' p' q') back)
  where
    new_root : (x : TyId) (n' : TyNode) (h' : Head) → name x ≡ from → HasRoot nodes name todo x n' h' → ((d : TyId → Tree) → Respects (renamed name from to) d → Equates d todo' → Equates d todo) → HasRoot nodes (renamed name from to) todo' x n' h'
    new_root x n' h' is_from o back =
        let e : Built o.root ≡ Built r = sym o.is_root ∙ is_from ∙ fr in
        let er : o.root ≡ r = cc in
        let en : o.node ≡ n = (let g : Some o.node ≡ Some n = sym o.at_root ∙ ap (slice_get nodes) er ∙ p in cc) in
        let eh : Some h ≡ Some h' = sym a ∙ sym (ap head_of en) ∙ o.head in
        record {
          root = s;
          node = m;
          is_root = moved-here from to (name x) is_from ∙ ts;
          at_root = q;
          head = b ∙ eh;
          parts = λ d w g. o.parts d (Respects-before name from to d w) (back d w g) ∙ ap (λ k. trees d (parts_of k)) en ∙ done.parts d g;
        }

pub IsClosing-same : (nodes : List TyNode) (bound : Bound) (pairs : Pairs) (name : Naming) (todo rest : Pairs) (u v : TyId) → IsClosing nodes bound pairs name todo → IsNext todo rest u v → name u ≡ name v → IsClosing nodes bound pairs name rest
IsClosing-same nodes bound pairs name todo rest u v k next e =
    record {
      respected = k.respected;
      forced = λ d s q. next.front d (k.forced d s q);
      covers = λ d r g. k.covers d r (next.popped d (r u v e) g);
      roots = λ x n h p q. roots_by x n h (k.roots x n h p q);
      built = k.built;
    }
  where
    roots_by : (x : TyId) (n : TyNode) (h : Head) → HasRoot nodes name todo x n h → HasRoot nodes name rest x n h
    roots_by x n h o =
        record {
          root = o.root;
          node = o.node;
          is_root = o.is_root;
          at_root = o.at_root;
          head = o.head;
          parts = λ d r g. o.parts d r (next.popped d (r u v e) g);
        }

IsSeen-link : (nodes : List TyNode) (bound : Bound) (old new : Classes) (f : End → End) (seen seen' : Pairs) (u : TyId) (from to : End) → IsForest old f → IsRoot old from → class_of nodes bound f u ≡ from → LinksTo old new from to → IsIdOf seen' u → ((x : TyId) → IsIdOf seen x → IsIdOf seen' x) → IsSeen old f (class_of nodes bound f) seen → IsSeen new (joined f from to) (class_of nodes bound (joined f from to)) seen'
IsSeen-link nodes bound old new f seen seen' u from to forest root nu link has more k e g h = by (link.links e g h)
  where
    by : (e ≡ from) ⊎ (up old e ≡ Some g) → (z : TyId) × IsIdOf seen' z × (joined f from to e ≡ class_of nodes bound (joined f from to) z)
    by (inl q) = (u, has, ap (moved from to) (ap f q ∙ forest.root from root ∙ sym nu))
    by (inr q) = let o = k e g q in (o.0, more o.0 o.1, ap (moved from to) o.2)

IsClosure-link : (nodes : List TyNode) (bound : Bound) (pairs : Pairs) (old new : Classes) (todo rest todo' seen seen' : Pairs) (u v : TyId) (from to : End) → (k : IsClosure nodes bound pairs old todo seen) → IsNext todo rest u v → class_of nodes bound k.root_of u ≡ from → class_of nodes bound k.root_of v ≡ to → IsRoot old from → (from ≡ to → ⊥) → u.0 < length nodes → v.0 < length nodes → LinksTo old new from to → ToDo nodes rest todo' from to → IsIdOf seen' u → ((x : TyId) → IsIdOf seen x → IsIdOf seen' x) → PairsWithin (length nodes) todo' → PairsWithin (length nodes) seen' → IsClosure nodes bound pairs new todo' seen'
IsClosure-link nodes bound pairs old new todo rest todo' seen seen' u v from to k next nu nv root apart u_in v_in link to_do has more todo_in seen_in =
    record {
      root_of = joined k.root_of from to;
      forest = link.forest k.root_of k.forest;
      closing = IsClosing-link nodes bound pairs (class_of nodes bound k.root_of) todo rest todo' u v from to k.closing next nu nv apart u_in v_in link.may to_do;
      are_seen = IsSeen-link nodes bound old new k.root_of seen seen' u from to k.forest root nu link has more k.are_seen;
      todo_within = todo_in;
      seen_within = seen_in;
    }

-- what is to do lies in the table again
ToDo-within : (nodes : List TyNode) (bound : Bound) → IsTabled nodes bound → (todo todo' : Pairs) (left right : End) → ToDo nodes todo todo' left right → PairsWithin (length nodes) todo → PairsWithin (length nodes) todo'
ToDo-within nodes bound tabled todo todo' left right (no_parts h e) w = subst (PairsWithin (length nodes)) (sym e) w
ToDo-within nodes bound tabled todo todo' left right (their_parts r s n m h lr rs p q a b d) w =
    d.within (length nodes) (λ i x. tabled.parts_in (record { 0 = r }) n i x p) (λ i x. tabled.parts_in (record { 0 = s }) m i x q) w

pub IsClosure-merge : (nodes : List TyNode) (bound : Bound) → IsTabled nodes bound → (pairs : Pairs) (old new : Classes) (rest todo' seen : Pairs) (u v : TyId) (left right : End) → (k : IsClosure nodes bound pairs old (rest ++ (u, v) ∷ []) seen) → class_of nodes bound k.root_of u ≡ left → class_of nodes bound k.root_of v ≡ right → IsRoot old left → IsRoot old right → (left ≡ right → ⊥) → Merges nodes old new rest todo' left right → IsClosure nodes bound pairs new todo' (seen ++ (u, v) ∷ [])
IsClosure-merge nodes bound tabled pairs old new rest todo' seen u v left right k nu nv root_left root_right apart merge = by merge.links
  where
    last : PairsWithin (length nodes) ((u, v) ∷ [])
    last = PairsWithin-back (length nodes) rest ((u, v) ∷ []) k.todo_within

    todo_in : PairsWithin (length nodes) todo'
    todo_in = ToDo-within nodes bound tabled rest todo' left right merge.to_do (PairsWithin-front (length nodes) rest ((u, v) ∷ []) k.todo_within)

    seen_in : PairsWithin (length nodes) (seen ++ (u, v) ∷ [])
    seen_in = PairsWithin-append (length nodes) seen ((u, v) ∷ []) k.seen_within last

    more : (x : TyId) → IsIdOf seen x → IsIdOf (seen ++ (u, v) ∷ []) x
    more x h = IsIdOf-front seen ((u, v) ∷ []) x h

    by : Links old new left right → IsClosure nodes bound pairs new todo' (seen ++ (u, v) ∷ [])
    by (inl link) =
        IsClosure-link nodes bound pairs old new (rest ++ (u, v) ∷ []) rest todo' seen (seen ++ (u, v) ∷ []) u v left right k (IsNext-first rest u v) nu nv root_left apart last.0 last.1 link merge.to_do (IsIdOf-back seen ((u, v) ∷ []) u (inl refl)) more todo_in seen_in
    by (inr link) =
        IsClosure-link nodes bound pairs old new (rest ++ (u, v) ∷ []) rest todo' seen (seen ++ (u, v) ∷ []) v u right left k (IsNext-swap _ _ u v (IsNext-first rest u v)) nv nu root_right (λ e. apart (sym e)) last.1 last.0 link (ToDo-swap nodes rest todo' left right merge.to_do) (IsIdOf-back seen ((u, v) ∷ []) v (inr (inl refl))) more todo_in seen_in

pub IsClosure-same : (nodes : List TyNode) (bound : Bound) (pairs : Pairs) (classes : Classes) (rest seen : Pairs) (u v : TyId) → (k : IsClosure nodes bound pairs classes (rest ++ (u, v) ∷ []) seen) → class_of nodes bound k.root_of u ≡ class_of nodes bound k.root_of v → IsClosure nodes bound pairs classes rest (seen ++ (u, v) ∷ [])
IsClosure-same nodes bound pairs classes rest seen u v k e =
    record {
      root_of = k.root_of;
      forest = k.forest;
      closing = IsClosing-same nodes bound pairs (class_of nodes bound k.root_of) (rest ++ (u, v) ∷ []) rest u v k.closing (IsNext-first rest u v) e;
      are_seen = λ a g h. (let o = k.are_seen a g h in (o.0, IsIdOf-front seen ((u, v) ∷ []) o.0 o.1, o.2));
      todo_within = PairsWithin-front (length nodes) rest ((u, v) ∷ []) k.todo_within;
      seen_within = PairsWithin-append (length nodes) seen ((u, v) ∷ []) k.seen_within (PairsWithin-back (length nodes) rest ((u, v) ∷ []) k.todo_within);
    }

-- where the heads of two roots differ, no types serve
pub NoInfinite-clash : (nodes : List TyNode) (bound : Bound) (pairs : Pairs) (classes : Classes) (rest seen : Pairs) (u v : TyId) (left right : End) → (k : IsClosure nodes bound pairs classes (rest ++ (u, v) ∷ []) seen) → class_of nodes bound k.root_of u ≡ left → class_of nodes bound k.root_of v ≡ right → Clashes nodes left right → NoInfinite nodes bound pairs
NoInfinite-clash nodes bound pairs classes rest seen u v left right k nu nv (r, s, n, m, h, j, lr, rs, p, q, a, b, differ) = λ d sol eqs.
    let last = PairsWithin-back (length nodes) rest ((u, v) ∷ []) k.todo_within in
    let rid : TyId = record { 0 = r } in
    let sid : TyId = record { 0 = s } in
    let respects = k.closing.respected d sol eqs in
    let r_itself = (k.closing.built u r last.0 (nu ∙ lr)).itself in
    let s_itself = (k.closing.built v s last.1 (nv ∙ rs)).itself in
    let same = (IsNext-first rest u v).same d (k.closing.forced d sol eqs) in
    differ (sol.heads rid sid n m h j p q a b (respects rid u (r_itself ∙ sym lr ∙ sym nu) ∙ same ∙ respects v sid (nv ∙ rs ∙ sym s_itself)))

-- the roots of a pair have heads
pub IsBuiltIn-root : (nodes : List TyNode) (bound : Bound) (pairs : Pairs) (classes : Classes) (todo seen : Pairs) (x : TyId) (e : End) → (k : IsClosure nodes bound pairs classes todo seen) → x.0 < length nodes → class_of nodes bound k.root_of x ≡ e → Rattle.hm_unify.specs.Closing.IsBuiltIn nodes e
IsBuiltIn-root nodes bound pairs classes todo seen x (Free n) k x_in e = tt
IsBuiltIn-root nodes bound pairs classes todo seen x (Built r) k x_in e =
    let b = k.closing.built x r x_in e in
    (b.node, b.head, b.at_root, b.has_head)

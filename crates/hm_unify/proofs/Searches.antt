-- The steps of a search for sizes.
use Rattle.std.proofs.Common.{◌≡◌, ℕ, ◌+◌, ◌⊎◌, min, List, [], ◌∷◌, ◌++◌, take, Option, Some, None, true, false, cond, eqb, refl, sym, ap, ◌∙◌, subst, inl, inr, ⊎_elim, arith}
use Rattle.std.specs.List.{slice_get}
use Rattle.std.proofs.lemmas.Bool.Decides.{eqb_tells}
use Rattle.ml_types.specs.declared.node.TyId.{TyId}
use Rattle.ml_types.specs.declared.node.TyNode.{TyNode}
use Rattle.ml_types.specs.Types.{parts_of, Tree, Leaf, Node, Nil, trees, tree_size, trees_size}
use Rattle.hm_unify.specs.declared.classes.End.{End}
use Rattle.hm_unify.specs.declared.classes.End.TheVariants.{Free, Built}
use Rattle.hm_unify.specs.declared.classes.Classes.{Classes}
use Rattle.hm_unify.specs.declared.measure.Frame.{Frame}
use Rattle.hm_unify.specs.declared.measure.Mark.{Mark}
use Rattle.hm_unify.specs.declared.measure.Mark.TheVariants.{Open, Done}
use Rattle.hm_unify.specs.declared.measure.Marks.{Marks}
use Rattle.hm_unify.specs.Solutions.{Bound, Pairs, Solves, IsSolution, Equates}
use Rattle.hm_unify.specs.Closing.{Naming, class_of, IsBuiltRoot, IsClosure}
use Rattle.hm_unify.specs.Shapes.{Shapes, free_shape, built_shape, no_shape, HasSize, mark_at, IsFrame, IsBelow, IsNodeOf, IsMarked, IsSearching, Finds, FindsRoot}
use Rattle.hm_unify.proofs.Equations.{snoc, take-next, take-end}
use Rattle.hm_unify.proofs.Shapes.{Shapes-snoc, trees_size-snoc, Respected, Leads-none, Linked-pop, Linked-push, Leads-push, Leads-linked, AreFrames-front, AreFrames-push, first_of-front, first_of-push, first_of-more, IsNodeOf-front, IsNodeOf-more, IsNodeOf-last}

-- finite types are a solution among infinite ones too
pub IsSolution-finite : (nodes : List TyNode) (bound : Bound) (t : TyId → Tree) → Solves nodes bound t → IsSolution nodes bound t
IsSolution-finite nodes bound t s =
    record {
      heads = λ x y n m h k p q a b e. (let w : Node h (trees t (parts_of n)) ≡ Node k (trees t (parts_of m)) = sym (s.nodes_are x n h p a) ∙ e ∙ s.nodes_are y m k q b in cc);
      parts = λ x y n m h k p q a b e. (let w : Node h (trees t (parts_of n)) ≡ Node k (trees t (parts_of m)) = sym (s.nodes_are x n h p a) ∙ e ∙ s.nodes_are y m k q b in cc);
      one_variable = s.one_variable;
      bound_is = s.bound_is;
    }

pub Respected-closure : (nodes : List TyNode) (bound : Bound) (pairs : Pairs) (classes : Classes) (seen : Pairs) (k : IsClosure nodes bound pairs classes [] seen) (t : TyId → Tree) → Solves nodes bound t → Equates t pairs → Respected nodes (class_of nodes bound k.root_of) t
Respected-closure nodes bound pairs classes seen k t s e =
    record { respects = k.closing.respected t (IsSolution-finite nodes bound t s) e; nodes_are = s.nodes_are }

-- a mark is set
abbrev pub Sets : Marks → Marks → ℕ → Mark → Type 0
Sets old new k m = (q : ℕ) → mark_at new q ≡ cond (eqb k q) (Some m) (mark_at old q)

set_here : (old new : Marks) (k : ℕ) (m : Mark) → Sets old new k m → (q : ℕ) → ((k ≡ q) × (mark_at new q ≡ Some m)) ⊎ ((k ≡ q → ⊥) × (mark_at new q ≡ mark_at old q))
set_here old new k m set q = by (eqb_tells k q)
  where
    by : ((eqb k q ≡ true) × (k ≡ q)) ⊎ ((eqb k q ≡ false) × (k ≡ q → ⊥)) → ((k ≡ q) × (mark_at new q ≡ Some m)) ⊎ ((k ≡ q → ⊥) × (mark_at new q ≡ mark_at old q))
    by (inl h) = inl (h.1, set q ∙ ap (λ b. cond b (Some m) (mark_at old q)) h.0)
    by (inr h) = inr (h.1, set q ∙ ap (λ b. cond b (Some m) (mark_at old q)) h.0)

-- a class whose parts are all measured
HasSize-finish : (nodes : List TyNode) (name : Naming) (f : Frame) (n : TyNode) (s : ℕ) → IsFrame nodes name f → slice_get nodes f.node ≡ Some n → slice_get (parts_of n) f.next ≡ None → s ≡ min f.size 2000 + 1 → HasSize nodes name (Built f.node) s
HasSize-finish nodes name f n s k p q e =
    let w : Some k.node ≡ Some n = sym k.found ∙ p in
    let same : k.node ≡ n = cc in
    let all : take f.next (parts_of k.node) ≡ parts_of k.node = take-end (parts_of k.node) f.next (ap (λ v. slice_get (parts_of v) f.next) same ∙ q) in
    (Node k.head k.trees, built_shape f.node k.node k.head k.trees k.found k.has_head k.itself (subst (λ xs. Shapes nodes name xs k.trees) all k.shapes), omega (arith, e, k.size))

pub HasSize-done : (nodes : List TyNode) (name : Naming) (marks : Marks) (rest : List Frame) (f : Frame) (top : ℕ) (n : TyNode) (s : ℕ) → IsSearching nodes name marks (rest ++ f ∷ []) top → slice_get nodes f.node ≡ Some n → slice_get (parts_of n) f.next ≡ None → s ≡ min f.size 2000 + 1 → HasSize nodes name (Built f.node) s
HasSize-done nodes name marks rest f top n s k p q e = HasSize-finish nodes name f n s (AreFrames-front nodes name rest f k.frames).1 p q e

pub IsSearching-finish : (nodes : List TyNode) (name : Naming) (marks marks' : Marks) (rest : List Frame) (f : Frame) (top : ℕ) (n : TyNode) (s : ℕ) → IsSearching nodes name marks (rest ++ f ∷ []) top → slice_get nodes f.node ≡ Some n → slice_get (parts_of n) f.next ≡ None → s ≡ min f.size 2000 + 1 → Sets marks marks' f.node (Done s) → IsSearching nodes name marks' rest top
IsSearching-finish nodes name marks marks' rest f top n s k p q e set =
    record {
      frames = (AreFrames-front nodes name rest f k.frames).0;
      linked = Leads-linked nodes name rest f.node (Linked-pop nodes name rest f k.linked);
      bottom = first_of-front rest f top k.bottom;
      marked = record { done = λ r z h. done_by r z h (set_here marks marks' f.node (Done s) set r); opened = λ r h. open_by r h (set_here marks marks' f.node (Done s) set r) };
    }
  where
    done_by : (r z : ℕ) → mark_at marks' r ≡ Some (Done z) → ((f.node ≡ r) × (mark_at marks' r ≡ Some (Done s))) ⊎ ((f.node ≡ r → ⊥) × (mark_at marks' r ≡ mark_at marks r)) → HasSize nodes name (Built r) z
    done_by r z h (inl w) =
        let g : Some (Done s) ≡ Some (Done z) = sym w.1 ∙ h in
        let sz : s ≡ z = cc in
        subst (λ v. HasSize nodes name (Built v) z) w.0 (subst (λ v. HasSize nodes name (Built f.node) v) sz (HasSize-finish nodes name f n s (AreFrames-front nodes name rest f k.frames).1 p q e))
    done_by r z h (inr w) = k.marked.done r z (sym w.1 ∙ h)

    open_by : (r : ℕ) → mark_at marks' r ≡ Some Open → ((f.node ≡ r) × (mark_at marks' r ≡ Some (Done s))) ⊎ ((f.node ≡ r → ⊥) × (mark_at marks' r ≡ mark_at marks r)) → IsNodeOf rest r
    open_by r h (inl w) = absurd (let g : Some (Done s) ≡ Some Open = sym w.1 ∙ h in cc)
    open_by r h (inr w) = ⊎_elim (λ m. m) (λ z. absurd (w.0 z)) (IsNodeOf-front rest f r (k.marked.opened r (sym w.1 ∙ h)))

IsFrame-past : (nodes : List TyNode) (name : Naming) (f g : Frame) (n : TyNode) (p : TyId) (s : ℕ) → IsFrame nodes name f → slice_get nodes f.node ≡ Some n → slice_get (parts_of n) f.next ≡ Some p → HasSize nodes name (name p) s → g.node ≡ f.node → g.next ≡ f.next + 1 → g.size ≡ min (min f.size 2000 + min s 2001) 2000 → IsFrame nodes name g
IsFrame-past nodes name f g n p s k at part has gn gx gs =
    let w : Some k.node ≡ Some n = sym k.found ∙ at in
    let same : k.node ≡ n = cc in
    let next : slice_get (parts_of k.node) f.next ≡ Some p = ap (λ v. slice_get (parts_of v) f.next) same ∙ part in
    let more : take g.next (parts_of k.node) ≡ take f.next (parts_of k.node) ++ p ∷ [] = ap (λ i. take i (parts_of k.node)) gx ∙ take-next (parts_of k.node) f.next p next in
    record {
      node = k.node;
      head = k.head;
      found = ap (slice_get nodes) gn ∙ k.found;
      has_head = k.has_head;
      itself = subst (λ r. name (record { 0 = r }) ≡ Built r) (sym gn) k.itself;
      trees = snoc k.trees has.0;
      shapes = subst (λ xs. Shapes nodes name xs (snoc k.trees has.0)) (sym more) (Shapes-snoc nodes name (take f.next (parts_of k.node)) k.trees p has.0 k.shapes has.1);
      size = sizes (trees_size k.trees) (tree_size has.0) (trees_size (snoc k.trees has.0)) f.size s g.size k.size has.2 gs (trees_size-snoc k.trees has.0);
    }
  where
    sizes : (a b ab fs s' gs' : ℕ) → fs ≡ min a 2000 → s' ≡ min b 2001 → gs' ≡ min (min fs 2000 + min s' 2001) 2000 → ab ≡ a + b → gs' ≡ min ab 2000
    sizes a b ab fs s' gs' h1 h2 h3 h4 = omega arith

pub IsSearching-past : (nodes : List TyNode) (name : Naming) (marks : Marks) (rest : List Frame) (f g : Frame) (top : ℕ) (n : TyNode) (p : TyId) (s : ℕ) → IsSearching nodes name marks (rest ++ f ∷ []) top → slice_get nodes f.node ≡ Some n → slice_get (parts_of n) f.next ≡ Some p → HasSize nodes name (name p) s → g.node ≡ f.node → g.next ≡ f.next + 1 → g.size ≡ min (min f.size 2000 + min s 2001) 2000 → IsSearching nodes name marks (rest ++ g ∷ []) top
IsSearching-past nodes name marks rest f g top n p s k at part has gn gx gs =
    record {
      frames = (let fs = AreFrames-front nodes name rest f k.frames in AreFrames-push nodes name rest g fs.0 (IsFrame-past nodes name f g n p s fs.1 at part has gn gx gs));
      linked = Linked-push nodes name rest g f.node (Linked-pop nodes name rest f k.linked) (sym gn);
      bottom = first_of-push rest f g top k.bottom gn;
      marked = record {
        done = k.marked.done;
        opened = λ r h. ⊎_elim (λ m. IsNodeOf-more rest g r m) (λ e. IsNodeOf-last rest g r (gn ∙ e)) (IsNodeOf-front rest f r (k.marked.opened r h));
      };
    }

below : (nodes : List TyNode) (name : Naming) (f : Frame) (n : TyNode) (p : TyId) (r : ℕ) → slice_get nodes f.node ≡ Some n → slice_get (parts_of n) f.next ≡ Some p → name p ≡ Built r → IsBuiltRoot nodes name r → IsBelow nodes name f r
below nodes name f n p r at part class b = record { node = n; part = p; found = at; next = part; class = class; itself = b.itself }

-- an open class is a part of itself
pub open-none : (nodes : List TyNode) (name : Naming) (t : TyId → Tree) → Respected nodes name t → (marks : Marks) (rest : List Frame) (f : Frame) (top : ℕ) (n : TyNode) (p : TyId) (r : ℕ) → IsSearching nodes name marks (rest ++ f ∷ []) top → slice_get nodes f.node ≡ Some n → slice_get (parts_of n) f.next ≡ Some p → name p ≡ Built r → IsBuiltRoot nodes name r → mark_at marks r ≡ Some Open → ⊥
open-none nodes name t w marks rest f top n p r k at part class b is_open =
    Leads-none nodes name t w (rest ++ f ∷ []) r (Leads-push nodes name rest f r (Linked-pop nodes name rest f k.linked) (below nodes name f n p r at part class b)) (k.marked.opened r is_open)

IsFrame-enter : (nodes : List TyNode) (name : Naming) (g : Frame) (r : ℕ) → IsBuiltRoot nodes name r → g.node ≡ r → g.next ≡ 0 → g.size ≡ 0 → IsFrame nodes name g
IsFrame-enter nodes name g r b gn gx gs =
    record {
      node = b.node;
      head = b.head;
      found = ap (slice_get nodes) gn ∙ b.at_root;
      has_head = b.has_head;
      itself = subst (λ v. name (record { 0 = v }) ≡ Built v) (sym gn) b.itself;
      trees = Nil;
      shapes = subst (λ i. Shapes nodes name (take i (parts_of b.node)) Nil) (sym gx) no_shape;
      size = gs;
    }

entered : (nodes : List TyNode) (name : Naming) (marks marks' : Marks) (stack stack' : List Frame) (r : ℕ) → IsMarked nodes name marks stack → Sets marks marks' r Open → IsNodeOf stack' r → ((q : ℕ) → IsNodeOf stack q → IsNodeOf stack' q) → IsMarked nodes name marks' stack'
entered nodes name marks marks' stack stack' r k set last more =
    record { done = λ q z h. done_by q z h (set_here marks marks' r Open set q); opened = λ q h. open_by q h (set_here marks marks' r Open set q) }
  where
    done_by : (q z : ℕ) → mark_at marks' q ≡ Some (Done z) → ((r ≡ q) × (mark_at marks' q ≡ Some Open)) ⊎ ((r ≡ q → ⊥) × (mark_at marks' q ≡ mark_at marks q)) → HasSize nodes name (Built q) z
    done_by q z h (inl w) = absurd (let g : Some Open ≡ Some (Done z) = sym w.1 ∙ h in cc)
    done_by q z h (inr w) = k.done q z (sym w.1 ∙ h)

    open_by : (q : ℕ) → mark_at marks' q ≡ Some Open → ((r ≡ q) × (mark_at marks' q ≡ Some Open)) ⊎ ((r ≡ q → ⊥) × (mark_at marks' q ≡ mark_at marks q)) → IsNodeOf stack' q
    open_by q h (inl w) = subst (IsNodeOf stack') w.0 last
    open_by q h (inr w) = more q (k.opened q (sym w.1 ∙ h))

pub IsSearching-enter : (nodes : List TyNode) (name : Naming) (marks marks' : Marks) (rest : List Frame) (f g : Frame) (top : ℕ) (n : TyNode) (p : TyId) (r : ℕ) → IsSearching nodes name marks (rest ++ f ∷ []) top → slice_get nodes f.node ≡ Some n → slice_get (parts_of n) f.next ≡ Some p → name p ≡ Built r → IsBuiltRoot nodes name r → Sets marks marks' r Open → g.node ≡ r → g.next ≡ 0 → g.size ≡ 0 → IsSearching nodes name marks' ((rest ++ f ∷ []) ++ g ∷ []) top
IsSearching-enter nodes name marks marks' rest f g top n p r k at part class b set gn gx gs =
    let leads = Leads-push nodes name rest f r (Linked-pop nodes name rest f k.linked) (below nodes name f n p r at part class b) in
    record {
      frames = AreFrames-push nodes name (rest ++ f ∷ []) g k.frames (IsFrame-enter nodes name g r b gn gx gs);
      linked = Linked-push nodes name (rest ++ f ∷ []) g r leads (sym gn);
      bottom = first_of-more rest f g top k.bottom;
      marked = entered nodes name marks marks' (rest ++ f ∷ []) ((rest ++ f ∷ []) ++ g ∷ []) r k.marked set (IsNodeOf-last (rest ++ f ∷ []) g r gn) (λ q h. IsNodeOf-more (rest ++ f ∷ []) g q h);
    }

pub IsSearching-start : (nodes : List TyNode) (name : Naming) (marks marks' : Marks) (g : Frame) (r : ℕ) → IsMarked nodes name marks [] → IsBuiltRoot nodes name r → Sets marks marks' r Open → g.node ≡ r → g.next ≡ 0 → g.size ≡ 0 → IsSearching nodes name marks' (g ∷ []) r
IsSearching-start nodes name marks marks' g r k b set gn gx gs =
    record {
      frames = (IsFrame-enter nodes name g r b gn gx gs, tt);
      linked = tt;
      bottom = gn;
      marked = entered nodes name marks marks' [] (g ∷ []) r k set (inl gn) (λ q h. absurd h);
    }

pub HasSize-free : (nodes : List TyNode) (name : Naming) (e : End) (m : ℕ) → e ≡ Free m → HasSize nodes name e 1
HasSize-free nodes name e m h = subst (λ v. HasSize nodes name v 1) (sym h) (Leaf m, free_shape m, refl)

pub Finds-root : (nodes : List TyNode) (bound : Bound) (pairs : Pairs) (name : Naming) (id : TyId) (top : ℕ) (marks : Marks) (o : Option ℕ) → name id ≡ Built top → FindsRoot nodes bound pairs name top marks o → Finds nodes bound pairs name id marks o
Finds-root nodes bound pairs name id top marks None e h = h
Finds-root nodes bound pairs name id top marks (Some s) e h = (subst (λ v. HasSize nodes name v s) (sym e) h.0, h.1)

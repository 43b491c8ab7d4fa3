-- Shapes of classes, and stacks of frames.
use Rattle.std.proofs.Common.{◌≡◌, ℕ, zero, suc, ◌+◌, ◌<◌, ◌≤◌, ◌⊎◌, List, [], ◌∷◌, ◌++◌, Some, refl, sym, ap, ◌∙◌, subst, inl, inr, ⊎_elim, arith}
use Rattle.std.specs.List.{slice_get}
use Rattle.ml_types.specs.declared.node.TyId.{TyId}
use Rattle.ml_types.specs.declared.node.TyNode.{TyNode}
use Rattle.ml_types.specs.Types.{Head, head_of, parts_of, Tree, Node, Trees, Nil, Cons, trees, tree_size, trees_size}
use Rattle.hm_unify.specs.declared.measure.Frame.{Frame}
use Rattle.hm_unify.specs.Solutions.{node_at}
use Rattle.hm_unify.specs.Closing.{Naming, Respects}
use Rattle.hm_unify.specs.Shapes.{Shape, Shapes, no_shape, more_shapes, IsFrame, AreFrames, FramesWithin, IsBelow, first_of, Leads, Linked, IsNodeOf}
use Rattle.hm_unify.proofs.Equations.{snoc}

pub Shapes-snoc : (nodes : List TyNode) (name : Naming) (xs : List TyId) (ts : Trees) (x : TyId) (t : Tree) → Shapes nodes name xs ts → Shape nodes name (name x) t → Shapes nodes name (xs ++ x ∷ []) (snoc ts t)
unfolding snoc
Shapes-snoc nodes name xs ts x t no_shape s = more_shapes x [] t Nil s no_shape
Shapes-snoc nodes name xs ts x t (more_shapes y ys u us p q) s = more_shapes y (ys ++ x ∷ []) u (snoc us t) p (Shapes-snoc nodes name ys us x t q s)

pub trees_size-snoc : (ts : Trees) (t : Tree) → trees_size (snoc ts t) ≡ trees_size ts + tree_size t
unfolding snoc
trees_size-snoc Nil t = omega arith
trees_size-snoc (Cons u us) t = let h = trees_size-snoc us t in omega arith

-- a finite solution of the classes
pub record Respected (nodes : List TyNode) (name : Naming) (t : TyId → Tree) : Type 0 where
  pub respects : Respects name t
  pub nodes_are : (x : TyId) (n : TyNode) (h : Head) → node_at nodes x ≡ Some n → head_of n ≡ Some h → t x ≡ Node h (trees t (parts_of n))

part_smaller : (t : TyId → Tree) (ps : List TyId) (i : ℕ) (p : TyId) → slice_get ps i ≡ Some p → tree_size (t p) < trees_size (trees t ps) + 1
part_smaller t [] i p h = absurd cc
part_smaller t (q ∷ ps) zero p h = let e : q ≡ p = cc in subst (λ v. tree_size (t v) < tree_size (t q) + trees_size (trees t ps) + 1) e (omega arith)
part_smaller t (q ∷ ps) (suc i) p h = let k = part_smaller t ps i p h in omega arith

abbrev pub root_id : ℕ → TyId
root_id r = record { 0 = r }

part_head : (n : TyNode) (i : ℕ) (p : TyId) → slice_get (parts_of n) i ≡ Some p → (h : Head) × (head_of n ≡ Some h)
part_head (Rattle.ml_types.specs.declared.node.TyNode.TheVariants.Var m) i p e = absurd cc
part_head (Rattle.ml_types.specs.declared.node.TyNode.TheVariants.Con d args) i p e = (_, refl)
part_head (Rattle.ml_types.specs.declared.node.TyNode.TheVariants.Tuple parts) i p e = (_, refl)
part_head (Rattle.ml_types.specs.declared.node.TyNode.TheVariants.Arrow slot a b) i p e = (_, refl)

below_smaller : (nodes : List TyNode) (name : Naming) (t : TyId → Tree) → Respected nodes name t → (f : Frame) (r : ℕ) → IsBelow nodes name f r → tree_size (t (root_id r)) < tree_size (t (root_id f.node))
below_smaller nodes name t k f r b =
    let hd = part_head b.node f.next b.part b.next in
    let whole : t (root_id f.node) ≡ Node hd.0 (trees t (parts_of b.node)) = k.nodes_are (root_id f.node) b.node hd.0 b.found hd.1 in
    let small : tree_size (t b.part) < trees_size (trees t (parts_of b.node)) + 1 = part_smaller t (parts_of b.node) f.next b.part b.next in
    let same : t b.part ≡ t (root_id r) = k.respects b.part (root_id r) (b.class ∙ sym b.itself) in
    omega (arith, small, ap tree_size whole, ap tree_size same)

leads_smaller : (nodes : List TyNode) (name : Naming) (t : TyId → Tree) → Respected nodes name t → (fs : List Frame) (r : ℕ) → Leads nodes name fs r → tree_size (t (root_id r)) ≤ tree_size (t (root_id (first_of fs r)))
leads_smaller nodes name t k [] r l = omega arith
leads_smaller nodes name t k (f ∷ fs) r l =
    omega (arith, leads_smaller nodes name t k fs r l.1, below_smaller nodes name t k f (first_of fs r) l.0)

member_smaller : (nodes : List TyNode) (name : Naming) (t : TyId → Tree) → Respected nodes name t → (fs : List Frame) (r s : ℕ) → Leads nodes name fs r → IsNodeOf fs s → tree_size (t (root_id r)) < tree_size (t (root_id s))
member_smaller nodes name t k [] r s l m = absurd m
member_smaller nodes name t k (f ∷ fs) r s l (inl e) =
    omega (arith, leads_smaller nodes name t k fs r l.1, below_smaller nodes name t k f (first_of fs r) l.0, ap (λ v. tree_size (t (root_id v))) e)
member_smaller nodes name t k (f ∷ fs) r s l (inr m) = member_smaller nodes name t k fs r s l.1 m

-- a class that leads back to itself has no finite types
pub Leads-none : (nodes : List TyNode) (name : Naming) (t : TyId → Tree) → Respected nodes name t → (fs : List Frame) (r : ℕ) → Leads nodes name fs r → IsNodeOf fs r → ⊥
Leads-none nodes name t k fs r l m = omega (arith, member_smaller nodes name t k fs r r l m)

pub Linked-pop : (nodes : List TyNode) (name : Naming) (fs : List Frame) (f : Frame) → Linked nodes name (fs ++ f ∷ []) → Leads nodes name fs f.node
Linked-pop nodes name [] f l = tt
Linked-pop nodes name (g ∷ []) f l = (l.0, tt)
Linked-pop nodes name (g ∷ h ∷ fs) f l = (l.0, Linked-pop nodes name (h ∷ fs) f l.1)

pub Linked-push : (nodes : List TyNode) (name : Naming) (fs : List Frame) (f : Frame) (r : ℕ) → Leads nodes name fs r → r ≡ f.node → Linked nodes name (fs ++ f ∷ [])
Linked-push nodes name [] f r l e = tt
Linked-push nodes name (g ∷ []) f r l e = (subst (IsBelow nodes name g) e l.0, tt)
Linked-push nodes name (g ∷ h ∷ fs) f r l e = (l.0, Linked-push nodes name (h ∷ fs) f r l.1 e)

pub Leads-push : (nodes : List TyNode) (name : Naming) (fs : List Frame) (f : Frame) (r : ℕ) → Leads nodes name fs f.node → IsBelow nodes name f r → Leads nodes name (fs ++ f ∷ []) r
Leads-push nodes name [] f r l b = (b, tt)
Leads-push nodes name (g ∷ []) f r l b = (l.0, (b, tt))
Leads-push nodes name (g ∷ h ∷ fs) f r l b = (l.0, Leads-push nodes name (h ∷ fs) f r l.1 b)

pub Leads-linked : (nodes : List TyNode) (name : Naming) (fs : List Frame) (r : ℕ) → Leads nodes name fs r → Linked nodes name fs
Leads-linked nodes name [] r l = tt
Leads-linked nodes name (g ∷ []) r l = tt
Leads-linked nodes name (g ∷ h ∷ fs) r l = (l.0, Leads-linked nodes name (h ∷ fs) r l.1)

pub AreFrames-front : (nodes : List TyNode) (name : Naming) (fs : List Frame) (f : Frame) → AreFrames nodes name (fs ++ f ∷ []) → AreFrames nodes name fs × IsFrame nodes name f
AreFrames-front nodes name [] f h = (tt, h.0)
AreFrames-front nodes name (g ∷ fs) f h = let k = AreFrames-front nodes name fs f h.1 in ((h.0, k.0), k.1)

pub AreFrames-push : (nodes : List TyNode) (name : Naming) (fs : List Frame) (f : Frame) → AreFrames nodes name fs → IsFrame nodes name f → AreFrames nodes name (fs ++ f ∷ [])
AreFrames-push nodes name [] f h k = (k, tt)
AreFrames-push nodes name (g ∷ fs) f h k = (h.0, AreFrames-push nodes name fs f h.1 k)

pub FramesWithin-front : (n : ℕ) (fs : List Frame) (f : Frame) → FramesWithin n (fs ++ f ∷ []) → FramesWithin n fs × (f.node < n)
FramesWithin-front n [] f h = (tt, h.0)
FramesWithin-front n (g ∷ fs) f h = let k = FramesWithin-front n fs f h.1 in ((h.0, k.0), k.1)

pub FramesWithin-push : (n : ℕ) (fs : List Frame) (f : Frame) → FramesWithin n fs → f.node < n → FramesWithin n (fs ++ f ∷ [])
FramesWithin-push n [] f h k = (k, tt)
FramesWithin-push n (g ∷ fs) f h k = (h.0, FramesWithin-push n fs f h.1 k)

pub first_of-front : (fs : List Frame) (f : Frame) (top : ℕ) → first_of (fs ++ f ∷ []) top ≡ top → first_of fs top ≡ top
first_of-front [] f top h = refl
first_of-front (g ∷ fs) f top h = h

pub first_of-push : (fs : List Frame) (f g : Frame) (top : ℕ) → first_of (fs ++ f ∷ []) top ≡ top → g.node ≡ f.node → first_of (fs ++ g ∷ []) top ≡ top
first_of-push [] f g top h e = e ∙ h
first_of-push (k ∷ fs) f g top h e = h

pub first_of-more : (fs : List Frame) (f g : Frame) (top : ℕ) → first_of (fs ++ f ∷ []) top ≡ top → first_of ((fs ++ f ∷ []) ++ g ∷ []) top ≡ top
first_of-more [] f g top h = h
first_of-more (k ∷ fs) f g top h = h

pub IsNodeOf-front : (fs : List Frame) (f : Frame) (r : ℕ) → IsNodeOf (fs ++ f ∷ []) r → IsNodeOf fs r ⊎ (f.node ≡ r)
IsNodeOf-front [] f r (inl e) = inr e
IsNodeOf-front [] f r (inr e) = absurd e
IsNodeOf-front (g ∷ fs) f r (inl e) = inl (inl e)
IsNodeOf-front (g ∷ fs) f r (inr h) = ⊎_elim (λ k. inl (inr k)) (λ e. inr e) (IsNodeOf-front fs f r h)

pub IsNodeOf-more : (fs : List Frame) (f : Frame) (r : ℕ) → IsNodeOf fs r → IsNodeOf (fs ++ f ∷ []) r
IsNodeOf-more [] f r h = absurd h
IsNodeOf-more (g ∷ fs) f r (inl e) = inl e
IsNodeOf-more (g ∷ fs) f r (inr h) = inr (IsNodeOf-more fs f r h)

pub IsNodeOf-last : (fs : List Frame) (f : Frame) (r : ℕ) → f.node ≡ r → IsNodeOf (fs ++ f ∷ []) r
IsNodeOf-last [] f r e = inl e
IsNodeOf-last (g ∷ fs) f r e = inr (IsNodeOf-last fs f r e)

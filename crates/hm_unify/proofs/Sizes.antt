-- Sizes of the trees for which ids stand.
use Rattle.std.proofs.Common.{◌≡◌, ℕ, zero, suc, ◌+◌, ◌-◌, ◌<◌, ◌≤◌, min, List, [], ◌∷◌, ◌++◌, take, Some, None, refl, sym, ap, ◌∙◌, subst, arith}
use Rattle.std.specs.List.{slice_get}
use Rattle.ml_types.specs.declared.node.TyId.{TyId}
use Rattle.ml_types.specs.declared.node.TyNode.{TyNode}
use Rattle.ml_types.specs.declared.node.TyNode.TheVariants.{Var}
use Rattle.ml_types.specs.Types.{parts_of, Tree, Trees, Nil, Cons, tree_size, trees_size}
use Rattle.hm_unify.specs.Solutions.{Bound, node_at, Ends, Stands, StandAll, variable, built, none, more}
use Rattle.hm_unify.proofs.Ends.{Ends-unique}
use Rattle.hm_unify.proofs.Equations.{take-next, take-end}

same_node_at : (nodes : List TyNode) (e g : TyId) (n k : TyNode) → e ≡ g → node_at nodes e ≡ Some n → node_at nodes g ≡ Some k → n ≡ k
same_node_at nodes e g n k h p q = let w : Some n ≡ Some k = sym p ∙ ap (node_at nodes) h ∙ q in cc

pub Stands-parts : (nodes : List TyNode) (bound : Bound) (x e : TyId) (n : TyNode) (t : Tree) → Stands nodes bound x t → Ends nodes bound x e → node_at nodes e ≡ Some n → (ts : Trees) × StandAll nodes bound (parts_of n) ts × (tree_size t ≡ trees_size ts + 1)
Stands-parts nodes bound x e n t (variable y g k p q) h at =
    let same = same_node_at nodes g e (Var k) n (Ends-unique nodes bound y g e p h) q at in
    (Nil, subst (λ v. StandAll nodes bound (parts_of v) Nil) same none, omega arith)
Stands-parts nodes bound x e n t (built y g m j ts p q r all) h at =
    let same = same_node_at nodes g e m n (Ends-unique nodes bound y g e p h) q at in
    (ts, subst (λ v. StandAll nodes bound (parts_of v) ts) same all, refl)

-- a front of a list stands for no more
front_by : (nodes : List TyNode) (bound : Bound) (xs : List TyId) (ts : Trees) → StandAll nodes bound xs ts → (i : ℕ) → (us : Trees) × StandAll nodes bound (take i xs) us × (trees_size us ≤ trees_size ts)
front_by nodes bound xs ts none zero = (Nil, none, omega arith)
front_by nodes bound xs ts none (suc i) = (Nil, none, omega arith)
front_by nodes bound xs ts (more x ys t us s all) zero = (Nil, none, omega arith)
front_by nodes bound xs ts (more x ys t us s all) (suc i) =
    let o : (vs : Trees) × StandAll nodes bound (take i ys) vs × (trees_size vs ≤ trees_size us) = front_by nodes bound ys us all i in
    (Cons t o.0, more x (take i ys) t o.0 s o.1, omega (arith, o.2))

pub StandAll-front : (nodes : List TyNode) (bound : Bound) (xs : List TyId) (ts : Trees) (i : ℕ) → StandAll nodes bound xs ts → (us : Trees) × StandAll nodes bound (take i xs) us × (trees_size us ≤ trees_size ts)
StandAll-front nodes bound xs ts i all = front_by nodes bound xs ts all i

cons_by : (nodes : List TyNode) (bound : Bound) (xs : List TyId) (ts : Trees) (y : TyId) (ys : List TyId) → StandAll nodes bound xs ts → xs ≡ y ∷ ys → (t : Tree) × (us : Trees) × Stands nodes bound y t × StandAll nodes bound ys us × (trees_size ts ≡ tree_size t + trees_size us)
cons_by nodes bound xs ts y ys none h = absurd cc
cons_by nodes bound xs ts y ys (more x zs t us s all) h =
    let a : x ≡ y = cc in
    let b : zs ≡ ys = cc in
    (t, us, subst (λ v. Stands nodes bound v t) a s, subst (λ v. StandAll nodes bound v us) b all, refl)

pub StandAll-last : (nodes : List TyNode) (bound : Bound) (xs : List TyId) (x : TyId) (ts : Trees) → StandAll nodes bound (xs ++ x ∷ []) ts → (us : Trees) × (t : Tree) × StandAll nodes bound xs us × Stands nodes bound x t × (trees_size ts ≡ trees_size us + tree_size t)
StandAll-last nodes bound [] x ts all =
    let o = cons_by nodes bound (x ∷ []) ts x [] all refl in
    (Nil, o.0, none, o.2, nothing o.0 o.1 o.3 o.4)
  where
    nothing_by : (zs : List TyId) (us : Trees) → StandAll nodes bound zs us → zs ≡ [] → trees_size us ≡ 0
    nothing_by zs us none h = refl
    nothing_by zs us (more y ys u vs s q) h = absurd cc

    nothing : (t : Tree) (us : Trees) → StandAll nodes bound [] us → trees_size ts ≡ tree_size t + trees_size us → trees_size ts ≡ 0 + tree_size t
    nothing t us q e = let w = nothing_by [] us q refl in omega (arith, w, e)
StandAll-last nodes bound (y ∷ xs) x ts all =
    let o = cons_by nodes bound (y ∷ (xs ++ x ∷ [])) ts y (xs ++ x ∷ []) all refl in
    let g = StandAll-last nodes bound xs x o.1 o.3 in
    (Cons o.0 g.0, g.1, more y xs o.0 g.0 o.2 g.2, g.3, omega (arith, o.4, g.4))

-- the count of a front
abbrev pub Counts : List TyNode → Bound → List TyId → ℕ → ℕ → Type 0
Counts nodes bound xs count most = (us : Trees) → StandAll nodes bound xs us → count ≡ min (trees_size us + 1) most

pub Counts-none : (nodes : List TyNode) (bound : Bound) (most : ℕ) → 0 < most → Counts nodes bound [] 1 most
Counts-none nodes bound most lt us all = by [] us all refl
  where
    by : (zs : List TyId) (vs : Trees) → StandAll nodes bound zs vs → zs ≡ [] → 1 ≡ min (trees_size vs + 1) most
    by zs vs none h = omega arith
    by zs vs (more y ys u ws s q) h = absurd cc

pub Counts-more : (nodes : List TyNode) (bound : Bound) (xs : List TyId) (i : ℕ) (x : TyId) (count size most : ℕ) → Counts nodes bound (take i xs) count most → slice_get xs i ≡ Some x → count ≤ most → ((t : Tree) → Stands nodes bound x t → size ≡ min (tree_size t) (most - count)) → Counts nodes bound (take (i + 1) xs) (count + size) most
Counts-more nodes bound xs i x count size most k at le sizes us all =
    let o = StandAll-last nodes bound (take i xs) x us (subst (λ v. StandAll nodes bound v us) (take-next xs i x at) all) in
    let a = k o.0 o.2 in
    let b = sizes o.1 o.3 in
    omega (arith, a, b, o.4, le)

-- the count where it has reached the most, and where all parts are counted
pub Counts-full : (nodes : List TyNode) (bound : Bound) (x e : TyId) (n : TyNode) (i count most : ℕ) → Ends nodes bound x e → node_at nodes e ≡ Some n → Counts nodes bound (take i (parts_of n)) count most → count ≡ most → (t : Tree) → Stands nodes bound x t → most ≡ min (tree_size t) most
Counts-full nodes bound x e n i count most h at k full t s =
    let o = Stands-parts nodes bound x e n t s h at in
    let f = StandAll-front nodes bound (parts_of n) o.0 i o.1 in
    let c = k f.0 f.1 in
    omega (arith, c, f.2, o.2, full)

pub Counts-all : (nodes : List TyNode) (bound : Bound) (x e : TyId) (n : TyNode) (i count most : ℕ) → Ends nodes bound x e → node_at nodes e ≡ Some n → Counts nodes bound (take i (parts_of n)) count most → slice_get (parts_of n) i ≡ None → (t : Tree) → Stands nodes bound x t → count ≡ min (tree_size t) most
Counts-all nodes bound x e n i count most h at k end t s =
    let o = Stands-parts nodes bound x e n t s h at in
    let c = k o.0 (subst (λ v. StandAll nodes bound v o.0) (sym (take-end (parts_of n) i end)) o.1) in
    omega (arith, c, o.2)

-- A walk keeps exactly the solutions that make the two equal.
use Rattle.std.proofs.Common.{◌≡◌, ℕ, ◌<◌, ◌⊎◌, List, [], ◌∷◌, ◌++◌, length, Option, Some, None, refl, sym, ap, ◌∙◌, subst, inl, inr, ⊎_elim, get_or, set, get_or-set_other, get_or-set_same}
use Rattle.std.specs.Option.{option_and_then}
use Rattle.std.proofs.lemmas.Bool.{cases_eq}
use Rattle.std.proofs.Math.ListN.{length-set}
use Rattle.ml_types.specs.declared.node.TyId.{TyId}
use Rattle.ml_types.specs.declared.node.TyNode.{TyNode}
use Rattle.ml_types.specs.declared.node.TyNode.TheVariants.{Var}
use Rattle.ml_types.specs.Types.{parts_of, Tree, Node, Cons, trees}
use Rattle.hm_unify.specs.Solutions.{Bound, Pairs, node_at, number_at, link, Solves, Equates}
use Rattle.hm_unify.specs.States.{IsTabled, rank}
use Rattle.hm_unify.specs.Walks.{Walk, WalkAll, WalkPairs, same_node, same_variable, left, right, parts, done, step, all_walked, next_pair}
use Rattle.hm_unify.proofs.Ends.{Ends-end, link-number, number-var, var-number}
use Rattle.hm_unify.proofs.Starts.{Ends-same}

-- what a free variable is bound to
unbound : (nodes : List TyNode) (m : Bound) (x : TyId) (n : ℕ) → node_at nodes x ≡ Some (Var n) → link nodes m x ≡ None → get_or m n None ≡ None
unbound nodes m x n p h = sym (ap (option_and_then (λ k. get_or m k None)) (var-number nodes x n p)) ∙ h

set_keeps : (m : Bound) (n k : ℕ) (v : Option TyId) (y : TyId) → get_or m n None ≡ None → get_or m k None ≡ Some y → get_or (set m n v) k None ≡ Some y
set_keeps m n k v y free h = by (cases_eq k n)
  where
    by : (k ≡ n) ⊎ (k ≡ n → ⊥) → get_or (set m n v) k None ≡ Some y
    by (inl e) = absurd (let g : None ≡ Some y = sym free ∙ sym (ap (λ i. get_or m i None) e) ∙ h in cc)
    by (inr e) = get_or-set_other m n k v None e ∙ h

set_cases : (m : Bound) (n k : ℕ) (w y : TyId) → n < length m → get_or (set m n (Some w)) k None ≡ Some y → ((k ≡ n) × (y ≡ w)) ⊎ (get_or m k None ≡ Some y)
set_cases m n k w y lt h = by (cases_eq k n)
  where
    by : (k ≡ n) ⊎ (k ≡ n → ⊥) → ((k ≡ n) × (y ≡ w)) ⊎ (get_or m k None ≡ Some y)
    by (inl e) =
        let g : Some w ≡ Some y = sym (get_or-set_same m n (Some w) None lt) ∙ sym (ap (λ i. get_or (set m n (Some w)) i None) e) ∙ h in
        inl (e, cc)
    by (inr e) = inr (sym (get_or-set_other m n k (Some w) None e) ∙ h)

link_from : (nodes : List TyNode) (m : Bound) (u : TyId) (k : ℕ) (o : Option TyId) → number_at nodes u ≡ Some k → get_or m k None ≡ o → link nodes m u ≡ o
link_from nodes m u k o p h = ap (option_and_then (λ i. get_or m i None)) p ∙ h

-- a free variable x, bound to w
Solves-before : (nodes : List TyNode) (m : Bound) (x w : TyId) (n : ℕ) (t : TyId → Tree) → node_at nodes x ≡ Some (Var n) → link nodes m x ≡ None → n < length m → Solves nodes (set m n (Some w)) t → Solves nodes m t × (t x ≡ t w)
Solves-before nodes m x w n t p free lt s = (
  record {
    nodes_are = s.nodes_are;
    one_variable = s.one_variable;
    bound_is = λ u y h. (let l = link-number nodes m u y h in s.bound_is u y (link_from nodes (set m n (Some w)) u l.0 (Some y) l.1 (set_keeps m n l.0 (Some w) y (unbound nodes m x n p free) l.2)));
  },
  s.bound_is x w (link_from nodes (set m n (Some w)) x n (Some w) (var-number nodes x n p) (get_or-set_same m n (Some w) None lt)),
)

Solves-after : (nodes : List TyNode) (m : Bound) (x w : TyId) (n : ℕ) (t : TyId → Tree) → node_at nodes x ≡ Some (Var n) → n < length m → Solves nodes m t → t x ≡ t w → Solves nodes (set m n (Some w)) t
Solves-after nodes m x w n t p lt s e =
    record { nodes_are = s.nodes_are; one_variable = s.one_variable; bound_is = λ u y h. bound_by u y (link-number nodes (set m n (Some w)) u y h) }
  where
    bound_by : (u y : TyId) → (k : ℕ) × (number_at nodes u ≡ Some k) × (get_or (set m n (Some w)) k None ≡ Some y) → t u ≡ t y
    bound_by u y (k, q, h) =
        ⊎_elim
        (λ (c : (k ≡ n) × (y ≡ w)). s.one_variable u x n (number-var nodes u n (q ∙ ap Some c.0)) p ∙ e ∙ sym (ap t c.1))
        (λ (c : get_or m k None ≡ Some y). s.bound_is u y (link_from nodes m u k (Some y) q c))
        (set_cases m n k w y lt h)

mutual
  pub Walk-forth : (nodes : List TyNode) (m : Bound) (a b : TyId) (m' : Bound) (t : TyId → Tree) → Walk nodes m a b m' → Solves nodes m' t → Solves nodes m t × (t a ≡ t b)
  Walk-forth nodes m a b m' t (same_node x p q) s =
      (s, Ends-same nodes m t s.bound_is a x p ∙ sym (Ends-same nodes m t s.bound_is b x q))
  Walk-forth nodes m a b m' t (same_variable x y n p q i j) s =
      (s, Ends-same nodes m t s.bound_is a x p ∙ s.one_variable x y n i j ∙ sym (Ends-same nodes m t s.bound_is b y q))
  Walk-forth nodes m a b m' t (left x y n p q i j lt) s =
      let o = Solves-before nodes m x y n t i (Ends-end nodes m a x p) lt s in
      (o.0, Ends-same nodes m t o.0.bound_is a x p ∙ o.1 ∙ sym (Ends-same nodes m t o.0.bound_is b y q))
  Walk-forth nodes m a b m' t (right x y n p q i j lt) s =
      let o = Solves-before nodes m y x n t i (Ends-end nodes m b y q) lt s in
      (o.0, Ends-same nodes m t o.0.bound_is a x p ∙ sym o.1 ∙ sym (Ends-same nodes m t o.0.bound_is b y q))
  Walk-forth nodes m a b m' t (parts x y n k h p q i j c d w) s =
      let o = WalkAll-forth nodes m (parts_of n) (parts_of k) m' t w s in
      (o.0, Ends-same nodes m t o.0.bound_is a x p ∙ o.0.nodes_are x n h i c ∙ ap (Node h) o.1 ∙ sym (o.0.nodes_are y k h j d) ∙ sym (Ends-same nodes m t o.0.bound_is b y q))

  pub WalkAll-forth : (nodes : List TyNode) (m : Bound) (ps qs : List TyId) (m' : Bound) (t : TyId → Tree) → WalkAll nodes m ps qs m' → Solves nodes m' t → Solves nodes m t × (trees t ps ≡ trees t qs)
  WalkAll-forth nodes m ps qs m' t done s = (s, refl)
  WalkAll-forth nodes m ps qs m' t (step {m1 = m1} {a = a} {b = b} {ps = as'} {qs = bs'} w all) s =
      let o = WalkAll-forth nodes m1 as' bs' m' t all s in
      let g = Walk-forth nodes m a b m1 t w o.0 in
      (g.0, ap (λ v. Cons v (trees t as')) g.1 ∙ ap (Cons (t b)) o.1)

mutual
  pub Walk-back : (nodes : List TyNode) (m : Bound) (a b : TyId) (m' : Bound) (t : TyId → Tree) → Walk nodes m a b m' → Solves nodes m t → t a ≡ t b → Solves nodes m' t
  Walk-back nodes m a b m' t (same_node x p q) s e = s
  Walk-back nodes m a b m' t (same_variable x y n p q i j) s e = s
  Walk-back nodes m a b m' t (left x y n p q i j lt) s e =
      Solves-after nodes m x y n t i lt s (sym (Ends-same nodes m t s.bound_is a x p) ∙ e ∙ Ends-same nodes m t s.bound_is b y q)
  Walk-back nodes m a b m' t (right x y n p q i j lt) s e =
      Solves-after nodes m y x n t i lt s (sym (Ends-same nodes m t s.bound_is b y q) ∙ sym e ∙ Ends-same nodes m t s.bound_is a x p)
  Walk-back nodes m a b m' t (parts x y n k h p q i j c d w) s e =
      let g : Node h (trees t (parts_of n)) ≡ Node h (trees t (parts_of k)) = sym (s.nodes_are x n h i c) ∙ sym (Ends-same nodes m t s.bound_is a x p) ∙ e ∙ Ends-same nodes m t s.bound_is b y q ∙ s.nodes_are y k h j d in
      WalkAll-back nodes m (parts_of n) (parts_of k) m' t w s cc

  pub WalkAll-back : (nodes : List TyNode) (m : Bound) (ps qs : List TyId) (m' : Bound) (t : TyId → Tree) → WalkAll nodes m ps qs m' → Solves nodes m t → trees t ps ≡ trees t qs → Solves nodes m' t
  WalkAll-back nodes m ps qs m' t done s e = s
  WalkAll-back nodes m ps qs m' t (step {m1 = m1} {a = a} {b = b} {ps = as'} {qs = bs'} w all) s e =
      let x : t a ≡ t b = cc in
      let y : trees t as' ≡ trees t bs' = cc in
      WalkAll-back nodes m1 as' bs' m' t all (Walk-back nodes m a b m1 t w s x) y

pub WalkAll-push : (nodes : List TyNode) (m : Bound) (ps qs : List TyId) (m1 m2 : Bound) (a b : TyId) → WalkAll nodes m ps qs m1 → Walk nodes m1 a b m2 → WalkAll nodes m (ps ++ a ∷ []) (qs ++ b ∷ []) m2
WalkAll-push nodes m ps qs m1 m2 a b done w = step w done
WalkAll-push nodes m ps qs m1 m2 a b (step {m1 = k} {ps = as'} {qs = bs'} v all) w = step v (WalkAll-push nodes k as' bs' m1 m2 a b all w)

pub WalkPairs-push : (nodes : List TyNode) (m : Bound) (ps : Pairs) (m1 m2 : Bound) (a b : TyId) → WalkPairs nodes m ps m1 → Walk nodes m1 a b m2 → WalkPairs nodes m (ps ++ (a, b) ∷ []) m2
WalkPairs-push nodes m ps m1 m2 a b all_walked w = next_pair a b w all_walked
WalkPairs-push nodes m ps m1 m2 a b (next_pair {m1 = k} x y {ps = qs} v all) w = next_pair x y v (WalkPairs-push nodes k qs m1 m2 a b all w)

pub WalkPairs-forth : (nodes : List TyNode) (m : Bound) (ps : Pairs) (m' : Bound) (t : TyId → Tree) → WalkPairs nodes m ps m' → Solves nodes m' t → Solves nodes m t × Equates t ps
WalkPairs-forth nodes m ps m' t all_walked s = (s, tt)
WalkPairs-forth nodes m ps m' t (next_pair {m1 = k} a b {ps = qs} w all) s =
    let o = WalkPairs-forth nodes k qs m' t all s in
    let g = Walk-forth nodes m a b k t w o.0 in
    (g.0, (g.1, o.1))

pub WalkPairs-back : (nodes : List TyNode) (m : Bound) (ps : Pairs) (m' : Bound) (t : TyId → Tree) → WalkPairs nodes m ps m' → Solves nodes m t → Equates t ps → Solves nodes m' t
WalkPairs-back nodes m ps m' t all_walked s e = s
WalkPairs-back nodes m ps m' t (next_pair {m1 = k} a b {ps = qs} w all) s e =
    WalkPairs-back nodes k qs m' t all (Walk-back nodes m a b k t w s e.0) e.1

-- binding a free variable keeps the tables right
pub IsTabled-bind : (nodes : List TyNode) (m : Bound) (w : TyId) (n : ℕ) → IsTabled nodes m → n < length m → w.0 < length nodes → ((k : ℕ) → node_at nodes w ≡ Some (Var k) → rank n < rank k) → IsTabled nodes (set m n (Some w))
IsTabled-bind nodes m w n k lt w_in rises =
    record {
      parts_in = k.parts_in;
      variables_in = λ x i p. (let h = k.variables_in x i p in subst (λ v. i < v) (sym (length-set m n (Some w))) h);
      targets_in = λ i y h. ⊎_elim (λ (c : (i ≡ n) × (y ≡ w)). subst (λ v. v.0 < length nodes) (sym c.1) w_in) (λ (c : get_or m i None ≡ Some y). k.targets_in i y c) (set_cases m n i w y lt h);
      rising = λ i j y h p. ⊎_elim (λ (c : (i ≡ n) × (y ≡ w)). subst (λ v. rank v < rank j) (sym c.0) (rises j (subst (λ v. node_at nodes v ≡ Some (Var j)) c.1 p))) (λ (c : get_or m i None ≡ Some y). k.rising i j y c p) (set_cases m n i w y lt h);
    }

mutual
  -- bound variables keep their ids
  pub Walk-keeps : (nodes : List TyNode) (m : Bound) (a b : TyId) (m' : Bound) → Walk nodes m a b m' → (k : ℕ) (v : TyId) → get_or m k None ≡ Some v → get_or m' k None ≡ Some v
  Walk-keeps nodes m a b m' (same_node x p q) k v h = h
  Walk-keeps nodes m a b m' (same_variable x y n p q i j) k v h = h
  Walk-keeps nodes m a b m' (left x y n p q i j lt) k v h = set_keeps m n k (Some y) v (unbound nodes m x n i (Ends-end nodes m a x p)) h
  Walk-keeps nodes m a b m' (right x y n p q i j lt) k v h = set_keeps m n k (Some x) v (unbound nodes m y n i (Ends-end nodes m b y q)) h
  Walk-keeps nodes m a b m' (parts x y n j h p q i g c d w) k v e = WalkAll-keeps nodes m (parts_of n) (parts_of j) m' w k v e

  pub WalkAll-keeps : (nodes : List TyNode) (m : Bound) (ps qs : List TyId) (m' : Bound) → WalkAll nodes m ps qs m' → (k : ℕ) (v : TyId) → get_or m k None ≡ Some v → get_or m' k None ≡ Some v
  WalkAll-keeps nodes m ps qs m' done k v h = h
  WalkAll-keeps nodes m ps qs m' (step {m1 = m1} {a = a} {b = b} {ps = as'} {qs = bs'} w all) k v h = WalkAll-keeps nodes m1 as' bs' m' all k v (Walk-keeps nodes m a b m1 w k v h)

pub WalkPairs-keeps : (nodes : List TyNode) (m : Bound) (ps : Pairs) (m' : Bound) → WalkPairs nodes m ps m' → (k : ℕ) (v : TyId) → get_or m k None ≡ Some v → get_or m' k None ≡ Some v
WalkPairs-keeps nodes m ps m' all_walked k v h = h
WalkPairs-keeps nodes m ps m' (next_pair {m1 = m1} a b {ps = qs} w all) k v h = WalkPairs-keeps nodes m1 qs m' all k v (Walk-keeps nodes m a b m1 w k v h)

-- A walk from ids that lie apart from the nodes of before binds no variable that one of these nodes
-- has, and the ids lie apart behind it.
use Rattle.std.proofs.Common.{◌≡◌, ℕ, suc, ◌<◌, ◌⊎◌, List, [], ◌∷◌, length, Option, Some, None, get_or, set, get_or-set_other, get_or-set_same, refl, sym, ap, ◌∙◌, subst, inl, inr}
use Rattle.std.specs.List.{slice_get}
use Rattle.std.specs.Option.{option_and_then}
use Rattle.std.proofs.lemmas.Bool.{cases_eq}
use Rattle.ml_types.specs.declared.node.TyId.{TyId}
use Rattle.ml_types.specs.declared.node.TyNode.{TyNode}
use Rattle.ml_types.specs.declared.node.TyNode.TheVariants.{Var}
use Rattle.ml_types.specs.Types.{parts_of}
use Rattle.hm_unify.specs.Solutions.{Bound, Pairs, node_at, number_at, link, Ends, here, there}
use Rattle.hm_unify.specs.Walks.{Walk, WalkAll, WalkPairs, same_node, same_variable, left, right, parts, done, step, all_walked, next_pair}
use Rattle.hm_unify.proofs.Ends.{Ends-end, link-number, var-number}
use Rattle.hm_terms.specs.Stores.{Reaches, at_end, in_part}

-- a variable that one of the first nodes has
abbrev pub IsEarly : List TyNode → ℕ → ℕ → Type 0
IsEarly nodes mark n = (z : TyId) × (z.0 < mark) × (node_at nodes z ≡ Some (Var n))

-- ids of the table, closed under parts and links, from which no free variable of the first nodes is met
pub record IsApart (nodes : List TyNode) (m : Bound) (mark : ℕ) (own : TyId → Type 0) : Type 0 where
  pub own_within : (x : TyId) → own x → x.0 < length nodes
  pub own_parts : (x : TyId) (n : TyNode) (i : ℕ) (p : TyId) → own x → node_at nodes x ≡ Some n → slice_get (parts_of n) i ≡ Some p → own p
  pub own_links : (x y : TyId) → own x → link nodes m x ≡ Some y → own y
  pub unbound : (x : TyId) (n : ℕ) → own x → node_at nodes x ≡ Some (Var n) → link nodes m x ≡ None → IsEarly nodes mark n → ⊥
  pub targets_in : (n : ℕ) (y : TyId) → get_or m n None ≡ Some y → y.0 < length nodes

-- the ends of ids that lie apart do so
own_end : (nodes : List TyNode) (m : Bound) (mark : ℕ) (own : TyId → Type 0) → IsApart nodes m mark own → (x e : TyId) → own x → Ends nodes m x e → own e
own_end nodes m mark own k x e h (here w p) = h
own_end nodes m mark own k x e h (there w y v p q) = own_end nodes m mark own k y v (k.own_links w y h p) q

-- no free variable of the first nodes is reached from them
pub apart_reaches : (nodes : List TyNode) (m : Bound) (mark : ℕ) (own : TyId → Type 0) → IsApart nodes m mark own → (x : TyId) (n : ℕ) → own x → Reaches nodes m x n → IsEarly nodes mark n → ⊥
apart_reaches nodes m mark own k x n h (at_end y e i ends at) b =
    k.unbound e i (own_end nodes m mark own k y e h ends) at (Ends-end nodes m y e ends) b
apart_reaches nodes m mark own k x n h (in_part y e p j i v ends at part r) b =
    apart_reaches nodes m mark own k p v (k.own_parts e j i p (own_end nodes m mark own k y e h ends) at part) r b

-- what a walk leaves: the same ids lie apart, and variables of the first nodes are bound to what they were
pub record Stays (nodes : List TyNode) (mark : ℕ) (own : TyId → Type 0) (m k : Bound) : Type 0 where
  pub apart : IsApart nodes k mark own
  pub early : (n : ℕ) → IsEarly nodes mark n → get_or k n None ≡ get_or m n None

stays_same : (nodes : List TyNode) (mark : ℕ) (own : TyId → Type 0) (m : Bound) → IsApart nodes m mark own → Stays nodes mark own m m
stays_same nodes mark own m k = record { apart = k; early = λ n h. refl }

stays_then : (nodes : List TyNode) (mark : ℕ) (own : TyId → Type 0) (a b c : Bound) → Stays nodes mark own a b → Stays nodes mark own b c → Stays nodes mark own a c
stays_then nodes mark own a b c one other = record { apart = other.apart; early = λ n h. other.early n h ∙ one.early n h }

link_at : (nodes : List TyNode) (m : Bound) (u : TyId) (k : ℕ) (o : Option TyId) → number_at nodes u ≡ Some k → get_or m k None ≡ o → link nodes m u ≡ o
link_at nodes m u k o p h = ap (option_and_then (λ i. get_or m i None)) p ∙ h

-- a free variable x that lies apart, bound to an id w that does
bind_stays : (nodes : List TyNode) (mark : ℕ) (own : TyId → Type 0) (m : Bound) (x w : TyId) (n : ℕ) → IsApart nodes m mark own → node_at nodes x ≡ Some (Var n) → link nodes m x ≡ None → own x → own w → n < length m → Stays nodes mark own m (set m n (Some w))
bind_stays nodes mark own m x w n k at free own_x own_w lt = record {
  apart = record {
    own_within = k.own_within;
    own_parts = k.own_parts;
    own_links = λ u y h l. links_by u y h (link-number nodes (set m n (Some w)) u y l);
    unbound = λ u i h p l b. free_by u i h p l b (cases_eq i n);
    targets_in = λ i y h. targets_by i y h (cases_eq i n);
  };
  early = λ i b. early_by i b (cases_eq i n);
}
  where
    bound_to : (i : ℕ) (y : TyId) → i ≡ n → get_or (set m n (Some w)) i None ≡ Some y → w ≡ y
    bound_to i y e l =
        let g : Some w ≡ Some y = sym (get_or-set_same m n (Some w) None lt) ∙ (ap (λ j. get_or (set m n (Some w)) j None) (sym e) ∙ l) in
        cc

    links_by : (u y : TyId) → own u → (i : ℕ) × (number_at nodes u ≡ Some i) × (get_or (set m n (Some w)) i None ≡ Some y) → own y
    links_by u y h (i, p, l) = by (cases_eq i n)
      where
        by : (i ≡ n) ⊎ (i ≡ n → ⊥) → own y
        by (inl e) = subst own (bound_to i y e l) own_w
        by (inr d) = k.own_links u y h (link_at nodes m u i (Some y) p (sym (get_or-set_other m n i (Some w) None d) ∙ l))

    free_by : (u : TyId) (i : ℕ) → own u → node_at nodes u ≡ Some (Var i) → link nodes (set m n (Some w)) u ≡ None → IsEarly nodes mark i → (i ≡ n) ⊎ (i ≡ n → ⊥) → ⊥
    free_by u i h p l b (inl e) = k.unbound x n own_x at free (subst (IsEarly nodes mark) e b)
    free_by u i h p l b (inr d) =
        let none : get_or (set m n (Some w)) i None ≡ None = sym (ap (option_and_then (λ j. get_or (set m n (Some w)) j None)) (var-number nodes u i p)) ∙ l in
        k.unbound u i h p (link_at nodes m u i None (var-number nodes u i p) (sym (get_or-set_other m n i (Some w) None d) ∙ none)) b

    targets_by : (i : ℕ) (y : TyId) → get_or (set m n (Some w)) i None ≡ Some y → (i ≡ n) ⊎ (i ≡ n → ⊥) → y.0 < length nodes
    targets_by i y h (inl e) = k.own_within y (subst own (bound_to i y e h) own_w)
    targets_by i y h (inr d) = k.targets_in i y (sym (get_or-set_other m n i (Some w) None d) ∙ h)

    early_by : (i : ℕ) → IsEarly nodes mark i → (i ≡ n) ⊎ (i ≡ n → ⊥) → get_or (set m n (Some w)) i None ≡ get_or m i None
    early_by i b (inl e) = absurd (k.unbound x n own_x at free (subst (IsEarly nodes mark) e b))
    early_by i b (inr d) = get_or-set_other m n i (Some w) None d

abbrev AllOwn : (TyId → Type 0) → List TyId → Type 0
AllOwn own [] = Unit {0}
AllOwn own (p ∷ ps) = own p × AllOwn own ps

all_own : (own : TyId → Type 0) (ps : List TyId) → ((i : ℕ) (p : TyId) → slice_get ps i ≡ Some p → own p) → AllOwn own ps
all_own own [] h = tt
all_own own (p ∷ ps) h = (h 0 p refl, all_own own ps (λ i q e. h (suc i) q e))

mutual
  walk_stays : (nodes : List TyNode) (mark : ℕ) (own : TyId → Type 0) (m : Bound) (a b : TyId) (m' : Bound) → IsApart nodes m mark own → own a → own b → Walk nodes m a b m' → Stays nodes mark own m m'
  walk_stays nodes mark own m a b m' k oa ob (same_node x p q) = stays_same nodes mark own m k
  walk_stays nodes mark own m a b m' k oa ob (same_variable x y n p q i j) = stays_same nodes mark own m k
  walk_stays nodes mark own m a b m' k oa ob (left x y n p q i j lt) =
      bind_stays nodes mark own m x y n k i (Ends-end nodes m a x p) (own_end nodes m mark own k a x oa p) (own_end nodes m mark own k b y ob q) lt
  walk_stays nodes mark own m a b m' k oa ob (right x y n p q i j lt) =
      bind_stays nodes mark own m y x n k i (Ends-end nodes m b y q) (own_end nodes m mark own k b y ob q) (own_end nodes m mark own k a x oa p) lt
  walk_stays nodes mark own m a b m' k oa ob (parts x y n j h p q i g c d w) =
      walk_all_stays nodes mark own m (parts_of n) (parts_of j) m' k
      (all_own own (parts_of n) (λ z v e. k.own_parts x n z v (own_end nodes m mark own k a x oa p) i e))
      (all_own own (parts_of j) (λ z v e. k.own_parts y j z v (own_end nodes m mark own k b y ob q) g e)) w

  walk_all_stays : (nodes : List TyNode) (mark : ℕ) (own : TyId → Type 0) (m : Bound) (ps qs : List TyId) (m' : Bound) → IsApart nodes m mark own → AllOwn own ps → AllOwn own qs → WalkAll nodes m ps qs m' → Stays nodes mark own m m'
  walk_all_stays nodes mark own m ps qs m' k op oq done = stays_same nodes mark own m k
  walk_all_stays nodes mark own m ps qs m' k op oq (step {m1 = m1} {a = a} {b = b} {ps = as'} {qs = bs'} w all) =
      let first = walk_stays nodes mark own m a b m1 k op.0 oq.0 w in
      stays_then nodes mark own m m1 m' first (walk_all_stays nodes mark own m1 as' bs' m' first.apart op.1 oq.1 all)

-- the ids of pairs
abbrev pub PairsOwn : (TyId → Type 0) → Pairs → Type 0
PairsOwn own [] = Unit {0}
PairsOwn own (p ∷ ps) = own p.0 × own p.1 × PairsOwn own ps

pub walk_pairs_stays : (nodes : List TyNode) (mark : ℕ) (own : TyId → Type 0) (m : Bound) (ps : Pairs) (m' : Bound) → IsApart nodes m mark own → PairsOwn own ps → WalkPairs nodes m ps m' → Stays nodes mark own m m'
walk_pairs_stays nodes mark own m ps m' k o all_walked = stays_same nodes mark own m k
walk_pairs_stays nodes mark own m ps m' k o (next_pair {m1 = m1} a b {ps = qs} w all) =
    let first = walk_stays nodes mark own m a b m1 k o.0 o.1 w in
    stays_then nodes mark own m m1 m' first (walk_pairs_stays nodes mark own m1 qs m' first.apart o.2 all)

-- Names of ids under which two nodes with one head and equal parts are equal: wherever two such nodes
-- have two names, the names become one, and so there are fewer pairs of ids with two names.
use Rattle.std.proofs.Common.{◌≡◌, ℕ, zero, suc, ◌+◌, ◌<◌, ◌≤◌, ◌⊎◌, List, [], ◌∷◌, length, Option, Some, None, refl, sym, ap, ◌∙◌, subst, inl, inr, ⊎_elim, arith}
use Rattle.std.proofs.lemmas.Bool.{cases_eq}
use Rattle.std.proofs.lemmas.Option.{slice_get_within}
use Rattle.ml_types.specs.declared.node.TyId.{TyId}
use Rattle.ml_types.specs.declared.node.TyNode.{TyNode}
use Rattle.ml_types.specs.Types.{Head, head_of, parts_of, Tree, Nil, Cons, trees}
use Rattle.hm_unify.specs.Solutions.{Bound, node_at, IsSolution}
use Rattle.hm_infer.proofs.Trees.{head_cases, tree_cases, trees_cases}

-- two ids are equal if they are nodes with one head and equal parts
abbrev IsSame : List TyNode → (TyId → Tree) → TyId → TyId → Type 0
IsSame nodes c x y = (n m : TyNode) (h : Head) → node_at nodes x ≡ Some n → node_at nodes y ≡ Some m → head_of n ≡ Some h → head_of m ≡ Some h → trees c (parts_of n) ≡ trees c (parts_of m) → c x ≡ c y

-- names under which two nodes with one head and equal parts are equal
pub record IsCongruent (nodes : List TyNode) (c : TyId → Tree) : Type 0 where
  pub same : (x y : TyId) (n m : TyNode) (h : Head) → node_at nodes x ≡ Some n → node_at nodes y ≡ Some m → head_of n ≡ Some h → head_of m ≡ Some h → trees c (parts_of n) ≡ trees c (parts_of m) → c x ≡ c y

-- two nodes with one head and equal parts and two names
record IsApart (nodes : List TyNode) (c : TyId → Tree) (x y : TyId) : Type 0 where
  n : TyNode
  m : TyNode
  h : Head
  at_x : node_at nodes x ≡ Some n
  at_y : node_at nodes y ≡ Some m
  head_x : head_of n ≡ Some h
  head_y : head_of m ≡ Some h
  parts : trees c (parts_of n) ≡ trees c (parts_of m)
  apart : c x ≡ c y → ⊥

-- ---- one name in place of another

pick : (u v w : Tree) → (w ≡ v) ⊎ (w ≡ v → ⊥) → Tree
pick u v w (inl e) = u
pick u v w (inr d) = w

-- u in place of v
merge : Tree → Tree → Tree → Tree
merge u v w = pick u v w (tree_cases w v)

picked : (u v w : Tree) (s : (w ≡ v) ⊎ (w ≡ v → ⊥)) → ((w ≡ v) × (pick u v w s ≡ u)) ⊎ ((w ≡ v → ⊥) × (pick u v w s ≡ w))
unfolding pick
picked u v w (inl e) = inl (e, refl)
picked u v w (inr d) = inr (d, refl)

merged : (u v w : Tree) → ((w ≡ v) × (merge u v w ≡ u)) ⊎ ((w ≡ v → ⊥) × (merge u v w ≡ w))
unfolding merge
merged u v w = picked u v w (tree_cases w v)

-- both names have become the first
merge_one : (u v : Tree) → merge u v u ≡ merge u v v
merge_one u v = by (merged u v u) (merged u v v)
  where
    by : ((u ≡ v) × (merge u v u ≡ u)) ⊎ ((u ≡ v → ⊥) × (merge u v u ≡ u)) → ((v ≡ v) × (merge u v v ≡ u)) ⊎ ((v ≡ v → ⊥) × (merge u v v ≡ v)) → merge u v u ≡ merge u v v
    by (inl a) (inl b) = a.1 ∙ sym b.1
    by (inr a) (inl b) = a.1 ∙ sym b.1
    by a (inr b) = absurd (b.0 refl)

-- names that have become equal were equal or are the two
merge_back : (u v w r : Tree) → merge u v w ≡ merge u v r → (w ≡ r) ⊎ (((w ≡ u) ⊎ (w ≡ v)) × ((r ≡ u) ⊎ (r ≡ v)))
merge_back u v w r e = by (merged u v w) (merged u v r)
  where
    by : ((w ≡ v) × (merge u v w ≡ u)) ⊎ ((w ≡ v → ⊥) × (merge u v w ≡ w)) → ((r ≡ v) × (merge u v r ≡ u)) ⊎ ((r ≡ v → ⊥) × (merge u v r ≡ r)) → (w ≡ r) ⊎ (((w ≡ u) ⊎ (w ≡ v)) × ((r ≡ u) ⊎ (r ≡ v)))
    by (inl a) (inl b) = inl (a.0 ∙ sym b.0)
    by (inl a) (inr b) = inr (inr a.0, inl (sym b.1 ∙ sym e ∙ a.1))
    by (inr a) (inl b) = inr (inl (sym a.1 ∙ e ∙ b.1), inr b.0)
    by (inr a) (inr b) = inl (sym a.1 ∙ e ∙ b.1)

-- equal lists stay equal
trees_merge : (c : TyId → Tree) (f : Tree → Tree) (ps qs : List TyId) → trees c ps ≡ trees c qs → trees (λ z. f (c z)) ps ≡ trees (λ z. f (c z)) qs
trees_merge c f [] [] e = refl
trees_merge c f [] (q ∷ qs) e = absurd (let g : Nil ≡ Cons (c q) (trees c qs) = e in cc)
trees_merge c f (p ∷ ps) [] e = absurd (let g : Cons (c p) (trees c ps) ≡ Nil = e in cc)
trees_merge c f (p ∷ ps) (q ∷ qs) e =
    let g : Cons (c p) (trees c ps) ≡ Cons (c q) (trees c qs) = e in
    let first : c p ≡ c q = cc in
    let rest : trees c ps ≡ trees c qs = cc in
    let more = trees_merge c f ps qs rest in
    ap (λ z. Cons (f z) (trees (λ z. f (c z)) ps)) first ∙ ap (Cons (f (c q))) more

-- the solution that makes the names of two such nodes one
joined : (c : TyId → Tree) (x y : TyId) → TyId → Tree
joined c x y z = merge (c x) (c y) (c z)

joined_keeps : (c : TyId → Tree) (x y p q : TyId) → c p ≡ c q → joined c x y p ≡ joined c x y q
unfolding joined
joined_keeps c x y p q e = ap (merge (c x) (c y)) e

joined_one : (c : TyId → Tree) (x y : TyId) → joined c x y x ≡ joined c x y y
unfolding joined
joined_one c x y = merge_one (c x) (c y)

joined_back : (c : TyId → Tree) (x y p q : TyId) → joined c x y p ≡ joined c x y q → (c p ≡ c q) ⊎ (((c p ≡ c x) ⊎ (c p ≡ c y)) × ((c q ≡ c x) ⊎ (c q ≡ c y)))
unfolding joined
joined_back c x y p q e = merge_back (c x) (c y) (c p) (c q) e

joined_trees : (c : TyId → Tree) (x y : TyId) (ps qs : List TyId) → trees c ps ≡ trees c qs → trees (joined c x y) ps ≡ trees (joined c x y) qs
unfolding joined
joined_trees c x y ps qs e = trees_merge c (merge (c x) (c y)) ps qs e

joined_solution : (nodes : List TyNode) (bound : Bound) (c : TyId → Tree) (x y : TyId) → IsSolution nodes bound c → IsApart nodes c x y → IsSolution nodes bound (joined c x y)
joined_solution nodes bound c x y s a = record {
  heads = λ p q n m h k at_p at_q head_p head_q e. (agree p q n m h k at_p at_q head_p head_q e).0;
  parts = λ p q n m h k at_p at_q head_p head_q e. joined_trees c x y (parts_of n) (parts_of m) (agree p q n m h k at_p at_q head_p head_q e).1;
  one_variable = λ p q n at_p at_q. joined_keeps c x y p q (s.one_variable p q n at_p at_q);
  bound_is = λ p q l. joined_keeps c x y p q (s.bound_is p q l);
}
  where
    -- a node that has one of the two names
    of_two : (p : TyId) (n : TyNode) (h : Head) → node_at nodes p ≡ Some n → head_of n ≡ Some h → (c p ≡ c x) ⊎ (c p ≡ c y) → (h ≡ a.h) × (trees c (parts_of n) ≡ trees c (parts_of a.n))
    of_two p n h at head (inl e) = (s.heads p x n a.n h a.h at a.at_x head a.head_x e, s.parts p x n a.n h a.h at a.at_x head a.head_x e)
    of_two p n h at head (inr e) = (s.heads p y n a.m h a.h at a.at_y head a.head_y e, s.parts p y n a.m h a.h at a.at_y head a.head_y e ∙ sym a.parts)

    agree_by : (p q : TyId) (n m : TyNode) (h k : Head) → node_at nodes p ≡ Some n → node_at nodes q ≡ Some m → head_of n ≡ Some h → head_of m ≡ Some k → (c p ≡ c q) ⊎ (((c p ≡ c x) ⊎ (c p ≡ c y)) × ((c q ≡ c x) ⊎ (c q ≡ c y))) → (h ≡ k) × (trees c (parts_of n) ≡ trees c (parts_of m))
    agree_by p q n m h k at_p at_q head_p head_q (inl e) = (s.heads p q n m h k at_p at_q head_p head_q e, s.parts p q n m h k at_p at_q head_p head_q e)
    agree_by p q n m h k at_p at_q head_p head_q (inr b) =
        let left = of_two p n h at_p head_p b.0 in
        let right = of_two q m k at_q head_q b.1 in
        (left.0 ∙ sym right.0, left.1 ∙ sym right.1)

    agree : (p q : TyId) (n m : TyNode) (h k : Head) → node_at nodes p ≡ Some n → node_at nodes q ≡ Some m → head_of n ≡ Some h → head_of m ≡ Some k → joined c x y p ≡ joined c x y q → (h ≡ k) × (trees c (parts_of n) ≡ trees c (parts_of m))
    agree p q n m h k at_p at_q head_p head_q e = agree_by p q n m h k at_p at_q head_p head_q (joined_back c x y p q e)

-- ---- two such nodes, or none

option_cases : {A : Type 0} (o : Option A) → ((a : A) × (o ≡ Some a)) ⊎ (o ≡ None)
option_cases None = inr refl
option_cases (Some a) = inl (a, refl)

apart_or : (nodes : List TyNode) (c : TyId → Tree) (x y : TyId) → IsApart nodes c x y ⊎ IsSame nodes c x y
apart_or nodes c x y = by_nodes (option_cases (node_at nodes x)) (option_cases (node_at nodes y))
  where
    by_names : (n m : TyNode) (h : Head) → node_at nodes x ≡ Some n → node_at nodes y ≡ Some m → head_of n ≡ Some h → head_of m ≡ Some h → trees c (parts_of n) ≡ trees c (parts_of m) → (c x ≡ c y) ⊎ (c x ≡ c y → ⊥) → IsApart nodes c x y ⊎ IsSame nodes c x y
    by_names n m h at_x at_y head_x head_y parts (inl e) = inr (λ k l j p q r t w. e)
    by_names n m h at_x at_y head_x head_y parts (inr d) = inl (record { n = n; m = m; h = h; at_x = at_x; at_y = at_y; head_x = head_x; head_y = head_y; parts = parts; apart = d })

    by_parts : (n m : TyNode) (h : Head) → node_at nodes x ≡ Some n → node_at nodes y ≡ Some m → head_of n ≡ Some h → head_of m ≡ Some h → (trees c (parts_of n) ≡ trees c (parts_of m)) ⊎ (trees c (parts_of n) ≡ trees c (parts_of m) → ⊥) → IsApart nodes c x y ⊎ IsSame nodes c x y
    by_parts n m h at_x at_y head_x head_y (inl e) = by_names n m h at_x at_y head_x head_y e (tree_cases (c x) (c y))
    by_parts n m h at_x at_y head_x head_y (inr d) = inr (λ k l j p q r t w.
        let one : Some k ≡ Some n = sym p ∙ at_x in
        let two : Some l ≡ Some m = sym q ∙ at_y in
        let left : k ≡ n = cc in
        let right : l ≡ m = cc in
        absurd (d (ap (λ z. trees c (parts_of z)) (sym left) ∙ w ∙ ap (λ z. trees c (parts_of z)) right)))

    by_same : (n m : TyNode) (h j : Head) → node_at nodes x ≡ Some n → node_at nodes y ≡ Some m → head_of n ≡ Some h → head_of m ≡ Some j → (h ≡ j) ⊎ (h ≡ j → ⊥) → IsApart nodes c x y ⊎ IsSame nodes c x y
    by_same n m h j at_x at_y head_x head_y (inl e) = by_parts n m h at_x at_y head_x (head_y ∙ ap Some (sym e)) (trees_cases (trees c (parts_of n)) (trees c (parts_of m)))
    by_same n m h j at_x at_y head_x head_y (inr d) = inr (λ k l i p q r t w.
        let one : Some k ≡ Some n = sym p ∙ at_x in
        let two : Some l ≡ Some m = sym q ∙ at_y in
        let left : k ≡ n = cc in
        let right : l ≡ m = cc in
        let first : Some i ≡ Some h = sym r ∙ ap head_of left ∙ head_x in
        let second : Some i ≡ Some j = sym t ∙ ap head_of right ∙ head_y in
        absurd (d cc))

    by_heads : (n m : TyNode) → node_at nodes x ≡ Some n → node_at nodes y ≡ Some m → ((h : Head) × (head_of n ≡ Some h)) ⊎ (head_of n ≡ None) → ((j : Head) × (head_of m ≡ Some j)) ⊎ (head_of m ≡ None) → IsApart nodes c x y ⊎ IsSame nodes c x y
    by_heads n m at_x at_y (inl h) (inl j) = by_same n m h.0 j.0 at_x at_y h.1 j.1 (head_cases h.0 j.0)
    by_heads n m at_x at_y (inr o) j = inr (λ k l i p q r t w.
        let one : Some k ≡ Some n = sym p ∙ at_x in
        let left : k ≡ n = cc in
        absurd (let none : Some i ≡ None = sym r ∙ ap head_of left ∙ o in cc))
    by_heads n m at_x at_y (inl h) (inr o) = inr (λ k l i p q r t w.
        let two : Some l ≡ Some m = sym q ∙ at_y in
        let right : l ≡ m = cc in
        absurd (let none : Some i ≡ None = sym t ∙ ap head_of right ∙ o in cc))

    by_nodes : ((n : TyNode) × (node_at nodes x ≡ Some n)) ⊎ (node_at nodes x ≡ None) → ((m : TyNode) × (node_at nodes y ≡ Some m)) ⊎ (node_at nodes y ≡ None) → IsApart nodes c x y ⊎ IsSame nodes c x y
    by_nodes (inl n) (inl m) = by_heads n.0 m.0 n.1 m.1 (option_cases (head_of n.0)) (option_cases (head_of m.0))
    by_nodes (inr o) m = inr (λ k l i p q r t w. absurd (let none : Some k ≡ None = sym p ∙ o in cc))
    by_nodes (inl n) (inr o) = inr (λ k l i p q r t w. absurd (let none : Some l ≡ None = sym q ∙ o in cc))

abbrev SomeApart : List TyNode → (TyId → Tree) → Type 0
SomeApart nodes c = (x : TyId) × (y : TyId) × IsApart nodes c x y

abbrev id : ℕ → TyId
id n = record { 0 = n }

search_row : (nodes : List TyNode) (c : TyId → Tree) (x : TyId) (k : ℕ) → SomeApart nodes c ⊎ ((y : ℕ) → y < k → IsSame nodes c x (id y))
search_row nodes c x zero = inr (λ y w. absurd (omega arith))
search_row nodes c x (suc k) = by (search_row nodes c x k) (apart_or nodes c x (id k))
  where
    by : SomeApart nodes c ⊎ ((y : ℕ) → y < k → IsSame nodes c x (id y)) → IsApart nodes c x (id k) ⊎ IsSame nodes c x (id k) → SomeApart nodes c ⊎ ((y : ℕ) → y < suc k → IsSame nodes c x (id y))
    by (inl a) b = inl a
    by (inr a) (inl b) = inl (x, id k, b)
    by (inr a) (inr b) = inr (λ y w. ⊎_elim
        (λ (e : y ≡ k). subst (λ i. IsSame nodes c x (id i)) (sym e) b)
        (λ (d : y ≡ k → ⊥). a y (omega (arith, w, d)))
        (cases_eq y k))

search : (nodes : List TyNode) (c : TyId → Tree) (j k : ℕ) → SomeApart nodes c ⊎ ((x y : ℕ) → x < j → y < k → IsSame nodes c (id x) (id y))
search nodes c zero k = inr (λ x y v w. absurd (omega arith))
search nodes c (suc j) k = by (search nodes c j k) (search_row nodes c (id j) k)
  where
    by : SomeApart nodes c ⊎ ((x y : ℕ) → x < j → y < k → IsSame nodes c (id x) (id y)) → SomeApart nodes c ⊎ ((y : ℕ) → y < k → IsSame nodes c (id j) (id y)) → SomeApart nodes c ⊎ ((x y : ℕ) → x < suc j → y < k → IsSame nodes c (id x) (id y))
    by (inl a) b = inl a
    by (inr a) (inl b) = inl b
    by (inr a) (inr b) = inr (λ x y v w. ⊎_elim
        (λ (e : x ≡ j). subst (λ i. IsSame nodes c (id i) (id y)) (sym e) (b y w))
        (λ (d : x ≡ j → ⊥). a x y (omega (arith, v, d)) w)
        (cases_eq x j))

apart_or_none : (nodes : List TyNode) (c : TyId → Tree) → SomeApart nodes c ⊎ IsCongruent nodes c
apart_or_none nodes c = by (search nodes c (length nodes) (length nodes))
  where
    by : SomeApart nodes c ⊎ ((x y : ℕ) → x < length nodes → y < length nodes → IsSame nodes c (id x) (id y)) → SomeApart nodes c ⊎ IsCongruent nodes c
    by (inl a) = inl a
    by (inr a) = inr (record { same = λ x y n m h at_x at_y head_x head_y e. a x.0 y.0 (slice_get_within nodes x.0 n at_x) (slice_get_within nodes y.0 m at_y) n m h at_x at_y head_x head_y e })

-- ---- how many pairs of ids have two names

unlike_by : (t r : Tree) → (t ≡ r) ⊎ (t ≡ r → ⊥) → ℕ
unlike_by t r (inl e) = 0
unlike_by t r (inr d) = 1

unlike : Tree → Tree → ℕ
unlike t r = unlike_by t r (tree_cases t r)

unlike_cases_by : (t r : Tree) (s : (t ≡ r) ⊎ (t ≡ r → ⊥)) → ((t ≡ r) × (unlike_by t r s ≡ 0)) ⊎ ((t ≡ r → ⊥) × (unlike_by t r s ≡ 1))
unfolding unlike_by
unlike_cases_by t r (inl e) = inl (e, refl)
unlike_cases_by t r (inr d) = inr (d, refl)

unlike_cases : (t r : Tree) → ((t ≡ r) × (unlike t r ≡ 0)) ⊎ ((t ≡ r → ⊥) × (unlike t r ≡ 1))
unfolding unlike
unlike_cases t r = unlike_cases_by t r (tree_cases t r)

unlike_fewer : (t r u v : Tree) → (t ≡ r → u ≡ v) → unlike u v ≤ unlike t r
unlike_fewer t r u v f = by (unlike_cases t r) (unlike_cases u v)
  where
    by : ((t ≡ r) × (unlike t r ≡ 0)) ⊎ ((t ≡ r → ⊥) × (unlike t r ≡ 1)) → ((u ≡ v) × (unlike u v ≡ 0)) ⊎ ((u ≡ v → ⊥) × (unlike u v ≡ 1)) → unlike u v ≤ unlike t r
    by a (inl b) = omega (arith, b.1)
    by (inr a) (inr b) = omega (arith, a.1, b.1)
    by (inl a) (inr b) = absurd (b.0 (f a.0))

unlike_less : (t r u v : Tree) → (t ≡ r → ⊥) → u ≡ v → unlike u v < unlike t r
unlike_less t r u v d e = by (unlike_cases t r) (unlike_cases u v)
  where
    by : ((t ≡ r) × (unlike t r ≡ 0)) ⊎ ((t ≡ r → ⊥) × (unlike t r ≡ 1)) → ((u ≡ v) × (unlike u v ≡ 0)) ⊎ ((u ≡ v → ⊥) × (unlike u v ≡ 1)) → unlike u v < unlike t r
    by (inl a) b = absurd (d a.0)
    by (inr a) (inr b) = absurd (b.0 e)
    by (inr a) (inl b) = omega (arith, a.1, b.1)

-- the ids below k that have not the name of x
row : (TyId → Tree) → TyId → ℕ → ℕ
row c x zero = 0
row c x (suc k) = unlike (c x) (c (id k)) + row c x k

table : (TyId → Tree) → ℕ → ℕ → ℕ
table c zero k = 0
table c (suc j) k = row c (id j) k + table c j k

abbrev Keeps : (TyId → Tree) → (TyId → Tree) → Type 0
Keeps c d = (x y : TyId) → c x ≡ c y → d x ≡ d y

row_fewer : (c d : TyId → Tree) → Keeps c d → (x : TyId) (k : ℕ) → row d x k ≤ row c x k
unfolding row
row_fewer c d f x zero = omega arith
row_fewer c d f x (suc k) = omega (arith, row_fewer c d f x k, unlike_fewer (c x) (c (id k)) (d x) (d (id k)) (f x (id k)))

row_less : (c d : TyId → Tree) → Keeps c d → (x : TyId) (k y : ℕ) → y < k → (c x ≡ c (id y) → ⊥) → d x ≡ d (id y) → row d x k < row c x k
unfolding row
row_less c d f x zero y w a e = absurd (omega arith)
row_less c d f x (suc k) y w a e = by (λ v. row_less c d f x k y v a e) (cases_eq y k)
  where
    by : (y < k → row d x k < row c x k) → (y ≡ k) ⊎ (y ≡ k → ⊥) → unlike (d x) (d (id k)) + row d x k < unlike (c x) (c (id k)) + row c x k
    by more (inl i) = omega (arith, row_fewer c d f x k, unlike_less (c x) (c (id k)) (d x) (d (id k)) (subst (λ z. c x ≡ c (id z) → ⊥) i a) (subst (λ z. d x ≡ d (id z)) i e))
    by more (inr i) = omega (arith, more (omega (arith, w, i)), unlike_fewer (c x) (c (id k)) (d x) (d (id k)) (f x (id k)))

table_fewer : (c d : TyId → Tree) → Keeps c d → (j k : ℕ) → table d j k ≤ table c j k
unfolding table
table_fewer c d f zero k = omega arith
table_fewer c d f (suc j) k = omega (arith, table_fewer c d f j k, row_fewer c d f (id j) k)

table_less : (c d : TyId → Tree) → Keeps c d → (j k x y : ℕ) → x < j → y < k → (c (id x) ≡ c (id y) → ⊥) → d (id x) ≡ d (id y) → table d j k < table c j k
unfolding table
table_less c d f zero k x y v w a e = absurd (omega arith)
table_less c d f (suc j) k x y v w a e = by (λ u. table_less c d f j k x y u w a e) (cases_eq x j)
  where
    by : (x < j → table d j k < table c j k) → (x ≡ j) ⊎ (x ≡ j → ⊥) → row d (id j) k + table d j k < row c (id j) k + table c j k
    by more (inl i) = omega (arith, table_fewer c d f j k, row_less c d f (id j) k y w (subst (λ z. c (id z) ≡ c (id y) → ⊥) i a) (subst (λ z. d (id z) ≡ d (id y)) i e))
    by more (inr i) = omega (arith, more (omega (arith, v, i)), row_fewer c d f (id j) k)

-- ---- the names

abbrev Found : List TyNode → Bound → (TyId → Tree) → Type 0
Found nodes bound c = (d : TyId → Tree) × IsSolution nodes bound d × IsCongruent nodes d × ((x y : TyId) → c x ≡ c y → d x ≡ d y)

found : (nodes : List TyNode) (bound : Bound) (fuel : ℕ) (c : TyId → Tree) → IsSolution nodes bound c → table c (length nodes) (length nodes) < fuel → Found nodes bound c
found nodes bound zero c s w = absurd (omega arith)
found nodes bound (suc fuel) c s w = by (λ d k v. found nodes bound fuel d k v) (apart_or_none nodes c)
  where
    by : ((d : TyId → Tree) → IsSolution nodes bound d → table d (length nodes) (length nodes) < fuel → Found nodes bound d) → SomeApart nodes c ⊎ IsCongruent nodes c → Found nodes bound c
    by again (inr k) = (c, s, k, λ x y e. e)
    by again (inl a) =
        let d = joined c a.0 a.1 in
        let less = table_less c d (joined_keeps c a.0 a.1) (length nodes) (length nodes) a.0.0 a.1.0 (slice_get_within nodes a.0.0 a.2.n a.2.at_x) (slice_get_within nodes a.1.0 a.2.m a.2.at_y) a.2.apart (joined_one c a.0 a.1) in
        let more = again d (joined_solution nodes bound c a.0 a.1 s a.2) (omega (arith, w, less)) in
        (more.0, more.1, more.2, λ x y e. more.3 x y (joined_keeps c a.0 a.1 x y e))

pub congruent : (nodes : List TyNode) (bound : Bound) (c : TyId → Tree) → IsSolution nodes bound c → (d : TyId → Tree) × IsSolution nodes bound d × IsCongruent nodes d × ((x y : TyId) → c x ≡ c y → d x ≡ d y)
congruent nodes bound c s = found nodes bound (suc (table c (length nodes) (length nodes))) c s (omega arith)

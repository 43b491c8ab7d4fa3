-- The types for which ids stand: they are there, they are one each, and they are the most general of
-- all that fit what the solver knows.
use Rattle.std.proofs.Common.{◌≡◌, ℕ, zero, suc, ◌<◌, ◌≤◌, ◌⊎◌, List, [], ◌∷◌, length, Option, Some, None, get_or, refl, sym, ap, ◌∙◌, subst, inl, inr, arith}
use Rattle.std.specs.List.{slice_get}
use Rattle.std.specs.Option.{option_and_then}
use Rattle.std.proofs.lemmas.Bool.{cases_lt, cases_eq}
use Rattle.std.proofs.lemmas.Option.{slice_get_cases, slice_get_within}
use Rattle.ml_types.specs.declared.node.TyId.{TyId}
use Rattle.ml_types.specs.declared.node.TyNode.{TyNode}
use Rattle.ml_types.specs.declared.node.TyNode.TheVariants.{Var, Con, Tuple, Arrow}
use Rattle.ml_types.specs.Types.{Head, head_of, parts_of, Tree, Leaf, Node, Trees, Nil, Cons, trees, tree_size, trees_size}
use Rattle.ml_typing.specs.declared.equation.Unknown.{Unknown}
use Rattle.ml_typing.specs.Typing.{Assignment, Pair, Satisfies, at_types, all_at_types, IsInstance, IsPrincipal}
use Rattle.hm_unify.specs.Solutions.{Bound, node_at, link, Ends, here, there, Solves, Stands, variable, built, StandAll, none, more}
use Rattle.hm_unify.specs.States.{IsTabled, IsSound}
use Rattle.hm_unify.specs.Closing.{end_at}
use Rattle.hm_unify.proofs.Ends.{Ends-unique, Ends-end_at, Ends-within, head-link, var-number, link-within, link-number, number-var}
use Rattle.hm_unify.proofs.Starts.{Ends-same}
use Rattle.hm_terms.specs.Stores.{Store, Reading, IsReady, Grows}
use Rattle.hm_terms.proofs.Growth.{Longer, longer, node_same, ends_back, end_within, stands_grow}
use Rattle.hm_infer.specs.Running.{HasNoIds, Agrees, IsShown}

-- ---- an id stands for one tree

head_unique : (nodes : List TyNode) (e g : TyId) (n m : TyNode) → e ≡ g → node_at nodes e ≡ Some n → node_at nodes g ≡ Some m → n ≡ m
head_unique nodes e g n m same p q = let w : Some n ≡ Some m = sym p ∙ ap (node_at nodes) same ∙ q in cc

pub leaf_inverse : (nodes : List TyNode) (bound : Bound) (x : TyId) (v : Tree) (e : TyId) (n : ℕ) → Stands nodes bound x v → Ends nodes bound x e → node_at nodes e ≡ Some (Var n) → v ≡ Leaf n
leaf_inverse nodes bound x v e n (variable y g m ends at) is p =
    let w : Var m ≡ Var n = head_unique nodes g e (Var m) (Var n) (Ends-unique nodes bound y g e ends is) at p in
    let k : m ≡ n = cc in
    ap Leaf k
leaf_inverse nodes bound x v e n (built y g m h ts ends at head all) is p =
    let w : m ≡ Var n = head_unique nodes g e m (Var n) (Ends-unique nodes bound y g e ends is) at p in
    absurd (let k : None ≡ Some h = ap head_of (sym w) ∙ head in cc)

pub record Built (nodes : List TyNode) (bound : Bound) (n : TyNode) (h : Head) (v : Tree) : Type 0 where
  pub parts : Trees
  pub stand : StandAll nodes bound (parts_of n) parts
  pub is : v ≡ Node h parts

pub node_inverse : (nodes : List TyNode) (bound : Bound) (x : TyId) (v : Tree) (e : TyId) (n : TyNode) (h : Head) → Stands nodes bound x v → Ends nodes bound x e → node_at nodes e ≡ Some n → head_of n ≡ Some h → Built nodes bound n h v
node_inverse nodes bound x v e n h (variable y g m ends at) is p q =
    let w : Var m ≡ n = head_unique nodes g e (Var m) n (Ends-unique nodes bound y g e ends is) at p in
    absurd (let k : None ≡ Some h = ap head_of w ∙ q in cc)
node_inverse nodes bound x v e n h (built y g m i ts ends at head all) is p q =
    let w : m ≡ n = head_unique nodes g e m n (Ends-unique nodes bound y g e ends is) at p in
    let k : Some i ≡ Some h = sym head ∙ ap head_of w ∙ q in
    let j : i ≡ h = cc in
    record { parts = ts; stand = subst (λ (z : TyNode). StandAll nodes bound (parts_of z) ts) w all; is = ap (λ z. Node z ts) j }

pub none_inverse : (nodes : List TyNode) (bound : Bound) (xs : List TyId) (vs : Trees) → StandAll nodes bound xs vs → xs ≡ [] → vs ≡ Nil
none_inverse nodes bound xs vs none h = refl
none_inverse nodes bound xs vs (more x ys w us one all) h = absurd cc

record Front (nodes : List TyNode) (bound : Bound) (y : TyId) (ys : List TyId) (vs : Trees) : Type 0 where
  first : Tree
  rest : Trees
  stands : Stands nodes bound y first
  all : StandAll nodes bound ys rest
  is : vs ≡ Cons first rest

more_inverse : (nodes : List TyNode) (bound : Bound) (xs : List TyId) (vs : Trees) (y : TyId) (ys : List TyId) → StandAll nodes bound xs vs → xs ≡ y ∷ ys → Front nodes bound y ys vs
more_inverse nodes bound xs vs y ys none h = absurd cc
more_inverse nodes bound xs vs y ys (more x zs w us one all) h =
    let a : x ≡ y = cc in
    let b : zs ≡ ys = cc in
    record {
      first = w;
      rest = us;
      stands = subst (λ z. Stands nodes bound z w) a one;
      all = subst (λ z. StandAll nodes bound z us) b all;
      is = refl;
    }

mutual
  pub tree_unique : (nodes : List TyNode) (bound : Bound) (x : TyId) (w v : Tree) → Stands nodes bound x w → Stands nodes bound x v → w ≡ v
  tree_unique nodes bound x w v (variable y e n ends at) k = sym (leaf_inverse nodes bound y v e n k ends at)
  tree_unique nodes bound x w v (built y e n h ts ends at head all) k =
      let o = node_inverse nodes bound y v e n h k ends at head in
      ap (Node h) (trees_unique nodes bound (parts_of n) ts o.parts all o.stand) ∙ sym o.is

  pub trees_unique : (nodes : List TyNode) (bound : Bound) (xs : List TyId) (ws vs : Trees) → StandAll nodes bound xs ws → StandAll nodes bound xs vs → ws ≡ vs
  trees_unique nodes bound xs ws vs none k = sym (none_inverse nodes bound [] vs k refl)
  trees_unique nodes bound xs ws vs (more x ys w us one all) k =
      let o = more_inverse nodes bound (x ∷ ys) vs x ys k refl in
      ap (λ z. Cons z us) (tree_unique nodes bound x w o.first one o.stands) ∙ ap (Cons o.first) (trees_unique nodes bound ys us o.rest all o.all) ∙ sym o.is

-- ---- every id of the table stands for a tree

abbrev pub SomeTree : List TyNode → Bound → TyId → Type 0
SomeTree nodes bound x = (w : Tree) × Stands nodes bound x w

abbrev SomeTrees : List TyNode → Bound → List TyId → Type 0
SomeTrees nodes bound xs = (ws : Trees) × StandAll nodes bound xs ws

node_within : (nodes : List TyNode) (x : TyId) → x.0 < length nodes → (n : TyNode) × (node_at nodes x ≡ Some n)
node_within nodes x h = by (slice_get_cases nodes x.0).1
  where
    by : ((n : TyNode) × (x.0 < length nodes) × (slice_get nodes x.0 ≡ Some n) × (get_or nodes x.0 n ≡ n)) ⊎ ((length nodes ≤ x.0) × (slice_get nodes x.0 ≡ None)) → (n : TyNode) × (node_at nodes x ≡ Some n)
    by (inl w) = (w.0, w.2)
    by (inr w) = absurd (omega (arith, h, w.0))

-- a node is a variable or has a head
headed : (n : TyNode) → ((k : ℕ) × (n ≡ Var k)) ⊎ ((h : Head) × (head_of n ≡ Some h))
headed (Var k) = inl (k, refl)
headed (Con d args) = inr (_, refl)
headed (Tuple parts) = inr (_, refl)
headed (Arrow slot from to) = inr (_, refl)

some_size : (t : Tree) → 1 ≤ tree_size t
some_size (Leaf n) = omega arith
some_size (Node h ts) = omega arith

-- each of these parts stands for a tree, where ids with smaller types do
parts_stand : (nodes : List TyNode) (bound : Bound) (t : TyId → Tree) (k : ℕ) → ((x : TyId) → x.0 < length nodes → tree_size (t x) ≤ k → SomeTree nodes bound x) → (ps : List TyId) → ((i : ℕ) (p : TyId) → slice_get ps i ≡ Some p → p.0 < length nodes) → trees_size (trees t ps) ≤ k → SomeTrees nodes bound ps
parts_stand nodes bound t k each [] within h = (Nil, none)
parts_stand nodes bound t k each (p ∷ ps) within h =
    let one = each p (within 0 p refl) (omega (arith, h)) in
    let all = parts_stand nodes bound t k each ps (λ i q e. within (suc i) q e) (omega (arith, h)) in
    (Cons one.0 all.0, more p ps one.0 all.0 one.1 all.1)

-- the tree of an id, where ids with smaller types stand for trees
stands_next : (nodes : List TyNode) (bound : Bound) (t : TyId → Tree) (k : ℕ) → IsTabled nodes bound → Solves nodes bound t → ((x : TyId) → x.0 < length nodes → tree_size (t x) ≤ k → SomeTree nodes bound x) → (x : TyId) → x.0 < length nodes → tree_size (t x) ≤ suc k → SomeTree nodes bound x
stands_next nodes bound t k tabled s each x within h = by at.0 at.1 (headed at.0)
  where
    e : TyId
    e = end_at nodes bound x

    ends : Ends nodes bound x e
    ends = Ends-end_at nodes bound tabled x

    at : (n : TyNode) × (node_at nodes e ≡ Some n)
    at = node_within nodes e (Ends-within nodes bound tabled x e ends within)

    by : (n : TyNode) → node_at nodes e ≡ Some n → ((j : ℕ) × (n ≡ Var j)) ⊎ ((i : Head) × (head_of n ≡ Some i)) → SomeTree nodes bound x
    by n is (inl v) = (Leaf v.0, variable x e v.0 ends (is ∙ ap Some v.1))
    by n is (inr v) =
        let whole : t x ≡ Node v.0 (trees t (parts_of n)) = Ends-same nodes bound t s.bound_is x e ends ∙ s.nodes_are e n v.0 is v.1 in
        let small : trees_size (trees t (parts_of n)) ≤ k = omega (arith, h, ap tree_size whole) in
        let all = parts_stand nodes bound t k each (parts_of n) (λ i p q. tabled.parts_in e n i p is q) small in
        (Node v.0 all.0, built x e n v.0 all.0 ends is v.1 all.1)

stands_by : (nodes : List TyNode) (bound : Bound) (t : TyId → Tree) → IsTabled nodes bound → Solves nodes bound t → (k : ℕ) (x : TyId) → x.0 < length nodes → tree_size (t x) ≤ k → SomeTree nodes bound x
stands_by nodes bound t tabled s zero x within h = absurd (omega (arith, h, some_size (t x)))
stands_by nodes bound t tabled s (suc k) x within h = stands_next nodes bound t k tabled s (stands_by nodes bound t tabled s k) x within h

pub some_tree : (nodes : List TyNode) (bound : Bound) → IsSound nodes bound → (x : TyId) → x.0 < length nodes → SomeTree nodes bound x
some_tree nodes bound s x h = stands_by nodes bound s.solvable.0 s.tabled s.solvable.1 (tree_size (s.solvable.0 x)) x h (omega arith)

-- ---- these trees are a solution

chosen : (count : ℕ) (x : TyId) → (x.0 < count → Tree) → (x.0 < count) ⊎ (count ≤ x.0) → Tree
chosen count x f (inl h) = f h
chosen count x f (inr h) = Leaf 0

chosen_stands : (nodes : List TyNode) (bound : Bound) (x : TyId) (f : (x.0 < length nodes) → SomeTree nodes bound x) (d : (x.0 < length nodes) ⊎ (length nodes ≤ x.0)) → x.0 < length nodes → Stands nodes bound x (chosen (length nodes) x (λ h. (f h).0) d)
unfolding chosen
chosen_stands nodes bound x f (inl h) within = (f h).1
chosen_stands nodes bound x f (inr h) within = absurd (omega (arith, h, within))

stand_all : (nodes : List TyNode) (bound : Bound) (t : TyId → Tree) → ((x : TyId) → x.0 < length nodes → Stands nodes bound x (t x)) → (ps : List TyId) → ((i : ℕ) (p : TyId) → slice_get ps i ≡ Some p → p.0 < length nodes) → StandAll nodes bound ps (trees t ps)
stand_all nodes bound t each [] within = none
stand_all nodes bound t each (p ∷ ps) within = more p ps (t p) (trees t ps) (each p (within 0 p refl)) (stand_all nodes bound t each ps (λ i q e. within (suc i) q e))

stands_linked : (nodes : List TyNode) (bound : Bound) (x y : TyId) (w : Tree) → link nodes bound x ≡ Some y → Stands nodes bound y w → Stands nodes bound x w
stands_linked nodes bound x y w h (variable z e n ends at) = variable x e n (there x z e h ends) at
stands_linked nodes bound x y w h (built z e n i ts ends at head all) = built x e n i ts (there x z e h ends) at head all

linked_within : (nodes : List TyNode) (bound : Bound) (x y : TyId) → link nodes bound x ≡ Some y → x.0 < length nodes
linked_within nodes bound x y h = let l = link-number nodes bound x y h in slice_get_within nodes x.0 (Var l.0) (number-var nodes x l.0 l.1)

link_cases : (o : Option TyId) → ((y : TyId) × (o ≡ Some y)) ⊎ (o ≡ None)
link_cases None = inr refl
link_cases (Some y) = inl (y, refl)

standing_solves : (nodes : List TyNode) (bound : Bound) (t : TyId → Tree) → IsTabled nodes bound → ((x : TyId) → x.0 < length nodes → Stands nodes bound x (t x)) → Solves nodes bound t
standing_solves nodes bound t tabled each = record {
  nodes_are = λ x n h p q. tree_unique nodes bound x (t x) (Node h (trees t (parts_of n))) (each x (slice_get_within nodes x.0 n p))
      (built x x n h (trees t (parts_of n)) (here x (head-link nodes bound x n h p q)) p q (stand_all nodes bound t each (parts_of n) (λ i r s. tabled.parts_in x n i r p s)));
  one_variable = λ x y n p q. same x y n p q (link_cases (link nodes bound x));
  bound_is = λ x y h. linked x y h;
}
  where
    linked : (x y : TyId) → link nodes bound x ≡ Some y → t x ≡ t y
    linked x y h = tree_unique nodes bound x (t x) (t y) (each x (linked_within nodes bound x y h)) (stands_linked nodes bound x y (t y) h (each y (link-within nodes bound tabled x y h)))

    free : (x : TyId) (n : ℕ) → node_at nodes x ≡ Some (Var n) → link nodes bound x ≡ None → t x ≡ Leaf n
    free x n p h = tree_unique nodes bound x (t x) (Leaf n) (each x (slice_get_within nodes x.0 (Var n) p)) (variable x x n (here x h) p)

    same : (x y : TyId) (n : ℕ) → node_at nodes x ≡ Some (Var n) → node_at nodes y ≡ Some (Var n) → ((z : TyId) × (link nodes bound x ≡ Some z)) ⊎ (link nodes bound x ≡ None) → t x ≡ t y
    same x y n p q d = by d
      where
        links : link nodes bound y ≡ link nodes bound x
        links = ap (option_and_then (λ k. get_or bound k None)) (var-number nodes y n q ∙ sym (var-number nodes x n p))

        by : ((z : TyId) × (link nodes bound x ≡ Some z)) ⊎ (link nodes bound x ≡ None) → t x ≡ t y
        by (inl h) = linked x h.0 h.1 ∙ sym (linked y h.0 (links ∙ h.1))
        by (inr h) = free x n p h ∙ sym (free y n q (links ∙ h))

abbrev pub Standing : List TyNode → Bound → (TyId → Tree) → Type 0
Standing nodes bound t = (x : TyId) → x.0 < length nodes → Stands nodes bound x (t x)

pub canonical : (s : Store) → IsReady s → IsSound s.nodes s.bound → (t : TyId → Tree) × Solves s.nodes s.bound t × ((x : TyId) → x.0 < length s.nodes → Stands s.nodes s.bound x (t x))
canonical s r k =
    let t : TyId → Tree = λ x. chosen (length s.nodes) x (λ h. (some_tree s.nodes s.bound k x h).0) (cases_lt x.0 (length s.nodes)) in
    let each : Standing s.nodes s.bound t = λ x h. chosen_stands s.nodes s.bound x (some_tree s.nodes s.bound k x) (cases_lt x.0 (length s.nodes)) h in
    (t, standing_solves s.nodes s.bound t k.tabled each, each)

-- ---- all other solutions are at other types of the variables

variable_of_number : (n : ℕ) (m : TyNode) → (m ≡ Var n) ⊎ (m ≡ Var n → ⊥)
variable_of_number n (Var k) = by (cases_eq k n)
  where
    by : (k ≡ n) ⊎ (k ≡ n → ⊥) → (Var k ≡ Var n) ⊎ (Var k ≡ Var n → ⊥)
    by (inl e) = inl (ap Var e)
    by (inr d) = inr (λ (h : Var k ≡ Var n). d cc)
variable_of_number n (Con d args) = inr (λ h. cc)
variable_of_number n (Tuple parts) = inr (λ h. cc)
variable_of_number n (Arrow slot from to) = inr (λ h. cc)

abbrev IsAt : List TyNode → ℕ → Type 0
IsAt nodes n = ((i : ℕ) × (slice_get nodes i ≡ Some (Var n))) ⊎ ((i : ℕ) → slice_get nodes i ≡ Some (Var n) → ⊥)

-- where the variable of a number stands, if anywhere
place_of : (nodes : List TyNode) (n : ℕ) → IsAt nodes n
place_of [] n = inr (λ i h. let q : None ≡ Some (Var n) = h in cc)
place_of (m ∷ nodes) n = by (variable_of_number n m) (place_of nodes n)
  where
    past : (m ≡ Var n → ⊥) → ((i : ℕ) → slice_get nodes i ≡ Some (Var n) → ⊥) → (i : ℕ) → slice_get (m ∷ nodes) i ≡ Some (Var n) → ⊥
    past d e zero h = d (let q : Some m ≡ Some (Var n) = h in cc)
    past d e (suc i) h = e i h

    by : (m ≡ Var n) ⊎ (m ≡ Var n → ⊥) → IsAt nodes n → IsAt (m ∷ nodes) n
    by (inl e) other = inl (0, ap Some e)
    by (inr d) (inl e) = inl (suc e.0, e.1)
    by (inr d) (inr e) = inr (past d e)

type_at : (nodes : List TyNode) (n : ℕ) → (TyId → Tree) → IsAt nodes n → Tree
type_at nodes n t (inl e) = t (record { 0 = e.0 })
type_at nodes n t (inr d) = Leaf 0

type_is : (nodes : List TyNode) (bound : Bound) (t : TyId → Tree) → Solves nodes bound t → (x : TyId) (n : ℕ) → node_at nodes x ≡ Some (Var n) → (d : IsAt nodes n) → t x ≡ type_at nodes n t d
unfolding type_at
type_is nodes bound t s x n p (inl e) = s.one_variable x (record { 0 = e.0 }) n p e.1
type_is nodes bound t s x n p (inr d) = absurd (d x.0 p)

-- f gives each variable its type
abbrev Varies : List TyNode → (TyId → Tree) → (ℕ → Tree) → Type 0
Varies nodes t f = (x : TyId) (n : ℕ) → node_at nodes x ≡ Some (Var n) → t x ≡ f n

mutual
  stands_tree : (nodes : List TyNode) (bound : Bound) (t : TyId → Tree) (f : ℕ → Tree) → Solves nodes bound t → Varies nodes t f → (x : TyId) (w : Tree) → Stands nodes bound x w → t x ≡ at_types f w
  stands_tree nodes bound t f s v x w (variable y e n ends at) = Ends-same nodes bound t s.bound_is y e ends ∙ v e n at
  stands_tree nodes bound t f s v x w (built y e n h ws ends at head all) =
      Ends-same nodes bound t s.bound_is y e ends ∙ (s.nodes_are e n h at head ∙ ap (Node h) (stand_trees nodes bound t f s v (parts_of n) ws all))

  stand_trees : (nodes : List TyNode) (bound : Bound) (t : TyId → Tree) (f : ℕ → Tree) → Solves nodes bound t → Varies nodes t f → (xs : List TyId) (ws : Trees) → StandAll nodes bound xs ws → trees t xs ≡ all_at_types f ws
  stand_trees nodes bound t f s v xs ws none = refl
  stand_trees nodes bound t f s v xs ws (more x ys w us one all) =
      ap (λ z. Cons z (trees t ys)) (stands_tree nodes bound t f s v x w one) ∙ ap (Cons (at_types f w)) (stand_trees nodes bound t f s v ys us all)

pub at_other_types : (s : Store) (t : TyId → Tree) → Solves s.nodes s.bound t → (f : ℕ → Tree) × ((x : TyId) (w : Tree) → Stands s.nodes s.bound x w → t x ≡ at_types f w)
at_other_types s t k =
    let f : ℕ → Tree = λ n. type_at s.nodes n t (place_of s.nodes n) in
    (f, stands_tree s.nodes s.bound t f k (λ x n p. type_is s.nodes s.bound t k x n p (place_of s.nodes n)))

-- ---- what is known of a solver, and the types that it shows

pub starts : (s : Store) → IsSound s.nodes s.bound → HasNoIds s → Agrees s []
starts s k no_ids = record {
  forth = λ t a r. tt;
  back = λ a h. (k.solvable.0, record { solves = k.solvable.1; reads = λ u x p. absurd (let q : None ≡ Some x = sym (no_ids u) ∙ p in cc) });
  known = λ u o. absurd o;
}

abbrev type_of : (TyId → Tree) → Option TyId → Tree
type_of t None = Leaf 0
type_of t (Some x) = t x

pub shown : (s : Store) → IsReady s → IsSound s.nodes s.bound → (a : Assignment) × IsShown s a
shown s r k = (a, each)
  where
    t : TyId → Tree
    t = (canonical s r k).0

    a : Assignment
    a u = type_of t (s.ids u)

    by : (o : Option TyId) (x : TyId) → o ≡ Some x → Stands s.nodes s.bound x (t x) → Stands s.nodes s.bound x (type_of t o)
    by None x e h = absurd (let q : None ≡ Some x = e in cc)
    by (Some y) x e h = let q : x ≡ y = cc in subst (λ (z : TyId). Stands s.nodes s.bound x (t z)) q h

    each : IsShown s a
    each u x p = by (s.ids u) x p ((canonical s r k).2 x (r.within u x p))

pub shown_reading : (s : Store) (a : Assignment) → IsReady s → IsSound s.nodes s.bound → IsShown s a → (t : TyId → Tree) × Reading s t a × ((x : TyId) → x.0 < length s.nodes → Stands s.nodes s.bound x (t x))
shown_reading s a r k shows =
    let c = canonical s r k in
    (c.0, record { solves = c.1; reads = λ u x p. tree_unique s.nodes s.bound x (c.0 x) (a u) (c.2 x (r.within u x p)) (shows u x p) }, c.2)

-- two assignments that are shown agree on all that has come up
pub shown_unique : (s : Store) (a b : Assignment) → IsShown s a → IsShown s b → (u : Unknown) (x : TyId) → s.ids u ≡ Some x → a u ≡ b u
shown_unique s a b h k u x p = tree_unique s.nodes s.bound x (a u) (b u) (h u x p) (k u x p)

-- ---- as the solver grows

-- what stands at the ids of the older table stands there in the newer one
record Below (count : ℕ) (nodes others : List TyNode) (m k : Bound) : Type 0 where
  ends : (x e : TyId) → x.0 < count → Ends nodes m x e → Ends others k x e
  node_is : (x e : TyId) (n : TyNode) → x.0 < count → Ends nodes m x e → node_at nodes e ≡ Some n → node_at others e ≡ Some n
  part : (x e : TyId) (n : TyNode) (i : ℕ) (p : TyId) → x.0 < count → Ends nodes m x e → node_at nodes e ≡ Some n → slice_get (parts_of n) i ≡ Some p → p.0 < count

mutual
  stands_below : (count : ℕ) (nodes others : List TyNode) (m k : Bound) → Below count nodes others m k → (x : TyId) (w : Tree) → x.0 < count → Stands nodes m x w → Stands others k x w
  stands_below count nodes others m k s x w h (variable y e n ends at) = variable y e n (s.ends y e h ends) (s.node_is y e (Var n) h ends at)
  stands_below count nodes others m k s x w h (built y e n i ts ends at head all) =
      built y e n i ts (s.ends y e h ends) (s.node_is y e n h ends at) head
      (stand_all_below count nodes others m k s (parts_of n) ts (λ j p q. s.part y e n j p h ends at q) all)

  stand_all_below : (count : ℕ) (nodes others : List TyNode) (m k : Bound) → Below count nodes others m k → (xs : List TyId) (ws : Trees) → ((i : ℕ) (p : TyId) → slice_get xs i ≡ Some p → p.0 < count) → StandAll nodes m xs ws → StandAll others k xs ws
  stand_all_below count nodes others m k s xs ws within none = none
  stand_all_below count nodes others m k s xs ws within (more x ys w us one all) =
      more x ys w us (stands_below count nodes others m k s x w (within 0 x refl) one) (stand_all_below count nodes others m k s ys us (λ i p q. within (suc i) p q) all)

below : (old new : Store) → Longer old new → IsReady old → Below (length old.nodes) new.nodes old.nodes new.bound old.bound
below old new l r = record {
  ends = λ x e h ends. ends_back old new l r.closed x e h ends;
  node_is = λ x e n h ends at. node_is x e n h ends at;
  part = λ x e n i p h ends at q. r.closed.parts_in e n i p (node_is x e n h ends at) q;
}
  where
    node_is : (x e : TyId) (n : TyNode) → x.0 < length old.nodes → Ends new.nodes new.bound x e → node_at new.nodes e ≡ Some n → node_at old.nodes e ≡ Some n
    node_is x e n h ends at = sym (node_same old new l e (end_within old r.closed x e h (ends_back old new l r.closed x e h ends))) ∙ at

stands_back : (old new : Store) → Longer old new → IsReady old → (x : TyId) (w : Tree) → x.0 < length old.nodes → Stands new.nodes new.bound x w → Stands old.nodes old.bound x w
stands_back old new l r x w h k = stands_below (length old.nodes) new.nodes old.nodes new.bound old.bound (below old new l r) x w h k

pub shown_grows : (old new : Store) (a : Assignment) → IsReady old → Grows old new → IsShown new a → IsShown old a
shown_grows old new a r g shows u x p = stands_back old new (longer old new g) r x (a u) (r.within u x p) (shows u x (g.ids u x p))

-- an unknown that was known keeps its type
pub shown_later : (old new : Store) (a : Assignment) → IsReady old → Grows old new → IsShown old a → (u : Unknown) (x : TyId) → old.ids u ≡ Some x → Stands new.nodes new.bound x (a u)
shown_later old new a r g shows u x p = stands_grow old new (longer old new g) r.closed x (a u) (shows u x p)

-- ---- the most general typing, and the least

pub principal : (s : Store) (ps : List Pair) (a : Assignment) → IsReady s → IsSound s.nodes s.bound → Agrees s ps → IsShown s a → IsPrincipal ps a
principal s ps a r k agrees shows = record {
  typing = (let w = shown_reading s a r k shows in agrees.forth w.0 a w.1);
  instances = instance;
}
  where
    instance : (b : Assignment) → Satisfies b ps → IsInstance a b ps
    instance b h =
        let w = agrees.back b h in
        let f = at_other_types s w.0 w.1.solves in
        record {
          types = f.0;
          each = λ u o. (let x = agrees.known u o in sym (w.1.reads u x.0 x.1) ∙ f.1 x.0 (a u) (shows u x.0 x.1));
        }

-- a type does not shrink where its variables get other types
mutual
  size_grows : (f : ℕ → Tree) (t : Tree) → tree_size t ≤ tree_size (at_types f t)
  size_grows f (Leaf n) = some_size (f n)
  size_grows f (Node h ts) = omega (arith, sizes_grow f ts)

  sizes_grow : (f : ℕ → Tree) (ts : Trees) → trees_size ts ≤ trees_size (all_at_types f ts)
  sizes_grow f Nil = omega arith
  sizes_grow f (Cons t ts) = omega (arith, size_grows f t, sizes_grow f ts)

pub least : (s : Store) (ps : List Pair) (a b : Assignment) (v : Unknown) (x : TyId) → IsReady s → Agrees s ps → IsShown s a → Satisfies b ps → s.ids v ≡ Some x → tree_size (a v) ≤ tree_size (b v)
least s ps a b v x r agrees shows h p =
    let w = agrees.back b h in
    let f = at_other_types s w.0 w.1.solves in
    let same : b v ≡ at_types f.0 (a v) = sym (w.1.reads v x p) ∙ f.1 x (a v) (shows v x p) in
    subst (λ (t : Tree). tree_size (a v) ≤ tree_size t) (sym same) (size_grows f.0 (a v))

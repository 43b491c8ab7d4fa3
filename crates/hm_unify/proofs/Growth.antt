-- Tables of nodes that grow.
use Rattle.std.proofs.Common.{◌≡◌, ℕ, zero, suc, ◌+◌, ◌<◌, ◌≤◌, ◌⊎◌, true, false, cond, eqb, List, [], ◌∷◌, ◌++◌, length, Option, Some, None, refl, sym, ap, ◌∙◌, inl, inr, ⊎_elim, arith, get_or, length-append}
use Rattle.std.specs.List.{slice_get}
use Rattle.std.specs.Option.{option_and_then}
use Rattle.std.proofs.lemmas.Option.{slice_get_within}
use Rattle.std.proofs.lemmas.Bool.{cases_eq, eq-eqb}
use Rattle.std.proofs.lemmas.Bool.Decides.{eqb_tells}
use Rattle.ml_types.specs.declared.node.TyId.{TyId}
use Rattle.ml_types.specs.declared.node.TyNode.{TyNode}
use Rattle.ml_types.specs.declared.node.TyNode.TheVariants.{Var, Con, Tuple, Arrow}
use Rattle.ml_types.specs.Types.{Head, ConHead, TupleHead, ArrowHead, head_of, parts_of, Tree, Leaf, Node, Cons, trees}
use Rattle.hm_unify.specs.Solutions.{Bound, node_at, variable_of, Solves}
use Rattle.hm_unify.specs.States.{IsTabled, IsSound, IsTable, rank}
use Rattle.hm_unify.proofs.Ends.{link-number, var-number, number-var}
use Rattle.hm_unify.proofs.Starts.{id-from}

-- a place of a list with one item more
pub at_push : {A : Type 0} (xs : List A) (x y : A) (i : ℕ) → slice_get (xs ++ x ∷ []) i ≡ Some y → (slice_get xs i ≡ Some y) ⊎ ((i ≡ length xs) × (x ≡ y))
at_push [] x y zero h = inr (refl, cc)
at_push [] x y (suc i) h = absurd cc
at_push (z ∷ xs) x y zero h = inl h
at_push (z ∷ xs) x y (suc i) h = ⊎_elim (λ k. inl k) (λ (k : (i ≡ length xs) × (x ≡ y)). inr (ap suc k.0, k.1)) (at_push xs x y i h)

pub push_front : {A : Type 0} (xs : List A) (x y : A) (i : ℕ) → slice_get xs i ≡ Some y → slice_get (xs ++ x ∷ []) i ≡ Some y
push_front [] x y i h = absurd cc
push_front (z ∷ xs) x y zero h = h
push_front (z ∷ xs) x y (suc i) h = push_front xs x y i h

length_push : {A : Type 0} (xs : List A) (x : A) → length (xs ++ x ∷ []) ≡ length xs + 1
length_push xs x = length-append xs (x ∷ [])

-- the first place of a variable
find_var : (nodes : List TyNode) (n : ℕ) → ((i : ℕ) × (slice_get nodes i ≡ Some (Var n))) ⊎ ((i : ℕ) → slice_get nodes i ≡ Some (Var n) → ⊥)
find_var [] n = inr (λ i h. absurd (let g : None ≡ Some (Var n) = h in cc))
find_var (k ∷ nodes) n = by (is_var k) (find_var nodes n)
  where
    is_var : (k : TyNode) → (k ≡ Var n) ⊎ (k ≡ Var n → ⊥)
    is_var (Var m) = ⊎_elim (λ e. inl (ap Var e)) (λ d. inr (λ (h : Var m ≡ Var n). d cc)) (cases_eq m n)
    is_var (Con d args) = inr (λ h. cc)
    is_var (Tuple ps) = inr (λ h. cc)
    is_var (Arrow slot a b) = inr (λ h. cc)

    by : (k ≡ Var n) ⊎ (k ≡ Var n → ⊥) → ((i : ℕ) × (slice_get nodes i ≡ Some (Var n))) ⊎ ((i : ℕ) → slice_get nodes i ≡ Some (Var n) → ⊥) → ((i : ℕ) × (slice_get (k ∷ nodes) i ≡ Some (Var n))) ⊎ ((i : ℕ) → slice_get (k ∷ nodes) i ≡ Some (Var n) → ⊥)
    by (inl e) r = inl (0, ap Some e)
    by (inr d) (inl h) = inl (suc h.0, h.1)
    by (inr d) (inr r) = inr (λ i h. none i h)
      where
        none : (i : ℕ) → slice_get (k ∷ nodes) i ≡ Some (Var n) → ⊥
        none zero h = d cc
        none (suc i) h = r i h

-- the tree of a new node, over those of the old ones
record NewTree (nodes : List TyNode) (bound : Bound) (t : TyId → Tree) (n : TyNode) : Type 0 where
  tree : Tree
  built : (h : Head) → head_of n ≡ Some h → tree ≡ Node h (trees t (parts_of n))
  variable : (k : ℕ) (x : TyId) → n ≡ Var k → node_at nodes x ≡ Some (Var k) → tree ≡ t x
  bound_to : (k : ℕ) (y : TyId) → n ≡ Var k → get_or bound k None ≡ Some y → tree ≡ t y

target_cases : (o : Option TyId) → ((y : TyId) × (o ≡ Some y)) ⊎ (o ≡ None)
target_cases None = inr refl
target_cases (Some y) = inl (y, refl)

var_tree : (nodes : List TyNode) (bound : Bound) (t : TyId → Tree) → Solves nodes bound t → (k : ℕ) → NewTree nodes bound t (Var k)
var_tree nodes bound t s k = by (find_var nodes k)
  where
    free_by : ((i : ℕ) → slice_get nodes i ≡ Some (Var k) → ⊥) → ((y : TyId) × (get_or bound k None ≡ Some y)) ⊎ (get_or bound k None ≡ None) → NewTree nodes bound t (Var k)
    free_by none (inl w) =
        record {
          tree = t w.0;
          built = λ h e. absurd cc;
          variable = λ j x e p. absurd (let g : k ≡ j = cc in none x.0 (p ∙ ap (λ i. Some (Var i)) (sym g)));
          bound_to = λ j y e p. (let g : k ≡ j = cc in let v : Some w.0 ≡ Some y = sym w.1 ∙ ap (λ i. get_or bound i None) g ∙ p in let u : w.0 ≡ y = cc in ap t u);
        }
    free_by none (inr w) =
        record {
          tree = Leaf 0;
          built = λ h e. absurd cc;
          variable = λ j x e p. absurd (let g : k ≡ j = cc in none x.0 (p ∙ ap (λ i. Some (Var i)) (sym g)));
          bound_to = λ j y e p. absurd (let g : k ≡ j = cc in let v : None ≡ Some y = sym w ∙ ap (λ i. get_or bound i None) g ∙ p in cc);
        }

    by : ((i : ℕ) × (slice_get nodes i ≡ Some (Var k))) ⊎ ((i : ℕ) → slice_get nodes i ≡ Some (Var k) → ⊥) → NewTree nodes bound t (Var k)
    by (inl w) =
        let z : TyId = record { 0 = w.0 } in
        record {
          tree = t z;
          built = λ h e. absurd cc;
          variable = λ j x e p. (let g : k ≡ j = cc in s.one_variable z x k w.1 (p ∙ ap (λ i. Some (Var i)) (sym g)));
          bound_to = λ j y e p. (let g : k ≡ j = cc in s.bound_is z y (ap (option_and_then (λ i. get_or bound i None)) (var-number nodes z k w.1) ∙ ap (λ i. get_or bound i None) g ∙ p));
        }
    by (inr none) = free_by none (target_cases (get_or bound k None))

built_tree : (nodes : List TyNode) (bound : Bound) (t : TyId → Tree) (n : TyNode) (h : Head) → head_of n ≡ Some h → variable_of n ≡ None → NewTree nodes bound t n
built_tree nodes bound t n h e v =
    record {
      tree = Node h (trees t (parts_of n));
      built = λ j q. (let g : Some h ≡ Some j = sym e ∙ q in let u : h ≡ j = cc in ap (λ i. Node i (trees t (parts_of n))) u);
      variable = λ k x q p. absurd (let g : None ≡ Some k = sym v ∙ ap variable_of q in cc);
      bound_to = λ k y q p. absurd (let g : None ≡ Some k = sym v ∙ ap variable_of q in cc);
    }

new_tree : (nodes : List TyNode) (bound : Bound) (t : TyId → Tree) → Solves nodes bound t → (n : TyNode) → NewTree nodes bound t n
new_tree nodes bound t s (Var k) = var_tree nodes bound t s k
new_tree nodes bound t s (Con d args) = built_tree nodes bound t (Con d args) _ refl refl
new_tree nodes bound t s (Tuple ps) = built_tree nodes bound t (Tuple ps) _ refl refl
new_tree nodes bound t s (Arrow slot a b) = built_tree nodes bound t (Arrow slot a b) _ refl refl

extended : (count : ℕ) (t : TyId → Tree) (w : Tree) → TyId → Tree
extended count t w x = cond (eqb x.0 count) w (t x)

extended_old : (count : ℕ) (t : TyId → Tree) (w : Tree) (x : TyId) → x.0 < count → extended count t w x ≡ t x
unfolding extended
extended_old count t w x h =
    ⊎_elim
    (λ (e : (eqb x.0 count ≡ true) × (x.0 ≡ count)). absurd (omega (arith, h, e.1)))
    (λ (e : (eqb x.0 count ≡ false) × (x.0 ≡ count → ⊥)). ap (λ b. cond b w (t x)) e.0)
    (eqb_tells x.0 count)

extended_new : (count : ℕ) (t : TyId → Tree) (w : Tree) (x : TyId) → x.0 ≡ count → extended count t w x ≡ w
unfolding extended
extended_new count t w x h = ap (λ b. cond b w (t x)) (eq-eqb x.0 count h)

trees_same : (t u : TyId → Tree) (xs : List TyId) → ((i : ℕ) (p : TyId) → slice_get xs i ≡ Some p → t p ≡ u p) → trees t xs ≡ trees u xs
trees_same t u [] h = refl
trees_same t u (x ∷ xs) h = ap (λ v. Cons v (trees t xs)) (h 0 x refl) ∙ ap (Cons (u x)) (trees_same t u xs (λ i p q. h (suc i) p q))

Solves-push : (nodes : List TyNode) (bound bound' : Bound) (n : TyNode) (t : TyId → Tree) → IsTabled nodes bound → Solves nodes bound t → ((k : ℕ) → get_or bound' k None ≡ get_or bound k None) → ((i : ℕ) (p : TyId) → slice_get (parts_of n) i ≡ Some p → p.0 < length nodes) → (w : NewTree nodes bound t n) → Solves (nodes ++ n ∷ []) bound' (extended (length nodes) t w.tree)
Solves-push nodes bound bound' n t k s same parts w =
    record {
      nodes_are = λ x m h p q. nodes_by x m h q (at_push nodes n m x.0 p);
      one_variable = λ x y i p q. variable_by x y i (at_push nodes n (Var i) x.0 p) (at_push nodes n (Var i) y.0 q);
      bound_is = λ x y h. (let l = link-number (nodes ++ n ∷ []) bound' x y h in bound_by x y l.0 (sym (same l.0) ∙ l.2) (at_push nodes n (Var l.0) x.0 (number-var (nodes ++ n ∷ []) x l.0 l.1)));
    }
  where
    u : TyId → Tree
    u = extended (length nodes) t w.tree

    old : (x : TyId) (m : TyNode) → slice_get nodes x.0 ≡ Some m → u x ≡ t x
    old x m p = extended_old (length nodes) t w.tree x (slice_get_within nodes x.0 m p)

    nodes_by : (x : TyId) (m : TyNode) (h : Head) → head_of m ≡ Some h → (slice_get nodes x.0 ≡ Some m) ⊎ ((x.0 ≡ length nodes) × (n ≡ m)) → u x ≡ Node h (trees u (parts_of m))
    nodes_by x m h q (inl p) =
        old x m p ∙ s.nodes_are x m h p q ∙ ap (Node h) (trees_same t u (parts_of m) (λ i v r. sym (extended_old (length nodes) t w.tree v (k.parts_in x m i v p r))))
    nodes_by x m h q (inr e) =
        extended_new (length nodes) t w.tree x e.0 ∙ w.built h (ap head_of e.1 ∙ q) ∙ ap (λ v. Node h (trees t (parts_of v))) e.1
        ∙ ap (Node h) (trees_same t u (parts_of m) (λ i v r. sym (extended_old (length nodes) t w.tree v (parts i v (ap (λ z. slice_get (parts_of z) i) e.1 ∙ r)))))

    variable_by : (x y : TyId) (i : ℕ) → (slice_get nodes x.0 ≡ Some (Var i)) ⊎ ((x.0 ≡ length nodes) × (n ≡ Var i)) → (slice_get nodes y.0 ≡ Some (Var i)) ⊎ ((y.0 ≡ length nodes) × (n ≡ Var i)) → u x ≡ u y
    variable_by x y i (inl p) (inl q) = old x _ p ∙ s.one_variable x y i p q ∙ sym (old y _ q)
    variable_by x y i (inl p) (inr q) = old x _ p ∙ sym (w.variable i x q.1 p) ∙ sym (extended_new (length nodes) t w.tree y q.0)
    variable_by x y i (inr p) (inl q) = extended_new (length nodes) t w.tree x p.0 ∙ w.variable i y p.1 q ∙ sym (old y _ q)
    variable_by x y i (inr p) (inr q) = ap u (id-from x y (p.0 ∙ sym q.0))

    bound_by : (x y : TyId) (i : ℕ) → get_or bound i None ≡ Some y → (slice_get nodes x.0 ≡ Some (Var i)) ⊎ ((x.0 ≡ length nodes) × (n ≡ Var i)) → u x ≡ u y
    bound_by x y i h (inl p) =
        old x _ p ∙ s.bound_is x y (ap (option_and_then (λ j. get_or bound j None)) (var-number nodes x i p) ∙ h) ∙ sym (extended_old (length nodes) t w.tree y (k.targets_in i y h))
    bound_by x y i h (inr p) =
        extended_new (length nodes) t w.tree x p.0 ∙ w.bound_to i y p.1 h ∙ sym (extended_old (length nodes) t w.tree y (k.targets_in i y h))

pub IsSound-push : (nodes : List TyNode) (bound bound' : Bound) (n : TyNode) → IsSound nodes bound → ((k : ℕ) → get_or bound' k None ≡ get_or bound k None) → length bound ≤ length bound' → ((k : ℕ) → variable_of n ≡ Some k → k < length bound') → ((i : ℕ) (p : TyId) → slice_get (parts_of n) i ≡ Some p → p.0 < length nodes) → IsSound (nodes ++ n ∷ []) bound'
IsSound-push nodes bound bound' n k same longer covers parts =
    record {
      tabled = record {
        parts_in = λ x m i p h q. parts_by x m i p q (at_push nodes n m x.0 h);
        variables_in = λ x i h. variables_by x i (at_push nodes n (Var i) x.0 h);
        targets_in = λ i y h. (let g = k.tabled.targets_in i y (sym (same i) ∙ h) in omega (arith, g, length_push nodes n));
        rising = λ i j y h p. rising_by i j y (sym (same i) ∙ h) (at_push nodes n (Var j) y.0 p);
      };
      solvable = (_, Solves-push nodes bound bound' n k.solvable.0 k.tabled k.solvable.1 same parts (new_tree nodes bound k.solvable.0 k.solvable.1 n), tt);
    }
  where
    parts_by : (x : TyId) (m : TyNode) (i : ℕ) (p : TyId) → slice_get (parts_of m) i ≡ Some p → (slice_get nodes x.0 ≡ Some m) ⊎ ((x.0 ≡ length nodes) × (n ≡ m)) → p.0 < length (nodes ++ n ∷ [])
    parts_by x m i p q (inl h) = (let g = k.tabled.parts_in x m i p h q in omega (arith, g, length_push nodes n))
    parts_by x m i p q (inr h) = (let g = parts i p (ap (λ z. slice_get (parts_of z) i) h.1 ∙ q) in omega (arith, g, length_push nodes n))

    variables_by : (x : TyId) (i : ℕ) → (slice_get nodes x.0 ≡ Some (Var i)) ⊎ ((x.0 ≡ length nodes) × (n ≡ Var i)) → i < length bound'
    variables_by x i (inl h) = (let g = k.tabled.variables_in x i h in omega (arith, g, longer))
    variables_by x i (inr h) = covers i (ap variable_of h.1)

    rising_by : (i j : ℕ) (y : TyId) → get_or bound i None ≡ Some y → (slice_get nodes y.0 ≡ Some (Var j)) ⊎ ((y.0 ≡ length nodes) × (n ≡ Var j)) → rank i < rank j
    rising_by i j y h (inl p) = k.tabled.rising i j y h p
    rising_by i j y h (inr p) = absurd (let g = k.tabled.targets_in i y h in omega (arith, g, p.0))

-- trees by heights
abbrev node_tree : (TyId → Tree) → Option TyNode → Tree
node_tree g None = Leaf 0
node_tree g (Some (Var k)) = Leaf k
node_tree g (Some (Con d args)) = Node (ConHead d (length args)) (trees g args)
node_tree g (Some (Tuple ps)) = Node (TupleHead (length ps)) (trees g ps)
node_tree g (Some (Arrow slot a b)) = Node ArrowHead (trees g (a ∷ b ∷ []))

grow : List TyNode → ℕ → TyId → Tree
grow nodes zero x = Leaf 0
grow nodes (suc f) x = node_tree (grow nodes f) (node_at nodes x)

node_tree_head : (g : TyId → Tree) (n : TyNode) (h : Head) → head_of n ≡ Some h → node_tree g (Some n) ≡ Node h (trees g (parts_of n))
node_tree_head g (Var k) h e = absurd cc
node_tree_head g (Con d args) h e = (let w : ConHead d (length args) ≡ h = cc in ap (λ v. Node v (trees g args)) w)
node_tree_head g (Tuple ps) h e = (let w : TupleHead (length ps) ≡ h = cc in ap (λ v. Node v (trees g ps)) w)
node_tree_head g (Arrow slot a b) h e = (let w : ArrowHead ≡ h = cc in ap (λ v. Node v (trees g (a ∷ b ∷ []))) w)

node_tree_same : (g u : TyId → Tree) (n : TyNode) → trees g (parts_of n) ≡ trees u (parts_of n) → node_tree g (Some n) ≡ node_tree u (Some n)
node_tree_same g u (Var k) e = refl
node_tree_same g u (Con d args) e = ap (Node (ConHead d (length args))) e
node_tree_same g u (Tuple ps) e = ap (Node (TupleHead (length ps))) e
node_tree_same g u (Arrow slot a b) e = ap (Node ArrowHead) e

same_at : (nodes : List TyNode) → IsTable nodes → (f g : ℕ) (x : TyId) (o : Option TyNode) → node_at nodes x ≡ o → ((n : TyNode) → node_at nodes x ≡ Some n → trees (grow nodes f) (parts_of n) ≡ trees (grow nodes g) (parts_of n)) → node_tree (grow nodes f) o ≡ node_tree (grow nodes g) o
same_at nodes k f g x None e h = refl
same_at nodes k f g x (Some n) e h = node_tree_same (grow nodes f) (grow nodes g) n (h n e)

grow_stable : (nodes : List TyNode) (k : IsTable nodes) (f g : ℕ) (x : TyId) → k.height x < f → k.height x < g → grow nodes f x ≡ grow nodes g x
unfolding grow
grow_stable nodes k zero g x h j = absurd (omega arith)
grow_stable nodes k (suc f) zero x h j = absurd (omega arith)
grow_stable nodes k (suc f) (suc g) x h j =
    same_at nodes k f g x (node_at nodes x) refl (λ n p. trees_same (grow nodes f) (grow nodes g) (parts_of n) (λ i q r. (let w = k.falls x n i q p r in grow_stable nodes k f g q (omega (arith, h, w)) (omega (arith, j, w)))))

grown : (nodes : List TyNode) → IsTable nodes → TyId → Tree
grown nodes k x = grow nodes (suc (k.height x)) x

grown_node : (nodes : List TyNode) (k : IsTable nodes) (x : TyId) (n : TyNode) → node_at nodes x ≡ Some n → grown nodes k x ≡ node_tree (grow nodes (k.height x)) (Some n)
unfolding grown grow
grown_node nodes k x n p = ap (node_tree (grow nodes (k.height x))) p

grown_trees : (nodes : List TyNode) (k : IsTable nodes) (x : TyId) (n : TyNode) → node_at nodes x ≡ Some n → trees (grow nodes (k.height x)) (parts_of n) ≡ trees (grown nodes k) (parts_of n)
unfolding grown
grown_trees nodes k x n p =
    trees_same (grow nodes (k.height x)) (grown nodes k) (parts_of n) (λ i q r. (let w = k.falls x n i q p r in grow_stable nodes k (k.height x) (suc (k.height q)) q w (omega arith)))

pub IsSound-new : (nodes : List TyNode) (bound : Bound) → IsTable nodes → ((n : ℕ) → get_or bound n None ≡ None) → ((i : ℕ) (m : TyNode) (n : ℕ) → slice_get nodes i ≡ Some m → variable_of m ≡ Some n → n < length bound) → IsSound nodes bound
IsSound-new nodes bound k free covers =
    record {
      tabled = record {
        parts_in = k.parts_in;
        variables_in = λ x n h. covers x.0 (Var n) n h refl;
        targets_in = λ n y h. absurd (not_bound n y h);
        rising = λ n j y h p. absurd (not_bound n y h);
      };
      solvable = (
        grown nodes k,
        record {
          nodes_are = λ x n h p q. grown_node nodes k x n p ∙ node_tree_head (grow nodes (k.height x)) n h q ∙ ap (Node h) (grown_trees nodes k x n p);
          one_variable = λ x y n p q. grown_node nodes k x (Var n) p ∙ sym (grown_node nodes k y (Var n) q);
          bound_is = λ x y h. (let l = link-number nodes bound x y h in absurd (not_bound l.0 y l.2));
        },
        tt,
      );
    }
  where
    not_bound : (n : ℕ) (y : TyId) → get_or bound n None ≡ Some y → ⊥
    not_bound n y h = let g : None ≡ Some y = sym (free n) ∙ h in cc

-- one place more with the default changes no look-up
pub get_or_push : {A : Type 0} (xs : List A) (d : A) (n : ℕ) → get_or (xs ++ d ∷ []) n d ≡ get_or xs n d
get_or_push [] d zero = refl
get_or_push [] d (suc n) = refl
get_or_push (x ∷ xs) d zero = refl
get_or_push (x ∷ xs) d (suc n) = get_or_push xs d n

-- the same map, with more places
pub IsSound-longer : (nodes : List TyNode) (bound bound' : Bound) → IsSound nodes bound → ((k : ℕ) → get_or bound' k None ≡ get_or bound k None) → length bound ≤ length bound' → IsSound nodes bound'
IsSound-longer nodes bound bound' k same longer =
    record {
      tabled = record {
        parts_in = k.tabled.parts_in;
        variables_in = λ x n h. (let g = k.tabled.variables_in x n h in omega (arith, g, longer));
        targets_in = λ n y h. k.tabled.targets_in n y (sym (same n) ∙ h);
        rising = λ n j y h p. k.tabled.rising n j y (sym (same n) ∙ h) p;
      };
      solvable = (
        k.solvable.0,
        record {
          nodes_are = k.solvable.1.nodes_are;
          one_variable = k.solvable.1.one_variable;
          bound_is = λ x y h. (let l = link-number nodes bound' x y h in k.solvable.1.bound_is x y (ap (option_and_then (λ j. get_or bound j None)) l.1 ∙ sym (same l.0) ∙ l.2));
        },
        tt,
      );
    }

-- Solutions of a table with one node more.
use Rattle.std.proofs.Common.{◌≡◌, ℕ, ◌<◌, ◌⊎◌, true, false, cond, eqb, List, [], ◌∷◌, ◌++◌, length, Some, None, suc, refl, sym, ap, ◌∙◌, inl, inr, ⊎_elim, arith, get_or, length-append, ◌+◌}
use Rattle.std.specs.List.{slice_get}
use Rattle.std.specs.Option.{option_and_then}
use Rattle.std.proofs.lemmas.Option.{slice_get_within}
use Rattle.std.proofs.lemmas.Bool.{eq-eqb}
use Rattle.std.proofs.lemmas.Bool.Decides.{eqb_tells}
use Rattle.ml_types.specs.declared.node.TyId.{TyId}
use Rattle.ml_types.specs.declared.node.TyNode.{TyNode}
use Rattle.ml_types.specs.declared.node.TyNode.TheVariants.{Var}
use Rattle.ml_types.specs.Types.{Head, head_of, parts_of, Tree, Node, Cons, trees}
use Rattle.hm_unify.specs.Solutions.{Bound, node_at, Solves}
use Rattle.hm_unify.proofs.Ends.{link-number, var-number, number-var}
use Rattle.hm_unify.proofs.Starts.{id-from}
use Rattle.hm_unify.proofs.Growth.{at_push}
use Rattle.hm_terms.specs.Stores.{IsClosed}

-- the tree of a new node, over those of the old ones
pub record NewTree (nodes : List TyNode) (bound : Bound) (t : TyId → Tree) (n : TyNode) (tree : Tree) : Type 0 where
  pub built : (h : Head) → head_of n ≡ Some h → tree ≡ Node h (trees t (parts_of n))
  pub variable : (k : ℕ) (x : TyId) → n ≡ Var k → node_at nodes x ≡ Some (Var k) → tree ≡ t x
  pub bound_to : (k : ℕ) (y : TyId) → n ≡ Var k → get_or bound k None ≡ Some y → tree ≡ t y

pub built_tree : (nodes : List TyNode) (bound : Bound) (t : TyId → Tree) (n : TyNode) (h : Head) → head_of n ≡ Some h → NewTree nodes bound t n (Node h (trees t (parts_of n)))
built_tree nodes bound t n h e =
    record {
      built = λ j q. (let g : Some h ≡ Some j = sym e ∙ q in let u : h ≡ j = cc in ap (λ i. Node i (trees t (parts_of n))) u);
      variable = λ k x q p. absurd (let g : None ≡ Some h = sym (ap head_of q) ∙ e in cc);
      bound_to = λ k y q p. absurd (let g : None ≡ Some h = sym (ap head_of q) ∙ e in cc);
    }

pub fresh_tree : (nodes : List TyNode) (bound : Bound) (t : TyId → Tree) (k : ℕ) (w : Tree) → ((x : TyId) → node_at nodes x ≡ Some (Var k) → ⊥) → get_or bound k None ≡ None → NewTree nodes bound t (Var k) w
fresh_tree nodes bound t k w unused free =
    record {
      built = λ h e. absurd cc;
      variable = λ j x e p. absurd (let g : k ≡ j = cc in unused x (p ∙ ap (λ i. Some (Var i)) (sym g)));
      bound_to = λ j y e p. absurd (let g : k ≡ j = cc in let v : None ≡ Some y = sym free ∙ ap (λ i. get_or bound i None) g ∙ p in cc);
    }

pub extended : ℕ → (TyId → Tree) → Tree → TyId → Tree
extended count t w x = cond (eqb x.0 count) w (t x)

pub extended_old : (count : ℕ) (t : TyId → Tree) (w : Tree) (x : TyId) → x.0 < count → extended count t w x ≡ t x
unfolding extended
extended_old count t w x h =
    ⊎_elim
    (λ (e : (eqb x.0 count ≡ true) × (x.0 ≡ count)). absurd (omega (arith, h, e.1)))
    (λ (e : (eqb x.0 count ≡ false) × (x.0 ≡ count → ⊥)). ap (λ b. cond b w (t x)) e.0)
    (eqb_tells x.0 count)

pub extended_new : (count : ℕ) (t : TyId → Tree) (w : Tree) (x : TyId) → x.0 ≡ count → extended count t w x ≡ w
unfolding extended
extended_new count t w x h = ap (λ b. cond b w (t x)) (eq-eqb x.0 count h)

trees_same : (t u : TyId → Tree) (xs : List TyId) → ((i : ℕ) (p : TyId) → slice_get xs i ≡ Some p → t p ≡ u p) → trees t xs ≡ trees u xs
trees_same t u [] h = refl
trees_same t u (x ∷ xs) h = ap (λ v. Cons v (trees t xs)) (h 0 x refl) ∙ ap (Cons (u x)) (trees_same t u xs (λ i p q. h (suc i) p q))

pub Solves-push : (nodes : List TyNode) (bound bound' : Bound) (n : TyNode) (t : TyId → Tree) (tree : Tree) → IsClosed nodes bound → Solves nodes bound t → ((k : ℕ) → get_or bound' k None ≡ get_or bound k None) → ((i : ℕ) (p : TyId) → slice_get (parts_of n) i ≡ Some p → p.0 < length nodes) → NewTree nodes bound t n tree → Solves (nodes ++ n ∷ []) bound' (extended (length nodes) t tree)
Solves-push nodes bound bound' n t tree k s same parts w =
    record {
      nodes_are = λ x m h p q. nodes_by x m h q (at_push nodes n m x.0 p);
      one_variable = λ x y i p q. variable_by x y i (at_push nodes n (Var i) x.0 p) (at_push nodes n (Var i) y.0 q);
      bound_is = λ x y h. (let l = link-number (nodes ++ n ∷ []) bound' x y h in bound_by x y l.0 (sym (same l.0) ∙ l.2) (at_push nodes n (Var l.0) x.0 (number-var (nodes ++ n ∷ []) x l.0 l.1)));
    }
  where
    u : TyId → Tree
    u = extended (length nodes) t tree

    old : (x : TyId) (m : TyNode) → slice_get nodes x.0 ≡ Some m → u x ≡ t x
    old x m p = extended_old (length nodes) t tree x (slice_get_within nodes x.0 m p)

    nodes_by : (x : TyId) (m : TyNode) (h : Head) → head_of m ≡ Some h → (slice_get nodes x.0 ≡ Some m) ⊎ ((x.0 ≡ length nodes) × (n ≡ m)) → u x ≡ Node h (trees u (parts_of m))
    nodes_by x m h q (inl p) =
        old x m p ∙ s.nodes_are x m h p q ∙ ap (Node h) (trees_same t u (parts_of m) (λ i v r. sym (extended_old (length nodes) t tree v (k.parts_in x m i v p r))))
    nodes_by x m h q (inr e) =
        extended_new (length nodes) t tree x e.0 ∙ w.built h (ap head_of e.1 ∙ q) ∙ ap (λ v. Node h (trees t (parts_of v))) e.1
        ∙ ap (Node h) (trees_same t u (parts_of m) (λ i v r. sym (extended_old (length nodes) t tree v (parts i v (ap (λ z. slice_get (parts_of z) i) e.1 ∙ r)))))

    variable_by : (x y : TyId) (i : ℕ) → (slice_get nodes x.0 ≡ Some (Var i)) ⊎ ((x.0 ≡ length nodes) × (n ≡ Var i)) → (slice_get nodes y.0 ≡ Some (Var i)) ⊎ ((y.0 ≡ length nodes) × (n ≡ Var i)) → u x ≡ u y
    variable_by x y i (inl p) (inl q) = old x _ p ∙ s.one_variable x y i p q ∙ sym (old y _ q)
    variable_by x y i (inl p) (inr q) = old x _ p ∙ sym (w.variable i x q.1 p) ∙ sym (extended_new (length nodes) t tree y q.0)
    variable_by x y i (inr p) (inl q) = extended_new (length nodes) t tree x p.0 ∙ w.variable i y p.1 q ∙ sym (old y _ q)
    variable_by x y i (inr p) (inr q) = ap u (id-from x y (p.0 ∙ sym q.0))

    bound_by : (x y : TyId) (i : ℕ) → get_or bound i None ≡ Some y → (slice_get nodes x.0 ≡ Some (Var i)) ⊎ ((x.0 ≡ length nodes) × (n ≡ Var i)) → u x ≡ u y
    bound_by x y i h (inl p) =
        old x _ p ∙ s.bound_is x y (ap (option_and_then (λ j. get_or bound j None)) (var-number nodes x i p) ∙ h) ∙ sym (extended_old (length nodes) t tree y (k.targets_in i y h))
    bound_by x y i h (inr p) =
        extended_new (length nodes) t tree x p.0 ∙ w.bound_to i y p.1 h ∙ sym (extended_old (length nodes) t tree y (k.targets_in i y h))

-- a table with one node more is closed, if the node's parts were there
pub closed_push : (nodes : List TyNode) (bound : Bound) (others : List TyNode) (m : Bound) (n : TyNode) → IsClosed nodes bound → others ≡ nodes ++ n ∷ [] → ((k : ℕ) → get_or m k None ≡ get_or bound k None) → ((i : ℕ) (p : TyId) → slice_get (parts_of n) i ≡ Some p → p.0 < length nodes) → IsClosed others m
closed_push nodes bound others m n k grown same parts =
    record {
      parts_in = λ x j i p h q. parts_by x j i p q (at_push nodes n j x.0 (sym (ap (λ (ns : List TyNode). slice_get ns x.0) grown) ∙ h));
      targets_in = λ j y h. (let w = k.targets_in j y (sym (same j) ∙ h) in omega (arith, w, longer));
    }
  where
    longer : length others ≡ length nodes + 1
    longer = ap length grown ∙ length-append nodes (n ∷ [])

    parts_by : (x : TyId) (j : TyNode) (i : ℕ) (p : TyId) → slice_get (parts_of j) i ≡ Some p → (slice_get nodes x.0 ≡ Some j) ⊎ ((x.0 ≡ length nodes) × (n ≡ j)) → p.0 < length others
    parts_by x j i p q (inl h) = (let w = k.parts_in x j i p h q in omega (arith, w, longer))
    parts_by x j i p q (inr h) = (let w = parts i p (ap (λ z. slice_get (parts_of z) i) h.1 ∙ q) in omega (arith, w, longer))

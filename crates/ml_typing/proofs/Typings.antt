-- Typings through substitutions, and instances of instances.
use Rattle.std.proofs.Common.{◌≡◌, ℕ, ◌≤◌, List, [], ◌∷◌, refl, sym, ap, ◌∙◌, inl, inr, arith, subst}
use Rattle.ml_types.specs.Types.{Tree, Leaf, Node, Trees, Nil, Cons, tree_size, trees_size}
use Rattle.ml_typing.specs.declared.equation.Unknown.{Unknown}
use Rattle.ml_typing.specs.Terms.{Shape, Is, Make, Shapes, no_shapes, shape_and}
use Rattle.ml_typing.specs.Typing.{Assignment, Pair, Satisfies, tree_of, trees_of, at_types, all_at_types, StandsIn, StandsInAny, Occurs, IsInstance, IsPrincipal}
use Rattle.ml_typing.specs.Laws.{through, IsMostGeneral, typing_of}

cons_same : (t r : Tree) (ts rs : Trees) → t ≡ r → ts ≡ rs → Cons t ts ≡ Cons r rs
cons_same t r ts rs p q = cc

-- a type over unknowns through a substitution
mutual
  pub tree_through : (f : ℕ → Tree) (a : Assignment) (s : Shape) → tree_of (through f a) s ≡ at_types f (tree_of a s)
  tree_through f a (Is u) = refl
  tree_through f a (Make h ss) = ap (Node h) (trees_through f a ss)

  pub trees_through : (f : ℕ → Tree) (a : Assignment) (ss : Shapes) → trees_of (through f a) ss ≡ all_at_types f (trees_of a ss)
  trees_through f a no_shapes = refl
  trees_through f a (shape_and s ss) = cons_same _ _ _ _ (tree_through f a s) (trees_through f a ss)

pub typing_through : (f : ℕ → Tree) (a : Assignment) (ps : List Pair) → Satisfies a ps → Satisfies (through f a) ps
typing_through f a [] h = tt
typing_through f a (p ∷ ps) h = (tree_through f a p.0 ∙ ap (at_types f) h.0 ∙ sym (tree_through f a p.1), typing_through f a ps h.1)

-- one substitution after another
mutual
  pub twice : (f g : ℕ → Tree) (t : Tree) → at_types g (at_types f t) ≡ at_types (λ n. at_types g (f n)) t
  twice f g (Leaf n) = refl
  twice f g (Node h ts) = ap (Node h) (all_twice f g ts)

  pub all_twice : (f g : ℕ → Tree) (ts : Trees) → all_at_types g (all_at_types f ts) ≡ all_at_types (λ n. at_types g (f n)) ts
  all_twice f g Nil = refl
  all_twice f g (Cons t ts) = cons_same _ _ _ _ (twice f g t) (all_twice f g ts)

pub instance_of_instance : (a b c : Assignment) (ps : List Pair) → IsInstance a b ps → IsInstance b c ps → IsInstance a c ps
instance_of_instance a b c ps first second = record {
  types = λ n. at_types second.types (first.types n);
  each = λ u occurs. second.each u occurs ∙ ap (at_types second.types) (first.each u occurs) ∙ twice first.types second.types (a u);
}

pub same_instances : (ps : List Pair) (a b c : Assignment) → IsPrincipal ps a → IsPrincipal ps b → IsInstance a c ps → IsInstance b c ps
same_instances ps a b c one other i = instance_of_instance b a c ps (other.instances a one.typing) i

some_size : (t : Tree) → 1 ≤ tree_size t
some_size (Leaf n) = omega arith
some_size (Node h ts) = omega arith

-- a type does not shrink where its variables get other types
mutual
  pub size_grows : (f : ℕ → Tree) (t : Tree) → tree_size t ≤ tree_size (at_types f t)
  size_grows f (Leaf n) = some_size (f n)
  size_grows f (Node h ts) = omega (arith, sizes_grow f ts)

  pub sizes_grow : (f : ℕ → Tree) (ts : Trees) → trees_size ts ≤ trees_size (all_at_types f ts)
  sizes_grow f Nil = omega arith
  sizes_grow f (Cons t ts) = omega (arith, size_grows f t, sizes_grow f ts)

pub least_sizes : (ps : List Pair) (a b : Assignment) → IsPrincipal ps a → Satisfies b ps → (u : Unknown) → Occurs u ps → tree_size (a u) ≤ tree_size (b u)
least_sizes ps a b principal typing u occurs =
    let i : IsInstance a b ps = principal.instances b typing in
    subst (λ t. tree_size (a u) ≤ tree_size t) (sym (i.each u occurs)) (size_grows i.types (a u))

-- assignments that agree on the unknowns of a type
mutual
  pub agree : (a b : Assignment) (s : Shape) → ((v : Unknown) → StandsIn v s → a v ≡ b v) → tree_of a s ≡ tree_of b s
  agree a b (Is u) same = same u refl
  agree a b (Make h ss) same = ap (Node h) (all_agree a b ss same)

  pub all_agree : (a b : Assignment) (ss : Shapes) → ((v : Unknown) → StandsInAny v ss → a v ≡ b v) → trees_of a ss ≡ trees_of b ss
  all_agree a b no_shapes same = refl
  all_agree a b (shape_and s ss) same = cons_same _ _ _ _ (agree a b s (λ v h. same v (inl h))) (all_agree a b ss (λ v h. same v (inr h)))

-- types of numbered unknowns, with the types of an assignment for the numbers
mutual
  pub renumbered : (number : Unknown → ℕ) (unknown : ℕ → Unknown) → ((v : Unknown) → unknown (number v) ≡ v) → (b : Assignment) (s : Shape) → tree_of b s ≡ at_types (λ n. b (unknown n)) (tree_of (λ v. Leaf (number v)) s)
  renumbered number unknown back b (Is u) = ap b (sym (back u))
  renumbered number unknown back b (Make h ss) = ap (Node h) (all_renumbered number unknown back b ss)

  pub all_renumbered : (number : Unknown → ℕ) (unknown : ℕ → Unknown) → ((v : Unknown) → unknown (number v) ≡ v) → (b : Assignment) (ss : Shapes) → trees_of b ss ≡ all_at_types (λ n. b (unknown n)) (trees_of (λ v. Leaf (number v)) ss)
  all_renumbered number unknown back b no_shapes = refl
  all_renumbered number unknown back b (shape_and s ss) = cons_same _ _ _ _ (renumbered number unknown back b s) (all_renumbered number unknown back b ss)

leaf_of : (m : Unknown → Shape) (number : Unknown → ℕ) (v : Unknown) → m v ≡ Is v → Leaf (number v) ≡ typing_of m number v
leaf_of m number v e = sym (ap (tree_of (λ w. Leaf (number w))) e)

pub most_general : (ps : List Pair) (m : Unknown → Shape) (number : Unknown → ℕ) (unknown : ℕ → Unknown) → ((v : Unknown) → unknown (number v) ≡ v) → IsMostGeneral ps m → IsPrincipal ps (typing_of m number)
most_general ps m number unknown back g = record {
  typing = g.solves (typing_of m number) (λ u. agree (λ v. Leaf (number v)) (typing_of m number) (m u) (λ v stands. leaf_of m number v (g.resolved u v stands)));
  instances = λ b typing. record {
    types = λ n. b (unknown n);
    each = λ u occurs. g.forces b typing u ∙ renumbered number unknown back b (m u);
  };
}

-- The types of all ids of a table, from the types that abbreviations stand for.
use Rattle.std.proofs.Common.{◌≡◌, ℕ, List, [], ◌∷◌, map, length, Option, Some, None, slice_get, refl, ap, ◌∙◌}
use Rattle.std.specs.Prelude.{option_map}
use Rattle.ml_types.specs.declared.node.TyId.{TyId}
use Rattle.ml_types.specs.declared.node.TyNode.{TyNode}
use Rattle.ml_types.specs.declared.node.TyNode.TheVariants.{Var, Con, Tuple, Arrow}
use Rattle.ml_types.specs.declared.declared.DeclInfo.{DeclInfo}
use Rattle.ml_types.specs.Types.{Head, ConHead, TupleHead, ArrowHead, head_of, parts_of, Tree, Leaf, Node, Cons, trees}
use Rattle.ml_decls.specs.Tables.{tree_in, trees_of, PartsBefore}
use Rattle.ml_typing.specs.Typing.{at_types, tree_at, alias_of, abbreviated, Reads}
use Rattle.declared_laws.specs.Expanding.{items_of, body_at, applied, expand, expand_all, bodies}
use Rattle.declared_laws.proofs.Tables.{node_tree, headed_tree}

parts_expand : (full : ℕ → Option Tree) (t : TyId → Tree) (xs : List TyId) → expand_all full (trees t xs) ≡ trees (λ x. expand full (t x)) xs
parts_expand full t [] = refl
parts_expand full t (x ∷ xs) = ap (Cons (expand full (t x))) (parts_expand full t xs)

items_of-trees : (t : TyId → Tree) (xs : List TyId) → items_of (trees t xs) ≡ map t xs
items_of-trees t [] = refl
items_of-trees t (x ∷ xs) = ap (λ z. t x ∷ z) (items_of-trees t xs)

-- what the head of a node abbreviates
body_of_head : (decls : List DeclInfo) (nodes : List TyNode) (n : TyNode) (h : Head) → head_of n ≡ Some h → body_at (bodies decls nodes) h ≡ option_map (tree_in (trees_of nodes)) (abbreviated decls n)
body_of_head decls nodes (Var v) h e = absurd cc
body_of_head decls nodes (Con d args) h e = let same : h ≡ ConHead d (length args) = cc in ap (body_at (bodies decls nodes)) same
body_of_head decls nodes (Tuple parts) h e = let same : h ≡ TupleHead (length parts) = cc in ap (body_at (bodies decls nodes)) same
body_of_head decls nodes (Arrow slot from to) h e = let same : h ≡ ArrowHead = cc in ap (body_at (bodies decls nodes)) same

full_of_head : (bodies full : ℕ → Option Tree) → ((d : ℕ) → full d ≡ option_map (expand full) (bodies d)) → (h : Head) → body_at full h ≡ option_map (expand full) (body_at bodies h)
full_of_head bodies full is (ConHead d n) = is d
full_of_head bodies full is (TupleHead n) = refl
full_of_head bodies full is ArrowHead = refl

mapped_twice : (f : Tree → Tree) (g : TyId → Tree) (o : Option TyId) → option_map f (option_map g o) ≡ option_map (λ x. f (g x)) o
mapped_twice f g None = refl
mapped_twice f g (Some x) = refl

-- only a name abbreviates
abbreviation_head : (decls : List DeclInfo) (n : TyNode) (b : TyId) → abbreviated decls n ≡ Some b → (h : Head) × (head_of n ≡ Some h)
abbreviation_head decls (Var v) b e = absurd cc
abbreviation_head decls (Con d args) b e = (ConHead d (length args), refl)
abbreviation_head decls (Tuple parts) b e = absurd cc
abbreviation_head decls (Arrow slot from to) b e = absurd cc

-- where the type of each abbreviation is that of its declaration with all abbreviations in it
-- expanded, the trees of the table with all of them expanded are types of the ids
pub readings : (decls : List DeclInfo) (nodes : List TyNode) → PartsBefore nodes → (full : ℕ → Option Tree) → ((d : ℕ) → full d ≡ option_map (expand full) (bodies decls nodes d)) → Reads decls nodes (λ x. expand full (tree_in (trees_of nodes) x))
readings decls nodes parts full is = record { made = made; expanded = expanded; variable = variable }
  where
    raw : TyId → Tree
    raw x = tree_in (trees_of nodes) x

    declared : TyId → Tree
    declared x = expand full (raw x)

    stood_for : (n : TyNode) (h : Head) → head_of n ≡ Some h → body_at full h ≡ option_map declared (abbreviated decls n)
    stood_for n h q = full_of_head (bodies decls nodes) full is h ∙ ap (option_map (expand full)) (body_of_head decls nodes n h q) ∙ mapped_twice (expand full) raw (abbreviated decls n)

    opened : (x : TyId) (n : TyNode) (h : Head) → slice_get nodes x.0 ≡ Some n → head_of n ≡ Some h → declared x ≡ applied h (trees declared (parts_of n)) (option_map declared (abbreviated decls n))
    opened x n h e q =
        ap (expand full) (node_tree nodes parts x n e ∙ headed_tree (trees_of nodes) n h q)
        ∙ ap (λ z. applied h z (body_at full h)) (parts_expand full raw (parts_of n))
        ∙ ap (applied h (trees declared (parts_of n))) (stood_for n h q)

    made : (x : TyId) (n : TyNode) (h : Head) → slice_get nodes x.0 ≡ Some n → head_of n ≡ Some h → abbreviated decls n ≡ None → declared x ≡ Node h (trees declared (parts_of n))
    made x n h e q a = opened x n h e q ∙ ap (λ z. applied h (trees declared (parts_of n)) (option_map declared z)) a

    expanded : (x : TyId) (n : TyNode) (b : TyId) → slice_get nodes x.0 ≡ Some n → abbreviated decls n ≡ Some b → declared x ≡ at_types (tree_at (map declared (parts_of n))) (declared b)
    expanded x n b e a =
        let h : (h : Head) × (head_of n ≡ Some h) = abbreviation_head decls n b a in
        opened x n h.0 e h.1
        ∙ ap (λ z. applied h.0 (trees declared (parts_of n)) (option_map declared z)) a
        ∙ ap (λ z. at_types (tree_at z) (declared b)) (items_of-trees declared (parts_of n))

    variable : (x : TyId) (v : ℕ) → slice_get nodes x.0 ≡ Some (Var v) → declared x ≡ Leaf v
    variable x v e = ap (expand full) (node_tree nodes parts x (Var v) e)

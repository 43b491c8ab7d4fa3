-- The trees of a table in which the parts of a node stand before it.
use Rattle.std.proofs.Common.{◌≡◌, ℕ, zero, suc, ◌+◌, ◌<◌, List, [], ◌∷◌, ◌++◌, length, Some, slice_get, get_or, refl, sym, ap, ◌∙◌, append_assoc, arith}
use Rattle.std.proofs.lemmas.List.{length-append, get_or_append_left}
use Rattle.ml_types.specs.declared.node.TyId.{TyId}
use Rattle.ml_types.specs.declared.node.TyNode.{TyNode}
use Rattle.ml_types.specs.declared.node.TyNode.TheVariants.{Var, Con, Tuple, Arrow}
use Rattle.ml_types.specs.Types.{Head, ConHead, TupleHead, ArrowHead, head_of, parts_of, Tree, Leaf, Node, Cons, trees}
use Rattle.ml_decls.specs.Tables.{tree_in, tree_of, trees_from, trees_of, PartsBefore}

trees_agree : (f g : TyId → Tree) (xs : List TyId) → ((k : ℕ) (p : TyId) → slice_get xs k ≡ Some p → f p ≡ g p) → trees f xs ≡ trees g xs
trees_agree f g [] same = refl
trees_agree f g (x ∷ xs) same = ap (λ z. Cons z (trees f xs)) (same 0 x refl) ∙ ap (Cons (g x)) (trees_agree f g xs (λ k p e. same (suc k) p e))

-- the type of a node depends on those of its parts
tree_agrees : (ts us : List Tree) (n : TyNode) → ((k : ℕ) (p : TyId) → slice_get (parts_of n) k ≡ Some p → tree_in ts p ≡ tree_in us p) → tree_of ts n ≡ tree_of us n
tree_agrees ts us (Var v) same = refl
tree_agrees ts us (Con d args) same = ap (Node (ConHead d (length args))) (trees_agree (tree_in ts) (tree_in us) args same)
tree_agrees ts us (Tuple parts) same = ap (Node (TupleHead (length parts))) (trees_agree (tree_in ts) (tree_in us) parts same)
tree_agrees ts us (Arrow slot from to) same = ap (Node ArrowHead) (trees_agree (tree_in ts) (tree_in us) (from ∷ to ∷ []) same)

-- the trees go on behind those that were there
record Continues (ts us : List Tree) : Type 0 where
  more : List Tree
  is : us ≡ ts ++ more

continued : (ts : List Tree) (ns : List TyNode) → Continues ts (trees_from ts ns)
continued ts [] = record { more = []; is = nothing ts }
  where
    nothing : (xs : List Tree) → xs ≡ xs ++ []
    nothing [] = refl
    nothing (x ∷ xs) = ap (λ z. x ∷ z) (nothing xs)
continued ts (n ∷ ns) =
    let r : Continues (ts ++ tree_of ts n ∷ []) (trees_from (ts ++ tree_of ts n ∷ []) ns) = continued (ts ++ tree_of ts n ∷ []) ns in
    record { more = tree_of ts n ∷ r.more; is = r.is ∙ append_assoc ts (tree_of ts n ∷ []) r.more }

-- where the tree of a node stands
record Stands (ts : List Tree) (i : ℕ) (n : TyNode) (whole : List Tree) : Type 0 where
  before : List Tree
  more : List Tree
  is : whole ≡ before ++ tree_of before n ∷ more
  place : length before ≡ length ts + i

stands_at : (ts : List Tree) (ns : List TyNode) (i : ℕ) (n : TyNode) → slice_get ns i ≡ Some n → Stands ts i n (trees_from ts ns)
stands_at ts [] i n e = absurd cc
stands_at ts (m ∷ ns) zero n e =
    let same : m ≡ n = cc in
    let r : Continues (ts ++ tree_of ts m ∷ []) (trees_from (ts ++ tree_of ts m ∷ []) ns) = continued (ts ++ tree_of ts m ∷ []) ns in
    record { before = ts; more = r.more; is = r.is ∙ append_assoc ts (tree_of ts m ∷ []) r.more ∙ ap (λ z. ts ++ tree_of ts z ∷ r.more) same; place = omega arith }
stands_at ts (m ∷ ns) (suc i) n e =
    let r : Stands (ts ++ tree_of ts m ∷ []) i n (trees_from (ts ++ tree_of ts m ∷ []) ns) = stands_at (ts ++ tree_of ts m ∷ []) ns i n e in
    record { before = r.before; more = r.more; is = r.is; place = omega (arith, r.place, length-append ts (tree_of ts m ∷ [])) }

at_length : (xs : List Tree) (x : Tree) (ys : List Tree) (d : Tree) → get_or (xs ++ x ∷ ys) (length xs) d ≡ x
at_length [] x ys d = refl
at_length (y ∷ xs) x ys d = at_length xs x ys d

-- the tree of a node, from those of its parts
pub node_tree : (nodes : List TyNode) → PartsBefore nodes → (x : TyId) (n : TyNode) → slice_get nodes x.0 ≡ Some n → tree_in (trees_of nodes) x ≡ tree_of (trees_of nodes) n
node_tree nodes parts x n e =
    let at : length r.before ≡ x.0 = omega (arith, r.place) in
    ap (λ z. tree_in z x) r.is ∙ ap (λ i. get_or (r.before ++ tree_of r.before n ∷ r.more) i (Leaf 0)) (sym at) ∙ at_length r.before (tree_of r.before n) r.more (Leaf 0) ∙ tree_agrees r.before (trees_of nodes) n same
  where
    r : Stands [] x.0 n (trees_of nodes)
    r = stands_at [] nodes x.0 n e

    same : (k : ℕ) (p : TyId) → slice_get (parts_of n) k ≡ Some p → tree_in r.before p ≡ tree_in (trees_of nodes) p
    same k p q =
        let less : p.0 < x.0 = parts x.0 n k p e q in
        sym (ap (λ z. tree_in z p) r.is ∙ get_or_append_left r.before (tree_of r.before n ∷ r.more) (Leaf 0) p.0 (omega (arith, less, r.place)))

-- the same by the head
pub headed_tree : (ts : List Tree) (n : TyNode) (h : Head) → head_of n ≡ Some h → tree_of ts n ≡ Node h (trees (tree_in ts) (parts_of n))
headed_tree ts (Var v) h e = absurd cc
headed_tree ts (Con d args) h e = let same : ConHead d (length args) ≡ h = cc in ap (λ z. Node z (trees (tree_in ts) args)) same
headed_tree ts (Tuple parts) h e = let same : TupleHead (length parts) ≡ h = cc in ap (λ z. Node z (trees (tree_in ts) parts)) same
headed_tree ts (Arrow slot from to) h e = let same : ArrowHead ≡ h = cc in ap (λ z. Node z (trees (tree_in ts) (from ∷ to ∷ []))) same

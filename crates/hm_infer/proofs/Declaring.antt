-- Declared types whose abbreviations are expanded: what stays while the solver grows, and the ids of nodes
-- and of abbreviations.
use Rattle.std.proofs.Common.{◌≡◌, ℕ, zero, suc, List, [], ◌∷◌, length, map, Option, Some, None, IfSome, Bor, refl, sym, ap, ◌∙◌, subst, inl}
use Rattle.ml_types.specs.declared.node.TyId.{TyId}
use Rattle.ml_types.specs.declared.node.TyNode.{TyNode}
use Rattle.ml_types.specs.declared.node.TyNode.TheVariants.{Var, Con, Tuple, Arrow}
use Rattle.ml_types.specs.Types.{Head, ConHead, TupleHead, ArrowHead, head_of, parts_of, Tree, Leaf, Node, Trees, Nil, Cons, trees}
use Rattle.ml_typing.specs.declared.equation.Unknown.TheVariants.{Fresh}
use Rattle.ml_typing.specs.Terms.{Shape, Is, Make, Shapes, shape_and, shapes, with_shapes, all_with_shapes, at_fresh, shape_at}
use Rattle.ml_typing.specs.Typing.{Assignment, tree_of, trees_of, at_types, all_at_types, tree_at}
use Rattle.hm_unify.specs.Solutions.{Stands, variable}
use Rattle.hm_unify.specs.States.{IsSound}
use Rattle.hm_terms.specs.Stores.{Store, Reading, IsReady, Grows, AddsNode}
use Rattle.hm_terms.specs.Shapes.{Holds, HoldAll, Lowers, Puts}
use Rattle.hm_terms.specs.declared.instances.Put.TheVariants as p
use Rattle.hm_terms.specs.Copies.{AreCopies}
use Rattle.hm_terms.proofs.Growth.{longer, stands_grow, stands_within}
use Rattle.hm_terms.proofs.Holding.{holds_grows, knows_lowers, node_lowers}
use Rattle.hm_terms.proofs.Rebuilding.{same_count}
use Rattle.hm_infer.specs.Declaring.{IsBuilt, IsVariable, AreNamed, AllNamed, Expands, AreExpanded, Finds}
use Rattle.hm_infer.proofs.Shown.{shown, shown_reading, tree_unique, Standing}

-- ---- as the solver grows

mutual
  named_grows : (old new : Store) → IsReady old → Grows old new → (w : Tree) → AreNamed old w → AreNamed new w
  named_grows old new r g (Leaf n) k = (k.0, g.ids (Fresh 0 n) k.0 k.1, stands_grow old new (longer old new g) r.closed k.0 (Leaf n) k.2)
  named_grows old new r g (Node h ts) k = all_named_grow old new r g ts k

  all_named_grow : (old new : Store) → IsReady old → Grows old new → (ts : Trees) → AllNamed old ts → AllNamed new ts
  all_named_grow old new r g Nil k = tt
  all_named_grow old new r g (Cons t ts) k = (named_grows old new r g t k.0, all_named_grow old new r g ts k.1)

expands_grows : (old new : Store) → IsReady old → Grows old new → (w : Tree) (y : TyId) → Expands old w y → Expands new w y
expands_grows old new r g w y k = record { holds = holds_grows old new r g (at_fresh 0 w) y k.holds; named = named_grows old new r g w k.named }

pub expanded_grows : (first old new : Store) (declared : TyId → Tree) → Grows old new → AreExpanded first old declared → AreExpanded first new declared
expanded_grows first old new declared g k = record {
  ready = g.ready k.ready;
  free = λ n. g.bound n ∙ k.free n;
  each = λ x y p. expands_grows old new k.ready g (declared x) y (k.each x y (sym (g.names.declared x.0) ∙ p));
  schemes = λ b. g.names.schemes b ∙ k.schemes b;
  operations = g.names.operations ∙ k.operations;
}

-- ---- the tree for which an id stands

mutual
  named_tree : (s : Store) (t : TyId → Tree) (a : Assignment) → Reading s t a → Standing s.nodes s.bound t → (w : Tree) → AreNamed s w → tree_of a (at_fresh 0 w) ≡ w
  named_tree s t a r each (Leaf n) k =
      sym (r.reads (Fresh 0 n) k.0 k.1) ∙ tree_unique s.nodes s.bound k.0 (t k.0) (Leaf n) (each k.0 (stands_within s k.0 (Leaf n) k.2)) k.2
  named_tree s t a r each (Node h ts) k = ap (Node h) (named_trees s t a r each ts k)

  named_trees : (s : Store) (t : TyId → Tree) (a : Assignment) → Reading s t a → Standing s.nodes s.bound t → (ts : Trees) → AllNamed s ts → trees_of a (all_with_shapes (λ v. Is (Fresh 0 v)) ts) ≡ ts
  named_trees s t a r each Nil k = refl
  named_trees s t a r each (Cons w ts) k =
      ap (λ z. Cons z (trees_of a (all_with_shapes (λ v. Is (Fresh 0 v)) ts))) (named_tree s t a r each w k.0) ∙ ap (Cons w) (named_trees s t a r each ts k.1)

pub expands_stands : (s : Store) → IsReady s → IsSound s.nodes s.bound → (w : Tree) (y : TyId) → Expands s w y → Stands s.nodes s.bound y w
expands_stands s r k w y e =
    let a = shown s r k in
    let c = shown_reading s a.0 r k a.1 in
    let is : c.0 y ≡ w = e.holds.of c.0 a.0 c.1 ∙ named_tree s c.0 a.0 c.1 c.2 w e.named in
    subst (Stands s.nodes s.bound y) is (c.2 y e.holds.within)

-- ---- parts that have ids

abbrev Each : Store → (TyId → Tree) → Type 0
Each s declared = (x y : TyId) → s.declared x.0 ≡ Some y → Expands s (declared x) y

part_shape : (TyId → Tree) → TyId → Shape
part_shape declared p = at_fresh 0 (declared p)

hold_ids : (s : Store) (declared : TyId → Tree) → Each s declared → (ps ys : List TyId) → AreCopies s.declared ps ys → HoldAll s (map (part_shape declared) ps) ys
unfolding part_shape
hold_ids s declared each [] [] are = tt
hold_ids s declared each [] (y ∷ ys) are = absurd (let e : [] ≡ Some y ∷ map Some ys = are in cc)
hold_ids s declared each (p ∷ ps) [] are = absurd (let e : s.declared p.0 ∷ map (λ (q : TyId). s.declared q.0) ps ≡ [] = are in cc)
hold_ids s declared each (p ∷ ps) (y ∷ ys) are =
    let e : s.declared p.0 ∷ map (λ (q : TyId). s.declared q.0) ps ≡ Some y ∷ map Some ys = are in
    let here : s.declared p.0 ≡ Some y = cc in
    let rest : map (λ (q : TyId). s.declared q.0) ps ≡ map Some ys = cc in
    ((each p y here).holds, hold_ids s declared each ps ys rest)

named_ids : (s : Store) (declared : TyId → Tree) → Each s declared → (ps ys : List TyId) → AreCopies s.declared ps ys → AllNamed s (trees declared ps)
named_ids s declared each [] ys are = tt
named_ids s declared each (p ∷ ps) [] are = absurd (let e : s.declared p.0 ∷ map (λ (q : TyId). s.declared q.0) ps ≡ [] = are in cc)
named_ids s declared each (p ∷ ps) (y ∷ ys) are =
    let e : s.declared p.0 ∷ map (λ (q : TyId). s.declared q.0) ps ≡ Some y ∷ map Some ys = are in
    let here : s.declared p.0 ≡ Some y = cc in
    let rest : map (λ (q : TyId). s.declared q.0) ps ≡ map Some ys = cc in
    ((each p y here).named, named_ids s declared each ps ys rest)

part_shapes : (declared : TyId → Tree) (ps : List TyId) → shapes (map (part_shape declared) ps) ≡ all_with_shapes (λ v. Is (Fresh 0 v)) (trees declared ps)
unfolding part_shape
part_shapes declared [] = refl
part_shapes declared (p ∷ ps) = ap (shape_and (at_fresh 0 (declared p))) (part_shapes declared ps)

-- ---- a node

node_found : (old new : Store) (declared : TyId → Tree) (w : Tree) (n m : TyNode) (h : Head) (x : TyId) → head_of n ≡ Some h → head_of m ≡ Some h → AreCopies old.declared (parts_of n) (parts_of m) → AddsNode old new m x → IsBuilt declared n w → Finds old new declared w (Some x)
node_found old new declared w n m h x from to are a b = λ first k. answer first k
  where
    answer : (first : Store) → AreExpanded first old declared → AreExpanded first new declared × Expands new w x
    answer first k =
        let l = node_lowers old new m h x k.ready a to (map (part_shape declared) (parts_of n)) (hold_ids old declared k.each (parts_of n) (parts_of m) are) in
        let is : w ≡ Node h (trees declared (parts_of n)) = b.made h from in
        let holds : Holds new (at_fresh 0 (Node h (trees declared (parts_of n)))) x = subst (λ (ss : Shapes). Holds new (Make h ss) x) (part_shapes declared (parts_of n)) l.holds in
        let named : AreNamed new (Node h (trees declared (parts_of n))) = all_named_grow old new k.ready l.grows (trees declared (parts_of n)) (named_ids old declared k.each (parts_of n) (parts_of m) are) in
        (expanded_grows first old new declared l.grows k, subst (λ (v : Tree). Expands new v x) (sym is) (record { holds = holds; named = named }))

pub con_found : (old new : Store) (declared : TyId → Tree) (w : Tree) (node : TyNode) (d : ℕ) (ps ys : List TyId) (x : TyId) → node ≡ Con d ps → AreCopies old.declared ps ys → AddsNode old new (Con d ys) x → IsBuilt declared node w → Finds old new declared w (Some x)
con_found old new declared w node d ps ys x e are a b =
    node_found old new declared w (Con d ps) (Con d ys) (ConHead d (length ps)) x refl (ap (λ n. Some (ConHead d n)) (same_count old.declared ps ys are)) are a (subst (λ n. IsBuilt declared n w) e b)

pub tuple_found : (old new : Store) (declared : TyId → Tree) (w : Tree) (node : TyNode) (ps ys : List TyId) (x : TyId) → node ≡ Tuple ps → AreCopies old.declared ps ys → AddsNode old new (Tuple ys) x → IsBuilt declared node w → Finds old new declared w (Some x)
tuple_found old new declared w node ps ys x e are a b =
    node_found old new declared w (Tuple ps) (Tuple ys) (TupleHead (length ps)) x refl (ap (λ n. Some (TupleHead n)) (same_count old.declared ps ys are)) are a (subst (λ n. IsBuilt declared n w) e b)

pub arrow_found : (old new : Store) (declared : TyId → Tree) (w : Tree) (node : TyNode) (slot : ℕ) (p q y z x : TyId) → node ≡ Arrow slot p q → Some y ≡ old.declared p.0 → Some z ≡ old.declared q.0 → AddsNode old new (Arrow slot y z) x → IsBuilt declared node w → Finds old new declared w (Some x)
arrow_found old new declared w node slot p q y z x e one other a b =
    let are : AreCopies old.declared (p ∷ q ∷ []) (y ∷ z ∷ []) = ap (λ o. o ∷ old.declared q.0 ∷ []) (sym one) ∙ ap (λ o. Some y ∷ o ∷ []) (sym other) in
    node_found old new declared w (Arrow slot p q) (Arrow slot y z) ArrowHead x refl refl are a (subst (λ n. IsBuilt declared n w) e b)

pub variable_found : (s : Store) (declared : TyId → Tree) (w : Tree) (node : TyNode) (n : ℕ) (o : Option TyId) → node ≡ Var n → IfSome o (λ x. IsVariable s n x) → IsBuilt declared node w → Finds s s declared w o
variable_found s declared w node n None e h b = λ first k. (k, tt)
variable_found s declared w node n (Some x) e h b = λ first k. (k, subst (λ (v : Tree). Expands s v x) (sym (b.variable n e)) (expands k.ready))
  where
    expands : IsReady s → Expands s (Leaf n) x
    expands r = record { holds = (knows_lowers s s (Fresh 0 n) x r (inl (h.0, refl))).holds; named = (x, h.0, variable x h.1.0 n h.1.1 h.1.2) }

pub none_found : (s : Store) (declared : TyId → Tree) (w : Tree) → Finds s s declared w None
none_found s declared w = λ first k. (k, tt)

-- ---- an abbreviation

mutual
  with_at : (f : ℕ → Shape) (g : ℕ → Tree) → ((n : ℕ) → f n ≡ at_fresh 0 (g n)) → (w : Tree) → with_shapes f w ≡ at_fresh 0 (at_types g w)
  with_at f g e (Leaf n) = e n
  with_at f g e (Node h ts) = ap (Make h) (all_with_at f g e ts)

  all_with_at : (f : ℕ → Shape) (g : ℕ → Tree) → ((n : ℕ) → f n ≡ at_fresh 0 (g n)) → (ts : Trees) → all_with_shapes f ts ≡ all_with_shapes (λ v. Is (Fresh 0 v)) (all_at_types g ts)
  all_with_at f g e Nil = refl
  all_with_at f g e (Cons t ts) = ap (λ z. shape_and z (all_with_shapes f ts)) (with_at f g e t) ∙ ap (shape_and (at_fresh 0 (at_types g t))) (all_with_at f g e ts)

argument_at : (declared : TyId → Tree) (ps : List TyId) (n : ℕ) → shape_at (map (part_shape declared) ps) n ≡ at_fresh 0 (tree_at (map declared ps) n)
unfolding part_shape
argument_at declared [] n = refl
argument_at declared (p ∷ ps) zero = refl
argument_at declared (p ∷ ps) (suc n) = argument_at declared ps n

mutual
  named_at : (s : Store) (g : ℕ → Tree) → ((n : ℕ) → AreNamed s (g n)) → (w : Tree) → AreNamed s (at_types g w)
  named_at s g k (Leaf n) = k n
  named_at s g k (Node h ts) = all_named_at s g k ts

  all_named_at : (s : Store) (g : ℕ → Tree) → ((n : ℕ) → AreNamed s (g n)) → (ts : Trees) → AllNamed s (all_at_types g ts)
  all_named_at s g k Nil = tt
  all_named_at s g k (Cons t ts) = (named_at s g k t, all_named_at s g k ts)

named_argument : (s : Store) (declared : TyId → Tree) (ps : List TyId) → AllNamed s (trees declared ps) → (n : ℕ) → AreNamed s (tree_at (map declared ps) n)
named_argument s declared [] k n = tt
named_argument s declared (p ∷ ps) k zero = k.0
named_argument s declared (p ∷ ps) k (suc n) = named_argument s declared ps k.1 n

-- an instance of a body, at arguments that have ids
pub record IsExpansion (old new : Store) (body : TyId) (parts : List TyId) (x : TyId) : Type 0 where
  pub root : TyId
  pub has_root : old.declared body.0 ≡ Some root
  pub arguments : List TyId
  pub are : AreCopies old.declared parts arguments
  pub lowers : (shapes : List Shape) (w : Tree) → IsReady old → HoldAll old shapes arguments → Stands old.nodes old.bound root w → Lowers old new (with_shapes (shape_at shapes) w) x

pub expansion_found : (old new : Store) (declared : TyId → Tree) (body : TyId) (parts : List TyId) (x : TyId) → IsSound old.nodes old.bound → IsExpansion old new body parts x → Finds old new declared (at_types (tree_at (map declared parts)) (declared body)) (Some x)
expansion_found old new declared body parts x sound i = λ first k. answer first k
  where
    answer : (first : Store) → AreExpanded first old declared → AreExpanded first new declared × Expands new (at_types (tree_at (map declared parts)) (declared body)) x
    answer first k =
        let root = k.each body i.root i.has_root in
        let stands = expands_stands old k.ready sound (declared body) i.root root in
        let l = i.lowers (map (part_shape declared) parts) (declared body) k.ready (hold_ids old declared k.each parts i.arguments i.are) stands in
        let named = named_at old (tree_at (map declared parts)) (named_argument old declared parts (named_ids old declared k.each parts i.arguments i.are)) (declared body) in (
          expanded_grows first old new declared l.grows k,
          record {
            holds = subst (λ (h : Shape). Holds new h x) (with_at (shape_at (map (part_shape declared) parts)) (tree_at (map declared parts)) (argument_at declared parts) (declared body)) l.holds;
            named = named_grows old new k.ready l.grows (at_types (tree_at (map declared parts)) (declared body)) named;
          },
        )

-- ---- ids that were found

pub some_ids : (s : Store) (slice parts : List TyId) (o : Option (List TyId)) (ids : List TyId) → slice ≡ parts → IfSome o (λ ys. AreCopies s.declared slice ys) → o ≡ Some ids → AreCopies s.declared parts ids
some_ids s slice parts o ids e h is = subst (λ (ps : List TyId). AreCopies s.declared ps ids) e (subst (λ (q : Option (List TyId)). IfSome q (λ ys. AreCopies s.declared slice ys)) is h)

pub expansion_at : (old new : Store) (declared : TyId → Tree) (node : TyNode) (number : ℕ) (body root x : TyId) (parts arguments : List TyId) (args : Bor (List TyId)) → node ≡ Con number parts → Some root ≡ old.declared body.0 → AreCopies old.declared parts arguments → args.now ≡ arguments → IsSound old.nodes old.bound → ((f : ℕ → Shape) (w : Tree) → IsReady old → Puts old (p.Arguments args) f → Stands old.nodes old.bound root w → Lowers old new (with_shapes f w) x) → Finds old new declared (at_types (tree_at (map declared (parts_of node))) (declared body)) (Some x)
expansion_at old new declared node number body root x parts arguments args e has are same sound lowers =
    subst (λ (n : TyNode). Finds old new declared (at_types (tree_at (map declared (parts_of n))) (declared body)) (Some x)) (sym e)
    (expansion_found old new declared body parts x sound (record {
      root = root;
      has_root = sym has;
      arguments = arguments;
      are = are;
      lowers = λ hs w r hold stands. lowers (shape_at hs) w r (hs, subst (HoldAll old hs) (sym same) hold, λ n. refl) stands;
    }))

-- Tables that grow at their end, and the types of their ids.
use Rattle.std.proofs.Common.{◌≡◌, ℕ, zero, suc, ◌+◌, ◌<◌, ◌≤◌, ◌⊎◌, inl, inr, List, [], ◌∷◌, ◌++◌, length, map, take, Some, Result, Ok, Err, OnOk, OnErr, slice_get, get_or, refl, sym, ap, ◌∙◌, subst, append_assoc, arith}
use Rattle.std.proofs.lemmas.Option.{slice_get_within, get_or_from_slice_get}
use Rattle.std.proofs.lemmas.List.{length-append, take_all}
use Rattle.std.proofs.Math.Seq.{take-suc}
use Rattle.std.proofs.Common.{add-one}
use Rattle.ml_types.specs.declared.node.TyId.{TyId}
use Rattle.ml_types.specs.declared.node.TyNode.{TyNode}
use Rattle.ml_types.specs.declared.node.TyNode.TheVariants.{Var, Con, Tuple, Arrow}
use Rattle.ml_types.specs.Types.{ConHead, TupleHead, ArrowHead, parts_of, Tree, Leaf, Node, Nil, Cons, trees}
use Rattle.ml_decls.specs.Said.{listed}
use Rattle.ml_decls.specs.Tables.{tree_in, tree_of, trees_from, trees_of, HasType, PartsBefore, slot_of, slots, OwnSlots, IsMaking, Each, Grows}

-- ---- reads after a push

pub kept : {X : Type 0} → (xs ys : List X) (i : ℕ) (a : X) → slice_get xs i ≡ Some a → slice_get (xs ++ ys) i ≡ Some a
kept [] ys i a e = absurd cc
kept (x ∷ xs) ys zero a e = e
kept (x ∷ xs) ys (suc i) a e = kept xs ys i a e

pub at_end : {X : Type 0} → (xs : List X) (x : X) → slice_get (xs ++ x ∷ []) (length xs) ≡ Some x
at_end [] x = refl
at_end (y ∷ xs) x = at_end xs x

pub pushed : {X : Type 0} → (xs : List X) (x a : X) (i : ℕ) → slice_get (xs ++ x ∷ []) i ≡ Some a → (slice_get xs i ≡ Some a) ⊎ ((i ≡ length xs) × (a ≡ x))
pushed [] x a zero e = let h : a ≡ x = cc in inr (refl, h)
pushed [] x a (suc i) e = absurd cc
pushed (y ∷ xs) x a zero e = inl e
pushed (y ∷ xs) x a (suc i) e = elim (pushed xs x a i e) [ inl h ↦ inl h | inr h ↦ let n : suc i ≡ length (y ∷ xs) = ap suc h.0 in inr (n, h.1) ]

-- ---- growth

pub grows_not : (nodes : List TyNode) → Grows nodes nodes
grows_not nodes = record { more = []; is = nothing nodes }
  where
    nothing : (xs : List TyNode) → xs ≡ xs ++ []
    nothing [] = refl
    nothing (x ∷ xs) = ap (λ z. x ∷ z) (nothing xs)

pub grows_on : (one two three : List TyNode) → Grows one two → Grows two three → Grows one three
grows_on one two three g h = record { more = g.more ++ h.more; is = h.is ∙ ap (λ z. z ++ h.more) g.is ∙ append_assoc one g.more h.more }

pub grows_push : (before after : List TyNode) (node : TyNode) → after ≡ before ++ node ∷ [] → Grows before after
grows_push before after node e = record { more = node ∷ []; is = e }

-- ---- the types of the ids

trees_from_append : (ts : List Tree) (xs ys : List TyNode) → trees_from ts (xs ++ ys) ≡ trees_from (trees_from ts xs) ys
trees_from_append ts [] ys = refl
trees_from_append ts (x ∷ xs) ys = trees_from_append (ts ++ tree_of ts x ∷ []) xs ys

trees_from_length : (ts : List Tree) (xs : List TyNode) → length (trees_from ts xs) ≡ length ts + length xs
trees_from_length ts [] = omega arith
trees_from_length ts (x ∷ xs) = let e : length (trees_from (ts ++ tree_of ts x ∷ []) xs) ≡ length (ts ++ tree_of ts x ∷ []) + length xs = trees_from_length (ts ++ tree_of ts x ∷ []) xs in omega (arith, e, length-append ts (tree_of ts x ∷ []))

trees_from_keeps : (ts : List Tree) (xs : List TyNode) (i : ℕ) (t : Tree) → slice_get ts i ≡ Some t → slice_get (trees_from ts xs) i ≡ Some t
trees_from_keeps ts [] i t e = e
trees_from_keeps ts (x ∷ xs) i t e = trees_from_keeps (ts ++ tree_of ts x ∷ []) xs i t (kept ts (tree_of ts x ∷ []) i t e)

pub trees_length : (nodes : List TyNode) → length (trees_of nodes) ≡ length nodes
trees_length nodes = let e : length (trees_from [] nodes) ≡ length {A = Tree} [] + length nodes = trees_from_length [] nodes in omega (arith, e)

pub type_grows : (before after : List TyNode) (x : TyId) (t : Tree) → Grows before after → HasType before x t → HasType after x t
type_grows before after x t g h = subst (λ (z : List TyNode). HasType z x t) (sym g.is) (subst (λ (z : List Tree). slice_get z x.0 ≡ Some t) (sym (trees_from_append [] before g.more)) (trees_from_keeps (trees_of before) g.more x.0 t h))

pub type_within : (nodes : List TyNode) (x : TyId) (t : Tree) → HasType nodes x t → x.0 < length nodes
type_within nodes x t h = let n : x.0 < length (trees_of nodes) = slice_get_within (trees_of nodes) x.0 t h in omega (arith, trees_length nodes)

type_pushed : (nodes : List TyNode) (node : TyNode) (x : TyId) → x.0 ≡ length nodes → HasType (nodes ++ node ∷ []) x (tree_of (trees_of nodes) node)
type_pushed nodes node x e =
    let grown : trees_of (nodes ++ node ∷ []) ≡ trees_of nodes ++ tree_of (trees_of nodes) node ∷ [] = trees_from_append [] nodes (node ∷ []) in
    let place : x.0 ≡ length (trees_of nodes) = e ∙ sym (trees_length nodes) in
    subst (λ (z : List Tree). slice_get z x.0 ≡ Some (tree_of (trees_of nodes) node)) (sym grown) (subst (λ (n : ℕ). slice_get (trees_of nodes ++ tree_of (trees_of nodes) node ∷ []) n ≡ Some (tree_of (trees_of nodes) node)) (sym place) (at_end (trees_of nodes) (tree_of (trees_of nodes) node)))

tree_is : (nodes : List TyNode) (x : TyId) (t : Tree) → HasType nodes x t → tree_in (trees_of nodes) x ≡ t
tree_is nodes x t h = get_or_from_slice_get (trees_of nodes) x.0 t (Leaf 0) h

trees_are : (nodes : List TyNode) (xs : List TyId) (ts : List Tree) → Each (HasType nodes) xs ts → trees (tree_in (trees_of nodes)) xs ≡ listed ts
trees_are nodes [] [] h = refl
trees_are nodes [] (t ∷ ts) h = absurd h
trees_are nodes (x ∷ xs) [] h = absurd h
trees_are nodes (x ∷ xs) (t ∷ ts) h = ap (λ z. Cons z (trees (tree_in (trees_of nodes)) xs)) (tree_is nodes x t h.0) ∙ ap (λ z. Cons t z) (trees_are nodes xs ts h.1)

-- ---- lists that are related item by item

pub each_length : {A B : Type 0} → (R : A → B → Type 0) (xs : List A) (ys : List B) → Each R xs ys → length xs ≡ length ys
each_length R [] [] h = refl
each_length R [] (y ∷ ys) h = absurd h
each_length R (x ∷ xs) [] h = absurd h
each_length R (x ∷ xs) (y ∷ ys) h = ap suc (each_length R xs ys h.1)

pub each_weaker : {A B : Type 0} → (R S : A → B → Type 0) (xs : List A) (ys : List B) → ((x : A) (y : B) → R x y → S x y) → Each R xs ys → Each S xs ys
each_weaker R S [] [] f h = h
each_weaker R S [] (y ∷ ys) f h = h
each_weaker R S (x ∷ xs) [] f h = h
each_weaker R S (x ∷ xs) (y ∷ ys) f h = (f x y h.0, each_weaker R S xs ys f h.1)

pub each_append : {A B : Type 0} → (R : A → B → Type 0) (xs xs' : List A) (ys ys' : List B) → Each R xs ys → Each R xs' ys' → Each R (xs ++ xs') (ys ++ ys')
each_append R [] xs' [] ys' h k = k
each_append R [] xs' (y ∷ ys) ys' h k = absurd h
each_append R (x ∷ xs) xs' [] ys' h k = absurd h
each_append R (x ∷ xs) xs' (y ∷ ys) ys' h k = (h.0, each_append R xs xs' ys ys' h.1 k)

-- a loop relates one item more
pub each_step : {A B C : Type 0} → (R : A → B → Type 0) (g : C → B) (list : List C) (i : ℕ) (item : C) (xs next : List A) (x : A) → i < length list → item ≡ get_or list i item → Each R xs (map g (take i list)) → R x (g item) → next ≡ xs ++ x ∷ [] → Each R next (map g (take (i + 1) list))
each_step {A = A} {B = B} {C = C} R g list i item xs next x h is so_far here e =
    subst (λ (z : List A). Each R z (map g (take (i + 1) list))) (sym e) (subst (λ (z : List B). Each R (xs ++ x ∷ []) z) (sym taken) (each_append R xs (x ∷ []) (map g (take i list)) (g item ∷ []) so_far (here, tt)))
  where
    map_append : (ps qs : List C) → map g (ps ++ qs) ≡ map g ps ++ map g qs
    map_append [] qs = refl
    map_append (p ∷ ps) qs = ap (λ z. g p ∷ z) (map_append ps qs)

    taken : map g (take (i + 1) list) ≡ map g (take i list) ++ g item ∷ []
    taken = ap (λ n. map g (take n list)) (add-one i) ∙ ap (map g) (take-suc list i item h) ∙ map_append (take i list) (get_or list i item ∷ []) ∙ ap (λ z. map g (take i list) ++ g z ∷ []) (sym is)

pub each_end : {A B C : Type 0} → (R : A → B → Type 0) (g : C → B) (list : List C) (i : ℕ) (xs : List A) → length list ≤ i → Each R xs (map g (take i list)) → Each R xs (map g list)
each_end {C = C} R g list i xs h all = subst (λ (z : List C). Each R xs (map g z)) (take_all i list h) all

-- ---- nodes

pub parts_within : (nodes : List TyNode) (xs : List TyId) (ts : List Tree) → Each (HasType nodes) xs ts → (k : ℕ) (p : TyId) → slice_get xs k ≡ Some p → p.0 < length nodes
parts_within nodes [] [] h k p e = absurd cc
parts_within nodes [] (t ∷ ts) h k p e = absurd h
parts_within nodes (x ∷ xs) [] h k p e = absurd h
parts_within nodes (x ∷ xs) (t ∷ ts) h zero p e = let same : x ≡ p = cc in subst (λ (z : TyId). z.0 < length nodes) same (type_within nodes x t h.0)
parts_within nodes (x ∷ xs) (t ∷ ts) h (suc k) p e = parts_within nodes xs ts h.1 k p e

pub type_con : (before after : List TyNode) (d : ℕ) (args : List TyId) (ts : List Tree) (x : TyId) → x.0 ≡ length before → after ≡ before ++ Con d args ∷ [] → Each (HasType before) args ts → HasType after x (Node (ConHead d (length ts)) (listed ts))
type_con before after d args ts x e n h =
    let same : tree_of (trees_of before) (Con d args) ≡ Node (ConHead d (length ts)) (listed ts) = ap (λ z. Node (ConHead d z) (trees (tree_in (trees_of before)) args)) (each_length (HasType before) args ts h) ∙ ap (Node (ConHead d (length ts))) (trees_are before args ts h) in
    subst (λ (z : List TyNode). HasType z x (Node (ConHead d (length ts)) (listed ts))) (sym n) (subst (λ (z : Tree). HasType (before ++ Con d args ∷ []) x z) same (type_pushed before (Con d args) x e))

pub type_tuple : (before after : List TyNode) (parts : List TyId) (ts : List Tree) (x : TyId) → x.0 ≡ length before → after ≡ before ++ Tuple parts ∷ [] → Each (HasType before) parts ts → HasType after x (Node (TupleHead (length ts)) (listed ts))
type_tuple before after parts ts x e n h =
    let same : tree_of (trees_of before) (Tuple parts) ≡ Node (TupleHead (length ts)) (listed ts) = ap (λ z. Node (TupleHead z) (trees (tree_in (trees_of before)) parts)) (each_length (HasType before) parts ts h) ∙ ap (Node (TupleHead (length ts))) (trees_are before parts ts h) in
    subst (λ (z : List TyNode). HasType z x (Node (TupleHead (length ts)) (listed ts))) (sym n) (subst (λ (z : Tree). HasType (before ++ Tuple parts ∷ []) x z) same (type_pushed before (Tuple parts) x e))

pub type_var : (before after : List TyNode) (v : ℕ) (x : TyId) → x.0 ≡ length before → after ≡ before ++ Var v ∷ [] → HasType after x (Leaf v)
type_var before after v x e n = subst (λ (z : List TyNode). HasType z x (Leaf v)) (sym n) (type_pushed before (Var v) x e)

pub type_arrow : (before after : List TyNode) (slot : ℕ) (from to x : TyId) (one other : Tree) → x.0 ≡ length before → after ≡ before ++ Arrow slot from to ∷ [] → HasType before from one → HasType before to other → HasType after x (Node ArrowHead (Cons one (Cons other Nil)))
type_arrow before after slot from to x one other e n p q =
    let same : tree_of (trees_of before) (Arrow slot from to) ≡ Node ArrowHead (Cons one (Cons other Nil)) = ap (λ z. Node ArrowHead (Cons z (Cons (tree_in (trees_of before) to) Nil))) (tree_is before from one p) ∙ ap (λ z. Node ArrowHead (Cons one (Cons z Nil))) (tree_is before to other q) in
    subst (λ (z : List TyNode). HasType z x (Node ArrowHead (Cons one (Cons other Nil)))) (sym n) (subst (λ (z : Tree). HasType (before ++ Arrow slot from to ∷ []) x z) same (type_pushed before (Arrow slot from to) x e))

-- ---- what a table in the making keeps

before_pushed : (nodes more : List TyNode) (node : TyNode) → PartsBefore nodes → ((k : ℕ) (p : TyId) → slice_get (parts_of node) k ≡ Some p → p.0 < length nodes) → more ≡ nodes ++ node ∷ [] → PartsBefore more
before_pushed nodes more node b h e = subst PartsBefore (sym e) both
  where
    both : PartsBefore (nodes ++ node ∷ [])
    both i n k p at part = by_cases (pushed nodes node n i at)
      where
        by_cases : (slice_get nodes i ≡ Some n) ⊎ ((i ≡ length nodes) × (n ≡ node)) → p.0 < i
        by_cases (inl u) = b i n k p u part
        by_cases (inr u) = let w : p.0 < length nodes = h k p (subst (λ (z : TyNode). slice_get (parts_of z) k ≡ Some p) u.1 part) in let q : i ≡ length nodes = u.0 in omega arith

slots_append : (xs ys : List TyNode) → slots (xs ++ ys) ≡ slots xs ++ slots ys
slots_append [] ys = refl
slots_append (x ∷ xs) ys = ap (λ z. slot_of x ++ z) (slots_append xs ys) ∙ sym (append_assoc (slot_of x) (slots xs) (slots ys))

nothing_more : {X : Type 0} → (xs : List X) → xs ++ [] ≡ xs
nothing_more [] = refl
nothing_more (x ∷ xs) = ap (λ z. x ∷ z) (nothing_more xs)

slots_plain : (nodes more : List TyNode) (node : TyNode) → slot_of node ≡ [] → more ≡ nodes ++ node ∷ [] → slots more ≡ slots nodes
slots_plain nodes more node p e = ap slots e ∙ slots_append nodes (node ∷ []) ∙ ap (λ z. slots nodes ++ (z ++ [])) p ∙ nothing_more (slots nodes)

slots_arrow : (nodes more : List TyNode) (slot : ℕ) (from to : TyId) → more ≡ nodes ++ Arrow slot from to ∷ [] → slots more ≡ slots nodes ++ slot ∷ []
slots_arrow nodes more slot from to e = ap slots e ∙ slots_append nodes (Arrow slot from to ∷ [])

own_plain : (nodes more : List TyNode) (node : TyNode) → OwnSlots nodes → slot_of node ≡ [] → more ≡ nodes ++ node ∷ [] → OwnSlots more
own_plain nodes more node o p e i s at = o i s (subst (λ (z : List ℕ). slice_get z i ≡ Some s) (slots_plain nodes more node p e) at)

own_arrow : (nodes more : List TyNode) (slot : ℕ) (from to : TyId) → OwnSlots nodes → length (slots nodes) ≡ slot → more ≡ nodes ++ Arrow slot from to ∷ [] → OwnSlots more
own_arrow nodes more slot from to o n e i s at = by_cases (pushed (slots nodes) slot s i (subst (λ (z : List ℕ). slice_get z i ≡ Some s) (slots_arrow nodes more slot from to e) at))
  where
    by_cases : (slice_get (slots nodes) i ≡ Some s) ⊎ ((i ≡ length (slots nodes)) × (s ≡ slot)) → s ≡ i
    by_cases (inl u) = o i s u
    by_cases (inr u) = u.1 ∙ sym n ∙ sym u.0

count_plain : (nodes more : List TyNode) (node : TyNode) (arrows : ℕ) → length (slots nodes) ≡ arrows → slot_of node ≡ [] → more ≡ nodes ++ node ∷ [] → length (slots more) ≡ arrows
count_plain nodes more node arrows n p e = ap length (slots_plain nodes more node p e) ∙ n

count_arrow : (nodes more : List TyNode) (slot arrows : ℕ) (from to : TyId) → length (slots nodes) ≡ slot → arrows ≡ slot + 1 → more ≡ nodes ++ Arrow slot from to ∷ [] → length (slots more) ≡ arrows
count_arrow nodes more slot arrows from to n a e = ap length (slots_arrow nodes more slot from to e) ∙ length-append (slots nodes) (slot ∷ []) ∙ ap (λ z. z + 1) n ∙ sym a

pub making_none : (nodes : List TyNode) → nodes ≡ [] → IsMaking nodes 0
making_none nodes e = subst (λ (z : List TyNode). IsMaking z 0) (sym e) (record { before = no_parts; own_slots = no_slots; counted = refl })
  where
    no_parts : PartsBefore []
    no_parts i n k p at part = absurd cc

    no_slots : OwnSlots []
    no_slots i s at = absurd cc

pub making_same : (nodes more : List TyNode) (arrows : ℕ) → IsMaking nodes arrows → more ≡ nodes → IsMaking more arrows
making_same nodes more arrows m e = subst (λ (z : List TyNode). IsMaking z arrows) (sym e) m

pub making_pushed : (nodes more : List TyNode) (node : TyNode) (arrows : ℕ) → IsMaking nodes arrows → slot_of node ≡ [] → ((k : ℕ) (p : TyId) → slice_get (parts_of node) k ≡ Some p → p.0 < length nodes) → more ≡ nodes ++ node ∷ [] → IsMaking more arrows
making_pushed nodes more node arrows m p h e = record { before = before_pushed nodes more node m.before h e; own_slots = own_plain nodes more node m.own_slots p e; counted = count_plain nodes more node arrows m.counted p e }

pub making_arrow : (nodes more : List TyNode) (slot arrows : ℕ) (from to : TyId) → IsMaking nodes slot → from.0 < length nodes → to.0 < length nodes → arrows ≡ slot + 1 → more ≡ nodes ++ Arrow slot from to ∷ [] → IsMaking more arrows
making_arrow nodes more slot arrows from to m f t a e = record { before = before_pushed nodes more (Arrow slot from to) m.before within e; own_slots = own_arrow nodes more slot from to m.own_slots m.counted e; counted = count_arrow nodes more slot arrows from to m.counted a e }
  where
    within : (k : ℕ) (p : TyId) → slice_get (from ∷ to ∷ []) k ≡ Some p → p.0 < length nodes
    within zero p h = let same : from ≡ p = cc in subst (λ (z : TyId). z.0 < length nodes) same f
    within (suc zero) p h = let same : to ≡ p = cc in subst (λ (z : TyId). z.0 < length nodes) same t
    within (suc (suc k)) p h = absurd cc

-- a push that may have failed
pub making_perhaps : {A E : Type 0} → (r : Result A E) (nodes more : List TyNode) (node : TyNode) (arrows : ℕ) → IsMaking nodes arrows → slot_of node ≡ [] → ((k : ℕ) (p : TyId) → slice_get (parts_of node) k ≡ Some p → p.0 < length nodes) → OnOk r (more ≡ nodes ++ node ∷ []) → OnErr r (more ≡ nodes) → IsMaking more arrows
making_perhaps (Ok v) nodes more node arrows m p h ok err = making_pushed nodes more node arrows m p h ok
making_perhaps (Err x) nodes more node arrows m p h ok err = making_same nodes more arrows m err

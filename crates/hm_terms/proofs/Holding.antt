-- Ids that are the types of shapes: what one more unknown or one more node gives, and that they stay so
-- while the solver grows.
use Rattle.std.proofs.Common.{◌≡◌, ℕ, zero, suc, ◌+◌, ◌<◌, ◌⊎◌, List, [], ◌∷◌, ◌++◌, length, Option, Some, None, get_or, refl, sym, ap, ◌∙◌, subst, inl, inr, ⊎_elim, arith, length-append}
use Rattle.std.specs.List.{slice_get}
use Rattle.std.specs.Option.{option_and_then}
use Rattle.std.proofs.lemmas.Option.{slice_get_within}
use Rattle.std.proofs.lemmas.Bool.{cases_eq}
use Rattle.ml_types.specs.declared.node.TyId.{TyId}
use Rattle.ml_types.specs.declared.node.TyNode.{TyNode}
use Rattle.ml_types.specs.declared.node.TyNode.TheVariants.{Var, Con, Tuple, Arrow}
use Rattle.ml_types.specs.Types.{Head, head_of, parts_of, Tree, Node, Cons, trees}
use Rattle.ml_typing.specs.declared.equation.Unknown.{Unknown}
use Rattle.ml_typing.specs.declared.equation.Unknown.TheVariants as u
use Rattle.ml_typing.specs.Terms.{Shape, Is, Make, shapes}
use Rattle.ml_typing.specs.Typing.{Assignment, tree_of, trees_of, StandsInAny}
use Rattle.hm_unify.specs.Solutions.{node_at, variable_of, link, Ends, here, Solves}
use Rattle.hm_unify.proofs.Ends.{Ends-here, Ends-unique, var-number}
use Rattle.hm_unify.proofs.Starts.{Ends-same}
use Rattle.hm_terms.specs.Stores.{Store, AddsNode, AddsUnknown, Knows, Reading, Reaches, at_end, in_part, IsBefore, IsOwn, IsReady, Extended, Grows}
use Rattle.hm_terms.specs.Shapes.{Holds, HoldAll, Lowers}
use Rattle.hm_terms.proofs.Pushes.{extended, extended_old, extended_new, built_tree, fresh_tree, Solves-push, closed_push}
use Rattle.hm_terms.proofs.Growth.{Longer, longer, own_grows, reading_back, grows_same, length_longer, before_back}

at_last : {A : Type 0} (xs : List A) (x : A) → slice_get (xs ++ x ∷ []) (length xs) ≡ Some x
at_last [] x = refl
at_last (y ∷ xs) x = at_last xs x

length_more : {A : Type 0} (xs : List A) (x : A) → length (xs ++ x ∷ []) ≡ length xs + 1
length_more xs x = length-append xs (x ∷ [])

pub unknown_cases : (v w : Unknown) → (v ≡ w) ⊎ (v ≡ w → ⊥)
unknown_cases (u.Node n) (u.Node m) = ⊎_elim (λ e. inl (ap u.Node e)) (λ d. inr (λ (h : u.Node n ≡ u.Node m). d cc)) (cases_eq n m)
unknown_cases (u.Binder n) (u.Binder m) = ⊎_elim (λ e. inl (ap u.Binder e)) (λ d. inr (λ (h : u.Binder n ≡ u.Binder m). d cc)) (cases_eq n m)
unknown_cases (u.Fresh n k) (u.Fresh m j) = by (cases_eq n m) (cases_eq k j)
  where
    by : (n ≡ m) ⊎ (n ≡ m → ⊥) → (k ≡ j) ⊎ (k ≡ j → ⊥) → (u.Fresh n k ≡ u.Fresh m j) ⊎ (u.Fresh n k ≡ u.Fresh m j → ⊥)
    by (inl e) (inl f) = inl cc
    by (inr d) f = inr (λ (h : u.Fresh n k ≡ u.Fresh m j). d cc)
    by (inl e) (inr d) = inr (λ (h : u.Fresh n k ≡ u.Fresh m j). d cc)
unknown_cases (u.Node n) (u.Binder m) = inr (λ h. cc)
unknown_cases (u.Node n) (u.Fresh m j) = inr (λ h. cc)
unknown_cases (u.Binder n) (u.Node m) = inr (λ h. cc)
unknown_cases (u.Binder n) (u.Fresh m j) = inr (λ h. cc)
unknown_cases (u.Fresh n k) (u.Node m) = inr (λ h. cc)
unknown_cases (u.Fresh n k) (u.Binder m) = inr (λ h. cc)

node_longer : (old new : Store) (n : TyNode) (id : TyId) → AddsNode old new n id → Longer old new
node_longer old new n id a = record { tail = n ∷ []; nodes = a.adds.nodes; bound = a.adds.bound; mark = a.names.mark }

unknown_longer : (old new : Store) (v : Unknown) (id : TyId) → AddsUnknown old new v id → Longer old new
unknown_longer old new v id a = record { tail = Var a.adds.number ∷ []; nodes = a.adds.adds.nodes; bound = a.adds.adds.bound; mark = a.names.mark }

pub grows_node : (old new : Store) (n : TyNode) (h : Head) (id : TyId) → AddsNode old new n id → head_of n ≡ Some h → Grows old new
grows_node old new n h id a e = record {
  more = n ∷ [];
  nodes = a.adds.nodes;
  bound = a.adds.bound;
  ids = λ v x p. a.ids v ∙ p;
  names = a.names;
  ready = λ r. record {
    closed = closed_push old.nodes old.bound new.nodes new.bound n r.closed a.adds.nodes a.adds.bound a.within;
    mark_within = omega (arith, r.mark_within, a.names.mark, length_longer old new l);
    within = λ v x p. (let w = r.within v x (sym (a.ids v) ∙ p) in omega (arith, w, length_longer old new l));
    own = λ v x p. (let q = sym (a.ids v) ∙ p in own_grows old new l r x (r.within v x q) (r.own v x q));
  };
  extends = λ r t c k. record {
    types = extended (length old.nodes) t (Node h (trees t (parts_of n)));
    reading = record {
      solves = subst (λ (ns : List TyNode). Solves ns new.bound (extended (length old.nodes) t (Node h (trees t (parts_of n))))) (sym a.adds.nodes)
          (Solves-push old.nodes old.bound new.bound n t (Node h (trees t (parts_of n))) r.closed k.solves a.adds.bound a.within (built_tree old.nodes old.bound t n h e));
      reads = λ v x p. (let q = sym (a.ids v) ∙ p in extended_old (length old.nodes) t (Node h (trees t (parts_of n))) x (r.within v x q) ∙ k.reads v x q);
    };
    agrees = λ x w. extended_old (length old.nodes) t (Node h (trees t (parts_of n))) x w;
  };
}
  where
    l : Longer old new
    l = node_longer old new n id a

-- a new variable reaches itself alone
fresh_own : (old new : Store) (v : Unknown) (id : TyId) → IsReady old → AddsUnknown old new v id → IsOwn new id
fresh_own old new v id r a = λ n reaches b. own_by n reaches (before_back old new (unknown_longer old new v id a) r.mark_within n b)
  where
    at_id : node_at new.nodes id ≡ Some (Var a.adds.number)
    at_id = ap (λ (ns : List TyNode). slice_get ns id.0) a.adds.adds.nodes ∙ ap (slice_get (old.nodes ++ Var a.adds.number ∷ [])) a.adds.adds.at_end ∙ at_last old.nodes (Var a.adds.number)

    free : link new.nodes new.bound id ≡ None
    free = ap (option_and_then (λ i. get_or new.bound i None)) (var-number new.nodes id a.adds.number at_id) ∙ a.adds.free

    own_by : (n : ℕ) → Reaches new.nodes new.bound id n → IsBefore old n → ⊥
    own_by n (at_end y e m ends at) b =
        let same : y ≡ e = Ends-here new.nodes new.bound y e free ends in
        let there : Some (Var m) ≡ Some (Var a.adds.number) = sym at ∙ ap (node_at new.nodes) (sym same) ∙ at_id in
        let number : m ≡ a.adds.number = cc in
        a.adds.unused b.0 (b.2 ∙ ap (λ i. Some (Var i)) number)
    own_by n (in_part y e p k i m ends at part reaches) b =
        let same : y ≡ e = Ends-here new.nodes new.bound y e free ends in
        let there : Some k ≡ Some (Var a.adds.number) = sym at ∙ ap (node_at new.nodes) (sym same) ∙ at_id in
        let node : k ≡ Var a.adds.number = cc in
        let past : None ≡ Some p = ap (λ z. slice_get (parts_of z) i) (sym node) ∙ part in
        cc

pub grows_unknown : (old new : Store) (v : Unknown) (id : TyId) → AddsUnknown old new v id → Grows old new
grows_unknown old new v id a = record {
  more = Var a.adds.number ∷ [];
  nodes = a.adds.adds.nodes;
  bound = a.adds.adds.bound;
  ids = kept;
  names = a.names;
  ready = λ r. record {
    closed = closed_push old.nodes old.bound new.nodes new.bound (Var a.adds.number) r.closed a.adds.adds.nodes a.adds.adds.bound (λ i p h. absurd (let q : None ≡ Some p = h in cc));
    mark_within = omega (arith, r.mark_within, a.names.mark, length_longer old new l);
    within = λ w x p. within_by r w x p (unknown_cases w v);
    own = λ w x p. own_by r w x p (unknown_cases w v);
  };
  extends = extends;
}
  where
    l : Longer old new
    l = unknown_longer old new v id a

    kept : (w : Unknown) (x : TyId) → old.ids w ≡ Some x → new.ids w ≡ Some x
    kept w x p = ⊎_elim
        (λ (e : w ≡ v). absurd (let q : None ≡ Some x = sym a.none ∙ ap old.ids (sym e) ∙ p in cc))
        (λ (d : w ≡ v → ⊥). a.others w d ∙ p)
        (unknown_cases w v)

    is_id : (w : Unknown) (x : TyId) → new.ids w ≡ Some x → w ≡ v → x ≡ id
    is_id w x p e = let q : Some x ≡ Some id = sym p ∙ ap new.ids e ∙ a.there in cc

    within_by : IsReady old → (w : Unknown) (x : TyId) → new.ids w ≡ Some x → (w ≡ v) ⊎ (w ≡ v → ⊥) → x.0 < length new.nodes
    within_by r w x p (inl e) =
        let q : x.0 ≡ length old.nodes = ap (λ (z : TyId). z.0) (is_id w x p e) ∙ a.adds.adds.at_end in
        omega (arith, q, ap length a.adds.adds.nodes, length_more old.nodes (Var a.adds.number))
    within_by r w x p (inr d) =
        let q = r.within w x (sym (a.others w d) ∙ p) in omega (arith, q, length_longer old new l)

    own_by : IsReady old → (w : Unknown) (x : TyId) → new.ids w ≡ Some x → (w ≡ v) ⊎ (w ≡ v → ⊥) → IsOwn new x
    own_by r w x p (inl e) = subst (IsOwn new) (sym (is_id w x p e)) (fresh_own old new v id r a)
    own_by r w x p (inr d) = let q = sym (a.others w d) ∙ p in own_grows old new l r x (r.within w x q) (r.own w x q)

    extends : IsReady old → (t : TyId → Tree) (c : Assignment) → Reading old t c → Extended old new t c
    extends r t c k = record {
      types = types;
      reading = record {
        solves = subst (λ (ns : List TyNode). Solves ns new.bound types) (sym a.adds.adds.nodes)
            (Solves-push old.nodes old.bound new.bound (Var a.adds.number) t (c v) r.closed k.solves a.adds.adds.bound (λ i p h. absurd (let q : None ≡ Some p = h in cc))
            (fresh_tree old.nodes old.bound t a.adds.number (c v) a.adds.unused (sym (a.adds.adds.bound a.adds.number) ∙ a.adds.free)));
        reads = λ w x p. reads_by w x p (unknown_cases w v);
      };
      agrees = λ x h. extended_old (length old.nodes) t (c v) x h;
    }
      where
        types : TyId → Tree
        types = extended (length old.nodes) t (c v)

        reads_by : (w : Unknown) (x : TyId) → new.ids w ≡ Some x → (w ≡ v) ⊎ (w ≡ v → ⊥) → types x ≡ c w
        reads_by w x p (inl e) =
            extended_new (length old.nodes) t (c v) x (ap (λ (z : TyId). z.0) (is_id w x p e) ∙ a.adds.adds.at_end) ∙ ap c (sym e)
        reads_by w x p (inr d) =
            let q = sym (a.others w d) ∙ p in extended_old (length old.nodes) t (c v) x (r.within w x q) ∙ k.reads w x q

pub holds_grows : (old new : Store) → IsReady old → Grows old new → (h : Shape) (x : TyId) → Holds old h x → Holds new h x
holds_grows old new r g h x k = record {
  within = omega (arith, k.within, length_longer old new (longer old new g));
  of = λ t a i. k.of t a (reading_back old new g t a i);
  known = λ v i. (let q = k.known v i in (q.0, g.ids v q.0 q.1));
  own = own_grows old new (longer old new g) r x k.within k.own;
}

pub hold_all_grows : (old new : Store) → IsReady old → Grows old new → (hs : List Shape) (xs : List TyId) → HoldAll old hs xs → HoldAll new hs xs
hold_all_grows old new r g [] [] k = tt
hold_all_grows old new r g [] (x ∷ xs) k = k
hold_all_grows old new r g (h ∷ hs) [] k = k
hold_all_grows old new r g (h ∷ hs) (x ∷ xs) k = (holds_grows old new r g h x k.0, hold_all_grows old new r g hs xs k.1)

-- an unknown that has a type
holds_known : (s : Store) → IsReady s → (v : Unknown) (x : TyId) → s.ids v ≡ Some x → Holds s (Is v) x
holds_known s r v x p = record {
  within = r.within v x p;
  of = λ t a k. k.reads v x p;
  known = λ w e. (x, ap s.ids e ∙ p);
  own = r.own v x p;
}

pub knows_lowers : (old new : Store) (v : Unknown) (id : TyId) → IsReady old → Knows old new v id → Lowers old new (Is v) id
knows_lowers old new v id r (inl k) =
    subst (λ (n : Store). Lowers old n (Is v) id) (sym k.1) (record { grows = grows_same old; holds = holds_known old r v id k.0 })
knows_lowers old new v id r (inr a) =
    let g = grows_unknown old new v id a in
    record { grows = g; holds = holds_known new (g.ready r) v id a.there }

pub hold_trees : (s : Store) (t : TyId → Tree) (a : Assignment) → Reading s t a → (hs : List Shape) (xs : List TyId) → HoldAll s hs xs → trees t xs ≡ trees_of a (shapes hs)
hold_trees s t a r [] [] k = refl
hold_trees s t a r [] (x ∷ xs) k = absurd k
hold_trees s t a r (h ∷ hs) [] k = absurd k
hold_trees s t a r (h ∷ hs) (x ∷ xs) k = ap (λ z. Cons z (trees t xs)) (k.0.of t a r) ∙ ap (Cons (tree_of a h)) (hold_trees s t a r hs xs k.1)

pub hold_known : (s : Store) (hs : List Shape) (xs : List TyId) → HoldAll s hs xs → (v : Unknown) → StandsInAny v (shapes hs) → (y : TyId) × (s.ids v ≡ Some y)
hold_known s [] xs k v i = absurd i
hold_known s (h ∷ hs) [] k v i = absurd k
hold_known s (h ∷ hs) (x ∷ xs) k v (inl i) = k.0.known v i
hold_known s (h ∷ hs) (x ∷ xs) k v (inr i) = hold_known s hs xs k.1 v i

pub hold_own : (s : Store) (hs : List Shape) (xs : List TyId) → HoldAll s hs xs → (i : ℕ) (p : TyId) → slice_get xs i ≡ Some p → IsOwn s p
hold_own s [] [] k i p e = absurd (let q : None ≡ Some p = e in cc)
hold_own s [] (x ∷ xs) k i p e = absurd k
hold_own s (h ∷ hs) [] k i p e = absurd k
hold_own s (h ∷ hs) (x ∷ xs) k zero p e = let q : x ≡ p = cc in subst (IsOwn s) q k.0.own
hold_own s (h ∷ hs) (x ∷ xs) k (suc i) p e = hold_own s hs xs k.1 i p e

pub headed_free : (s : Store) (x : TyId) (n : TyNode) (h : Head) → node_at s.nodes x ≡ Some n → head_of n ≡ Some h → link s.nodes s.bound x ≡ None
headed_free s x n h at head = ap (λ (o : Option TyNode). option_and_then (λ i. get_or s.bound i None) (option_and_then variable_of o)) at ∙ free_by n head
  where
    free_by : (m : TyNode) → head_of m ≡ Some h → option_and_then (λ i. get_or s.bound i None) (variable_of m) ≡ None
    free_by (Var i) e = absurd (let q : None ≡ Some h = e in cc)
    free_by (Con d args) e = refl
    free_by (Tuple ps) e = refl
    free_by (Arrow slot a b) e = refl

-- the node at an end, whose parts are the types of shapes
pub node_holds : (s : Store) (n : TyNode) (h : Head) (x e : TyId) → x.0 < length s.nodes → Ends s.nodes s.bound x e → node_at s.nodes e ≡ Some n → head_of n ≡ Some h → (hs : List Shape) → HoldAll s hs (parts_of n) → Holds s (Make h (shapes hs)) x
node_holds s n h x e within ends at head hs k = record {
  within = within;
  of = λ t a r. same t a r;
  known = λ v i. hold_known s hs (parts_of n) k v i;
  own = own;
}
  where
    same : (t : TyId → Tree) (a : Assignment) → Reading s t a → t x ≡ tree_of a (Make h (shapes hs))
    same t a r = Ends-same s.nodes s.bound t r.solves.bound_is x e ends ∙ r.solves.nodes_are e n h at head ∙ ap (Node h) (hold_trees s t a r hs (parts_of n) k)

    own_by : (m : ℕ) (y : TyId) → y ≡ x → Reaches s.nodes s.bound y m → IsBefore s m → ⊥
    own_by m y is (at_end z w i ends' at') b =
        let one : w ≡ e = Ends-unique s.nodes s.bound x w e (subst (λ v. Ends s.nodes s.bound v w) is ends') ends in
        let node : Some (Var i) ≡ Some n = sym at' ∙ ap (node_at s.nodes) one ∙ at in
        let node' : Var i ≡ n = cc in
        let none : None ≡ Some h = ap head_of node' ∙ head in
        cc
    own_by m y is (in_part z w p j i c ends' at' part reaches) b =
        let one : w ≡ e = Ends-unique s.nodes s.bound x w e (subst (λ v. Ends s.nodes s.bound v w) is ends') ends in
        let node : Some j ≡ Some n = sym at' ∙ ap (node_at s.nodes) one ∙ at in
        let node' : j ≡ n = cc in
        hold_own s hs (parts_of n) k i p (ap (λ v. slice_get (parts_of v) i) (sym node') ∙ part) c reaches b

    own : IsOwn s x
    own = λ m reaches b. own_by m x refl reaches b

pub added_at : (old new : Store) (n : TyNode) (id : TyId) → AddsNode old new n id → node_at new.nodes id ≡ Some n
added_at old new n id a = ap (λ (ns : List TyNode). slice_get ns id.0) a.adds.nodes ∙ ap (slice_get (old.nodes ++ n ∷ [])) a.adds.at_end ∙ at_last old.nodes n

pub node_lowers : (old new : Store) (n : TyNode) (h : Head) (id : TyId) → IsReady old → AddsNode old new n id → head_of n ≡ Some h → (hs : List Shape) → HoldAll old hs (parts_of n) → Lowers old new (Make h (shapes hs)) id
node_lowers old new n h id r a e hs k =
    let g = grows_node old new n h id a e in
    let at = added_at old new n id a in
    record {
      grows = g;
      holds = node_holds new n h id id (slice_get_within new.nodes id.0 n at) (here id (headed_free new id n h at e)) at e hs (hold_all_grows old new r g hs (parts_of n) k);
    }

pub hold_length : (s : Store) (hs : List Shape) (xs : List TyId) → HoldAll s hs xs → length xs ≡ length hs
hold_length s [] [] k = refl
hold_length s [] (x ∷ xs) k = absurd k
hold_length s (h ∷ hs) [] k = absurd k
hold_length s (h ∷ hs) (x ∷ xs) k = ap suc (hold_length s hs xs k.1)

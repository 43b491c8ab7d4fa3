-- A node with copies for its parts.
use Rattle.std.proofs.Common.{◌≡◌, ℕ, suc, List, [], ◌∷◌, length, map, Option, Some, refl, sym, ap, ◌∙◌, subst, inl, inr}
use Rattle.ml_types.specs.declared.node.TyId.{TyId}
use Rattle.ml_types.specs.declared.node.TyNode.{TyNode}
use Rattle.ml_types.specs.declared.node.TyNode.TheVariants.{Con, Tuple, Arrow}
use Rattle.ml_types.specs.Types.{Head, ConHead, TupleHead, ArrowHead, head_of, parts_of}
use Rattle.hm_unify.specs.States.{IsHead}
use Rattle.hm_terms.specs.Stores.{Store, state, AddsNode}
use Rattle.hm_terms.specs.Copies.{Table, slot_of, Copies, AreCopies, Rebuilt}
use Rattle.hm_terms.specs.declared.instances.Put.{Put}
use Rattle.hm_terms.proofs.Growth.{grows_same}

pub rebuilt_same : (s : Store) (copies : Table) (id : TyId) (n : TyNode) (h : Head) → IsHead (state s) id n → head_of n ≡ Some h → AreCopies copies (parts_of n) (parts_of n) → Rebuilt s s copies id id
rebuilt_same s copies id n h is head are = record {
  node = n;
  head = h;
  is_head = is;
  has_head = head;
  others = parts_of n;
  copied = are;
  made = inl (refl, refl, refl);
}

pub rebuilt_new : (old new : Store) (copies : Table) (id x : TyId) (n m : TyNode) (h : Head) → IsHead (state old) id n → head_of n ≡ Some h → AreCopies copies (parts_of n) (parts_of m) → head_of m ≡ Some h → AddsNode old new m x → slot_of m ≡ slot_of n → Rebuilt old new copies id x
rebuilt_new old new copies id x n m h is head are headed a slot = record {
  node = n;
  head = h;
  is_head = is;
  has_head = head;
  others = parts_of m;
  copied = are;
  made = inr (m, headed, refl, a, slot);
}

length_map : {A B : Type 0} (f : A → B) (xs : List A) → length (map f xs) ≡ length xs
length_map f [] = refl
length_map f (x ∷ xs) = ap (λ n. suc n) (length_map f xs)

-- as many copies as parts
pub same_count : (copies : Table) (ps qs : List TyId) → AreCopies copies ps qs → length qs ≡ length ps
same_count copies ps qs are =
    let some : TyId → Option TyId = λ q. Some q in
    sym (length_map some qs) ∙ sym (ap length are) ∙ length_map (λ (p : TyId). copies p.0) ps

pub con_new : (old new : Store) (copies : Table) (id x : TyId) (node : TyNode) (d : ℕ) (ps qs : List TyId) → IsHead (state old) id node → node ≡ Con d ps → AreCopies copies ps qs → AddsNode old new (Con d qs) x → Rebuilt old new copies id x
con_new old new copies id x node d ps qs is e are a =
    rebuilt_new old new copies id x (Con d ps) (Con d qs) (ConHead d (length ps)) (subst (λ n. IsHead (state old) id n) e is) refl are (ap (λ n. Some (ConHead d n)) (same_count copies ps qs are)) a refl

pub con_same : (s : Store) (copies : Table) (id : TyId) (node : TyNode) (d : ℕ) (ps qs : List TyId) → IsHead (state s) id node → node ≡ Con d ps → AreCopies copies ps qs → ps ≡ qs → Rebuilt s s copies id id
con_same s copies id node d ps qs is e are same =
    rebuilt_same s copies id (Con d ps) (ConHead d (length ps)) (subst (λ n. IsHead (state s) id n) e is) refl (subst (AreCopies copies ps) (sym same) are)

pub tuple_new : (old new : Store) (copies : Table) (id x : TyId) (node : TyNode) (ps qs : List TyId) → IsHead (state old) id node → node ≡ Tuple ps → AreCopies copies ps qs → AddsNode old new (Tuple qs) x → Rebuilt old new copies id x
tuple_new old new copies id x node ps qs is e are a =
    rebuilt_new old new copies id x (Tuple ps) (Tuple qs) (TupleHead (length ps)) (subst (λ n. IsHead (state old) id n) e is) refl are (ap (λ n. Some (TupleHead n)) (same_count copies ps qs are)) a refl

pub tuple_same : (s : Store) (copies : Table) (id : TyId) (node : TyNode) (ps qs : List TyId) → IsHead (state s) id node → node ≡ Tuple ps → AreCopies copies ps qs → ps ≡ qs → Rebuilt s s copies id id
tuple_same s copies id node ps qs is e are same =
    rebuilt_same s copies id (Tuple ps) (TupleHead (length ps)) (subst (λ n. IsHead (state s) id n) e is) refl (subst (AreCopies copies ps) (sym same) are)

two_copies : (copies : Table) (a b x y : TyId) → copies a.0 ≡ Some x → copies b.0 ≡ Some y → AreCopies copies (a ∷ b ∷ []) (x ∷ y ∷ [])
two_copies copies a b x y p q = ap (λ z. z ∷ copies b.0 ∷ []) p ∙ ap (λ z. Some x ∷ z ∷ []) q

pub arrow_new : (old new : Store) (copies : Table) (id z : TyId) (node : TyNode) (slot : ℕ) (a b x y : TyId) → IsHead (state old) id node → node ≡ Arrow slot a b → copies a.0 ≡ Some x → copies b.0 ≡ Some y → AddsNode old new (Arrow slot x y) z → Rebuilt old new copies id z
arrow_new old new copies id z node slot a b x y is e p q made =
    rebuilt_new old new copies id z (Arrow slot a b) (Arrow slot x y) ArrowHead (subst (λ n. IsHead (state old) id n) e is) refl (two_copies copies a b x y p q) refl made refl

pub arrow_same : (s : Store) (copies : Table) (id : TyId) (node : TyNode) (slot : ℕ) (a b x y : TyId) → IsHead (state s) id node → node ≡ Arrow slot a b → copies a.0 ≡ Some x → copies b.0 ≡ Some y → x ≡ a → y ≡ b → Rebuilt s s copies id id
arrow_same s copies id node slot a b x y is e p q one other =
    rebuilt_same s copies id (Arrow slot a b) ArrowHead (subst (λ n. IsHead (state s) id n) e is) refl (two_copies copies a b a b (p ∙ ap Some one) (q ∙ ap Some other))

-- a step that copies nothing
pub copies_same : (s : Store) (put : Put) (copies : Table) → Copies s s put copies copies
copies_same s put copies = λ first f r g p k. (grows_same s, k)

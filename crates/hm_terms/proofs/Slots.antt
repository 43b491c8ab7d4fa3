-- Copies of types keep the slots of their arrows.
use Rattle.std.proofs.Common.{◌≡◌, ℕ, ◌⊎◌, true, false, cond, nat_eq, List, [], ◌∷◌, map, Some, None, Bor, refl, sym, ap, ◌∙◌, subst, inl, inr}
use Rattle.std.specs.List.{slice_get}
use Rattle.std.proofs.lemmas.Bool.Decides.{eqb_tells}
use Rattle.ml_types.specs.declared.node.TyId.{TyId}
use Rattle.ml_types.specs.declared.node.TyNode.{TyNode}
use Rattle.ml_types.specs.declared.node.TyNode.TheVariants.{Var, Tuple}
use Rattle.ml_types.specs.Types.{TupleHead, head_of, parts_of}
use Rattle.ml_typing.specs.declared.equation.Unknown.TheVariants.{Fresh}
use Rattle.hm_unify.specs.Solutions.{here}
use Rattle.hm_unify.specs.States.{IsHead}
use Rattle.hm_terms.specs.Stores.{Store, state, AddsNode, Knows, IsReady, Grows}
use Rattle.hm_terms.specs.Copies.{Table, slot_of, AreCopies, Rebuilt}
use Rattle.hm_terms.specs.Slots.{Places, at_fresh_of, at_arguments, places, IsPut, IsCopy, of_variable, of_node, AreCopiesOf, no_copy, copy_and, MakesPut, KeepSlots, StepKeeps}
use Rattle.hm_terms.specs.declared.instances.Put.{Put}
use Rattle.hm_terms.specs.declared.instances.Put.TheVariants as p
use Rattle.hm_terms.proofs.Growth.{longer, ends_grow, ends_within, node_old, grows_same, grows_then}
use Rattle.hm_terms.proofs.Holding.{grows_node, grows_unknown, added_at, headed_free}

pub put_grows : (old new : Store) → Grows old new → (q : Places) (n : ℕ) (x : TyId) → IsPut old q n x → IsPut new q n x
put_grows old new g (at_fresh_of node) n x k = g.ids (Fresh node n) x k
put_grows old new g (at_arguments args) n x (inl k) = inl k
put_grows old new g (at_arguments args) n x (inr k) = inr (k.0, node_old old new (longer old new g) x (Tuple []) k.1)

mutual
  pub copy_grows : (old new : Store) → IsReady old → Grows old new → (q : Places) (y x : TyId) → IsCopy old q y x → IsCopy new q y x
  copy_grows old new r g q y x (of_variable v e u n ends at k) =
      let l = longer old new g in
      of_variable v e u n (ends_grow old new l r.closed v e (ends_within old v e (Var n) ends at) ends) (node_old old new l e (Var n) at) (put_grows old new g q n u k)
  copy_grows old new r g q y x (of_node v e z u n m h ends at head ends' at' head' slot all) =
      let l = longer old new g in
      of_node v e z u n m h
      (ends_grow old new l r.closed v e (ends_within old v e n ends at) ends) (node_old old new l e n at) head
      (ends_grow old new l r.closed z u (ends_within old z u m ends' at') ends') (node_old old new l u m at') head'
      slot (copies_grow old new r g q (parts_of n) (parts_of m) all)

  pub copies_grow : (old new : Store) → IsReady old → Grows old new → (q : Places) (ys xs : List TyId) → AreCopiesOf old q ys xs → AreCopiesOf new q ys xs
  copies_grow old new r g q ys xs no_copy = no_copy
  copies_grow old new r g q ys xs (copy_and v vs u us one all) =
      copy_and v vs u us (copy_grows old new r g q v u one) (copies_grow old new r g q vs us all)

knows_grows : (old new : Store) (node n : ℕ) (x : TyId) → Knows old new (Fresh node n) x → MakesPut old new (at_fresh_of node) n x
knows_grows old new node n x (inl k) =
    subst (λ (s : Store). MakesPut old s (at_fresh_of node) n x) (sym k.1) (record { grows = grows_same old; put = k.0 })
knows_grows old new node n x (inr a) = record { grows = grows_unknown old new (Fresh node n) x a; put = a.there }

pub fresh_is_put : (old new : Store) (put : Put) (node number : ℕ) (x : TyId) → put ≡ p.Fresh node → Knows old new (Fresh node number) x → MakesPut old new (places put) number x
fresh_is_put old new put node number x is k =
    subst (λ q. MakesPut old new (places q) number x) (sym is) (knows_grows old new node number x k)

pub argument_is_put : (s : Store) (put : Put) (args : Bor (List TyId)) (number : ℕ) (x : TyId) → put ≡ p.Arguments args → slice_get args.now number ≡ Some x → MakesPut s s (places put) number x
argument_is_put s put args number x is at =
    subst (λ q. MakesPut s s (places q) number x) (sym is) (record { grows = grows_same s; put = inl at })

pub past_is_put : (old new : Store) (put : Put) (args : Bor (List TyId)) (number : ℕ) (x : TyId) → put ≡ p.Arguments args → slice_get args.now number ≡ None → AddsNode old new (Tuple []) x → MakesPut old new (places put) number x
past_is_put old new put args number x is past a =
    subst (λ q. MakesPut old new (places q) number x) (sym is) (record { grows = grows_node old new (Tuple []) (TupleHead 0) x a refl; put = inr (past, added_at old new (Tuple []) x a) })

-- one copy more
keep_more : (old new : Store) (q : Places) (copies later : Table) (id x : TyId) → IsReady old → Grows old new → ((k : ℕ) → later k ≡ cond (nat_eq id.0 k) (Some x) (copies k)) → KeepSlots old q copies → IsCopy new q id x → KeepSlots new q later
keep_more old new q copies later id x r g update keep one = λ k y e. by k y e (eqb_tells id.0 k)
  where
    by : (k : ℕ) (y : TyId) → later k ≡ Some y → ((nat_eq id.0 k ≡ true) × (id.0 ≡ k)) ⊎ ((nat_eq id.0 k ≡ false) × (id.0 ≡ k → ⊥)) → IsCopy new q (record { 0 = k }) y
    by k y e (inl d) =
        let there : Some x ≡ Some y = sym (update k ∙ ap (λ b. cond b (Some x) (copies k)) d.0) ∙ e in
        let same : x ≡ y = cc in
        subst (λ (n : ℕ). IsCopy new q (record { 0 = n }) y) d.1 (subst (λ (z : TyId). IsCopy new q id z) same one)
    by k y e (inr d) =
        let there : copies k ≡ Some y = sym (update k ∙ ap (λ b. cond b (Some x) (copies k)) d.0) ∙ e in
        copy_grows old new r g q (record { 0 = k }) y (keep k y there)

pub step_variable : (old new : Store) (q : Places) (copies later : Table) (id x : TyId) (number : ℕ) → MakesPut old new q number x → ((k : ℕ) → later k ≡ cond (nat_eq id.0 k) (Some x) (copies k)) → IsHead (state old) id (Var number) → IsReady old → StepKeeps old new q copies later
step_variable old new q copies later id x number put update head r = record {
  grows = put.grows;
  keeps = λ keep. keep_more old new q copies later id x r put.grows update keep one;
}
  where
    one : IsCopy new q id x
    one =
        let l = longer old new put.grows in
        of_variable id head.0 x number (ends_grow old new l r.closed id head.0 (ends_within old id head.0 (Var number) head.1 head.2) head.1) (node_old old new l head.0 (Var number) head.2) put.put

parts_copied : (s : Store) (q : Places) (copies : Table) → KeepSlots s q copies → (ys xs : List TyId) → AreCopies copies ys xs → AreCopiesOf s q ys xs
parts_copied s q copies keep [] [] are = no_copy
parts_copied s q copies keep [] (x ∷ xs) are = absurd (let e : [] ≡ Some x ∷ map Some xs = are in cc)
parts_copied s q copies keep (y ∷ ys) [] are = absurd (let e : copies y.0 ∷ map (λ (v : TyId). copies v.0) ys ≡ [] = are in cc)
parts_copied s q copies keep (y ∷ ys) (x ∷ xs) are =
    let e : copies y.0 ∷ map (λ (v : TyId). copies v.0) ys ≡ Some x ∷ map Some xs = are in
    let first : copies y.0 ≡ Some x = cc in
    let rest : map (λ (v : TyId). copies v.0) ys ≡ map Some xs = cc in
    copy_and y ys x xs (keep y.0 x first) (parts_copied s q copies keep ys xs rest)

pub step_node : (old new : Store) (q : Places) (copies later : Table) (id x : TyId) → Rebuilt old new copies id x → ((k : ℕ) → later k ≡ cond (nat_eq id.0 k) (Some x) (copies k)) → IsReady old → StepKeeps old new q copies later
step_node old new q copies later id x b update r = by b.made
  where
    parts : KeepSlots old q copies → AreCopiesOf old q (parts_of b.node) b.others
    parts keep = parts_copied old q copies keep (parts_of b.node) b.others b.copied

    by : ((new ≡ old) × (x ≡ id) × (parts_of b.node ≡ b.others)) ⊎ ((m : TyNode) × (head_of m ≡ Some b.head) × (parts_of m ≡ b.others) × AddsNode old new m x × (slot_of m ≡ slot_of b.node)) → StepKeeps old new q copies later
    by (inl same) =
        let own : KeepSlots old q copies → IsCopy old q id id = λ keep.
        of_node id b.is_head.0 id b.is_head.0 b.node b.node b.head b.is_head.1 b.is_head.2 b.has_head b.is_head.1 b.is_head.2 b.has_head refl
        (subst (λ (ps : List TyId). AreCopiesOf old q (parts_of b.node) ps) (sym same.2) (parts keep)) in
        let at_x : KeepSlots old q copies → IsCopy old q id x = λ keep. subst (λ (z : TyId). IsCopy old q id z) (sym same.1) (own keep) in
        subst (λ (s : Store). StepKeeps old s q copies later) (sym same.0)
        (record { grows = grows_same old; keeps = λ keep. keep_more old old q copies later id x r (grows_same old) update keep (at_x keep) })
    by (inr made) =
        let g = grows_node old new made.0 b.head x made.3 made.1 in
        let l = longer old new g in
        let at = added_at old new made.0 x made.3 in
        let one : KeepSlots old q copies → IsCopy new q id x = λ keep.
        of_node id b.is_head.0 x x b.node made.0 b.head
        (ends_grow old new l r.closed id b.is_head.0 (ends_within old id b.is_head.0 b.node b.is_head.1 b.is_head.2) b.is_head.1)
        (node_old old new l b.is_head.0 b.node b.is_head.2) b.has_head
        (here x (headed_free new x made.0 b.head at made.1)) at made.1 made.4
        (copies_grow old new r g q (parts_of b.node) (parts_of made.0) (subst (λ (ps : List TyId). AreCopiesOf old q (parts_of b.node) ps) (sym made.2) (parts keep))) in
        record { grows = g; keeps = λ keep. keep_more old new q copies later id x r g update keep (one keep) }

pub step_same : (s : Store) (q : Places) (copies : Table) → StepKeeps s s q copies copies
step_same s q copies = record { grows = grows_same s; keeps = λ k. k }

pub step_then : (a b c : Store) (q : Places) (first copies more : Table) → StepKeeps a b q first copies → StepKeeps b c q copies more → StepKeeps a c q first more
step_then a b c q first copies more h k = record { grows = grows_then a b c h.grows k.grows; keeps = λ e. k.keeps (h.keeps e) }

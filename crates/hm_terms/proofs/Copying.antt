-- A step of the walk that makes an instance of a type.
use Rattle.std.proofs.Common.{◌≡◌, ℕ, ◌<◌, ◌⊎◌, true, false, cond, nat_eq, List, [], ◌∷◌, length, map, Some, None, refl, sym, ap, ◌∙◌, subst, inl, inr, arith}
use Rattle.std.proofs.lemmas.Bool.Decides.{eqb_tells}
use Rattle.ml_types.specs.declared.node.TyId.{TyId}
use Rattle.ml_types.specs.declared.node.TyNode.{TyNode}
use Rattle.ml_types.specs.declared.node.TyNode.TheVariants.{Var}
use Rattle.ml_types.specs.Types.{Head, head_of, parts_of, Tree, Trees}
use Rattle.ml_typing.specs.Terms.{Shape, Make, Shapes, no_shapes, shape_and, shapes, with_shapes, all_with_shapes}
use Rattle.hm_unify.specs.Solutions.{node_at, Ends, Stands, variable, built, StandAll, none, more}
use Rattle.hm_unify.specs.States.{IsHead}
use Rattle.hm_unify.proofs.Ends.{Ends-unique}
use Rattle.hm_terms.specs.Stores.{Store, state, AddsNode, IsReady, Grows}
use Rattle.hm_terms.specs.Shapes.{Holds, HoldAll, Lowers, Puts}
use Rattle.hm_terms.specs.Copies.{Table, slot_of, Copied, Copies, AreCopies, Rebuilt}
use Rattle.hm_terms.specs.declared.instances.Put.{Put}
use Rattle.hm_terms.proofs.Growth.{longer, ends_grow, ends_within, node_old, length_longer, grows_same}
use Rattle.hm_terms.proofs.Holding.{grows_node, node_holds, node_lowers, holds_grows}
use Rattle.hm_terms.proofs.Putting.{puts_grow}

-- one copy more
copied_more : (first old new : Store) (f : ℕ → Shape) (copies later : Table) (id x : TyId) → IsReady old → Grows old new → ((q : ℕ) → later q ≡ cond (nat_eq id.0 q) (Some x) (copies q)) → Copied first old f copies → ((w : Tree) → Stands first.nodes first.bound id w → Holds new (with_shapes f w) x) → Copied first new f later
copied_more first old new f copies later id x r g update k h = λ q y p w stands. by q y p w stands (eqb_tells id.0 q)
  where
    by : (q : ℕ) (y : TyId) → later q ≡ Some y → (w : Tree) → Stands first.nodes first.bound (record { 0 = q }) w → ((nat_eq id.0 q ≡ true) × (id.0 ≡ q)) ⊎ ((nat_eq id.0 q ≡ false) × (id.0 ≡ q → ⊥)) → Holds new (with_shapes f w) y
    by q y p w stands (inl e) =
        let there : Some x ≡ Some y = sym (update q ∙ ap (λ b. cond b (Some x) (copies q)) e.0) ∙ p in
        let same : x ≡ y = cc in
        let own : Stands first.nodes first.bound id w = subst (λ (n : ℕ). Stands first.nodes first.bound (record { 0 = n }) w) (sym e.1) stands in
        subst (Holds new (with_shapes f w)) same (h w own)
    by q y p w stands (inr d) =
        let there : copies q ≡ Some y = sym (update q ∙ ap (λ b. cond b (Some x) (copies q)) d.0) ∙ p in
        holds_grows old new r g (with_shapes f w) y (k q y there w stands)

-- the node that stands for an id now is the one that stood for it first
head_is : (first s : Store) → IsReady first → Grows first s → (id e : TyId) (n m : TyNode) → Ends first.nodes first.bound id e → node_at first.nodes e ≡ Some n → IsHead (state s) id m → n ≡ m
head_is first s r g id e n m ends at is =
    let l = longer first s g in
    let same : e ≡ is.0 = Ends-unique s.nodes s.bound id e is.0 (ends_grow first s l r.closed id e (ends_within first id e n ends at) ends) is.1 in
    let here : Some n ≡ Some m = sym (node_old first s l e n at) ∙ ap (node_at s.nodes) same ∙ is.2 in
    cc

pub copies_variable : (old new : Store) (put : Put) (copies later : Table) (id x : TyId) (number : ℕ) → ((f : ℕ → Shape) → IsReady old → Puts old put f → Lowers old new (f number) x) → ((q : ℕ) → later q ≡ cond (nat_eq id.0 q) (Some x) (copies q)) → IsHead (state old) id (Var number) → Copies old new put copies later
copies_variable old new put copies later id x number lowers update head = λ first f r g puts k. answer first f r g puts k
  where
    answer : (first : Store) (f : ℕ → Shape) → IsReady first → Grows first old → Puts first put f → Copied first old f copies → Grows old new × Copied first new f later
    answer first f r g puts k =
        let l = lowers f (g.ready r) (puts_grow first old r g put f puts) in
        (l.grows, copied_more first old new f copies later id x (g.ready r) l.grows update k (λ w stands. holds id w refl stands l.holds))
      where
        holds : (y : TyId) (w : Tree) → y ≡ id → Stands first.nodes first.bound y w → Holds new (f number) x → Holds new (with_shapes f w) x
        holds y w is (variable z e n ends at) h =
            let same : Var n ≡ Var number = head_is first old r g z e (Var n) (Var number) ends at (subst (λ v. IsHead (state old) v (Var number)) (sym is) head) in
            let one : n ≡ number = cc in
            subst (λ (i : ℕ). Holds new (f i) x) (sym one) h
        holds y w is (built z e n i ws ends at headed all) h =
            let same : n ≡ Var number = head_is first old r g z e n (Var number) ends at (subst (λ v. IsHead (state old) v (Var number)) (sym is) head) in
            let none : None ≡ Some i = ap head_of (sym same) ∙ headed in
            absurd cc

list_of : Shapes → List Shape
list_of no_shapes = []
list_of (shape_and s ss) = s ∷ list_of ss

list_back : (ss : Shapes) → shapes (list_of ss) ≡ ss
unfolding list_of
list_back no_shapes = refl
list_back (shape_and s ss) = ap (shape_and s) (list_back ss)

hold_copies : (first s : Store) (f : ℕ → Shape) (copies : Table) → Copied first s f copies → (ps qs : List TyId) (ws : Trees) → StandAll first.nodes first.bound ps ws → AreCopies copies ps qs → HoldAll s (list_of (all_with_shapes f ws)) qs
unfolding list_of
hold_copies first s f copies k ps [] ws none are = tt
hold_copies first s f copies k ps (q ∷ qs) ws none are = absurd (let e : [] ≡ Some q ∷ map Some qs = are in cc)
hold_copies first s f copies k ps [] ws (more x ys w us one all) are = absurd (let e : copies x.0 ∷ map (λ (p : TyId). copies p.0) ys ≡ [] = are in cc)
hold_copies first s f copies k ps (q ∷ qs) ws (more x ys w us one all) are =
    let e : copies x.0 ∷ map (λ (p : TyId). copies p.0) ys ≡ Some q ∷ map Some qs = are in
    let here : copies x.0 ≡ Some q = cc in
    let rest : map (λ (p : TyId). copies p.0) ys ≡ map Some qs = cc in
    (k x.0 q here w one, hold_copies first s f copies k ys qs us all rest)

pub copies_node : (old new : Store) (put : Put) (copies later : Table) (id x : TyId) → Rebuilt old new copies id x → ((q : ℕ) → later q ≡ cond (nat_eq id.0 q) (Some x) (copies q)) → Copies old new put copies later
copies_node old new put copies later id x b update = λ first f r g puts k. answer first f r g puts k
  where
    grows_by : ((new ≡ old) × (x ≡ id) × (parts_of b.node ≡ b.others)) ⊎ ((m : TyNode) × (head_of m ≡ Some b.head) × (parts_of m ≡ b.others) × AddsNode old new m x × (slot_of m ≡ slot_of b.node)) → Grows old new
    grows_by (inl same) = subst (Grows old) (sym same.0) (grows_same old)
    grows_by (inr made) = grows_node old new made.0 b.head x made.3 made.1

    holds_by : IsReady old → id.0 < length old.nodes → (hs : List Shape) → HoldAll old hs b.others → ((new ≡ old) × (x ≡ id) × (parts_of b.node ≡ b.others)) ⊎ ((m : TyNode) × (head_of m ≡ Some b.head) × (parts_of m ≡ b.others) × AddsNode old new m x × (slot_of m ≡ slot_of b.node)) → Holds new (Make b.head (shapes hs)) x
    holds_by r within hs all (inl same) =
        let here = node_holds old b.node b.head id b.is_head.0 within b.is_head.1 b.is_head.2 b.has_head hs (subst (HoldAll old hs) (sym same.2) all) in
        let at_new : Holds new (Make b.head (shapes hs)) id = subst (λ s. Holds s (Make b.head (shapes hs)) id) (sym same.0) here in
        subst (Holds new (Make b.head (shapes hs))) (sym same.1) at_new
    holds_by r within hs all (inr made) =
        (node_lowers old new made.0 b.head x r made.3 made.1 hs (subst (HoldAll old hs) (sym made.2) all)).holds

    answer : (first : Store) (f : ℕ → Shape) → IsReady first → Grows first old → Puts first put f → Copied first old f copies → Grows old new × Copied first new f later
    answer first f r g puts k =
        (grows_by b.made, copied_more first old new f copies later id x (g.ready r) (grows_by b.made) update k (λ w stands. holds id w refl stands))
      where
        grown_within : (z e : TyId) (n : TyNode) → Ends first.nodes first.bound z e → node_at first.nodes e ≡ Some n → z.0 < length old.nodes
        grown_within z e n ends at = omega (arith, ends_within first z e n ends at, length_longer first old (longer first old g))

        holds : (y : TyId) (w : Tree) → y ≡ id → Stands first.nodes first.bound y w → Holds new (with_shapes f w) x
        holds y w is (variable z e n ends at) =
            let same : Var n ≡ b.node = head_is first old r g z e (Var n) b.node ends at (subst (λ v. IsHead (state old) v b.node) (sym is) b.is_head) in
            let none : None ≡ Some b.head = ap head_of same ∙ b.has_head in
            absurd cc
        holds y w is (built z e n i ws ends at headed all) =
            let same : n ≡ b.node = head_is first old r g z e n b.node ends at (subst (λ v. IsHead (state old) v b.node) (sym is) b.is_head) in
            let one : Some i ≡ Some b.head = sym headed ∙ ap head_of same ∙ b.has_head in
            let head : i ≡ b.head = cc in
            let within : id.0 < length old.nodes = subst (λ (v : TyId). v.0 < length old.nodes) is (grown_within z e n ends at) in
            let copied : AreCopies copies (parts_of n) b.others = subst (λ (m : TyNode). AreCopies copies (parts_of m) b.others) (sym same) b.copied in
            let here = holds_by (g.ready r) within (list_of (all_with_shapes f ws)) (hold_copies first old f copies k (parts_of n) b.others ws all copied) b.made in
            let at_list : Holds new (Make b.head (all_with_shapes f ws)) x = subst (λ (ss : Shapes). Holds new (Make b.head ss) x) (list_back (all_with_shapes f ws)) here in
            subst (λ (h : Head). Holds new (Make h (all_with_shapes f ws)) x) (sym head) at_list

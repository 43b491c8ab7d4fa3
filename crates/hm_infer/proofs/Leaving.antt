-- The names and the nodes of an item, one more at a time.
use Rattle.std.proofs.Common.{◌≡◌, ℕ, zero, suc, ◌+◌, ◌≤◌, ◌⊎◌, Bool, true, false, cond, nat_eq, List, [], ◌∷◌, take, length, Option, Some, None, refl, sym, ap, ◌∙◌, subst, inl, inr, ⊎_elim, add-one}
use Rattle.std.specs.List.{slice_get}
use Rattle.std.proofs.lemmas.Bool.Decides.{eqb_tells}
use Rattle.ml_types.specs.declared.node.TyId.{TyId}
use Rattle.ml_types.specs.declared.node.TyNode.{TyNode}
use Rattle.ml_typing.specs.declared.equation.Unknown.{Unknown}
use Rattle.ml_typing.specs.declared.equation.Unknown.TheVariants.{Node, Binder}
use Rattle.ml_typing.specs.declared.equation.Step.{Step}
use Rattle.ml_typing.specs.Typing.{is_among}
use Rattle.hm_unify.specs.Solutions.{Bound}
use Rattle.hm_unify.specs.States.{AddsFresh}
use Rattle.hm_terms.specs.Stores.{Store, state, Knows, Grows, Generalises}
use Rattle.hm_terms.proofs.Growth.{grows_same, grows_then}
use Rattle.hm_terms.proofs.Holding.{grows_unknown}
use Rattle.hm_terms.proofs.Walking.{take_all}
use Rattle.hm_infer.specs.Closing.{Closes, Notes, is_node, has_node}

-- ---- lists with one element more

either : (b d : Bool) → cond b true d ≡ true → (b ≡ true) ⊎ (d ≡ true)
either true d h = inl refl
either false d h = inr h

neither : (b d : Bool) → cond b true d ≡ false → (b ≡ false) × (d ≡ false)
neither true d h = absurd cc
neither false d h = (refl, h)

-- a test of some element of the list
abbrev pub any : {A : Type 0} → (A → Bool) → List A → Bool
any f [] = false
any f (x ∷ xs) = cond (f x) true (any f xs)

any_more : {A : Type 0} (f : A → Bool) (xs : List A) (n : ℕ) (x : A) → slice_get xs n ≡ Some x → any f (take (suc n) xs) ≡ true → (f x ≡ true) ⊎ (any f (take n xs) ≡ true)
any_more f [] n x e h = absurd cc
any_more f (y ∷ xs) zero x e h =
    let same : y ≡ x = cc in
    ⊎_elim (λ (p : f y ≡ true). inl (ap f (sym same) ∙ p)) (λ (p : false ≡ true). absurd cc) (either (f y) false h)
any_more f (y ∷ xs) (suc n) x e h =
    ⊎_elim (λ (p : f y ≡ true). inr (ap (λ (b : Bool). cond b true (any f (take n xs))) p))
    (λ (p : any f (take (suc n) xs) ≡ true). ⊎_elim (λ (q : f x ≡ true). inl q) (λ (q : any f (take n xs) ≡ true). inr (by (f y) q)) (any_more f xs n x e p))
    (either (f y) (any f (take (suc n) xs)) h)
  where
    by : (b : Bool) → any f (take n xs) ≡ true → cond b true (any f (take n xs)) ≡ true
    by true q = refl
    by false q = q

any_none : {A : Type 0} (f : A → Bool) (xs : List A) (n : ℕ) (x : A) → slice_get xs n ≡ Some x → any f (take (suc n) xs) ≡ false → (f x ≡ false) × (any f (take n xs) ≡ false)
any_none f [] n x e h = absurd (let q : None ≡ Some x = e in cc)
any_none f (y ∷ xs) zero x e h = let same : y ≡ x = cc in (ap f (sym same) ∙ (neither (f y) false h).0, refl)
any_none f (y ∷ xs) (suc n) x e h =
    let k = neither (f y) (any f (take (suc n) xs)) h in
    let r = any_none f xs n x e k.1 in
    (r.0, ap (λ (b : Bool). cond b true (any f (take n xs))) k.0 ∙ r.1)

among_any : (bs : List ℕ) (b : ℕ) → is_among bs b ≡ any (λ (m : ℕ). nat_eq m b) bs
among_any [] b = refl
among_any (m ∷ bs) b = ap (cond (nat_eq m b) true) (among_any bs b)

node_any : (ss : List Step) (n : ℕ) → has_node ss n ≡ any (λ (s : Step). is_node s.node n) ss
node_any [] n = refl
node_any (s ∷ ss) n = ap (cond (is_node s.node n) true) (node_any ss n)

among_more : (bs : List ℕ) (n m b : ℕ) → slice_get bs n ≡ Some m → is_among (take (suc n) bs) b ≡ true → (nat_eq m b ≡ true) ⊎ (is_among (take n bs) b ≡ true)
among_more bs n m b e h =
    ⊎_elim (λ (p : nat_eq m b ≡ true). inl p) (λ (p : any (λ (i : ℕ). nat_eq i b) (take n bs) ≡ true). inr (among_any (take n bs) b ∙ p))
    (any_more (λ (i : ℕ). nat_eq i b) bs n m e (sym (among_any (take (suc n) bs) b) ∙ h))

among_none : (bs : List ℕ) (n m b : ℕ) → slice_get bs n ≡ Some m → is_among (take (suc n) bs) b ≡ false → (nat_eq m b ≡ false) × (is_among (take n bs) b ≡ false)
among_none bs n m b e h =
    let k = any_none (λ (i : ℕ). nat_eq i b) bs n m e (sym (among_any (take (suc n) bs) b) ∙ h) in
    (k.0, among_any (take n bs) b ∙ k.1)

node_more : (ss : List Step) (n : ℕ) (s : Step) (k : ℕ) → slice_get ss n ≡ Some s → has_node (take (suc n) ss) k ≡ true → (is_node s.node k ≡ true) ⊎ (has_node (take n ss) k ≡ true)
node_more ss n s k e h =
    ⊎_elim (λ (p : is_node s.node k ≡ true). inl p) (λ (p : any (λ (i : Step). is_node i.node k) (take n ss) ≡ true). inr (node_any (take n ss) k ∙ p))
    (any_more (λ (i : Step). is_node i.node k) ss n s e (sym (node_any (take (suc n) ss) k) ∙ h))

node_none : (ss : List Step) (n : ℕ) (s : Step) (k : ℕ) → slice_get ss n ≡ Some s → has_node (take (suc n) ss) k ≡ false → (is_node s.node k ≡ false) × (has_node (take n ss) k ≡ false)
node_none ss n s k e h =
    let w = any_none (λ (i : Step). is_node i.node k) ss n s e (sym (node_any (take (suc n) ss) k) ∙ h) in
    (w.0, node_any (take n ss) k ∙ w.1)

-- ---- the names of an item

-- the names so far have schemes, and the solver has grown by their types and nothing else
pub record Closing (old new : Store) (binders : List ℕ) : Type 0 where
  pub middle : Store
  pub grows : Grows old middle
  pub nodes : new.nodes ≡ middle.nodes
  pub bound : new.bound ≡ middle.bound
  pub ids : (u : Unknown) → new.ids u ≡ middle.ids u
  pub operations : new.operations ≡ middle.operations
  pub declared : (n : ℕ) → new.declared n ≡ middle.declared n
  pub mark : new.mark ≡ middle.mark
  pub named : (b : ℕ) → is_among binders b ≡ true → (x : TyId) × (middle.ids (Binder b) ≡ Some x) × (new.schemes b ≡ Some x)
  pub others : (b : ℕ) → is_among binders b ≡ false → new.schemes b ≡ old.schemes b

none_among : (bs : List ℕ) (b : ℕ) → is_among (take 0 bs) b ≡ false
none_among [] b = refl
none_among (m ∷ bs) b = refl

pub closing_start : (s : Store) (bs : List ℕ) → Closing s s (take 0 bs)
closing_start s bs = record {
  middle = s;
  grows = grows_same s;
  nodes = refl;
  bound = refl;
  ids = λ u. refl;
  operations = refl;
  declared = λ n. refl;
  mark = refl;
  named = λ b h. absurd (let q : false ≡ true = sym (none_among bs b) ∙ h in cc);
  others = λ b h. refl;
}

-- a solver that grew by the type of one unknown, with the names that another has
record Grown (old from new : Store) (v : Unknown) (id : TyId) : Type 0 where
  to : Store
  grows : Grows from to
  nodes : new.nodes ≡ to.nodes
  bound : new.bound ≡ to.bound
  ids : (u : Unknown) → new.ids u ≡ to.ids u
  operations : new.operations ≡ to.operations
  declared : (n : ℕ) → new.declared n ≡ to.declared n
  mark : new.mark ≡ to.mark
  there : to.ids v ≡ Some id
  schemes : (b : ℕ) → new.schemes b ≡ old.schemes b

same_adds : (old from new : Store) (id : TyId) → old.nodes ≡ from.nodes → old.bound ≡ from.bound → AddsFresh (state old) (state new) id → AddsFresh (state from) (state new) id
same_adds old from new id nodes bound a =
    subst (λ (ns : List TyNode). AddsFresh (record { nodes = ns; bound = from.bound }) (state new) id) nodes
    (subst (λ (m : Bound). AddsFresh (record { nodes = old.nodes; bound = m }) (state new) id) bound a)

grown : (old from new : Store) (v : Unknown) (id : TyId) → old.nodes ≡ from.nodes → old.bound ≡ from.bound → ((u : Unknown) → old.ids u ≡ from.ids u) → old.operations ≡ from.operations → ((n : ℕ) → old.declared n ≡ from.declared n) → old.mark ≡ from.mark → Knows old new v id → Grown old from new v id
grown old from new v id nodes bound ids operations declared mark (inl k) = record {
  to = from;
  grows = grows_same from;
  nodes = ap (λ (s : Store). s.nodes) k.1 ∙ nodes;
  bound = ap (λ (s : Store). s.bound) k.1 ∙ bound;
  ids = λ u. ap (λ (s : Store). s.ids u) k.1 ∙ ids u;
  operations = ap (λ (s : Store). s.operations) k.1 ∙ operations;
  declared = λ n. ap (λ (s : Store). s.declared n) k.1 ∙ declared n;
  mark = ap (λ (s : Store). s.mark) k.1 ∙ mark;
  there = sym (ids v) ∙ k.0;
  schemes = λ b. ap (λ (s : Store). s.schemes b) k.1;
}
grown old from new v id nodes bound ids operations declared mark (inr a) = record {
  to = to;
  grows = grows_unknown from to v id (record {
    none = sym (ids v) ∙ a.none;
    adds = same_adds old from new id nodes bound a.adds;
    there = a.there;
    others = λ u d. a.others u d ∙ ids u;
    names = record { schemes = λ b. refl; operations = refl; declared = λ n. refl; mark = refl };
  });
  nodes = refl;
  bound = refl;
  ids = λ u. refl;
  operations = a.names.operations ∙ operations;
  declared = λ n. a.names.declared n ∙ declared n;
  mark = a.names.mark ∙ mark;
  there = a.there;
  schemes = a.names.schemes;
}
  where
    to : Store
    to = record { nodes = new.nodes; bound = new.bound; ids = new.ids; schemes = from.schemes; operations = from.operations; declared = from.declared; mark = from.mark }

pub closing_next : (old now known new : Store) (bs : List ℕ) (n m : ℕ) (id : TyId) → slice_get bs n ≡ Some m → Closing old now (take n bs) → Knows now known (Binder m) id → Generalises known new m id → Closing old new (take (n + 1) bs)
closing_next old now known new bs n m id at k knows g = rw add-one (record {
  middle = w.to;
  grows = grows_then old k.middle w.to k.grows w.grows;
  nodes = g.nodes ∙ w.nodes;
  bound = g.bound ∙ w.bound;
  ids = λ u. g.ids u ∙ w.ids u;
  operations = g.operations ∙ w.operations;
  declared = λ n. g.declared n ∙ w.declared n;
  mark = g.mark ∙ w.mark;
  named = λ b h. named b (among_more bs n m b at h) (eqb_tells m b);
  others = λ b h. others b (among_none bs n m b at h) (eqb_tells m b);
})
  where
    w : Grown now k.middle known (Binder m) id
    w = grown now k.middle known (Binder m) id k.nodes k.bound k.ids k.operations k.declared k.mark knows

    named : (b : ℕ) → (nat_eq m b ≡ true) ⊎ (is_among (take n bs) b ≡ true) → ((nat_eq m b ≡ true) × (m ≡ b)) ⊎ ((nat_eq m b ≡ false) × (m ≡ b → ⊥)) → (x : TyId) × (w.to.ids (Binder b) ≡ Some x) × (new.schemes b ≡ Some x)
    named b h (inl e) = (id, ap (λ (i : ℕ). w.to.ids (Binder i)) (sym e.1) ∙ w.there, ap new.schemes (sym e.1) ∙ g.there)
    named b (inl h) (inr d) = absurd (let q : true ≡ false = sym h ∙ d.0 in cc)
    named b (inr h) (inr d) = let x = k.named b h in (x.0, w.grows.ids (Binder b) x.0 x.1, g.others b (λ e. d.1 (sym e)) ∙ w.schemes b ∙ x.2)

    others : (b : ℕ) → (nat_eq m b ≡ false) × (is_among (take n bs) b ≡ false) → ((nat_eq m b ≡ true) × (m ≡ b)) ⊎ ((nat_eq m b ≡ false) × (m ≡ b → ⊥)) → new.schemes b ≡ old.schemes b
    others b h (inl e) = absurd (let q : true ≡ false = sym e.0 ∙ h.0 in cc)
    others b h (inr d) = g.others b (λ e. d.1 (sym e)) ∙ w.schemes b ∙ k.others b h.1

pub closing_done : (old new : Store) (bs : List ℕ) (n : ℕ) → length bs ≤ n → Closing old new (take n bs) → Closes old new bs
closing_done old new bs n h k = by (subst (λ (cs : List ℕ). Closing old new cs) (take_all bs n h) k)
  where
    by : Closing old new bs → Closes old new bs
    by k = record {
      middle = k.middle;
      grows = k.grows;
      nodes = k.nodes;
      bound = k.bound;
      operations = k.operations;
      declared = k.declared;
      named = k.named;
      others = k.others;
    }

-- ---- the nodes of an item

none_has : (ss : List Step) (k : ℕ) → has_node (take 0 ss) k ≡ false
none_has [] k = refl
none_has (s ∷ ss) k = refl

pub notes_start : (s : Store) (ss : List Step) (f : ℕ → Option TyId) → Notes s (take 0 ss) f f
notes_start s ss f = record {
  theirs = λ k h. absurd (let q : false ≡ true = sym (none_has ss k) ∙ h in cc);
  others = λ k h. refl;
}

pub notes_done : (s : Store) (ss : List Step) (n : ℕ) (f g : ℕ → Option TyId) → length ss ≤ n → Notes s (take n ss) f g → Notes s ss f g
notes_done s ss n f g h k = subst (λ (rs : List Step). Notes s rs f g) (take_all ss n h) k

pub notes_next : (s : Store) (ss : List Step) (n : ℕ) (step : Step) (f g h : ℕ → Option TyId) → slice_get ss n ≡ Some step → Notes s (take n ss) f g → Notes s (step ∷ []) g h → Notes s (take (n + 1) ss) f h
notes_next s ss n step f g h at k one = rw add-one (record {
  theirs = λ i e. theirs i (node_more ss n step i at e) (tells (is_node step.node i));
  others = λ i e. (let w = node_none ss n step i at e in one.others i (ap (λ (b : Bool). cond b true false) w.0) ∙ k.others i w.1);
})
  where
    tells : (b : Bool) → (b ≡ true) ⊎ (b ≡ false)
    tells true = inl refl
    tells false = inr refl

    theirs : (i : ℕ) → (is_node step.node i ≡ true) ⊎ (has_node (take n ss) i ≡ true) → (is_node step.node i ≡ true) ⊎ (is_node step.node i ≡ false) → (x : TyId) × (s.ids (Node i) ≡ Some x) × (h i ≡ Some x)
    theirs i e (inl p) = one.theirs i (ap (λ (b : Bool). cond b true false) p)
    theirs i (inl e) (inr p) = absurd (let q : true ≡ false = sym e ∙ p in cc)
    theirs i (inr e) (inr p) = let w = k.theirs i e in (w.0, w.1, one.others i (ap (λ (b : Bool). cond b true false) p) ∙ w.2)

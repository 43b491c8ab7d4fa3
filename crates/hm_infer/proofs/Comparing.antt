-- Which types can be compared, by the node that stands for an id.
use Rattle.std.proofs.Common.{◌≡◌, ℕ, zero, suc, ◌+◌, ◌≤◌, ◌⊎◌, Bool, true, false, List, [], ◌∷◌, take, length, Some, None, refl, sym, ap, ◌∙◌, subst, inl, inr, arith, add-one}
use Rattle.std.specs.List.{slice_get}
use Rattle.std.specs.Bool.{MatchBool}
use Rattle.ml_types.specs.declared.node.TyId.{TyId}
use Rattle.ml_types.specs.declared.node.TyNode.{TyNode}
use Rattle.ml_types.specs.declared.node.TyNode.TheVariants.{Var, Con, Tuple, Arrow}
use Rattle.ml_types.specs.Types.{Head, ConHead, TupleHead, ArrowHead, head_of, Tree, Leaf, Node, Trees, Nil}
use Rattle.ml_typing.specs.declared.equation.Unknown.{Unknown}
use Rattle.ml_typing.specs.declared.equation.Step.{Step}
use Rattle.ml_typing.specs.Typing.{Assignment}
use Rattle.ml_typing.specs.Refusals.{CanCompare, Compares}
use Rattle.hm_unify.specs.Solutions.{Stands}
use Rattle.hm_unify.specs.States.{IsHead}
use Rattle.hm_terms.specs.Stores.{Store, state}
use Rattle.hm_terms.proofs.Growth.{stands_within}
use Rattle.hm_terms.proofs.Walking.{take_all}
use Rattle.hm_infer.specs.Running.{IsShown}
use Rattle.hm_infer.specs.Compared.{IsPlain, IsGoodAt, IsBadAt, IsBadAmong}
use Rattle.hm_infer.proofs.Shown.{Built, node_inverse, leaf_inverse, none_inverse}

tree_built : (s : Store) (x : TyId) (w : Tree) (n : TyNode) (h : Head) → Stands s.nodes s.bound x w → IsHead (state s) x n → head_of n ≡ Some h → Built s.nodes s.bound n h w
tree_built s x w n h k is head = node_inverse s.nodes s.bound x w is.0 n h k is.1 is.2 head

-- the head of a type that can be compared
compared_head : (w : Tree) (h : Head) (ts : Trees) → w ≡ Node h ts → (c : CanCompare w) → h ≡ ConHead c.0 0
compared_head w h ts e c = let q : Node h ts ≡ Node (ConHead c.0 0) Nil = sym e ∙ c.2 in cc

none_left : (args : List TyId) → length args ≡ 0 → args ≡ []
none_left [] h = refl
none_left (x ∷ xs) h = absurd (omega arith)

-- a type can be compared if its head is plain, and only then
plain_compares : (s : Store) (x : TyId) (w : Tree) (n : TyNode) → Stands s.nodes s.bound x w → IsHead (state s) x n → IsPlain n → CanCompare w
plain_compares s x w (Var m) k is p = absurd p
plain_compares s x w (Con number args) k is p =
    let b = tree_built s x w (Con number args) (ConHead number (length args)) k is refl in
    let parts : b.parts ≡ Nil = none_inverse s.nodes s.bound args b.parts b.stand p.1 in
    (number, p.0, b.is ∙ ap (λ (h : Head). Node h b.parts) (ap (λ (xs : List TyId). ConHead number (length xs)) p.1) ∙ ap (Node (ConHead number 0)) parts)
plain_compares s x w (Tuple ps) k is p = absurd p
plain_compares s x w (Arrow slot from to) k is p = absurd p

compares_plain : (s : Store) (x : TyId) (w : Tree) (n : TyNode) → Stands s.nodes s.bound x w → IsHead (state s) x n → CanCompare w → IsPlain n
compares_plain s x w (Var m) k is c = absurd (let q : Leaf m ≡ Node (ConHead c.0 0) Nil = sym (leaf_inverse s.nodes s.bound x w is.0 m k is.1 is.2) ∙ c.2 in cc)
compares_plain s x w (Con number args) k is c =
    let b = tree_built s x w (Con number args) (ConHead number (length args)) k is refl in
    let q : ConHead number (length args) ≡ ConHead c.0 0 = compared_head w (ConHead number (length args)) b.parts b.is c in
    let n : number ≡ c.0 = cc in
    let e : length args ≡ 0 = cc in
    (omega (arith, n, c.1), none_left args e)
compares_plain s x w (Tuple ps) k is c =
    let b = tree_built s x w (Tuple ps) (TupleHead (length ps)) k is refl in
    let q : TupleHead (length ps) ≡ ConHead c.0 0 = compared_head w (TupleHead (length ps)) b.parts b.is c in
    absurd cc
compares_plain s x w (Arrow slot from to) k is c =
    let b = tree_built s x w (Arrow slot from to) ArrowHead k is refl in
    let q : ArrowHead ≡ ConHead c.0 0 = compared_head w ArrowHead b.parts b.is c in
    absurd cc

match_bool : (P Q : Type 0) → (P → Q) → (Q → P) → (b : Bool) → MatchBool b P (P → ⊥) → MatchBool b Q (Q → ⊥)
match_bool P Q f g true h = f h
match_bool P Q f g false h = λ q. h (g q)

pub compares_by_head : (s : Store) (v : Unknown) (x : TyId) (n : TyNode) (b : Bool) → Some x ≡ s.ids v → IsHead (state s) x n → MatchBool b (IsPlain n) (IsPlain n → ⊥) → (a : Assignment) → IsShown s a → MatchBool b (CanCompare (a v)) (CanCompare (a v) → ⊥)
compares_by_head s v x n b known head plain a shows =
    let k : Stands s.nodes s.bound x (a v) = shows v x (sym known) in
    match_bool (IsPlain n) (CanCompare (a v)) (plain_compares s x (a v) n k head) (compares_plain s x (a v) n k head) b plain

pub compares_none : (s : Store) (v : Unknown) (x : TyId) → Some x ≡ s.ids v → length s.nodes ≤ x.0 → (a : Assignment) → IsShown s a → CanCompare (a v) → ⊥
compares_none s v x known past a shows c = omega (arith, past, stands_within s x (a v) (shows v x (sym known)))

-- ---- the comparisons of steps in their order

pub good_at : (s : Store) (step : Step) (v : Unknown) (b : Bool) → step.compared ≡ Some v → ((a : Assignment) → IsShown s a → MatchBool b (CanCompare (a v)) (CanCompare (a v) → ⊥)) → (a : Assignment) → IsShown s a → MatchBool b (IsGoodAt step a) (IsBadAt step a)
good_at s step v b is h a shows = by b (h a shows)
  where
    by : (b : Bool) → MatchBool b (CanCompare (a v)) (CanCompare (a v) → ⊥) → MatchBool b (IsGoodAt step a) (IsBadAt step a)
    by true k = λ u e. let q : Some u ≡ Some v = sym e ∙ is in let same : u ≡ v = cc in subst (λ (z : Unknown). CanCompare (a z)) (sym same) k
    by false k = (v, is, k)

pub nothing_at : (step : Step) → step.compared ≡ None → (a : Assignment) → IsGoodAt step a
nothing_at step is a v e = absurd (let q : None ≡ Some v = sym is ∙ e in cc)

pub compares_first : (steps : List Step) (a : Assignment) → Compares (take 0 steps) a
compares_first [] a j s v at e = absurd (let q : None ≡ Some s = at in cc)
compares_first (step ∷ steps) a j s v at e = absurd (let q : None ≡ Some s = at in cc)

at_take : (steps : List Step) (n j : ℕ) (s : Step) → slice_get (take (suc n) steps) j ≡ Some s → (slice_get (take n steps) j ≡ Some s) ⊎ (slice_get steps n ≡ Some s)
at_take [] n j s h = absurd (let q : None ≡ Some s = h in cc)
at_take (step ∷ steps) zero zero s h = inr h
at_take (step ∷ []) zero (suc j) s h = absurd (let q : None ≡ Some s = h in cc)
at_take (step ∷ other ∷ steps) zero (suc j) s h = absurd (let q : None ≡ Some s = h in cc)
at_take (step ∷ steps) (suc n) zero s h = inl h
at_take (step ∷ steps) (suc n) (suc j) s h = at_take steps n j s h

pub compares_next : (steps : List Step) (a : Assignment) (n : ℕ) (step : Step) → slice_get steps n ≡ Some step → Compares (take n steps) a → IsGoodAt step a → Compares (take (n + 1) steps) a
compares_next steps a n step is k good = rw add-one (λ j s v at e. by s v e j (at_take steps n j s at))
  where
    by : (s : Step) (v : Unknown) → s.compared ≡ Some v → (j : ℕ) → (slice_get (take n steps) j ≡ Some s) ⊎ (slice_get steps n ≡ Some s) → CanCompare (a v)
    by s v e j (inl h) = k j s v h e
    by s v e j (inr h) = let q : Some s ≡ Some step = sym h ∙ is in let same : s ≡ step = cc in good v (ap (λ (z : Step). z.compared) (sym same) ∙ e)

pub compares_all : (steps : List Step) (a : Assignment) (n : ℕ) → length steps ≤ n → Compares (take n steps) a → Compares steps a
compares_all steps a n h k = subst (λ (ss : List Step). Compares ss a) (take_all steps n h) k

pub bad_among : (steps : List Step) (a : Assignment) (n : ℕ) (step : Step) → slice_get steps n ≡ Some step → Compares (take n steps) a → IsBadAt step a → IsBadAmong steps a step.span
bad_among steps a n step is k bad = record {
  k = n;
  step = step;
  operands = bad.0;
  at = is;
  compares = bad.1;
  bad = bad.2;
  steps_before = k;
  span_is = refl;
}

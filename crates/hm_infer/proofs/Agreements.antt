-- What the solver knows and what pairs say: as the solver grows, and behind the pairs of one step more.
use Rattle.std.proofs.Common.{◌≡◌, ℕ, zero, suc, ◌+◌, ◌<◌, ◌⊎◌, List, [], ◌∷◌, ◌++◌, map, take, Option, Some, None, refl, sym, ap, ◌∙◌, subst, inl, inr, ⊎_elim}
use Rattle.std.specs.List.{slice_get}
use Rattle.oxml_base.specs.declared.span.Span.{Span}
use Rattle.ml_types.specs.declared.node.TyId.{TyId}
use Rattle.ml_types.specs.declared.node.TyNode.{TyNode}
use Rattle.ml_types.specs.Types.{Tree, Leaf, tree_size}
use Rattle.ml_typing.specs.declared.equation.Unknown.{Unknown}
use Rattle.ml_typing.specs.declared.equation.Equation.{Equation}
use Rattle.ml_typing.specs.declared.equation.Step.{Step}
use Rattle.ml_typing.specs.Terms.{Context}
use Rattle.ml_typing.specs.Typing.{Assignment, Pair, Satisfies, Occurs, pair_of, step_pairs}
use Rattle.ml_typing.specs.Refusals.{HasSolution, NoSolution}
use Rattle.hm_unify.specs.Solutions.{Pairs, Solves, Equates, IsIdOf, IsFirstFault, IsTooLarge}
use Rattle.hm_unify.specs.States.{Equated}
use Rattle.hm_terms.specs.Stores.{Store, state, Reading, IsReady, Grows}
use Rattle.hm_terms.proofs.Growth.{reading_back}
use Rattle.hm_terms.proofs.Holding.{holds_grows}
use Rattle.hm_infer.specs.Running.{HoldPairs, Agrees, Fails, Outgrows}

-- ---- lists of pairs

pub satisfies_both : (a : Assignment) (ps qs : List Pair) → Satisfies a ps → Satisfies a qs → Satisfies a (ps ++ qs)
satisfies_both a [] qs h k = k
satisfies_both a (p ∷ ps) qs h k = (h.0, satisfies_both a ps qs h.1 k)

pub satisfies_first : (a : Assignment) (ps qs : List Pair) → Satisfies a (ps ++ qs) → Satisfies a ps
satisfies_first a [] qs h = tt
satisfies_first a (p ∷ ps) qs h = (h.0, satisfies_first a ps qs h.1)

pub satisfies_last : (a : Assignment) (ps qs : List Pair) → Satisfies a (ps ++ qs) → Satisfies a qs
satisfies_last a [] qs h = h
satisfies_last a (p ∷ ps) qs h = satisfies_last a ps qs h.1

occurs_either : (u : Unknown) (ps qs : List Pair) → Occurs u (ps ++ qs) → Occurs u ps ⊎ Occurs u qs
occurs_either u [] qs o = inr o
occurs_either u (p ∷ ps) qs (inl o) = inl (inl o)
occurs_either u (p ∷ ps) qs (inr (inl o)) = inl (inr (inl o))
occurs_either u (p ∷ ps) qs (inr (inr o)) = ⊎_elim (λ i. inl (inr (inr i))) (λ i. inr i) (occurs_either u ps qs o)

-- ---- pairs and the ids of their types

pub pairs_equate : (s : Store) (t : TyId → Tree) (a : Assignment) → Reading s t a → (qs : List Pair) (ids : Pairs) → HoldPairs s qs ids → Satisfies a qs → Equates t ids
pairs_equate s t a r [] [] h k = tt
pairs_equate s t a r [] (p ∷ ps) h k = absurd h
pairs_equate s t a r (q ∷ qs) [] h k = absurd h
pairs_equate s t a r (q ∷ qs) (p ∷ ps) h k = (h.0.of t a r ∙ k.0 ∙ sym (h.1.of t a r), pairs_equate s t a r qs ps h.2 k.1)

pub pairs_satisfy : (s : Store) (t : TyId → Tree) (a : Assignment) → Reading s t a → (qs : List Pair) (ids : Pairs) → HoldPairs s qs ids → Equates t ids → Satisfies a qs
pairs_satisfy s t a r [] [] h k = tt
pairs_satisfy s t a r [] (p ∷ ps) h k = absurd h
pairs_satisfy s t a r (q ∷ qs) [] h k = absurd h
pairs_satisfy s t a r (q ∷ qs) (p ∷ ps) h k = (sym (h.0.of t a r) ∙ k.0 ∙ h.1.of t a r, pairs_satisfy s t a r qs ps h.2 k.1)

pairs_known : (s : Store) (qs : List Pair) (ids : Pairs) → HoldPairs s qs ids → (u : Unknown) → Occurs u qs → (x : TyId) × (s.ids u ≡ Some x)
pairs_known s [] ids h u o = absurd o
pairs_known s (q ∷ qs) [] h u o = absurd h
pairs_known s (q ∷ qs) (p ∷ ps) h u (inl o) = h.0.known u o
pairs_known s (q ∷ qs) (p ∷ ps) h u (inr (inl o)) = h.1.known u o
pairs_known s (q ∷ qs) (p ∷ ps) h u (inr (inr o)) = pairs_known s qs ps h.2 u o

pairs_take : (s : Store) (k : ℕ) (qs : List Pair) (ids : Pairs) → HoldPairs s qs ids → HoldPairs s (take k qs) (take k ids)
pairs_take s zero [] [] h = h
pairs_take s (suc k) [] [] h = h
pairs_take s k [] (p ∷ ps) h = absurd h
pairs_take s k (q ∷ qs) [] h = absurd h
pairs_take s zero (q ∷ qs) (p ∷ ps) h = tt
pairs_take s (suc k) (q ∷ qs) (p ∷ ps) h = (h.0, h.1, pairs_take s k qs ps h.2)

pub hold_pairs_grow : (old new : Store) → IsReady old → Grows old new → (qs : List Pair) (ids : Pairs) → HoldPairs old qs ids → HoldPairs new qs ids
hold_pairs_grow old new r g [] [] h = tt
hold_pairs_grow old new r g [] (p ∷ ps) h = h
hold_pairs_grow old new r g (q ∷ qs) [] h = h
hold_pairs_grow old new r g (q ∷ qs) (p ∷ ps) h = (holds_grows old new r g q.0 p.0 h.0, holds_grows old new r g q.1 p.1 h.1, hold_pairs_grow old new r g qs ps h.2)

-- ---- what is known, as the solver grows

pub agrees_grows : (old new : Store) (ps : List Pair) → Agrees old ps → IsReady old → Grows old new → Agrees new ps
agrees_grows old new ps k r g = record {
  forth = λ t a h. k.forth t a (reading_back old new g t a h);
  back = λ a h. (let w = k.back a h in let e = g.extends r w.0 a w.1 in (e.types, e.reading));
  known = λ u o. (let w = k.known u o in (w.0, g.ids u w.0 w.1));
}

-- ---- pairs that were made equal

pub agrees_equated : (old new : Store) (ps qs : List Pair) (ids : Pairs) → Agrees old ps → HoldPairs old qs ids → Equated (state old) (state new) ids → ((u : Unknown) → new.ids u ≡ old.ids u) → Agrees new (ps ++ qs)
agrees_equated old new ps qs ids k h e same = record {
  forth = λ t a r. (let b = back t a r in satisfies_both a ps qs (k.forth t a b.0) (pairs_satisfy old t a b.0 qs ids h b.1));
  back = λ a sat. (let w = k.back a (satisfies_first a ps qs sat) in (
    w.0,
    record {
      solves = subst (λ (ns : List TyNode). Solves ns new.bound w.0) (sym e.nodes) (e.back w.0 w.1.solves (pairs_equate old w.0 a w.1 qs ids h (satisfies_last a ps qs sat)));
      reads = λ u x p. w.1.reads u x (sym (same u) ∙ p);
    },
  ));
  known = λ u o. (let w = known u (occurs_either u ps qs o) in (w.0, same u ∙ w.1));
}
  where
    back : (t : TyId → Tree) (a : Assignment) → Reading new t a → Reading old t a × Equates t ids
    back t a r =
        let w = e.forth t (subst (λ (ns : List TyNode). Solves ns new.bound t) e.nodes r.solves) in
        (record { solves = w.0; reads = λ u x p. r.reads u x (same u ∙ p) }, w.1)

    known : (u : Unknown) → Occurs u ps ⊎ Occurs u qs → (x : TyId) × (old.ids u ≡ Some x)
    known u (inl o) = k.known u o
    known u (inr o) = pairs_known old qs ids h u o

-- ---- pairs that were refused

-- the types that a solution gives the unknowns
abbrev read_by : (TyId → Tree) → Option TyId → Tree
read_by t None = Leaf 0
read_by t (Some x) = t x

reading_of : (s : Store) (t : TyId → Tree) → Solves s.nodes s.bound t → Reading s t (λ u. read_by t (s.ids u))
reading_of s t k = record { solves = k; reads = λ u x p. sym (ap (read_by t) p) }

solution_of : (s : Store) (ps qs : List Pair) (ids : Pairs) (t : TyId → Tree) → Agrees s ps → HoldPairs s qs ids → Solves s.nodes s.bound t → Equates t ids → HasSolution (ps ++ qs)
solution_of s ps qs ids t k h solves equates =
    let a : Assignment = λ u. read_by t (s.ids u) in
    let r = reading_of s t solves in
    (a, satisfies_both a ps qs (k.forth t a r) (pairs_satisfy s t a r qs ids h equates))

no_solution_of : (s : Store) (ps qs : List Pair) (ids : Pairs) → Agrees s ps → HoldPairs s qs ids → ((t : TyId → Tree) → Solves s.nodes s.bound t → Equates t ids → ⊥) → NoSolution (ps ++ qs)
no_solution_of s ps qs ids k h none = λ a sat.
    let w = k.back a (satisfies_first a ps qs sat) in
    none w.0 w.1.solves (pairs_equate s w.0 a w.1 qs ids h (satisfies_last a ps qs sat))

pub step_fails : (s : Store) (c : Context) (before : List Pair) (step : Step) (ids : Pairs) (k : ℕ) (equation : Equation) (span : Span) → Agrees s before → HoldPairs s (step_pairs c step) ids → IsFirstFault s.nodes s.bound ids k → slice_get step.equations k ≡ Some equation → span ≡ equation.part → Fails c before step span
step_fails s c before step ids k equation span agrees hold fault at is = record {
  part = k;
  equation = equation;
  equation_at = at;
  still = solution_of s before (take k (step_pairs c step)) (take k ids) fault.before.0 agrees (pairs_take s k (step_pairs c step) ids hold) fault.before.1 fault.before.2;
  fails = no_solution_of s before (take (k + 1) (step_pairs c step)) (take (k + 1) ids) agrees (pairs_take s (k + 1) (step_pairs c step) ids hold) fault.fault;
  span_is = is;
}

-- an id of the pairs is the type of what an equation is about, where the two of each pair are equal
record IsLeftOf (s : Store) (equations : List Equation) (ids : Pairs) (x : TyId) : Type 0 where
  part : ℕ
  equation : Equation
  at : slice_get equations part ≡ Some equation
  same : (t : TyId → Tree) (a : Assignment) → Reading s t a → Equates t ids → t x ≡ a equation.left

left_of : (s : Store) (c : Context) (equations : List Equation) (ids : Pairs) (x : TyId) → HoldPairs s (map (pair_of c) equations) ids → IsIdOf ids x → IsLeftOf s equations ids x
left_of s c equations [] x h i = absurd i
left_of s c [] (p ∷ ids) x h i = absurd h
left_of s c (e ∷ es) (p ∷ ids) x h (inl i) = record {
  part = 0;
  equation = e;
  at = refl;
  same = λ t a r k. ap t i ∙ h.0.of t a r;
}
left_of s c (e ∷ es) (p ∷ ids) x h (inr (inl i)) = record {
  part = 0;
  equation = e;
  at = refl;
  same = λ t a r k. ap t i ∙ sym k.0 ∙ h.0.of t a r;
}
left_of s c (e ∷ es) (p ∷ ids) x h (inr (inr i)) =
    let l = left_of s c es ids x h.2 i in
    record {
      part = suc l.part;
      equation = l.equation;
      at = l.at;
      same = λ t a r k. l.same t a r k.1;
    }

pub step_outgrows : (s : Store) (c : Context) (before : List Pair) (step : Step) (ids : Pairs) → Agrees s before → HoldPairs s (step_pairs c step) ids → IsTooLarge s.nodes s.bound ids → Outgrows c before step
step_outgrows s c before step ids agrees hold large =
    let l = left_of s c step.equations ids large.id hold large.of_pairs in
    record {
      solvable = solution_of s before (step_pairs c step) ids large.some.0 agrees hold large.some.1 large.some.2;
      part = l.part;
      equation = l.equation;
      equation_at = l.at;
      large = λ a sat. (let w = agrees.back a (satisfies_first a before (step_pairs c step) sat) in
          let equal = pairs_equate s w.0 a w.1 (step_pairs c step) ids hold (satisfies_last a before (step_pairs c step) sat) in
          subst (λ (v : Tree). 2000 < tree_size v) (l.same w.0 a w.1 equal) (large.large w.0 w.1.solves equal));
    }

-- Of one item the answers exclude each other, and a fault is at one step only.
use Rattle.std.proofs.Common.{◌≡◌, ℕ, zero, suc, ◌+◌, ◌<◌, ◌≤◌, List, [], ◌∷◌, ◌++◌, take, Some, slice_get, refl, sym, ap, ◌∙◌, inl, inr, arith, subst, ⊎_elim}
use Rattle.std.proofs.lemmas.Bool.{cases_lt}
use Rattle.oxml_base.specs.declared.span.Span.{Span}
use Rattle.ml_types.specs.Types.{tree_size}
use Rattle.ml_typing.specs.declared.equation.Unknown.{Unknown}
use Rattle.ml_typing.specs.declared.equation.Equation.{Equation}
use Rattle.ml_typing.specs.declared.equation.Step.{Step}
use Rattle.ml_typing.specs.Terms.{Context}
use Rattle.ml_typing.specs.Typing.{Assignment, Pair, Satisfies, pairs, step_pairs}
use Rattle.ml_typing.specs.Refusals.{HasSolution, NoSolution, IsTypeOf, Fits, IsRuleOf, IsUnsolved, IsTooLarge}

-- solutions of two lists of pairs
pub both : (a : Assignment) (ps qs : List Pair) → Satisfies a ps → Satisfies a qs → Satisfies a (ps ++ qs)
both a [] qs h k = k
both a (p ∷ ps) qs h k = (h.0, both a ps qs h.1 k)

pub front : (a : Assignment) (ps qs : List Pair) → Satisfies a (ps ++ qs) → Satisfies a ps
front a [] qs h = tt
front a (p ∷ ps) qs h = (h.0, front a ps qs h.1)

pub back : (a : Assignment) (ps qs : List Pair) → Satisfies a (ps ++ qs) → Satisfies a qs
back a [] qs h = h
back a (p ∷ ps) qs h = back a ps qs h.1

pub fewer : (a : Assignment) (ps : List Pair) (k m : ℕ) → k ≤ m → Satisfies a (take m ps) → Satisfies a (take k ps)
fewer a [] zero m l h = tt
fewer a [] (suc k) m l h = tt
fewer a (p ∷ ps) zero m l h = tt
fewer a (p ∷ ps) (suc k) zero l h = absurd (omega arith)
fewer a (p ∷ ps) (suc k) (suc m) l h = (h.0, fewer a ps k m (omega arith) h.1)

pub some_of : (a : Assignment) (ps : List Pair) (k : ℕ) → Satisfies a ps → Satisfies a (take k ps)
some_of a [] zero h = tt
some_of a [] (suc k) h = tt
some_of a (p ∷ ps) zero h = tt
some_of a (p ∷ ps) (suc k) h = (h.0, some_of a ps k h.1)

-- what solves all steps, or those before a later one, solves those up to this one
pub until : (c : Context) (a : Assignment) (steps : List Step) (k : ℕ) (s : Step) → slice_get steps k ≡ Some s → Satisfies a (pairs c steps) → Satisfies a (pairs c (take k steps) ++ step_pairs c s)
until c a [] k s at h = absurd cc
until c a (r ∷ rest) zero s at h =
    let e : r ≡ s = cc in
    subst (λ (t : Step). Satisfies a (step_pairs c t)) e (front a (step_pairs c r) (pairs c rest) h)
until c a (r ∷ rest) (suc k) s at h =
    let inner : Satisfies a (pairs c (take k rest) ++ step_pairs c s) = until c a rest k s at (back a (step_pairs c r) (pairs c rest) h) in
    both a (step_pairs c r ++ pairs c (take k rest)) (step_pairs c s)
    (both a (step_pairs c r) (pairs c (take k rest)) (front a (step_pairs c r) (pairs c rest) h) (front a (pairs c (take k rest)) (step_pairs c s) inner))
    (back a (pairs c (take k rest)) (step_pairs c s) inner)

pub taken : {A : Type 0} (xs : List A) (k m : ℕ) (x : A) → k < m → slice_get xs k ≡ Some x → slice_get (take m xs) k ≡ Some x
taken [] k m x l at = absurd cc
taken (y ∷ xs) k zero x l at = absurd (omega arith)
taken (y ∷ xs) zero (suc m) x l at = at
taken (y ∷ xs) (suc k) (suc m) x l at = taken xs k m x (omega arith) at

pub twice_taken : {A : Type 0} (xs : List A) (k m : ℕ) → k ≤ m → take k (take m xs) ≡ take k xs
twice_taken [] zero zero l = refl
twice_taken [] zero (suc m) l = refl
twice_taken [] (suc k) zero l = refl
twice_taken [] (suc k) (suc m) l = refl
twice_taken (y ∷ xs) zero zero l = refl
twice_taken (y ∷ xs) zero (suc m) l = refl
twice_taken (y ∷ xs) (suc k) zero l = absurd (omega arith)
twice_taken (y ∷ xs) (suc k) (suc m) l = ap (λ z. y ∷ z) (twice_taken xs k m (omega arith))

pub until_before : (c : Context) (a : Assignment) (steps : List Step) (k m : ℕ) (s : Step) → k < m → slice_get steps k ≡ Some s → Satisfies a (pairs c (take m steps)) → Satisfies a (pairs c (take k steps) ++ step_pairs c s)
until_before c a steps k m s l at h =
    subst (λ (ss : List Step). Satisfies a (pairs c ss ++ step_pairs c s)) (twice_taken steps k m (omega arith)) (until c a (take m steps) k s (taken steps k m s l at) h)

-- an element among the first is one of the list, and among more of the first
pub of_taken : {A : Type 0} (xs : List A) (n i : ℕ) (x : A) → slice_get (take n xs) i ≡ Some x → slice_get xs i ≡ Some x
of_taken [] zero i x h = absurd cc
of_taken [] (suc n) i x h = absurd cc
of_taken (y ∷ xs) zero i x h = absurd cc
of_taken (y ∷ xs) (suc n) zero x h = h
of_taken (y ∷ xs) (suc n) (suc i) x h = of_taken xs n i x h

pub of_more : {A : Type 0} (xs : List A) (n m i : ℕ) (x : A) → n ≤ m → slice_get (take n xs) i ≡ Some x → slice_get (take m xs) i ≡ Some x
of_more [] zero m i x l h = absurd cc
of_more [] (suc n) m i x l h = absurd cc
of_more (y ∷ xs) zero m i x l h = absurd cc
of_more (y ∷ xs) (suc n) zero i x l h = absurd (omega arith)
of_more (y ∷ xs) (suc n) (suc m) zero x l h = h
of_more (y ∷ xs) (suc n) (suc m) (suc i) x l h = of_more xs n m i x (omega arith) h

type_of_all : (steps : List Step) (n : ℕ) (v : Unknown) → IsTypeOf (take n steps) v → IsTypeOf steps v
type_of_all steps n v (i, s, at, is) = (i, s, of_taken steps n i s at, is)

type_of_more : (steps : List Step) (n m : ℕ) (v : Unknown) → n ≤ m → IsTypeOf (take n steps) v → IsTypeOf (take m steps) v
type_of_more steps n m v l (i, s, at, is) = (i, s, of_more steps n m i s l at, is)

-- a solution up to the step of a fault, or up to the first part of it that has none
no_part : (c : Context) (a : Assignment) (ps qs : List Pair) (n : ℕ) → Satisfies a (ps ++ qs) → Satisfies a (ps ++ take n qs)
no_part c a ps qs n h = both a ps (take n qs) (front a ps qs h) (some_of a qs n (back a ps qs h))

unsolvable : (c : Context) (steps : List Step) (rule : ℕ) (span : Span) (f : IsUnsolved c steps rule span) → NoSolution (pairs c (take f.k steps) ++ step_pairs c f.step)
unsolvable c steps rule span f a h = f.fails a (no_part c a (pairs c (take f.k steps)) (step_pairs c f.step) (f.part + 1) h)

-- steps that fit have no fault
pub fit_or_unsolved : (c : Context) (steps : List Step) (rule : ℕ) (span : Span) → Fits c steps → IsUnsolved c steps rule span → ⊥
fit_or_unsolved c steps rule span (a, h, small) f = unsolvable c steps rule span f a (until c a steps f.k f.step f.at h)

pub fit_or_large : (c : Context) (steps : List Step) (span : Span) → Fits c steps → IsTooLarge c steps span → ⊥
fit_or_large c steps span (a, h, small) f =
    let x : tree_size (a f.type) ≤ 2000 = small f.type (type_of_all steps (f.k + 1) f.type f.of_steps) in
    let y : 2000 < tree_size (a f.type) = f.large a (until c a steps f.k f.step f.at h) in
    absurd (omega arith)

-- steps before a later one fit, so no fault is among them
fit_before_unsolved : (c : Context) (steps : List Step) (m rule : ℕ) (span : Span) → Fits c (take m steps) → (f : IsUnsolved c steps rule span) → f.k < m → ⊥
fit_before_unsolved c steps m rule span (a, h, small) f l = unsolvable c steps rule span f a (until_before c a steps f.k m f.step l f.at h)

fit_before_large : (c : Context) (steps : List Step) (m : ℕ) (span : Span) → Fits c (take m steps) → (f : IsTooLarge c steps span) → f.k < m → ⊥
fit_before_large c steps m span (a, h, small) f l =
    let x : tree_size (a f.type) ≤ 2000 = small f.type (type_of_more steps (f.k + 1) m f.type (omega arith) f.of_steps) in
    let y : 2000 < tree_size (a f.type) = f.large a (until_before c a steps f.k m f.step l f.at h) in
    absurd (omega arith)

-- numbers of which neither is less
pub same_number : (k m : ℕ) → ((k < m) → ⊥) → ((m < k) → ⊥) → k ≡ m
same_number k m f g = ⊎_elim (λ (l : k < m). absurd (f l)) (λ (l : m ≤ k). ⊎_elim (λ (r : m < k). absurd (g r)) (λ (r : k ≤ m). omega arith) (cases_lt m k)) (cases_lt k m)

pub one_value : {A : Type 0} (xs : List A) (k m : ℕ) (x y : A) → k ≡ m → slice_get xs k ≡ Some x → slice_get xs m ≡ Some y → x ≡ y
one_value xs k m x y e p q = let h : Some x ≡ Some y = sym p ∙ ap (slice_get xs) e ∙ q in cc

-- two faults are at one step
pub unsolved_at : (c : Context) (steps : List Step) (rule rule' : ℕ) (span span' : Span) → (f : IsUnsolved c steps rule span) → (g : IsUnsolved c steps rule' span') → f.k ≡ g.k
unsolved_at c steps rule rule' span span' f g =
    same_number f.k g.k (fit_before_unsolved c steps g.k rule span g.before f) (fit_before_unsolved c steps f.k rule' span' f.before g)

pub large_at : (c : Context) (steps : List Step) (span span' : Span) → (f : IsTooLarge c steps span) → (g : IsTooLarge c steps span') → f.k ≡ g.k
large_at c steps span span' f g = same_number f.k g.k (fit_before_large c steps g.k span g.before f) (fit_before_large c steps f.k span' f.before g)

pub large_once : (c : Context) (steps : List Step) (span span' : Span) → IsTooLarge c steps span → IsTooLarge c steps span' → span ≡ span'
large_once c steps span span' f g =
    let e : f.step ≡ g.step = one_value steps f.k g.k f.step g.step (large_at c steps span span' f g) f.at g.at in
    f.span_is ∙ ap (λ (s : Step). s.span) e ∙ sym g.span_is

pub unsolved_or_large : (c : Context) (steps : List Step) (rule : ℕ) (span span' : Span) → IsUnsolved c steps rule span → IsTooLarge c steps span' → ⊥
unsolved_or_large c steps rule span span' f g =
    let same : f.k ≡ g.k = same_number f.k g.k (fit_before_unsolved c steps g.k rule span g.before f) (fit_before_large c steps f.k span' f.before g) in
    let e : g.step ≡ f.step = sym (one_value steps f.k g.k f.step g.step same f.at g.at) in
    let solved : HasSolution (pairs c (take f.k steps) ++ step_pairs c f.step) = subst (λ (s : Step). HasSolution (pairs c (take f.k steps) ++ step_pairs c s)) e (subst (λ (n : ℕ). HasSolution (pairs c (take n steps) ++ step_pairs c g.step)) (sym same) g.solvable) in
    unsolvable c steps rule span f solved.0 solved.1

-- one rule of the same equations
one_rule : (rule rule' : ℕ) (ps : List Pair) → IsRuleOf rule ps → IsRuleOf rule' ps → rule ≡ rule'
one_rule rule rule' ps (inl h) (inl k) = h.0 ∙ sym k.0
one_rule rule rule' ps (inl h) (inr k) = absurd (h.1 k.1.0 k.1.1)
one_rule rule rule' ps (inr h) (inl k) = absurd (k.1 h.1.0 h.1.1)
one_rule rule rule' ps (inr h) (inr k) = h.0 ∙ sym k.0

first_part : (a : Assignment) (ps qs : List Pair) (n m : ℕ) → n < m → Satisfies a (ps ++ take m qs) → Satisfies a (ps ++ take (n + 1) qs)
first_part a ps qs n m l h = both a ps (take (n + 1) qs) (front a ps (take m qs) h) (fewer a qs (n + 1) m (omega arith) (back a ps (take m qs) h))

-- the same step has one first part without a solution
part_before : (c : Context) (steps : List Step) (k m : ℕ) (s r : Step) (n p : ℕ) → k ≡ m → s ≡ r → n < p → NoSolution (pairs c (take k steps) ++ take (n + 1) (step_pairs c s)) → HasSolution (pairs c (take m steps) ++ take p (step_pairs c r)) → ⊥
part_before c steps k m s r n p e d l fails (a, h) =
    let there : Satisfies a (pairs c (take k steps) ++ take p (step_pairs c s)) = subst (λ (t : Step). Satisfies a (pairs c (take k steps) ++ take p (step_pairs c t))) (sym d) (subst (λ (i : ℕ). Satisfies a (pairs c (take i steps) ++ take p (step_pairs c r))) (sym e) h) in
    fails a (first_part a (pairs c (take k steps)) (step_pairs c s) n p l there)

pub unsolved_once : (c : Context) (steps : List Step) (rule rule' : ℕ) (span span' : Span) → IsUnsolved c steps rule span → IsUnsolved c steps rule' span' → (rule ≡ rule') × (span ≡ span')
unsolved_once c steps rule rule' span span' f g =
    let same : f.k ≡ g.k = unsolved_at c steps rule rule' span span' f g in
    let e : f.step ≡ g.step = one_value steps f.k g.k f.step g.step same f.at g.at in
    let part : f.part ≡ g.part = same_number f.part g.part (λ l. part_before c steps f.k g.k f.step g.step f.part g.part same e l f.fails g.still) (λ l. part_before c steps g.k f.k g.step f.step g.part f.part (sym same) (sym e) l g.fails f.still) in
    let there : slice_get f.step.equations g.part ≡ Some g.equation = ap (λ (s : Step). slice_get s.equations g.part) e ∙ g.equation_at in
    let equation : f.equation ≡ g.equation = one_value f.step.equations f.part g.part f.equation g.equation part f.equation_at there in
    let rule_there : IsRuleOf rule' (pairs c (take f.k steps) ++ step_pairs c f.step) = subst (λ (s : Step). IsRuleOf rule' (pairs c (take f.k steps) ++ step_pairs c s)) (sym e) (subst (λ (i : ℕ). IsRuleOf rule' (pairs c (take i steps) ++ step_pairs c g.step)) (sym same) g.rule_is) in
    (one_rule rule rule' _ f.rule_is rule_there, f.span_is ∙ ap (λ (q : Equation). q.part) equation ∙ sym g.span_is)

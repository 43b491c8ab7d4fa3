-- What holds of the equations of steps in one of two alike contexts, and in the other.
use Rattle.std.proofs.Common.{◌≡◌, ℕ, zero, suc, ◌+◌, ◌<◌, ◌≤◌, true, List, [], ◌∷◌, ◌++◌, map, take, Option, Some, slice_get, refl, sym, ap, ◌∙◌, inl, inr, subst}
use Rattle.oxml_base.specs.declared.span.Span.{Span}
use Rattle.ml_types.specs.Types.{Head, Tree, Cons, tree_size}
use Rattle.ml_typing.specs.declared.equation.Unknown.{Unknown}
use Rattle.ml_typing.specs.declared.equation.Equation.{Equation}
use Rattle.ml_typing.specs.declared.equation.Step.{Step}
use Rattle.ml_typing.specs.Terms.{Shape, Is, Make, Shapes, no_shapes, shape_and, Context}
use Rattle.ml_typing.specs.Typing.{Assignment, Pair, Satisfies, tree_of, pair_of, step_pairs, pairs}
use Rattle.ml_typing.specs.Refusals.{HasSolution, NoSolution, IsPart, IsPartOfAny, IsIn, names_of_all, IsInfinite, HasInfinite, NoInfinite, IsTypeOf, IsTypeAt, IsSmall, Fits, IsRuleOf, IsUnsolved, IsTooLarge}
use Rattle.ml_typing.specs.Laws.{is_own, AllApart, StepsApart}
use Rattle.ml_typing.proofs.Renamed.{IsAlike, at_shapes, all_at_shapes, tree_at, renamed, own_same, shape_same}

abbrev pub at_pair : (Unknown → Shape) → Pair → Pair
at_pair f p = (at_shapes f p.0, at_shapes f p.1)

abbrev pub at_pairs : (Unknown → Shape) → List Pair → List Pair
at_pairs f ps = map (at_pair f) ps

-- a solution of pairs at other types over unknowns
pub solved_at : (a : Assignment) (f : Unknown → Shape) (ps : List Pair) → Satisfies a (at_pairs f ps) → Satisfies (λ v. tree_of a (f v)) ps
solved_at a f [] h = tt
solved_at a f (p ∷ ps) h = (sym (tree_at a f p.0) ∙ h.0 ∙ tree_at a f p.1, solved_at a f ps h.1)

-- a naming of types at other types over unknowns
mutual
  part_at : (f : Unknown → Shape) (h : Head) (ss : Shapes) (s : Shape) → IsPart (Make h ss) s → IsPart (at_shapes f (Make h ss)) (at_shapes f s)
  part_at f h ss (Is v) e = absurd cc
  part_at f h ss (Make k rs) (inl e) = inl (ap (at_shapes f) e)
  part_at f h ss (Make k rs) (inr e) = inr (part_of_any_at f h ss rs e)

  part_of_any_at : (f : Unknown → Shape) (h : Head) (ss : Shapes) (rs : Shapes) → IsPartOfAny (Make h ss) rs → IsPartOfAny (at_shapes f (Make h ss)) (all_at_shapes f rs)
  part_of_any_at f h ss no_shapes e = e
  part_of_any_at f h ss (shape_and r rs) (inl e) = inl (part_at f h ss r e)
  part_of_any_at f h ss (shape_and r rs) (inr e) = inr (part_of_any_at f h ss rs e)

in_at : (f : Unknown → Shape) (h : Head) (ss : Shapes) (ps : List Pair) → IsIn (Make h ss) ps → IsIn (at_shapes f (Make h ss)) (at_pairs f ps)
in_at f h ss [] e = e
in_at f h ss (p ∷ ps) (inl e) = inl (part_at f h ss p.0 e)
in_at f h ss (p ∷ ps) (inr (inl e)) = inr (inl (part_at f h ss p.1 e))
in_at f h ss (p ∷ ps) (inr (inr e)) = inr (inr (in_at f h ss ps e))

names_at : (f : Unknown → Shape) (c : Shape → Tree) (ss : Shapes) → names_of_all c (all_at_shapes f ss) ≡ names_of_all (λ s. c (at_shapes f s)) ss
names_at f c no_shapes = refl
names_at f c (shape_and s ss) = ap (Cons (c (at_shapes f s))) (names_at f c ss)

get_at : (f : Unknown → Shape) (ps : List Pair) (i : ℕ) (p : Pair) → slice_get ps i ≡ Some p → slice_get (at_pairs f ps) i ≡ Some (at_pair f p)
get_at f [] i p e = absurd cc
get_at f (q ∷ ps) zero p e = let g : q ≡ p = cc in ap (λ (r : Pair). Some (at_pair f r)) g
get_at f (q ∷ ps) (suc i) p e = get_at f ps i p e

pub infinite_at : (f : Unknown → Shape) (ps : List Pair) (c : Shape → Tree) → IsInfinite (at_pairs f ps) c → IsInfinite ps (λ s. c (at_shapes f s))
infinite_at f ps c h = record {
  equal = λ i p e. h.equal i (at_pair f p) (get_at f ps i p e);
  heads = λ j k ss rs x y e. h.heads j k (all_at_shapes f ss) (all_at_shapes f rs) (in_at f j ss ps x) (in_at f k rs ps y) e;
  parts = λ j k ss rs x y e. sym (names_at f c ss) ∙ h.parts j k (all_at_shapes f ss) (all_at_shapes f rs) (in_at f j ss ps x) (in_at f k rs ps y) e ∙ names_at f c rs;
}

abbrev pair_with : Shape → Shape → Pair
pair_with p q = (p, q)

pair_same_parts : (x y : Pair) → x.0 ≡ y.0 → x.1 ≡ y.1 → x ≡ y
pair_same_parts x y e g = ap (λ s. pair_with s x.1) e ∙ ap (pair_with y.0) g

pairs_same_parts : (p q : Pair) (ps qs : List Pair) → p ≡ q → ps ≡ qs → p ∷ ps ≡ q ∷ qs
pairs_same_parts p q ps qs e g = cc

at_append : (f : Unknown → Shape) (ps qs : List Pair) → at_pairs f (ps ++ qs) ≡ at_pairs f ps ++ at_pairs f qs
at_append f [] qs = refl
at_append f (p ∷ ps) qs = pairs_same_parts _ _ _ _ refl (at_append f ps qs)

at_take : (f : Unknown → Shape) (n : ℕ) (ps : List Pair) → at_pairs f (take n ps) ≡ take n (at_pairs f ps)
at_take f zero [] = refl
at_take f (suc n) [] = refl
at_take f zero (p ∷ ps) = refl
at_take f (suc n) (p ∷ ps) = pairs_same_parts _ _ _ _ refl (at_take f n ps)

-- the equations of steps in two alike contexts
module _ (uses : ℕ → Option ℕ) (c d : Context) (alike : IsAlike c d) where
  abbrev to : Unknown → Shape
  to = renamed c d alike uses

  equations_same : (es : List Equation) → AllApart uses es → at_pairs to (map (pair_of d) es) ≡ map (pair_of c) es
  equations_same [] h = refl
  equations_same (e ∷ es) h =
      pairs_same_parts _ _ _ _ (pair_same_parts _ _ (own_same uses c d alike e.left h.0) (shape_same uses c d alike e.right h.1)) (equations_same es h.2)

  pub step_same : (s : Step) → AllApart uses s.equations → at_pairs to (step_pairs d s) ≡ step_pairs c s
  step_same s h = equations_same s.equations h

  pub steps_same : (ss : List Step) → StepsApart uses ss → at_pairs to (pairs d ss) ≡ pairs c ss
  steps_same [] h = refl
  steps_same (s ∷ ss) h = at_append to (step_pairs d s) (pairs d ss) ∙ ap (λ zs. zs ++ at_pairs to (pairs d ss)) (step_same s h.0) ∙ ap (λ zs. step_pairs c s ++ zs) (steps_same ss h.1)

  pub part_same : (ss : List Step) (s : Step) (n : ℕ) → StepsApart uses ss → AllApart uses s.equations → at_pairs to (pairs d ss ++ take n (step_pairs d s)) ≡ pairs c ss ++ take n (step_pairs c s)
  part_same ss s n h k =
      at_append to (pairs d ss) (take n (step_pairs d s)) ∙ ap (λ zs. zs ++ at_pairs to (take n (step_pairs d s))) (steps_same ss h)
      ∙ ap (λ zs. pairs c ss ++ zs) (at_take to n (step_pairs d s) ∙ ap (take n) (step_same s k))

  pub whole_same : (ss : List Step) (s : Step) → StepsApart uses ss → AllApart uses s.equations → at_pairs to (pairs d ss ++ step_pairs d s) ≡ pairs c ss ++ step_pairs c s
  whole_same ss s h k =
      at_append to (pairs d ss) (step_pairs d s) ∙ ap (λ zs. zs ++ at_pairs to (step_pairs d s)) (steps_same ss h)
      ∙ ap (λ zs. pairs c ss ++ zs) (step_same s k)

  -- solutions and namings go from the first context to the second
  abbrev pub moved : Assignment → Assignment
  moved a = λ v. tree_of a (to v)

  pub solves_too : (a : Assignment) (ps qs : List Pair) → at_pairs to ps ≡ qs → Satisfies a qs → Satisfies (moved a) ps
  solves_too a ps qs e h = solved_at a to ps (subst (Satisfies a) (sym e) h)

  pub has_too : (ps qs : List Pair) → at_pairs to ps ≡ qs → HasSolution qs → HasSolution ps
  has_too ps qs e (a, h) = (moved a, solves_too a ps qs e h)

  pub none_back : (ps qs : List Pair) → at_pairs to ps ≡ qs → NoSolution ps → NoSolution qs
  none_back ps qs e fails a h = fails (moved a) (solves_too a ps qs e h)

  pub infinite_too : (ps qs : List Pair) → at_pairs to ps ≡ qs → HasInfinite qs → HasInfinite ps
  infinite_too ps qs e (names, h) = ((λ s. names (at_shapes to s)), infinite_at to ps names (subst (λ (rs : List Pair). IsInfinite rs names) (sym e) h))

  pub no_infinite_back : (ps qs : List Pair) → at_pairs to ps ≡ qs → NoInfinite ps → NoInfinite qs
  no_infinite_back ps qs e fails names h = let x : HasInfinite ps = infinite_too ps qs e (names, h) in fails x.0 x.1

  pub moved_same : (a : Assignment) (v : Unknown) → is_own uses v ≡ true → moved a v ≡ a v
  moved_same a v h = ap (tree_of a) (own_same uses c d alike v h)

  pub left_own : (es : List Equation) (i : ℕ) (e : Equation) → AllApart uses es → slice_get es i ≡ Some e → is_own uses e.left ≡ true
  left_own [] i e h at = absurd cc
  left_own (q ∷ es) zero e h at = let g : q ≡ e = cc in subst (λ (r : Equation). is_own uses r.left ≡ true) g h.0
  left_own (q ∷ es) (suc i) e h at = left_own es i e h.2 at

  type_own : (s : Step) (v : Unknown) → AllApart uses s.equations → IsTypeAt s v → is_own uses v ≡ true
  type_own s v h (inl (n, at, is)) = ap (is_own uses) is
  type_own s v h (inr (i, e, at, is)) = ap (is_own uses) is ∙ left_own s.equations i e h at

  pub measured_own : (ss : List Step) (v : Unknown) → StepsApart uses ss → IsTypeOf ss v → is_own uses v ≡ true
  measured_own [] v h (i, s, at, is) = absurd cc
  measured_own (r ∷ ss) v h (zero, s, at, is) = let g : s ≡ r = cc in type_own r v h.0 (subst (λ (x : Step). IsTypeAt x v) g is)
  measured_own (r ∷ ss) v h (suc i, s, at, is) = measured_own ss v h.1 (i, s, at, is)

  pub small_too : (ss : List Step) (a : Assignment) → StepsApart uses ss → IsSmall ss a → IsSmall ss (moved a)
  small_too ss a h small v is = subst (λ (w : Tree). tree_size w ≤ 2000) (sym (moved_same a v (measured_own ss v h is))) (small v is)

  pub fits_too : (ss : List Step) → StepsApart uses ss → Fits c ss → Fits d ss
  fits_too ss h (a, solves, small) = (moved a, solves_too a (pairs d ss) (pairs c ss) (steps_same ss h) solves, small_too ss a h small)

  pub rule_too : (rule : ℕ) (ps qs : List Pair) → at_pairs to ps ≡ qs → (NoInfinite qs → NoInfinite ps) → IsRuleOf rule qs → IsRuleOf rule ps
  rule_too rule ps qs e back (inl (is, fails)) = inl (is, back fails)
  rule_too rule ps qs e back (inr (is, has)) = inr (is, infinite_too ps qs e has)

apart_taken : (uses : ℕ → Option ℕ) (k : ℕ) (ss : List Step) → StepsApart uses ss → StepsApart uses (take k ss)
apart_taken uses zero [] h = tt
apart_taken uses (suc k) [] h = tt
apart_taken uses zero (s ∷ ss) h = tt
apart_taken uses (suc k) (s ∷ ss) h = (h.0, apart_taken uses k ss h.1)

pub apart_at : (uses : ℕ → Option ℕ) (k : ℕ) (s : Step) (ss : List Step) → StepsApart uses ss → slice_get ss k ≡ Some s → AllApart uses s.equations
apart_at uses k s [] h at = absurd cc
apart_at uses zero s (r ∷ ss) h at = let g : r ≡ s = cc in subst (λ (x : Step). AllApart uses x.equations) g h.0
apart_at uses (suc k) s (r ∷ ss) h at = apart_at uses k s ss h.1 at

-- a fault in the one context is one in the other
pub unsolved_too : (uses : ℕ → Option ℕ) (c d : Context) (there : IsAlike c d) (here : IsAlike d c) (ss : List Step) (rule : ℕ) (span : Span) → StepsApart uses ss → IsUnsolved c ss rule span → IsUnsolved d ss rule span
unsolved_too uses c d there here ss rule span h f =
    let first : StepsApart uses (take f.k ss) = apart_taken uses f.k ss h in
    let own : AllApart uses f.step.equations = apart_at uses f.k f.step ss h f.at in
    record {
      k = f.k;
      step = f.step;
      at = f.at;
      part = f.part;
      equation = f.equation;
      equation_at = f.equation_at;
      span_is = f.span_is;
      before = fits_too uses c d there (take f.k ss) first f.before;
      still = has_too uses c d there _ _ (part_same uses c d there (take f.k ss) f.step f.part first own) f.still;
      fails = none_back uses d c here _ _ (part_same uses d c here (take f.k ss) f.step (f.part + 1) first own) f.fails;
      rule_is = rule_too uses c d there rule _ _ (whole_same uses c d there (take f.k ss) f.step first own) (λ fails. no_infinite_back uses d c here _ _ (whole_same uses d c here (take f.k ss) f.step first own) fails) f.rule_is;
    }

pub large_too : (uses : ℕ → Option ℕ) (c d : Context) (there : IsAlike c d) (here : IsAlike d c) (ss : List Step) (span : Span) → StepsApart uses ss → IsTooLarge c ss span → IsTooLarge d ss span
large_too uses c d there here ss span h f =
    let first : StepsApart uses (take f.k ss) = apart_taken uses f.k ss h in
    let own : AllApart uses f.step.equations = apart_at uses f.k f.step ss h f.at in
    record {
      k = f.k;
      step = f.step;
      at = f.at;
      type = f.type;
      of_steps = f.of_steps;
      span_is = f.span_is;
      before = fits_too uses c d there (take f.k ss) first f.before;
      solvable = has_too uses c d there _ _ (whole_same uses c d there (take f.k ss) f.step first own) f.solvable;
      large = λ a solves. subst (λ (w : Tree). 2000 < tree_size w)
          (moved_same uses d c here a f.type (measured_own uses d c here (take (f.k + 1) ss) f.type (apart_taken uses (f.k + 1) ss h) f.of_steps))
          (f.large (moved uses d c here a) (solves_too uses d c here a _ _ (whole_same uses d c here (take f.k ss) f.step first own) solves));
    }

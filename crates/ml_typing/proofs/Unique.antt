-- Two lists of principal typings of a program give it the same types, up to the names of variables.
use Rattle.std.proofs.Common.{◌≡◌, ℕ, zero, suc, List, [], ◌∷◌, ◌++◌, map, Option, Some, slice_get, sym, ap, ◌∙◌, inl, inr, subst}
use Rattle.ml_typing.specs.declared.equation.Unknown.{Unknown}
use Rattle.ml_typing.specs.declared.equation.Equation.{Equation}
use Rattle.ml_typing.specs.declared.equation.Step.{Step}
use Rattle.ml_typing.specs.Terms.{Context}
use Rattle.ml_typing.specs.Typing.{Assignment, Pair, pair_of, step_pairs, pairs, Occurs, IsInstance, IsPrincipal, ItemSteps, behind, IsTyped}
use Rattle.ml_typing.specs.Laws.{IsApart, ItemsApart, IsSameTypes}
use Rattle.ml_typing.proofs.Renamed.{IsAlike, alike_back}
use Rattle.ml_typing.proofs.Alike.{moved, moved_same, solves_too, steps_same, left_own, apart_at}
use Rattle.ml_typing.proofs.Programs.{behind_alike, alike_self}

occurs_front : (v : Unknown) (ps qs : List Pair) → Occurs v ps → Occurs v (ps ++ qs)
occurs_front v [] qs h = absurd h
occurs_front v (p ∷ ps) qs (inl h) = inl h
occurs_front v (p ∷ ps) qs (inr (inl h)) = inr (inl h)
occurs_front v (p ∷ ps) qs (inr (inr h)) = inr (inr (occurs_front v ps qs h))

occurs_back : (v : Unknown) (ps qs : List Pair) → Occurs v qs → Occurs v (ps ++ qs)
occurs_back v [] qs h = h
occurs_back v (p ∷ ps) qs h = inr (inr (occurs_back v ps qs h))

left_occurs : (c : Context) (es : List Equation) (k : ℕ) (e : Equation) → slice_get es k ≡ Some e → Occurs e.left (map (pair_of c) es)
left_occurs c [] k e at = absurd cc
left_occurs c (q ∷ es) zero e at = let same : e ≡ q = cc in inl (ap (λ (x : Equation). x.left) same)
left_occurs c (q ∷ es) (suc k) e at = inr (inr (left_occurs c es k e at))

occurs_at : (c : Context) (ss : List Step) (j : ℕ) (s : Step) (k : ℕ) (e : Equation) → slice_get ss j ≡ Some s → slice_get s.equations k ≡ Some e → Occurs e.left (pairs c ss)
occurs_at c [] j s k e at there = absurd cc
occurs_at c (r ∷ ss) zero s k e at there =
    let same : s ≡ r = cc in
    occurs_front e.left (step_pairs c r) (pairs c ss) (left_occurs c r.equations k e (sym (ap (λ (x : Step). slice_get x.equations k) same) ∙ there))
occurs_at c (r ∷ ss) (suc j) s k e at there = occurs_back e.left (step_pairs c r) (pairs c ss) (occurs_at c ss j s k e at there)

item_same : (uses : ℕ → Option ℕ) (c d : Context) → IsAlike c d → (item : ItemSteps) (a b : Assignment) → IsApart uses item → IsPrincipal (pairs c item.steps) a → IsPrincipal (pairs d item.steps) b → IsSameTypes item.steps a b
item_same uses c d alike item a b h p q =
    let back : IsAlike d c = alike_back c d alike in
    let i : IsInstance a (moved uses d c back b) (pairs c item.steps) = p.instances (moved uses d c back b) (solves_too uses d c back b _ _ (steps_same uses d c back item.steps h.steps) q.typing) in
    record {
      types = i.types;
      each = λ j s k e at there. sym (moved_same uses d c back b e.left (left_own uses d c back s.equations k e (apart_at uses j s item.steps h.steps at) there)) ∙ i.each e.left (occurs_at c item.steps j s k e at there);
    }

same_types : (uses : ℕ → Option ℕ) (c d : Context) → IsAlike c d → (items : List ItemSteps) (types others : List Assignment) → ItemsApart uses items → IsTyped c types items → IsTyped d others items → (i : ℕ) (item : ItemSteps) (a b : Assignment) → slice_get items i ≡ Some item → slice_get types i ≡ Some a → slice_get others i ≡ Some b → IsSameTypes item.steps a b
same_types uses c d alike [] types others h p q i item a b at x y = absurd cc
same_types uses c d alike (m ∷ items) [] others h p q i item a b at x y = absurd cc
same_types uses c d alike (m ∷ items) (r ∷ types) [] h p q i item a b at x y = absurd cc
same_types uses c d alike (m ∷ items) (r ∷ types) (t ∷ others) h p q zero item a b at x y =
    let e : m ≡ item = cc in
    let f : r ≡ a = cc in
    let g : t ≡ b = cc in
    subst (λ (z : ItemSteps). IsSameTypes z.steps a b) e (subst (λ (z : Assignment). IsSameTypes m.steps z b) f (subst (λ (z : Assignment). IsSameTypes m.steps r z) g (item_same uses c d alike m r t h.0 p.0 q.0)))
same_types uses c d alike (m ∷ items) (r ∷ types) (t ∷ others) h p q (suc i) item a b at x y =
    same_types uses (behind c r m.binders) (behind d t m.binders) (behind_alike uses c d alike m r t h.0 p.0 q.0) items types others h.1 p.1 q.1 i item a b at x y

pub same_program_types : (uses : ℕ → Option ℕ) (c : Context) (items : List ItemSteps) (types others : List Assignment) → ItemsApart uses items → IsTyped c types items → IsTyped c others items → (i : ℕ) (item : ItemSteps) (a b : Assignment) → slice_get items i ≡ Some item → slice_get types i ≡ Some a → slice_get others i ≡ Some b → IsSameTypes item.steps a b
same_program_types uses c items types others h p q i item a b at x y = same_types uses c c (alike_self c) items types others h p q i item a b at x y

-- Comparisons under one typing of the items and under another.
use Rattle.std.proofs.Common.{◌≡◌, ℕ, zero, suc, ◌<◌, List, [], ◌∷◌, take, Option, Some, slice_get, refl, sym, ap, ◌∙◌, subst}
use Rattle.oxml_base.specs.declared.span.Span.{Span}
use Rattle.ml_types.specs.Types.{Tree}
use Rattle.ml_typing.specs.declared.equation.Unknown.{Unknown}
use Rattle.ml_typing.specs.declared.equation.Step.{Step}
use Rattle.ml_typing.specs.Terms.{Context}
use Rattle.ml_typing.specs.Typing.{Assignment, pairs, at_types, IsPrincipal, ItemSteps, behind, IsTyped}
use Rattle.ml_typing.specs.Refusals.{CanCompare, Compares, AllCompare, IsBadComparison}
use Rattle.ml_typing.specs.Laws.{IsApart, ItemsApart}
use Rattle.ml_typing.proofs.Faults.{taken, of_taken, same_number, one_value}
use Rattle.ml_typing.proofs.Renamed.{IsAt, IsAlike, alike_back}
use Rattle.ml_typing.proofs.Programs.{instance_of, behind_alike, alike_self}

at_can : (x y : Tree) → IsAt x y → CanCompare y → CanCompare x
at_can x y (f, e) (d, less, is) = (d, less, e ∙ ap (at_types f) is)

-- an operand that can be compared under one typing of an item can be so under another
operand_too : (uses : ℕ → Option ℕ) (c d : Context) → IsAlike c d → (item : ItemSteps) (a b : Assignment) → IsApart uses item → IsPrincipal (pairs c item.steps) a → IsPrincipal (pairs d item.steps) b → (j : ℕ) (s : Step) (v : Unknown) → slice_get item.steps j ≡ Some s → s.compared ≡ Some v → CanCompare (a v) → CanCompare (b v)
operand_too uses c d alike item a b h p q j s v at is can =
    at_can (b v) (a v) (instance_of uses d c (alike_back c d alike) item b a h.steps q.typing p v (h.operands_own j s v at is) (h.operands c j s v at is)) can

compared_too : (uses : ℕ → Option ℕ) (c d : Context) → IsAlike c d → (items : List ItemSteps) (types kinds : List Assignment) (i : ℕ) (item : ItemSteps) (a b : Assignment) → ItemsApart uses items → IsTyped c types items → IsTyped d kinds items → slice_get items i ≡ Some item → slice_get types i ≡ Some a → slice_get kinds i ≡ Some b → (j : ℕ) (s : Step) (v : Unknown) → slice_get item.steps j ≡ Some s → s.compared ≡ Some v → CanCompare (a v) → CanCompare (b v)
compared_too uses c d alike [] types kinds i item a b h p q at x y = absurd cc
compared_too uses c d alike (m ∷ items) [] kinds i item a b h p q at x y = absurd cc
compared_too uses c d alike (m ∷ items) (r ∷ types) [] i item a b h p q at x y = absurd cc
compared_too uses c d alike (m ∷ items) (r ∷ types) (t ∷ kinds) zero item a b h p q at x y =
    let e : m ≡ item = cc in
    let f : r ≡ a = cc in
    let g : t ≡ b = cc in
    subst (λ (i : ItemSteps). (j : ℕ) (s : Step) (v : Unknown) → slice_get i.steps j ≡ Some s → s.compared ≡ Some v → CanCompare (a v) → CanCompare (b v)) e
    (subst (λ (z : Assignment). (j : ℕ) (s : Step) (v : Unknown) → slice_get m.steps j ≡ Some s → s.compared ≡ Some v → CanCompare (z v) → CanCompare (b v)) f
    (subst (λ (z : Assignment). (j : ℕ) (s : Step) (v : Unknown) → slice_get m.steps j ≡ Some s → s.compared ≡ Some v → CanCompare (r v) → CanCompare (z v)) g
    (operand_too uses c d alike m r t h.0 p.0 q.0)))
compared_too uses c d alike (m ∷ items) (r ∷ types) (t ∷ kinds) (suc i) item a b h p q at x y =
    compared_too uses (behind c r m.binders) (behind d t m.binders) (behind_alike uses c d alike m r t h.0 p.0 q.0) items types kinds i item a b h.1 p.1 q.1 at x y

-- the comparisons of an item, where those of all items are such
all_at : (types : List Assignment) (items : List ItemSteps) (i : ℕ) (item : ItemSteps) → AllCompare types items → slice_get items i ≡ Some item → (a : Assignment) × (slice_get types i ≡ Some a) × Compares item.steps a
all_at types [] i item h at = absurd cc
all_at [] (m ∷ items) i item h at = absurd h
all_at (r ∷ types) (m ∷ items) zero item h at = let e : m ≡ item = cc in (r, refl, subst (λ (x : ItemSteps). Compares x.steps r) e h.0)
all_at (r ∷ types) (m ∷ items) (suc i) item h at = all_at types items i item h.1 at

-- a comparison that is bad under one typing is bad under the other
bad_there : (uses : ℕ → Option ℕ) (c : Context) (items : List ItemSteps) (types kinds : List Assignment) (span : Span) → ItemsApart uses items → IsTyped c types items → IsTyped c kinds items → (f : IsBadComparison items types span) → (b : Assignment) → slice_get kinds f.i ≡ Some b → CanCompare (b f.operands) → ⊥
bad_there uses c items types kinds span h p q f b at can =
    f.bad (compared_too uses c c (alike_self c) items kinds types f.i f.item b f.a h q p f.item_at at f.types_at f.k f.step f.operands f.at f.compares can)

pub compare_or_bad : (uses : ℕ → Option ℕ) (c : Context) (items : List ItemSteps) (types kinds : List Assignment) (span : Span) → ItemsApart uses items → IsTyped c types items → IsTyped c kinds items → AllCompare types items → IsBadComparison items kinds span → ⊥
compare_or_bad uses c items types kinds span h p q all f =
    let there : (a : Assignment) × (slice_get types f.i ≡ Some a) × Compares f.item.steps a = all_at types items f.i f.item all f.item_at in
    bad_there uses c items kinds types span h q p f there.0 there.1 (there.2 f.k f.step f.operands f.at f.compares)

item_before : (uses : ℕ → Option ℕ) (c : Context) (items : List ItemSteps) (types kinds : List Assignment) (span span' : Span) → ItemsApart uses items → IsTyped c types items → IsTyped c kinds items → (f : IsBadComparison items types span) → (g : IsBadComparison items kinds span') → f.i < g.i → ⊥
item_before uses c items types kinds span span' h p q f g less =
    let there : (b : Assignment) × (slice_get (take g.i kinds) f.i ≡ Some b) × Compares f.item.steps b = all_at (take g.i kinds) (take g.i items) f.i f.item g.items_before (taken items f.i g.i f.item less f.item_at) in
    bad_there uses c items types kinds span h p q f there.0 (of_taken kinds g.i f.i there.0 there.1) (there.2 f.k f.step f.operands f.at f.compares)

step_before : (uses : ℕ → Option ℕ) (c : Context) (items : List ItemSteps) (types kinds : List Assignment) (span span' : Span) → ItemsApart uses items → IsTyped c types items → IsTyped c kinds items → (f : IsBadComparison items types span) → (g : IsBadComparison items kinds span') → f.i ≡ g.i → f.item ≡ g.item → f.k < g.k → ⊥
step_before uses c items types kinds span span' h p q f g same e less =
    let at : slice_get g.item.steps f.k ≡ Some f.step = sym (ap (λ (x : ItemSteps). slice_get x.steps f.k) e) ∙ f.at in
    bad_there uses c items types kinds span h p q f g.a (ap (slice_get kinds) same ∙ g.types_at) (g.steps_before f.k f.step f.operands (taken g.item.steps f.k g.k f.step less at) f.compares)

pub bad_once : (uses : ℕ → Option ℕ) (c : Context) (items : List ItemSteps) (types kinds : List Assignment) (span span' : Span) → ItemsApart uses items → IsTyped c types items → IsTyped c kinds items → IsBadComparison items types span → IsBadComparison items kinds span' → span ≡ span'
bad_once uses c items types kinds span span' h p q f g =
    let same : f.i ≡ g.i = same_number f.i g.i (item_before uses c items types kinds span span' h p q f g) (item_before uses c items kinds types span' span h q p g f) in
    let e : f.item ≡ g.item = one_value items f.i g.i f.item g.item same f.item_at g.item_at in
    let k : f.k ≡ g.k = same_number f.k g.k (step_before uses c items types kinds span span' h p q f g same e) (step_before uses c items kinds types span' span h q p g f (sym same) (sym e)) in
    let at : slice_get f.item.steps g.k ≡ Some g.step = ap (λ (x : ItemSteps). slice_get x.steps g.k) e ∙ g.at in
    let s : f.step ≡ g.step = one_value f.item.steps f.k g.k f.step g.step k f.at at in
    f.span_is ∙ ap (λ (x : Step). x.span) s ∙ sym g.span_is

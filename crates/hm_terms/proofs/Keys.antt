-- Pairs of numbers as the keys of a map.
use Rattle.std.proofs.Common.{◌≡◌, ℕ, true, false, Option, ⊎_elim, refl, sym, ap, ◌∙◌}
use Rattle.std.specs.Prelude.{◌&&◌, ◌==◌}
use Rattle.std.proofs.lemmas.Bool.Decides.{eqb_tells}
use Rattle.ml_types.specs.declared.node.TyId.{TyId}
use Rattle.ml_typing.specs.declared.equation.Unknown.{Unknown}
use Rattle.ml_typing.specs.declared.equation.Unknown.TheVariants.{Node, Binder, Fresh}

same_pair : (a b k j : ℕ) → a ≡ b → k ≡ j → (let p : ℕ × ℕ = (a, k) in let q : ℕ × ℕ = (b, j) in p ≡ q)
same_pair a b k j e f = ap (λ n. let p : ℕ × ℕ = (n, k) in p) e ∙ ap (λ n. let p : ℕ × ℕ = (b, n) in p) f

pub pair_apart : (x y : ℕ × ℕ) → (x ≡ y → ⊥) → (x.0 == y.0 && x.1 == y.1) ≡ false
pair_apart x y d =
    ⊎_elim
    (λ (e : ((x.0 == y.0) ≡ true) × (x.0 ≡ y.0)).
    ⊎_elim
    (λ (f : ((x.1 == y.1) ≡ true) × (x.1 ≡ y.1)). absurd (d (same_pair x.0 y.0 x.1 y.1 e.1 f.1)))
    (λ (f : ((x.1 == y.1) ≡ false) × (x.1 ≡ y.1 → ⊥)). ap (λ b. b && (x.1 == y.1)) e.0 ∙ f.0)
    (eqb_tells x.1 y.1))
    (λ (e : ((x.0 == y.0) ≡ false) × (x.0 ≡ y.0 → ⊥)). ap (λ b. b && (x.1 == y.1)) e.0)
    (eqb_tells x.0 y.0)

-- the types of unknowns, by three maps
abbrev pub by_kind : (ℕ → Option TyId) → (ℕ → Option TyId) → (ℕ × ℕ → Option TyId) → Unknown → Option TyId
by_kind nodes binders fresh (Node n) = nodes n
by_kind nodes binders fresh (Binder n) = binders n
by_kind nodes binders fresh (Fresh n k) = fresh (n, k)

pub fresh_others : (nodes binders : ℕ → Option TyId) (old new : ℕ × ℕ → Option TyId) (n k : ℕ) → ((q : ℕ × ℕ) → (n == q.0 && k == q.1) ≡ false → new q ≡ old q) → (u v : Unknown) → v ≡ Fresh n k → (u ≡ v → ⊥) → by_kind nodes binders new u ≡ by_kind nodes binders old u
fresh_others nodes binders old new n k h (Node m) v e d = refl
fresh_others nodes binders old new n k h (Binder m) v e d = refl
fresh_others nodes binders old new n k h (Fresh m j) v e d =
    let x : ℕ × ℕ = (n, k) in
    let y : ℕ × ℕ = (m, j) in
    h y (pair_apart x y (λ p. d (ap (λ (q : ℕ × ℕ). Fresh q.0 q.1) (sym p) ∙ sym e)))

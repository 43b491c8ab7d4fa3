-- The turned forms fit the opposite tables, and a path shows that no table fits.
use Rattle.std.proofs.Common.{◌≡◌, ℕ, zero, suc, ◌<◌, List, [], ◌∷◌, take, map, Some, Bool, true, false, not, slice_get, slice_index_or, refl, sym, ap, ◌∙◌, subst}
use Rattle.std.proofs.lemmas.List.{length-map, get_or-map}
use Rattle.mode_lattice.specs.declared.clause.Bit.{Bit}
use Rattle.mode_lattice.specs.declared.clause.Form.{Form}
use Rattle.mode_lattice.specs.declared.clause.Form.TheVariants.{Imply, Force, Forbid}
use Rattle.mode_lattice.specs.Clauses.{Holds, IsBelow}
use Rattle.mode_solver.specs.Forms.{Fits, AllBelow, Leads, IsPath, turned}
use Rattle.mode_solver.specs.Searching.{IsLeastOf, IsGreatestOf}
use Rattle.mode_lattice.proofs.Lists.{slice_get-take}

-- the opposite of a value
not-true : (b : Bool) → not b ≡ true → b ≡ false
not-true true e = sym e
not-true false e = refl

not-false : (b : Bool) → b ≡ true → not b ≡ false
not-false true e = refl
not-false false e = sym e

true-or : (b : Bool) → (b ≡ false → ⊥) → b ≡ true
true-or true h = refl
true-or false h = absurd (h refl)

Holds-turned : (t : ℕ → Bool) (f : Form) → Holds t f → Holds (λ b. not (t b)) (turned f)
Holds-turned t (Imply x y) h = λ on. contrapose (t x.0) (t y.0) h on
  where
    contrapose : (a b : Bool) → (a ≡ true → b ≡ true) → not b ≡ true → not a ≡ true
    contrapose false b h e = refl
    contrapose true true h e = e
    contrapose true false h e = h refl
Holds-turned t (Force x) h = not-false (t x.0) h
Holds-turned t (Forbid x) h = ap not h

Holds-back : (t : ℕ → Bool) (f : Form) → Holds t (turned f) → Holds (λ b. not (t b)) f
Holds-back t (Imply x y) h = Holds-turned t (Imply y x) h
Holds-back t (Force x) h = ap not h
Holds-back t (Forbid x) h = not-false (t x.0) h

-- a form looks only at its bits
Holds-same : (bits : ℕ) (t u : ℕ → Bool) (f : Form) → ((b : ℕ) → b < bits → t b ≡ u b) → IsBelow bits f → Holds t f → Holds u f
Holds-same bits t u (Imply x y) same below h = λ on. sym (same y.0 below.1) ∙ h (same x.0 below.0 ∙ on)
Holds-same bits t u (Force x) same below h = sym (same x.0 below) ∙ h
Holds-same bits t u (Forbid x) same below h = sym (same x.0 below) ∙ h

turned-at : (forms : List Form) (i : ℕ) (f : Form) → slice_get (map turned forms) i ≡ Some f → (g : Form) × (slice_get forms i ≡ Some g) × (turned g ≡ f)
turned-at [] i f e = let no' : ⊥ = cc in absurd no'
turned-at (g ∷ rest) zero f e = let same : turned g ≡ f = cc in (g, refl, same)
turned-at (g ∷ rest) (suc i) f e = turned-at rest i f e

turned-map : (forms : List Form) (i : ℕ) (f : Form) → slice_get forms i ≡ Some f → slice_get (map turned forms) i ≡ Some (turned f)
turned-map [] i f e = let no' : ⊥ = cc in absurd no'
turned-map (g ∷ rest) zero f e = let same : g ≡ f = cc in ap (λ x. Some (turned x)) same
turned-map (g ∷ rest) (suc i) f e = turned-map rest i f e

pub Fits-turned : (t : ℕ → Bool) (forms : List Form) → Fits t forms → Fits (λ b. not (t b)) (map turned forms)
Fits-turned t forms fits = record {
  each = λ i f h.
      let g : (g : Form) × (slice_get forms i ≡ Some g) × (turned g ≡ f) = turned-at forms i f h in
      let P : Form → Type 0 = λ x. Holds (λ b. not (t b)) x in
      subst P g.2 (Holds-turned t g.0 (fits.each i g.0 g.1));
}

IsBelow-turned : (bits : ℕ) (f : Form) → IsBelow bits f → IsBelow bits (turned f)
IsBelow-turned bits (Imply x y) h = (h.1, h.0)
IsBelow-turned bits (Force x) h = h
IsBelow-turned bits (Forbid x) h = h

pub AllBelow-turned : (bits : ℕ) (forms : List Form) → AllBelow bits forms → AllBelow bits (map turned forms)
AllBelow-turned bits forms below = record {
  each = λ i f h.
      let g : (g : Form) × (slice_get forms i ≡ Some g) × (turned g ≡ f) = turned-at forms i f h in
      let P : Form → Type 0 = λ x. IsBelow bits x in
      subst P g.2 (IsBelow-turned bits g.0 (below.each i g.0 g.1));
}

-- the opposite of the least table of the turned forms is the greatest of the forms
pub IsGreatestOf-turned : (bits : ℕ) (forms : List Form) (least table : List Bool) → AllBelow bits forms → IsLeastOf bits (map turned forms) least → table ≡ map not least → IsGreatestOf bits forms table
IsGreatestOf-turned bits forms least table below l table_is =
    let opposite : (b : ℕ) → b < bits → not (slice_index_or least b false) ≡ slice_index_or table b false = λ b within. rw table_is (sym (get_or-map not least b false false (rw l.count within))) in
    record {
      count = rw table_is (length-map least not ∙ l.count);
      fits = record { each = λ i f h. Holds-same bits (λ b. not (slice_index_or least b false)) (λ b. slice_index_or table b false) f opposite (below.each i f h) (Holds-back (λ b. slice_index_or least b false) f (l.fits.each i (turned f) (turned-map forms i f h))) };
      greatest = λ t fits b within on.
          true-or (slice_index_or table b false) (λ off.
          let in_least : slice_index_or least b false ≡ true = not-true-false (slice_index_or least b false) (opposite b within ∙ off) in
          let both : not (t b) ≡ true = l.least (λ n. not (t n)) (Fits-turned t forms fits) b within in_least in
          let off_t : t b ≡ false = not-true (t b) both in
          let clash : true ≡ false = sym on ∙ off_t in
          cc);
    }
  where
    not-true-false : (b : Bool) → not b ≡ false → b ≡ true
    not-true-false true e = refl
    not-true-false false e = sym e

pub Fits-take : (t : ℕ → Bool) (n : ℕ) (forms : List Form) → Fits t forms → Fits t (take n forms)
Fits-take t n forms fits = record { each = λ i f h. fits.each i f (slice_get-take n forms i f h) }

leads-none : (t : ℕ → Bool) (forms : List Form) (bit : Bit) (path : List ℕ) → Fits t forms → t bit.0 ≡ true → Leads forms bit path → ⊥
leads-none t forms bit [] fits on leads = leads
leads-none t forms bit (n ∷ []) fits on leads =
    let off : t bit.0 ≡ false = fits.each n (Forbid bit) leads in
    let clash : true ≡ false = sym on ∙ off in
    cc
leads-none t forms bit (n ∷ m ∷ rest) fits on leads = leads-none t forms leads.0 (m ∷ rest) fits (fits.each n (Imply bit leads.0) leads.1 on) leads.2

-- no table fits forms that have a path
pub path-none : (t : ℕ → Bool) (forms : List Form) (path : List ℕ) → Fits t forms → IsPath forms path → ⊥
path-none t forms [] fits path = path
path-none t forms (n ∷ rest) fits path = leads-none t forms path.0 rest fits (fits.each n (Force path.0) path.1) path.2

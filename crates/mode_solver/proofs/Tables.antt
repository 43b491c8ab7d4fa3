-- What a complete search says of the tables that fit the forms.
use Rattle.std.proofs.Common.{◌≡◌, ℕ, zero, suc, ◌+◌, ◌<◌, inl, inr, List, [], ◌∷◌, length, take, map, Option, Some, None, is_some, Bool, true, false, slice_get, slice_index_or, refl, sym, ap, ◌∙◌, subst, arith}
use Rattle.std.proofs.lemmas.List.{length-map}
use Rattle.std.proofs.lemmas.Option.{slice_get_within}
use Rattle.mode_lattice.specs.declared.clause.Bit.{Bit}
use Rattle.mode_lattice.specs.declared.clause.Form.{Form}
use Rattle.mode_lattice.specs.declared.clause.Form.TheVariants.{Imply, Force, Forbid}
use Rattle.mode_lattice.specs.Clauses.{Holds}
use Rattle.mode_solver.specs.declared.reach.Reached.{Reached}
use Rattle.mode_solver.specs.declared.search.Search.{Search}
use Rattle.mode_solver.specs.Forms.{Fits, AllBelow}
use Rattle.mode_solver.specs.Graph.{entry}
use Rattle.mode_solver.specs.Reaching.{IsOn, IsReach}
use Rattle.mode_solver.specs.Searching.{IsComplete, IsLeastOf}
use Rattle.mode_lattice.proofs.Lists.{slice_get-take}
use Rattle.mode_solver.proofs.Lists.{some_of}

pub AllBelow-take : (bits n : ℕ) (forms : List Form) → AllBelow bits forms → AllBelow bits (take n forms)
AllBelow-take bits n forms below = record { each = λ i f h. below.each i f (slice_get-take n forms i f h) }

-- the value that the table of the bits reached gives a bit
table-entry : (place : List (Option ℕ)) (b : ℕ) → slice_index_or (map is_some place) b false ≡ is_some (entry place b)
table-entry [] b = refl
table-entry (o ∷ rest) zero = refl
table-entry (o ∷ rest) (suc b) = table-entry rest b

-- a place that is there or not
not_on : (place : List (Option ℕ)) (b : Bit) → (IsOn place b → ⊥) → is_some (entry place b.0) ≡ false
not_on place b off = none (entry place b.0) (λ v e. off (v, e))
  where
    none : (o : Option ℕ) → ((v : ℕ) → o ≡ Some v → ⊥) → is_some o ≡ false
    none None h = refl
    none (Some v) h = absurd (h v refl)

-- the table of the bits reached fits each form
fits-form : (seen : List Form) (s : Search) (t : ℕ → Bool) → ((b : ℕ) → t b ≡ is_some (entry s.reach.place.items b)) → IsComplete seen s → (i : ℕ) (f : Form) → slice_get seen i ≡ Some f → Holds t f
fits-form seen s t is c i (Imply x y) h = λ on.
    let w : IsOn s.reach.place.items x = some_of (entry s.reach.place.items x.0) (sym (is x.0) ∙ on) in
    let e : (e : Reached) × (slice_get s.reach.reached.items w.0 ≡ Some e) × (e.bit ≡ x) = c.reach.on x w.0 w.1 in
    let P : Bit → Type 0 = λ z. slice_get seen i ≡ Some (Imply z y) in
    let target : IsOn s.reach.place.items y = c.followed.implied w.0 e.0 (slice_get_within _ _ _ e.1) e.1 y i (subst P (sym e.2) h) in
    is y.0 ∙ ap is_some target.1
fits-form seen s t is c i (Force x) h =
    let w : IsOn s.reach.place.items x = c.followed.forced x i h in
    is x.0 ∙ ap is_some w.1
fits-form seen s t is c i (Forbid x) h = is x.0 ∙ not_on s.reach.place.items x (λ w.
    let e : (e : Reached) × (slice_get s.reach.reached.items w.0 ≡ Some e) × (e.bit ≡ x) = c.reach.on x w.0 w.1 in
    let P : Bit → Type 0 = λ z. entry s.forbidden.items z.0 ≡ None in
    let free : entry s.forbidden.items x.0 ≡ None = subst P e.2 (c.followed.free w.0 e.0 (slice_get_within _ _ _ e.1) e.1) in
    let mark : (m : ℕ) × (entry s.forbidden.items x.0 ≡ Some m) = c.marked.all x i h in
    let marked : entry s.forbidden.items x.0 ≡ Some mark.0 = mark.1 in
    cc)

-- so some table fits the forms of a complete search
pub Fits-complete : (seen : List Form) (s : Search) → IsComplete seen s → Fits (λ b. is_some (entry s.reach.place.items b)) seen
Fits-complete seen s c = record { each = fits-form seen s (λ b. is_some (entry s.reach.place.items b)) (λ b. refl) c }

-- a bit that is reached is true in each table that fits the forms: by the places
reached-true : (seen : List Form) (place : List (Option ℕ)) (reached : List Reached) (t : ℕ → Bool) → IsReach seen place reached → Fits t seen → (n p : ℕ) → p < n → (e : Reached) → slice_get reached p ≡ Some e → t e.bit.0 ≡ true
reached-true seen place reached t r fits zero p lt e h = absurd (omega arith)
reached-true seen place reached t r fits (suc n) p lt e h =
    elim (r.cause p e h) [
      | inl forced ↦ fits.each e.clause (Force e.bit) forced
      | inr implied ↦
          let w : (f : Reached) × (slice_get reached implied.1 ≡ Some f) × (f.bit ≡ implied.0) = r.on implied.0 implied.1 implied.3 in
          let source : t w.0.bit.0 ≡ true = reached-true seen place reached t r fits n implied.1 (omega (arith, implied.4)) w.0 w.1 in
          let P : Bit → Type 0 = λ z. t z.0 ≡ true in
          fits.each e.clause (Imply implied.0 e.bit) implied.2 (subst P w.2 source)
    ]

pub on-true : (seen : List Form) (place : List (Option ℕ)) (reached : List Reached) (t : ℕ → Bool) → IsReach seen place reached → Fits t seen → (b : Bit) → IsOn place b → t b.0 ≡ true
on-true seen place reached t r fits b on =
    let w : (e : Reached) × (slice_get reached on.0 ≡ Some e) × (e.bit ≡ b) = r.on b on.0 on.1 in
    let P : Bit → Type 0 = λ z. t z.0 ≡ true in
    subst P w.2 (reached-true seen place reached t r fits (on.0 + 1) on.0 (omega arith) w.0 w.1)

-- the table of a complete search is the least that fits the forms
pub IsLeastOf-complete : (bits : ℕ) (forms : List Form) (s : Search) (table : List Bool) → IsComplete forms s → length s.reach.place.items ≡ bits → table ≡ map is_some s.reach.place.items → IsLeastOf bits forms table
IsLeastOf-complete bits forms s table c count table_is =
    let is : (b : ℕ) → slice_index_or table b false ≡ is_some (entry s.reach.place.items b) = λ b. rw table_is (table-entry s.reach.place.items b) in
    record {
      count = rw table_is (length-map s.reach.place.items is_some ∙ count);
      fits = record { each = fits-form forms s (λ b. slice_index_or table b false) is c };
      least = λ t fits b within on.
          let bit : Bit = record { 0 = b } in
          on-true forms s.reach.place.items s.reach.reached.items t c.reach fits bit (some_of (entry s.reach.place.items b) (sym (is b) ∙ on));
    }

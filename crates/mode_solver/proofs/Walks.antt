-- A walk over the implications from one bit, and a path that is read backwards.
use Rattle.std.proofs.Common.{◌≡◌, ℕ, ◌<◌, inl, inr, List, [], ◌∷◌, ◌++◌, reverse, Option, Some, None, slice_get, refl, sym, ◌∙◌, subst, arith}
use Rattle.std.proofs.lemmas.List.{reverse-append}
use Rattle.std.proofs.lemmas.Bool.{cases_eq}
use Rattle.mode_lattice.specs.declared.clause.Bit.{Bit}
use Rattle.mode_lattice.specs.declared.clause.Form.{Form}
use Rattle.mode_lattice.specs.declared.clause.Form.TheVariants.{Imply, Force, Forbid}
use Rattle.mode_solver.specs.declared.reach.Reached.{Reached}
use Rattle.mode_solver.specs.Forms.{Leads}
use Rattle.mode_solver.specs.Graph.{entry, IsGraph}
use Rattle.mode_solver.specs.Reaching.{IsOn, IsReach, IsWalk, Trail, rank}

pub IsWalk-start : (seen : List Form) (first next place : List (Option ℕ)) (bit : Bit) → IsGraph seen first next → IsWalk seen place bit (entry first bit.0)
IsWalk-start seen first next place bit g = record { here = λ j e. g.first_is bit j e; rest = λ b j h. inr (g.first_all bit b j h) }

pub IsWalk-next : (seen : List Form) (first next place place' : List (Option ℕ)) (bit : Bit) (m : ℕ) → IsGraph seen first next → ((b : Bit) (p : ℕ) → entry place b.0 ≡ Some p → entry place' b.0 ≡ Some p) → ((a b : Bit) → slice_get seen m ≡ Some (Imply a b) → IsOn place' b) → IsWalk seen place bit (Some m) → IsWalk seen place' bit (entry next m)
IsWalk-next seen first next place place' bit m g grows visited w =
    let this : (b : Bit) × (slice_get seen m ≡ Some (Imply bit b)) = w.here m refl in
    record {
      here = λ j e. (g.next_is bit this.0 m j this.1 e).1;
      rest = λ b j h. elim (w.rest b j h) [
        | inl on ↦ inl (on.0, grows b on.0 on.1)
        | inr ahead ↦
            let m_is : m ≡ ahead.0 = let e : ◌≡◌ {A = Option ℕ} (Some m) (Some ahead.0) = ahead.1 in cc in
            elim (cases_eq j m) [
              | inl same ↦ let form : slice_get seen m ≡ Some (Imply bit b) = cc in inl (visited bit b form)
              | inr other ↦ inr (g.next_all bit b this.0 j m this.1 h (omega (arith, ahead.2)))
            ]
      ];
    }

pub IsWalk-end : (seen : List Form) (place : List (Option ℕ)) (bit : Bit) (edge : Option ℕ) → edge ≡ None → IsWalk seen place bit edge → (b : Bit) (j : ℕ) → slice_get seen j ≡ Some (Imply bit b) → IsOn place b
IsWalk-end seen place bit edge end' w b j h = elim (w.rest b j h) [
  | inl on ↦ on
  | inr ahead ↦ let e : edge ≡ Some ahead.0 = ahead.1 in let no' : ⊥ = cc in absurd no'
]

-- what is below a number has a lower rank
rank-below : (o : Option ℕ) (m : ℕ) → ((l : ℕ) → o ≡ Some l → l < m) → rank o < rank (Some m)
rank-below None m below = omega arith
rank-below (Some l) m below = let h : l < m = below l refl in omega arith

-- the walk goes down
pub rank-next : (seen : List Form) (first next place : List (Option ℕ)) (bit : Bit) (m : ℕ) → IsGraph seen first next → IsWalk seen place bit (Some m) → rank (entry next m) < rank (Some m)
rank-next seen first next place bit m g w =
    let this : (b : Bit) × (slice_get seen m ≡ Some (Imply bit b)) = w.here m refl in
    rank-below (entry next m) m (λ l e. (g.next_is bit this.0 m l this.1 e).0)

-- one implication more, at the front of a path
Leads-cons : (forms : List Form) (a b : Bit) (n : ℕ) (path : List ℕ) → slice_get forms n ≡ Some (Imply a b) → Leads forms b path → Leads forms a (n ∷ path)
Leads-cons forms a b n [] form leads = absurd leads
Leads-cons forms a b n (m ∷ rest) form leads = (b, form, leads)

-- the path as it was read before, behind the clause read now
reverse-push : (path : List ℕ) (n : ℕ) → reverse (path ++ n ∷ []) ≡ n ∷ reverse path
reverse-push path n = reverse-append path (n ∷ [])

-- Where the path is read from a forbidden bit that is reached.
pub Trail-start : (seen : List Form) (place : List (Option ℕ)) (reached : List Reached) (bit : Bit) (n : ℕ) → IsReach seen place reached → IsOn place bit → slice_get seen n ≡ Some (Forbid bit) → Trail seen reached (entry place bit.0) (n ∷ [])
Trail-start seen place reached bit n r on forbids =
    let w : (e : Reached) × (slice_get reached on.0 ≡ Some e) × (e.bit ≡ bit) = r.on bit on.0 on.1 in
    let P : Bit → Type 0 = λ b. slice_get seen n ≡ Some (Forbid b) in
    rw on.1 (w.0, w.1, subst P (sym w.2) forbids)

-- One step back: `source` is the place of the bit that the clause implies from, or none.
pub Trail-back : (seen : List Form) (place : List (Option ℕ)) (reached : List Reached) (p : ℕ) (e : Reached) (path : List ℕ) (source : Option ℕ) → IsReach seen place reached → slice_get reached p ≡ Some e → Leads seen e.bit (reverse path) → ((a b : Bit) → slice_get seen e.clause ≡ Some (Imply a b) → source ≡ entry place a.0) → ((b : Bit) → slice_get seen e.clause ≡ Some (Force b) → source ≡ None) → Trail seen reached source (path ++ e.clause ∷ []) × (rank source < rank (Some p))
Trail-back seen place reached p e path source r item leads implies forces =
    elim (r.cause p e item) [
      | inl forced ↦
          let none : source ≡ None = forces e.bit forced in
          rw (none, reverse-push path e.clause) ((e.bit, forced, leads), omega arith)
      | inr implied ↦
          let a : Bit = implied.0 in
          let q : ℕ = implied.1 in
          let form : slice_get seen e.clause ≡ Some (Imply implied.0 e.bit) = implied.2 in
          let at : source ≡ Some implied.1 = implies implied.0 e.bit implied.2 ∙ implied.3 in
          let w : (f : Reached) × (slice_get reached implied.1 ≡ Some f) × (f.bit ≡ implied.0) = r.on implied.0 implied.1 implied.3 in
          let P : Bit → Type 0 = λ b. Leads seen b (e.clause ∷ reverse path) in
          rw (at, reverse-push path e.clause) ((w.0, w.1, subst P (sym w.2) (Leads-cons seen implied.0 e.bit e.clause (reverse path) implied.2 leads)), omega (arith, implied.4))
    ]

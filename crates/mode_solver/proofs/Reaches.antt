-- What stays true of the bits reached where one more is marked, and where one more form is taken.
use Rattle.std.proofs.Common.{◌≡◌, ℕ, zero, suc, ◌+◌, ◌<◌, ◌≤◌, inl, inr, List, [], ◌∷◌, ◌++◌, length, Option, Some, None, slice_get, slice_set, refl, sym, ap, ◌∙◌, subst, arith}
use Rattle.std.proofs.lemmas.List.{length_push, length-set}
use Rattle.std.proofs.lemmas.Option.{slice_get_within, slice_get_cases}
use Rattle.std.proofs.lemmas.Bool.{cases_eq}
use Rattle.mode_lattice.specs.declared.clause.Bit.{Bit}
use Rattle.mode_lattice.specs.declared.clause.Form.{Form}
use Rattle.mode_lattice.specs.declared.clause.Form.TheVariants.{Imply}
use Rattle.mode_solver.specs.declared.reach.Reached.{Reached}
use Rattle.mode_solver.specs.Graph.{entry}
use Rattle.mode_solver.specs.Reaching.{room, IsOn, Cause, IsReach, Grows, Marks, Before, Now, IsDone}
use Rattle.mode_lattice.proofs.Lists.{slice_get-push_at, slice_get-append_left, slice_get-push_cases}
use Rattle.mode_solver.proofs.Lists.{entry-set_same, entry-set_other, same_bit}

-- a bit that gets a place takes one room
pub room-set : (place : List (Option ℕ)) (i p : ℕ) → i < length place → entry place i ≡ None → room (slice_set place i (Some p)) + 1 ≡ room place
room-set [] i p within none = absurd (omega arith)
room-set (None ∷ rest) zero p within none = refl
room-set (Some q ∷ rest) zero p within none = let no' : ⊥ = cc in absurd no'
room-set (None ∷ rest) (suc i) p within none = ap (λ n. n + 1) (room-set rest i p (omega arith) none)
room-set (Some q ∷ rest) (suc i) p within none = room-set rest i p (omega arith) none

pub Grows-refl : (place : List (Option ℕ)) (reached : List Reached) → Grows place reached place reached
Grows-refl place reached = record { on = λ b p e. e; kept = λ p e h. h; count = refl; longer = omega arith }

pub Grows-trans : {place place' place'' : List (Option ℕ)} {reached reached' reached'' : List Reached} → Grows place reached place' reached' → Grows place' reached' place'' reached'' → Grows place reached place'' reached''
Grows-trans g h = record {
  on = λ b p e. h.on b p (g.on b p e);
  kept = λ p e i. h.kept p e (g.kept p e i);
  count = h.count ∙ g.count;
  longer = omega (arith, g.longer, h.longer);
}

pub Marks-grows : (place : List (Option ℕ)) (reached : List Reached) (bit : Bit) (clause : ℕ) (place' : List (Option ℕ)) (reached' : List Reached) → Marks place reached bit clause place' reached' → Grows place reached place' reached'
Marks-grows place reached bit clause place' reached' (Before p on same same_reached) =
    rw (same, same_reached) (Grows-refl place reached)
Marks-grows place reached bit clause place' reached' (Now none set pushed) = rw (set, pushed) (record {
  on = λ b p e. elim (cases_eq b.0 bit.0) [
    | inl same ↦ let bit_is : b ≡ bit = same_bit b bit same in let no' : ⊥ = cc in absurd no'
    | inr other ↦ entry-set_other place bit.0 b.0 (Some (length reached)) other ∙ e
  ];
  kept = λ p e h. slice_get-append_left reached _ p e h;
  count = length-set place bit.0 (Some (length reached));
  longer = omega (arith, length_push reached (record { bit = bit; clause = clause }));
})

pub Marks-on : (place : List (Option ℕ)) (reached : List Reached) (bit : Bit) (clause : ℕ) (place' : List (Option ℕ)) (reached' : List Reached) → bit.0 < length place → Marks place reached bit clause place' reached' → IsOn place' bit
Marks-on place reached bit clause place' reached' within (Before p on same same_reached) = (p, rw same on)
Marks-on place reached bit clause place' reached' within (Now none set pushed) = (length reached, rw set (entry-set_same place bit.0 (Some (length reached)) within))

-- the cause of a bit stays where more bits are reached
pub Cause-grows : (seen : List Form) (place place' : List (Option ℕ)) (p : ℕ) (e : Reached) → ((b : Bit) (q : ℕ) → entry place b.0 ≡ Some q → entry place' b.0 ≡ Some q) → Cause seen place p e → Cause seen place' p e
Cause-grows seen place place' p e on cause = elim cause [ inl forced ↦ inl forced | inr implied ↦ inr (implied.0, implied.1, implied.2, on implied.0 implied.1 implied.3, implied.4) ]

-- and where more forms are taken
pub Cause-more : (seen more : List Form) (place : List (Option ℕ)) (p : ℕ) (e : Reached) → Cause seen place p e → Cause (seen ++ more) place p e
Cause-more seen more place p e cause = elim cause [ inl forced ↦ inl (slice_get-append_left seen more _ _ forced) | inr implied ↦ inr (implied.0, implied.1, slice_get-append_left seen more _ _ implied.2, implied.3, implied.4) ]

pub IsReach-more : (seen more : List Form) (place : List (Option ℕ)) (reached : List Reached) → IsReach seen place reached → IsReach (seen ++ more) place reached
IsReach-more seen more place reached r = record { at = r.at; cause = λ p e h. Cause-more seen more place p e (r.cause p e h); on = r.on; rooms = r.rooms }

-- a marked bit is reached, where it has a cause
pub IsReach-mark : (seen : List Form) (place : List (Option ℕ)) (reached : List Reached) (bit : Bit) (clause : ℕ) (place' : List (Option ℕ)) (reached' : List Reached) → IsReach seen place reached → bit.0 < length place → Cause seen place (length reached) (record { bit = bit; clause = clause }) → Marks place reached bit clause place' reached' → IsReach seen place' reached'
IsReach-mark seen place reached bit clause place' reached' r within cause (Before p on same same_reached) = rw (same, same_reached) r
IsReach-mark seen place reached bit clause place' reached' r within cause (Now none set pushed) =
    let new : Reached = record { bit = bit; clause = clause } in
    let here : entry (slice_set place bit.0 (Some (length reached))) bit.0 ≡ Some (length reached) = entry-set_same place bit.0 (Some (length reached)) within in
    let grows : Grows place reached (slice_set place bit.0 (Some (length reached))) (reached ++ new ∷ []) = Marks-grows place reached bit clause _ _ (Now none refl refl) in
    rw (set, pushed) (record {
      at = λ p e h. elim (slice_get-push_cases reached new p e h) [
        | inl old ↦ grows.on e.bit p (r.at p e old)
        | inr last ↦ let bit_is : bit ≡ e.bit = ap (λ (x : Reached). x.bit) last.1 in let place_is : p ≡ length reached = last.0 in cc
      ];
      cause = λ p e h. elim (slice_get-push_cases reached new p e h) [
        | inl old ↦ Cause-grows seen place _ p e grows.on (r.cause p e old)
        | inr last ↦
            let P : ℕ → Type 0 = λ q. Cause seen place q new in
            let Q : Reached → Type 0 = λ f. Cause seen place p f in
            Cause-grows seen place _ p e grows.on (subst Q last.1 (subst P (sym last.0) cause))
      ];
      on = λ b p e. elim (cases_eq b.0 bit.0) [
        | inl same ↦
            let bit_is : bit ≡ b = sym (same_bit b bit same) in
            let place_is : length reached ≡ p = cc in
            let last : slice_get (reached ++ new ∷ []) (length reached) ≡ Some new = slice_get-push_at reached new in
            (new, cc, bit_is)
        | inr other ↦
            let old : entry place b.0 ≡ Some p = sym (entry-set_other place bit.0 b.0 (Some (length reached)) other) ∙ e in
            let w : (f : Reached) × (slice_get reached p ≡ Some f) × (f.bit ≡ b) = r.on b p old in
            (w.0, slice_get-append_left reached _ p _ w.1, w.2)
      ];
      rooms = omega (arith, r.rooms, room-set place bit.0 (length reached) within none, length_push reached new, length-set place bit.0 (Some (length reached)));
    })

-- what stands at an earlier place stood there before
pub Grows-earlier : (place : List (Option ℕ)) (reached : List Reached) (place' : List (Option ℕ)) (reached' : List Reached) → Grows place reached place' reached' → (p : ℕ) (e : Reached) → p < length reached → slice_get reached' p ≡ Some e → slice_get reached p ≡ Some e
Grows-earlier place reached place' reached' g p e lt h =
    elim ((slice_get_cases reached p).1) [
      | inl there ↦ let same : slice_get reached' p ≡ Some there.0 = g.kept p there.0 there.2 in let item : slice_get reached p ≡ Some there.0 = there.2 in cc
      | inr past ↦ absurd (omega (arith, past.0))
    ]

-- the places that are done stay so where more bits are reached
pub IsDone-grows : (seen : List Form) (forbidden place : List (Option ℕ)) (reached : List Reached) (place' : List (Option ℕ)) (reached' : List Reached) (done : ℕ) → done ≤ length reached → Grows place reached place' reached' → IsDone seen forbidden place reached done → IsDone seen forbidden place' reached' done
IsDone-grows seen forbidden place reached place' reached' done within g d =
    let earlier : (p : ℕ) (e : Reached) → p < done → slice_get reached' p ≡ Some e → slice_get reached p ≡ Some e = λ p e lt h. Grows-earlier place reached place' reached' g p e (omega arith) h in
    record {
      forced = λ b j h. let w : IsOn place b = d.forced b j h in (w.0, g.on b w.0 w.1);
      implied = λ p e lt h b j i. let w : IsOn place b = d.implied p e lt (earlier p e lt h) b j i in (w.0, g.on b w.0 w.1);
      free = λ p e lt h. d.free p e lt (earlier p e lt h);
    }

-- a place that a bit has stands among those reached
pub on_within : (seen : List Form) (place : List (Option ℕ)) (reached : List Reached) (b : Bit) (p : ℕ) → IsReach seen place reached → entry place b.0 ≡ Some p → p < length reached
on_within seen place reached b p r e =
    let w : (f : Reached) × (slice_get reached p ≡ Some f) × (f.bit ≡ b) = r.on b p e in
    slice_get_within reached p w.0 w.1

-- an implication from a bit that is reached is a cause at the next place
pub Cause-imply : (seen : List Form) (place : List (Option ℕ)) (reached : List Reached) (clause : ℕ) (a b : Bit) → IsReach seen place reached → slice_get seen clause ≡ Some (Imply a b) → IsOn place a → Cause seen place (length reached) (record { bit = b; clause = clause })
Cause-imply seen place reached clause a b r form on = inr (a, on.0, form, on.1, on_within seen place reached a on.0 r on.1)

-- more places are done by one
pub IsDone-one : (seen : List Form) (forbidden place : List (Option ℕ)) (reached : List Reached) (done : ℕ) (e : Reached) → IsDone seen forbidden place reached done → slice_get reached done ≡ Some e → entry forbidden e.bit.0 ≡ None → ((b : Bit) (j : ℕ) → slice_get seen j ≡ Some (Imply e.bit b) → IsOn place b) → IsDone seen forbidden place reached (done + 1)
IsDone-one seen forbidden place reached done e d item free implied = record {
  forced = d.forced;
  implied = λ p f lt h. elim (cases_eq p done) [
    | inl same ↦
        let item_is : slice_get reached p ≡ Some e = cc in
        let e_is : e ≡ f = cc in
        let P : Reached → Type 0 = λ x. (b : Bit) (j : ℕ) → slice_get seen j ≡ Some (Imply x.bit b) → IsOn place b in
        subst P e_is implied
    | inr other ↦ d.implied p f (omega arith) h
  ];
  free = λ p f lt h. elim (cases_eq p done) [
    | inl same ↦
        let item_is : slice_get reached p ≡ Some e = cc in
        let e_is : e ≡ f = cc in
        let P : Reached → Type 0 = λ x. entry forbidden x.bit.0 ≡ None in
        subst P e_is free
    | inr other ↦ d.free p f (omega arith) h
  ];
}

-- the clause by which a bit was reached is one of those taken
pub cause_within : (seen : List Form) (place : List (Option ℕ)) (p : ℕ) (e : Reached) (reached : List Reached) → IsReach seen place reached → slice_get reached p ≡ Some e → e.clause < length seen
cause_within seen place p e reached r item = elim (r.cause p e item) [ inl forced ↦ slice_get_within _ _ _ forced | inr implied ↦ slice_get_within _ _ _ implied.2 ]

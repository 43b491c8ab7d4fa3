-- A search that takes one more form.
use Rattle.std.proofs.Common.{◌≡◌, ℕ, zero, suc, ◌<◌, ◌⊎◌, inl, inr, List, [], ◌∷◌, ◌++◌, length, Option, Some, None, slice_get, slice_set, refl, sym, ◌∙◌, subst, arith, Result, Ok, Err, OnOk, IfOk, IfSome, replicate}
use Rattle.std.proofs.lemmas.List.{length-set, length-replicate}
use Rattle.std.proofs.lemmas.Bool.{cases_eq}
use Rattle.mode_lattice.specs.declared.clause.Bit.{Bit}
use Rattle.mode_lattice.specs.declared.clause.Form.{Form}
use Rattle.mode_lattice.specs.declared.clause.Form.TheVariants.{Imply, Force, Forbid}
use Rattle.mode_solver.specs.declared.reach.Reached.{Reached}
use Rattle.mode_solver.specs.declared.search.Search.{Search}
use Rattle.mode_solver.specs.Graph.{entry}
use Rattle.mode_solver.specs.Searching.{IsSearch, IsComplete, IsBlocked}
use Rattle.mode_solver.proofs.Graphs.{IsGraph-imply, IsGraph-other, IsMarked-forbid, IsMarked-other}
use Rattle.mode_solver.specs.Reaching.{room, IsOn, IsReach, Grows, Marks, IsDone}
use Rattle.mode_lattice.proofs.Lists.{slice_get-push_at, slice_get-push_cases}
use Rattle.mode_solver.proofs.Lists.{entry-set_same, entry-set_other}
use Rattle.mode_solver.proofs.Reaches.{Grows-refl, Grows-earlier, Marks-grows, Marks-on, Cause-imply, IsReach-more, IsReach-mark, IsDone-grows}

-- an entry is there or not
slot : (o : Option ℕ) → ((v : ℕ) × (o ≡ Some v)) ⊎ (o ≡ None)
slot None = inr refl
slot (Some v) = inl (v, refl)

-- Each form but one that forces a bit: the bits that are forced stay reached.
forced-more : (seen : List Form) (new : Form) (place : List (Option ℕ)) → ((b : Bit) (j : ℕ) → slice_get seen j ≡ Some (Force b) → IsOn place b) → ((b : Bit) → new ≡ Force b → IsOn place b) → (b : Bit) (j : ℕ) → slice_get (seen ++ new ∷ []) j ≡ Some (Force b) → IsOn place b
forced-more seen new place old last b j h = elim (slice_get-push_cases seen new j (Force b) h) [ inl early ↦ old b j early | inr late ↦ last b late.1 ]

-- The new form implies the second bit from the first, which was marked where the first was reached.
pub imply-done : (seen : List Form) (a b : Bit) (forbidden place : List (Option ℕ)) (reached : List Reached) (place' : List (Option ℕ)) (reached' : List Reached) → IsReach seen place reached → IsDone seen forbidden place reached (length reached) → Grows place reached place' reached' → (IsOn place a → IsOn place' b) → IsDone (seen ++ Imply a b ∷ []) forbidden place' reached' (length reached)
imply-done seen a b forbidden place reached place' reached' r d g new =
    let d' : IsDone seen forbidden place' reached' (length reached) = IsDone-grows seen forbidden place reached place' reached' (length reached) (omega arith) g d in
    record {
      forced = forced-more seen (Imply a b) place' d'.forced (λ c e. let no' : ⊥ = cc in absurd no');
      implied = λ p e lt h c j i. elim (slice_get-push_cases seen (Imply a b) j (Imply e.bit c) i) [
        | inl early ↦ d'.implied p e lt h c j early
        | inr late ↦
            let form : Imply a b ≡ Imply e.bit c = late.1 in
            let source : e.bit ≡ a = cc in
            let target : b ≡ c = cc in
            let P : Bit → Type 0 = λ x. IsOn place' x in
            let Q : Bit → Type 0 = λ x. entry place x.0 ≡ Some p in
            subst P target (new (p, subst Q source (r.at p e (Grows-earlier place reached place' reached' g p e lt h))))
      ];
      free = d'.free;
    }

-- How the bits reached change by an implication.
pub record Steps (seen : List Form) (a b : Bit) (place : List (Option ℕ)) (reached : List Reached) (place' : List (Option ℕ)) (reached' : List Reached) : Type 0 where
  pub reach : IsReach (seen ++ Imply a b ∷ []) place' reached'
  pub grows : Grows place reached place' reached'
  pub on : IsOn place a → IsOn place' b

pub Steps-imply : (seen : List Form) (a b : Bit) (place : List (Option ℕ)) (reached : List Reached) (place' : List (Option ℕ)) (reached' : List Reached) → IsReach seen place reached → b.0 < length place → (IsOn place a → Marks place reached b (length seen) place' reached') → (entry place a.0 ≡ None → (place' ≡ place) × (reached' ≡ reached)) → Steps seen a b place reached place' reached'
Steps-imply seen a b place reached place' reached' r within on off =
    let more : IsReach (seen ++ Imply a b ∷ []) place reached = IsReach-more seen (Imply a b ∷ []) place reached r in
    elim (slot (entry place a.0)) [
      | inl there ↦
          let marks : Marks place reached b (length seen) place' reached' = on there in
          record {
            reach = IsReach-mark (seen ++ Imply a b ∷ []) place reached b (length seen) place' reached' more within (Cause-imply (seen ++ Imply a b ∷ []) place reached (length seen) a b more (slice_get-push_at seen (Imply a b)) there) marks;
            grows = Marks-grows place reached b (length seen) place' reached' marks;
            on = λ _. Marks-on place reached b (length seen) place' reached' within marks;
          }
      | inr none ↦
          let same = off none in
          record {
            reach = rw (same.0, same.1) more;
            grows = rw (same.0, same.1) (Grows-refl place reached);
            on = λ w. let some : entry place a.0 ≡ Some w.0 = w.1 in let no' : ⊥ = cc in absurd no';
          }
    ]

-- The new form forces a bit, which was marked.
pub force-reach : (seen : List Form) (b : Bit) (place : List (Option ℕ)) (reached : List Reached) (place' : List (Option ℕ)) (reached' : List Reached) → IsReach seen place reached → b.0 < length place → Marks place reached b (length seen) place' reached' → IsReach (seen ++ Force b ∷ []) place' reached'
force-reach seen b place reached place' reached' r within marks =
    IsReach-mark (seen ++ Force b ∷ []) place reached b (length seen) place' reached' (IsReach-more seen (Force b ∷ []) place reached r) within (inl (slice_get-push_at seen (Force b))) marks

pub force-done : (seen : List Form) (b : Bit) (forbidden place : List (Option ℕ)) (reached : List Reached) (place' : List (Option ℕ)) (reached' : List Reached) → IsDone seen forbidden place reached (length reached) → b.0 < length place → Marks place reached b (length seen) place' reached' → IsDone (seen ++ Force b ∷ []) forbidden place' reached' (length reached)
force-done seen b forbidden place reached place' reached' d within marks =
    let d' : IsDone seen forbidden place' reached' (length reached) = IsDone-grows seen forbidden place reached place' reached' (length reached) (omega arith) (Marks-grows place reached b (length seen) place' reached' marks) d in
    record {
      forced = forced-more seen (Force b) place' d'.forced (λ c e. let bit : b ≡ c = cc in let P : Bit → Type 0 = λ x. IsOn place' x in subst P bit (Marks-on place reached b (length seen) place' reached' within marks));
      implied = λ p e lt h c j i. elim (slice_get-push_cases seen (Force b) j (Imply e.bit c) i) [
        | inl early ↦ d'.implied p e lt h c j early
        | inr late ↦ let form : Force b ≡ Imply e.bit c = late.1 in let no' : ⊥ = cc in absurd no'
      ];
      free = d'.free;
    }

-- The new form forbids a bit that is not reached.
pub forbid-done : (seen : List Form) (b : Bit) (forbidden place : List (Option ℕ)) (reached : List Reached) → IsReach seen place reached → IsDone seen forbidden place reached (length reached) → entry place b.0 ≡ None → IsDone (seen ++ Forbid b ∷ []) (slice_set forbidden b.0 (Some (length seen))) place reached (length reached)
forbid-done seen b forbidden place reached r d off = record {
  forced = forced-more seen (Forbid b) place d.forced (λ c e. let no' : ⊥ = cc in absurd no');
  implied = λ p e lt h c j i. elim (slice_get-push_cases seen (Forbid b) j (Imply e.bit c) i) [
    | inl early ↦ d.implied p e lt h c j early
    | inr late ↦ let form : Forbid b ≡ Imply e.bit c = late.1 in let no' : ⊥ = cc in absurd no'
  ];
  free = λ p e lt h. elim (cases_eq e.bit.0 b.0) [
    | inl same ↦ let at : entry place e.bit.0 ≡ Some p = r.at p e h in let no' : ⊥ = cc in absurd no'
    | inr other ↦ entry-set_other forbidden b.0 e.bit.0 (Some (length seen)) other ∙ d.free p e lt h
  ];
}

-- The search after an implication between two bits, before it is followed.
pub IsSearch-imply : (seen : List Form) (n : ℕ) (a b : Bit) (s s' : Search) → length seen ≡ n → IsComplete seen s → a.0 < length s.reach.place.items → b.0 < length s.reach.place.items → s'.implications.first.items ≡ slice_set s.implications.first.items a.0 (Some n) → s'.implications.next.items ≡ s.implications.next.items ++ entry s.implications.first.items a.0 ∷ [] → s'.forbidden ≡ s.forbidden → (IsOn s.reach.place.items a → Marks s.reach.place.items s.reach.reached.items b n s'.reach.place.items s'.reach.reached.items) → (entry s.reach.place.items a.0 ≡ None → (s'.reach.place.items ≡ s.reach.place.items) × (s'.reach.reached.items ≡ s.reach.reached.items)) → IsSearch (seen ++ Imply a b ∷ []) s' (length s.reach.reached.items) × Grows s.reach.place.items s.reach.reached.items s'.reach.place.items s'.reach.reached.items
IsSearch-imply seen n a b s s' len before source target first next forbidden on off =
    let place : List (Option ℕ) = s.reach.place.items in
    let first_is : s'.implications.first.items ≡ slice_set s.implications.first.items a.0 (Some (length seen)) = rw len first in
    let on_is : IsOn s.reach.place.items a → Marks s.reach.place.items s.reach.reached.items b (length seen) s'.reach.place.items s'.reach.reached.items = rw len on in
    let steps : Steps seen a b s.reach.place.items s.reach.reached.items s'.reach.place.items s'.reach.reached.items = Steps-imply seen a b _ _ _ _ before.reach target on_is off in (
      record {
        graph = rw (first_is, next) (IsGraph-imply seen s.implications.first.items s.implications.next.items a b before.graph (omega (arith, before.first_count)));
        marked = rw forbidden (IsMarked-other seen s.forbidden.items (Imply a b) before.marked (λ c e. let no' : ⊥ = cc in no'));
        reach = steps.reach;
        followed = rw forbidden (imply-done seen a b s.forbidden.items _ _ _ _ before.reach before.followed steps.grows steps.on);
        first_count = rw first_is (length-set _ _ _ ∙ (before.first_count ∙ sym steps.grows.count));
        forbidden_count = rw forbidden (before.forbidden_count ∙ sym steps.grows.count);
      },
      steps.grows,
    )

-- The search after a forced bit, before it is followed.
pub IsSearch-force : (seen : List Form) (n : ℕ) (b : Bit) (s s' : Search) → length seen ≡ n → IsComplete seen s → b.0 < length s.reach.place.items → s'.implications.first.items ≡ s.implications.first.items → s'.implications.next.items ≡ s.implications.next.items ++ None ∷ [] → s'.forbidden ≡ s.forbidden → Marks s.reach.place.items s.reach.reached.items b n s'.reach.place.items s'.reach.reached.items → IsSearch (seen ++ Force b ∷ []) s' (length s.reach.reached.items)
IsSearch-force seen n b s s' len before within first next forbidden marked =
    let marks : Marks s.reach.place.items s.reach.reached.items b (length seen) s'.reach.place.items s'.reach.reached.items = rw len marked in
    let grows : Grows s.reach.place.items s.reach.reached.items s'.reach.place.items s'.reach.reached.items = Marks-grows _ _ _ _ _ _ marks in
    record {
      graph = rw (first, next) (IsGraph-other seen s.implications.first.items s.implications.next.items (Force b) before.graph (λ c d e. let no' : ⊥ = cc in no'));
      marked = rw forbidden (IsMarked-other seen s.forbidden.items (Force b) before.marked (λ c e. let no' : ⊥ = cc in no'));
      reach = force-reach seen b _ _ _ _ before.reach within marks;
      followed = rw forbidden (force-done seen b s.forbidden.items _ _ _ _ before.followed within marks);
      first_count = rw first (before.first_count ∙ sym grows.count);
      forbidden_count = rw forbidden (before.forbidden_count ∙ sym grows.count);
    }

-- The search after a forbidden bit that is not reached.
pub IsSearch-forbid : (seen : List Form) (n : ℕ) (b : Bit) (s s' : Search) → length seen ≡ n → IsComplete seen s → b.0 < length s.reach.place.items → s'.implications.first.items ≡ s.implications.first.items → s'.implications.next.items ≡ s.implications.next.items ++ None ∷ [] → s'.forbidden.items ≡ slice_set s.forbidden.items b.0 (Some n) → s'.reach ≡ s.reach → entry s.reach.place.items b.0 ≡ None → IsComplete (seen ++ Forbid b ∷ []) s'
IsSearch-forbid seen n b s s' len before within first next forbidden reach off =
    let forbidden_is : s'.forbidden.items ≡ slice_set s.forbidden.items b.0 (Some (length seen)) = rw len forbidden in
    record {
      graph = rw (first, next) (IsGraph-other seen s.implications.first.items s.implications.next.items (Forbid b) before.graph (λ c d e. let no' : ⊥ = cc in no'));
      marked = rw forbidden_is (IsMarked-forbid seen s.forbidden.items b before.marked (omega (arith, before.forbidden_count)));
      reach = rw reach (IsReach-more seen _ _ _ before.reach);
      followed = rw (forbidden_is, reach) (forbid-done seen b s.forbidden.items _ _ before.reach before.followed off);
      first_count = rw (first, reach) before.first_count;
      forbidden_count = rw (forbidden_is, reach) (length-set _ _ _ ∙ before.forbidden_count);
    }

-- The search after a forbidden bit that is reached.
pub IsBlocked-forbid : (seen : List Form) (n : ℕ) (b : Bit) (s s' : Search) → length seen ≡ n → IsComplete seen s → b.0 < length s.reach.place.items → s'.forbidden.items ≡ slice_set s.forbidden.items b.0 (Some n) → s'.reach ≡ s.reach → IsOn s.reach.place.items b → IsBlocked (seen ++ Forbid b ∷ []) s' b
IsBlocked-forbid seen n b s s' len before within forbidden reach on =
    let forbidden_is : s'.forbidden.items ≡ slice_set s.forbidden.items b.0 (Some (length seen)) = rw len forbidden in
    let inside : b.0 < length s.forbidden.items = omega (arith, before.forbidden_count) in
    record {
      marked = rw forbidden_is (IsMarked-forbid seen s.forbidden.items b before.marked inside);
      reach = rw reach (IsReach-more seen _ _ _ before.reach);
      on = rw reach on;
      forbids = (length seen, rw forbidden_is (entry-set_same s.forbidden.items b.0 (Some (length seen)) inside));
      forbidden_count = rw (forbidden_is, reach) (length-set _ _ _ ∙ before.forbidden_count);
    }

-- what follows from what is said of the answer of a search that did not want memory
pub blocked_then : {E A B : Type 0} {P Q : Bit → Type 0} → (r : Result (Option Bit) E) → OnOk r A → OnOk r B → IfOk r (λ o. IfSome o P) → ((b : Bit) → A → B → P b → Q b) → IfOk r (λ o. IfSome o Q)
blocked_then (Err e) reach count blocked then' = tt
blocked_then (Ok None) reach count blocked then' = tt
blocked_then (Ok (Some b)) reach count blocked then' = then' b reach count blocked

-- a list of nothing
entry-replicate : (n i : ℕ) → entry (replicate n None) i ≡ None
entry-replicate zero i = refl
entry-replicate (suc n) zero = refl
entry-replicate (suc n) (suc i) = entry-replicate n i

room-replicate : (n : ℕ) → room (replicate n None) ≡ n
room-replicate zero = refl
room-replicate (suc n) = omega (arith, room-replicate n)

-- The search before the first form.
pub IsSearch-start : (bits : ℕ) (s : Search) → s.implications.first.items ≡ replicate bits None → s.implications.next.items ≡ [] → s.forbidden.items ≡ replicate bits None → s.reach.place.items ≡ replicate bits None → s.reach.reached.items ≡ [] → IsComplete [] s
IsSearch-start bits s first next forbidden place reached =
    let none : (i v : ℕ) → entry (replicate bits None) i ≡ Some v → ⊥ = λ i v e. let n : entry (replicate bits None) i ≡ None = entry-replicate bits i in cc in
    record {
      graph = rw (first, next) (record {
        count = refl;
        first_is = λ a j e. absurd (none a.0 j e);
        next_is = λ a b j m e h. let no' : ⊥ = cc in absurd no';
        first_all = λ a b j e. let no' : ⊥ = cc in absurd no';
        next_all = λ a b c j m e h lt. let no' : ⊥ = cc in absurd no';
      });
      marked = rw forbidden (record { is = λ b j e. absurd (none b.0 j e); all = λ b j e. let no' : ⊥ = cc in absurd no' });
      reach = rw (place, reached) (record {
        at = λ p e h. let no' : ⊥ = cc in absurd no';
        cause = λ p e h. let no' : ⊥ = cc in absurd no';
        on = λ b p e. absurd (none b.0 p e);
        rooms = omega (arith, room-replicate bits, length-replicate {A = Option ℕ} bits None);
      });
      followed = rw (forbidden, place, reached) (record {
        forced = λ b j h. let no' : ⊥ = cc in absurd no';
        implied = λ p e lt h b j i. let no' : ⊥ = cc in absurd no';
        free = λ p e lt h. let no' : ⊥ = cc in absurd no';
      });
      first_count = rw (first, place) refl;
      forbidden_count = rw (forbidden, place) refl;
    }

-- A run that comes to an end, having written everything or having been refused, agrees with a program that writes
-- everything and ends with the status 0.
use Rattle.std.proofs.Common.{ℕ, suc, ◌+◌, ◌≡◌, ◌⊎◌, inl, inr, true, false, List, [], ◌++◌, append-nil, sym, ap, ◌∙◌, subst, arith, append_assoc}
use Rattle.x64_table.specs.Kernel.{Ending, Exited, Faulted, Run, next, after}
use Rattle.x64_table.specs.Agreement.{Ends, Meant, IsPrefix, HasExited, IsMeant, IsRefused, RunAgrees, no_excuse}
use Rattle.x64_table.proofs.Runs.{IsOver, after_suc, after_zero, stays_over, Grows, Grows-more, asked_before}

pub record Finished (all : List (ℕ × ℕ)) (r : Run) : Type 0 where
  pub ending : r.ending ≡ Exited 0
  pub out : r.out ≡ all
  pub refused : r.refused ≡ false
  pub asked_again : r.asked_again ≡ false

pub record GaveUp (all : List (ℕ × ℕ)) (r : Run) : Type 0 where
  pub ending : r.ending ≡ Exited 104
  pub out : IsPrefix r.out all
  pub refused : r.refused ≡ true
  pub asked_again : r.asked_again ≡ false

pub record Settles (all : List (ℕ × ℕ)) (r : Run) : Type 0 where
  pub steps : ℕ
  pub settled : Finished all (after steps r) ⊎ GaveUp all (after steps r)

pub finished : {all : List (ℕ × ℕ)} {r : Run} → Finished all r → Settles all r
finished {all} {r} h =
    let P : Run → Type 0 = λ q. Finished all q in
    record { steps = 0; settled = inl (subst P (sym (after_zero r)) h) }

pub gave_up : {all : List (ℕ × ℕ)} {r : Run} → GaveUp all r → Settles all r
gave_up {all} {r} h =
    let P : Run → Type 0 = λ q. GaveUp all q in
    record { steps = 0; settled = inr (subst P (sym (after_zero r)) h) }

-- one step before
pub by : {all : List (ℕ × ℕ)} {r q : Run} → next r ≡ q → Settles all q → Settles all r
by {all} {r} {q} one h =
    let P : Run → Type 0 = λ s. Finished all s ⊎ GaveUp all s in
    let e : after (suc h.steps) r ≡ after h.steps q = after_suc h.steps r ∙ ap (after h.steps) one in
    record { steps = suc h.steps; settled = subst P (sym e) h.settled }

-- ---- agreement

exited_over : (e : Ending) (status : ℕ) → e ≡ Exited status → IsOver e
exited_over e status h = let P : Ending → Type 0 = IsOver in subst P (sym h) tt

faulted_over : (e : Ending) (at : ℕ) → e ≡ Faulted at → IsOver e
faulted_over e at h = let P : Ending → Type 0 = IsOver in subst P (sym h) tt

over : {all : List (ℕ × ℕ)} {r : Run} → Finished all r ⊎ GaveUp all r → IsOver r.ending
over {all} {r} (inl h) = exited_over r.ending 0 h.ending
over {all} {r} (inr h) = exited_over r.ending 104 h.ending

exited : {all : List (ℕ × ℕ)} {r : Run} → Finished all r ⊎ GaveUp all r → HasExited r
exited (inl h) = (0, h.ending)
exited (inr h) = (104, h.ending)

asks_not : {all : List (ℕ × ℕ)} {r : Run} → Finished all r ⊎ GaveUp all r → r.asked_again ≡ false
asks_not (inl h) = h.asked_again
asks_not (inr h) = h.asked_again

prefix : {all : List (ℕ × ℕ)} {r : Run} → Finished all r ⊎ GaveUp all r → IsPrefix r.out all
prefix {all} {r} (inl h) = ([], sym h.out ∙ sym (append-nil r.out))
prefix (inr h) = h.out

gives : {all : List (ℕ × ℕ)} {r : Run} → Finished all r ⊎ GaveUp all r → r.refused ≡ true → r.ending ≡ Exited 104
gives (inl h) refused = cc
gives (inr h) refused = h.ending

faults_not : {all : List (ℕ × ℕ)} {r : Run} (at : ℕ) → Finished all r ⊎ GaveUp all r → r.ending ≡ Faulted at → ⊥
faults_not at (inl h) e = cc
faults_not at (inr h) e = cc

ended : (meaning : ℕ → Meant) (r : Run) (status : ℕ) → (meaning 0).ending ≡ Ends 0 → Finished (meaning 0).out r ⊎ GaveUp (meaning 0).out r → r.ending ≡ Exited status → IsMeant meaning status r ⊎ (no_excuse status r.out ⊎ IsRefused meaning status r)
ended meaning r status ends (inl h) e =
    let zero_is : 0 ≡ status = cc in
    inl (record { bound = 0; ends = ends ∙ ap Ends zero_is; whole = sym h.out })
ended meaning r status ends (inr h) e =
    let is_104 : status ≡ 104 = cc in
    inr (inr (record { gave_up = is_104; refused = h.refused; bound = 0; part = h.out }))

-- where the run comes to its end, it agrees at every number of steps
module _ (meaning : ℕ → Meant) (r : Run) (ends_0 : (meaning 0).ending ≡ Ends 0) (h : Settles (meaning 0).out r) where
  -- it stays as it came to stand
  stands : (n : ℕ) → after (n + h.steps) r ≡ after h.steps r
  stands n = stays_over h.steps (n + h.steps) r (over h.settled) (omega arith)

  comes : (n : ℕ) → IsOver (after n r).ending → after h.steps r ≡ after n r
  comes n ended_there = sym (stands n) ∙ stays_over n (n + h.steps) r ended_there (omega arith)

  settled_there : (n : ℕ) → IsOver (after n r).ending → Finished (meaning 0).out (after n r) ⊎ GaveUp (meaning 0).out (after n r)
  settled_there n ended_there =
      let P : Run → Type 0 = λ q. Finished (meaning 0).out q ⊎ GaveUp (meaning 0).out q in
      subst P (comes n ended_there) h.settled

  grows : (n : ℕ) → Grows (after n r) (after h.steps r)
  grows n =
      let P : Run → Type 0 = λ q. Grows (after n r) q in subst P (stands n) (Grows-more n (n + h.steps) r (omega arith))

  part : (n : ℕ) → IsPrefix (after n r).out (meaning 0).out
  part n =
      let more = grows n in
      let whole = prefix h.settled in
      (more.more ++ whole.0, whole.1 ∙ ap (λ l. l ++ whole.0) more.out ∙ append_assoc (after n r).out more.more whole.0)

  pub agrees : RunAgrees meaning no_excuse (λ n. after n r)
  agrees =
      record {
        never_faults = λ n at e. faults_not at (settled_there n (faulted_over _ at e)) e;
        written = λ n. (0, part n);
        exits = λ n status e. ended meaning (after n r) status ends_0 (settled_there n (exited_over _ status e)) e;
        reaches = λ bound. (h.steps, inr (exited h.settled));
        ends = λ bound status e. (h.steps, exited h.settled);
        asks_no_more = λ n. asked_before _ _ (grows n) (asks_not h.settled);
        gives_up = λ n e. (h.steps, gives h.settled ((grows n).refused e));
      }

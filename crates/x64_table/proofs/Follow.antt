-- A machine that follows another: what each step of the other does, one or more of its steps do.
-- What holds of the pairs that are related then holds at every number of steps.
use Rattle.std.proofs.Common.{ℕ, zero, suc, ◌+◌, ◌≤◌, ◌≡◌, false, List, ◌++◌, sym, ap, ◌∙◌, subst, arith, append_assoc}
use Rattle.x64_table.specs.Kernel.{Ending, Faulted, Run, after}
use Rattle.x64_table.proofs.Runs.{after-append, after_zero, IsOver, stays_over, Grows-more, asked_before}

-- the run has not faulted, has asked nothing after a refusal, and what it wrote can still become
-- what P allows
pub record IsGood (P : List (ℕ × ℕ) → Type 0) (r : Run) : Type 0 where
  pub no_fault : (at : ℕ) → r.ending ≡ Faulted at → ⊥
  pub no_more : r.asked_again ≡ false
  pub more : List (ℕ × ℕ)
  pub allowed : P (r.out ++ more)

faulted_over : (e : Ending) (at : ℕ) → e ≡ Faulted at → IsOver e
faulted_over e at h = let P : Ending → Type 0 = IsOver in subst P (sym h) tt

-- what is good later was good before
pub IsGood-before : (P : List (ℕ × ℕ) → Type 0) (m n : ℕ) (r : Run) → m ≤ n → IsGood P (after n r) → IsGood P (after m r)
IsGood-before P m n r least good =
    let grows = Grows-more m n r least in
    record {
      no_fault = λ at h. let stays = stays_over m n r (faulted_over _ at h) least in good.no_fault at (ap (λ (q : Run). q.ending) stays ∙ h);
      no_more = asked_before _ _ grows good.no_more;
      more = grows.more ++ good.more;
      allowed = subst P (ap (λ l. l ++ good.more) grows.out ∙ append_assoc _ grows.more good.more) good.allowed;
    }

module _ (W : Type 0) (w_next : W → W) (R : W → Run → Type 0) (sim : (w : W) (r : Run) → R w r → (k : ℕ) × R (w_next w) (after (suc k) r)) where
  unfoldable pub w_after : ℕ → W → W
  w_after zero w = w
  w_after (suc n) w = w_after n (w_next w)

  -- n steps of the one are n or more of the other
  pub follow : (n : ℕ) (w : W) (r : Run) → R w r → (m : ℕ) × ((n ≤ m) × R (w_after n w) (after m r))
  unfolding w_after
  follow zero w r h =
      let Q : Run → Type 0 = R w in (0, (omega arith, subst Q (sym (after_zero r)) h))
  follow (suc n) w r h =
      let one = sim w r h in
      let rest = follow n (w_next w) (after (suc one.0) r) one.1 in
      let Q : Run → Type 0 = R (w_after n (w_next w)) in
      (suc one.0 + rest.0, (omega (arith, rest.1.0), subst Q (sym (after-append (suc one.0) rest.0 r)) rest.1.1))

  -- what is good wherever the two are related is good at every number of steps
  pub every_moment : (P : List (ℕ × ℕ) → Type 0) → ((w : W) (r : Run) → R w r → IsGood P r) → (w : W) (r : Run) → R w r → (n : ℕ) → IsGood P (after n r)
  every_moment P good w r h n =
      let far = follow n w r h in
      IsGood-before P n far.0 r far.1.0 (good (w_after n w) (after far.0 r) far.1.1)

  -- where the run has ended, it is related as it stands
  pub at_end : (w : W) (r : Run) → R w r → (n : ℕ) → IsOver (after n r).ending → R (w_after n w) (after n r)
  at_end w r h n over =
      let far = follow n w r h in
      let Q : Run → Type 0 = R (w_after n w) in
      subst Q (stays_over n far.0 r over far.1.0) far.1.1

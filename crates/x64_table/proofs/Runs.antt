-- Lemmas on runs: one step by its row, runs that are composed, runs that have ended, and what
-- only grows in a run.
use Rattle.std.proofs.Common.{ℕ, zero, suc, ◌+◌, ◌-◌, ◌≤◌, ◌%◌, ◌≡◌, Bool, true, false, ◌||◌, List, [], ◌∷◌, ◌++◌, ℤ, pos, Option, Some, refl, sym, ap, ◌∙◌, subst, arith, append_assoc, append-nil, ◌==◌, nat_lt, cond}
use Rattle.x64_table.specs.declared.cpu.Flags.{Flags}
use Rattle.x64_table.specs.declared.cpu.Stepped.{Stepped}
use Rattle.x64_table.specs.declared.cpu.Stepped.TheVariants.{Went, Asked, Exit, Fault}
use Rattle.x64_table.specs.declared.instr.Cond.{Cond}
use Rattle.x64_table.specs.declared.instr.Instr.{Instr}
use Rattle.x64_table.specs.declared.instr.Instr.TheVariants.{Syscall, JumpIf}
use Rattle.x64_table.specs.Machine.{State, Next, reg, fetched, step_of, do_row, is_met, address, past, moved, jump, is_range}
use Rattle.x64_table.specs.Kernel.{Ending, Going, Exited, Faulted, Run, next, after, go_on, go_if, ask_next, answer_with, put_bytes, taken}

-- ---- one step

going_next : (e : Ending) (r : Run) → e ≡ Going → go_if e r ≡ go_on r (step_of r.state)
going_next e r going = rw going refl

pub next_going : (r : Run) → r.ending ≡ Going → next r ≡ go_on r (step_of r.state)
unfolding next
next_going r going = going_next r.ending r going

pub step_row : (s : State) (o : Option (Instr × ℕ)) → fetched s.segments s.cpu.at ≡ o → step_of s ≡ do_row o s
unfolding step_of
step_row s o found = ap (λ (row : Option (Instr × ℕ)). do_row row s) found

-- a step does the row that is fetched
pub row_step : (r : Run) (o : Option (Instr × ℕ)) → r.ending ≡ Going → fetched r.state.segments r.state.cpu.at ≡ o → next r ≡ go_on r (do_row o r.state)
row_step r o going found =
    next_going r going ∙ ap (λ (n : Next). go_on r n) (step_row r.state o found)

-- the run at another position
pub went_to : Run → ℕ → Run
went_to r to = record r { state = record r.state { cpu = moved r.state.cpu to } }

pub jump_step : (r : Run) (n : ℕ) (c : Cond) (rel : ℤ) (f : Flags) (b : Bool) → r.ending ≡ Going → fetched r.state.segments r.state.cpu.at ≡ Some (JumpIf c rel, n) → r.state.cpu.flags ≡ Some f → is_met c f ≡ b → next r ≡ go_on r (jump r.state (cond b (address (past r.state.cpu n) rel) (past r.state.cpu n)))
jump_step r n c rel f b going found flags met =
    row_step r _ going found ∙ rw (flags, met) refl

-- a write that may be asked
pub write_step : (r : Run) (n channel a len : ℕ) → r.ending ≡ Going → fetched r.state.segments r.state.cpu.at ≡ Some (Syscall, n) → reg r.state.cpu 0 ≡ Some 1 → reg r.state.cpu 7 ≡ Some channel → reg r.state.cpu 6 ≡ Some a → reg r.state.cpu 2 ≡ Some len → (channel == 1 || channel == 2) ≡ true → nat_lt 0 len ≡ true → is_range r.state a len ≡ true → next r ≡ ask_next r channel a len r.left
write_step r n channel a len going found number at_7 at_6 at_2 on some range =
    row_step r _ going found ∙ rw (number, at_7, at_6, at_2, on, some, range) refl

pub exit_step : (r : Run) (n status : ℕ) → r.ending ≡ Going → fetched r.state.segments r.state.cpu.at ≡ Some (Syscall, n) → reg r.state.cpu 0 ≡ Some 60 → reg r.state.cpu 7 ≡ Some status → next r ≡ record r { ending = Exited (status % 256) }
exit_step r n status going found number at_7 =
    row_step r _ going found ∙ rw (number, at_7) refl

-- ---- runs that are composed

pub after_zero : (r : Run) → after 0 r ≡ r
unfolding after
after_zero r = refl

pub after_suc : (n : ℕ) (r : Run) → after (suc n) r ≡ after n (next r)
unfolding after
after_suc n r = refl

pub after-append : (m n : ℕ) (r : Run) → after (m + n) r ≡ after n (after m r)
after-append zero n r =
    let e : zero + n ≡ n = omega arith in ap (λ k. after k r) e ∙ sym (ap (after n) (after_zero r))
after-append (suc m) n r =
    let e : suc m + n ≡ suc (m + n) = omega arith in
    ap (λ k. after k r) e ∙ after_suc (m + n) r ∙ after-append m n (next r) ∙ sym (ap (after n) (after_suc m r))

-- the last of the steps
pub after_last : (n : ℕ) (r : Run) → after (suc n) r ≡ next (after n r)
after_last n r =
    let e : suc n ≡ n + 1 = omega arith in
    ap (λ k. after k r) e ∙ after-append n 1 r ∙ after_suc 0 (after n r) ∙ after_zero (next (after n r))

-- one step, then more
pub go : (n : ℕ) (r q s : Run) → next r ≡ q → after n q ≡ s → after (suc n) r ≡ s
go n r q s one more = after_suc n r ∙ ap (after n) one ∙ more

-- ---- runs that have ended

abbrev pub IsOver : Ending → Type 0
IsOver Going = ⊥
IsOver (Exited _) = Unit {0}
IsOver (Faulted _) = Unit {0}

over_next : (e : Ending) (r : Run) → IsOver e → go_if e r ≡ r
over_next Going r over = absurd over
over_next (Exited _) r over = refl
over_next (Faulted _) r over = refl

pub next_over : (r : Run) → IsOver r.ending → next r ≡ r
unfolding next
next_over r over = over_next r.ending r over

pub after_over : (n : ℕ) (r : Run) → IsOver r.ending → after n r ≡ r
after_over zero r over = after_zero r
after_over (suc n) r over = go n r r r (next_over r over) (after_over n r over)

-- what a run has come to stays, however many more steps are counted
pub stays_over : (m n : ℕ) (r : Run) → IsOver (after m r).ending → m ≤ n → after n r ≡ after m r
stays_over m n r over least =
    let e : n ≡ m + (n - m) = omega arith in
    ap (λ k. after k r) e ∙ after-append m (n - m) r ∙ after_over (n - m) (after m r) over

-- ---- what only grows

pub record Grows (r q : Run) : Type 0 where
  pub more : List (ℕ × ℕ)
  pub out : q.out ≡ r.out ++ more
  pub refused : r.refused ≡ true → q.refused ≡ true
  pub asked_again : r.asked_again ≡ true → q.asked_again ≡ true

pub Grows-same : (r : Run) → Grows r r
Grows-same r =
    record { more = []; out = sym (append-nil r.out); refused = λ h. h; asked_again = λ h. h }

pub Grows-join : (r q s : Run) → Grows r q → Grows q s → Grows r s
Grows-join r q s one two =
    record {
      more = one.more ++ two.more;
      out = two.out ∙ ap (λ l. l ++ two.more) one.out ∙ append_assoc r.out one.more two.more;
      refused = λ h. two.refused (one.refused h);
      asked_again = λ h. two.asked_again (one.asked_again h);
    }

or_stays : (a b : Bool) → a ≡ true → (a || b) ≡ true
or_stays a b h = rw h refl

Grows-answer : (r : Run) (channel a len : ℕ) (n : ℤ) (left : List ℤ) → Grows r (answer_with r channel a len n left)
Grows-answer r channel a len n left =
    record {
      more = put_bytes r.state.segments channel a (taken n len);
      out = refl;
      refused = λ h. or_stays r.refused _ h;
      asked_again = λ h. or_stays r.asked_again _ h;
    }

Grows-ask : (r : Run) (channel a len : ℕ) (left : List ℤ) → Grows r (ask_next r channel a len left)
Grows-ask r channel a len [] = Grows-answer r channel a len (pos len) []
Grows-ask r channel a len (n ∷ left) = Grows-answer r channel a len n left

Grows-plain : (r q : Run) → q.out ≡ r.out → q.refused ≡ r.refused → q.asked_again ≡ r.asked_again → Grows r q
Grows-plain r q out refused asked =
    record {
      more = [];
      out = out ∙ sym (append-nil r.out);
      refused = λ h. refused ∙ h;
      asked_again = λ h. asked ∙ h;
    }

Grows-step : (r : Run) (t : Stepped) (s : State) → Grows r (go_on r (t, s))
Grows-step r Went s = Grows-plain r _ refl refl refl
Grows-step r (Asked channel a len) s =
    let q : Run = record r { state = s } in
    Grows-join r q _ (Grows-plain r q refl refl refl) (Grows-ask q channel a len r.left)
Grows-step r (Exit status) s = Grows-plain r _ refl refl refl
Grows-step r (Fault at) s = Grows-plain r _ refl refl refl

Grows-if : (e : Ending) (r : Run) → Grows r (go_if e r)
Grows-if Going r = Grows-step r (step_of r.state).0 (step_of r.state).1
Grows-if (Exited _) r = Grows-same r
Grows-if (Faulted _) r = Grows-same r

pub Grows-next : (r : Run) → Grows r (next r)
unfolding next
Grows-next r = Grows-if r.ending r

pub Grows-after : (n : ℕ) (r : Run) → Grows r (after n r)
Grows-after zero r =
    let P : Run → Type 0 = λ q. Grows r q in subst P (sym (after_zero r)) (Grows-same r)
Grows-after (suc n) r =
    let P : Run → Type 0 = λ q. Grows r q in
    subst P (sym (after_suc n r)) (Grows-join r (next r) _ (Grows-next r) (Grows-after n (next r)))

-- more steps have written more
pub Grows-more : (m n : ℕ) (r : Run) → m ≤ n → Grows (after m r) (after n r)
Grows-more m n r least =
    let e : m + (n - m) ≡ n = omega arith in
    let P : Run → Type 0 = λ q. Grows (after m r) q in
    subst P (sym (after-append m (n - m) r) ∙ ap (λ k. after k r) e) (Grows-after (n - m) (after m r))

-- a flag that is down now was down before
pub refused_before : (r q : Run) → Grows r q → q.refused ≡ false → r.refused ≡ false
refused_before r q grows h =
    elim r.refused as (λ b. (b ≡ true → q.refused ≡ true) → b ≡ false) [
      | true ↦ λ g. cc (g refl, h)
      | false ↦ λ g. refl
    ] grows.refused

pub asked_before : (r q : Run) → Grows r q → q.asked_again ≡ false → r.asked_again ≡ false
asked_before r q grows h =
    elim r.asked_again as (λ b. (b ≡ true → q.asked_again ≡ true) → b ≡ false) [
      | true ↦ λ g. cc (g refl, h)
      | false ↦ λ g. refl
    ] grows.asked_again

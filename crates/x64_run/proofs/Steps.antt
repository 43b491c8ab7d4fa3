-- One step of a run, by what the machine told.
use Rattle.std.proofs.Common.{ℕ, suc, ◌+◌, ◌<◌, ◌≡◌, ◌≢◌, List, [], ◌∷◌, ◌++◌, ℤ, pos, refl, sym, ap, ◌∙◌, subst, arith, append_assoc, append-nil, Option, Some, None, Result, Ok, Err, OnOk, OnErr, is_err, true, false}
use Rattle.std.proofs.lemmas.Bool.{false≢true}
use Rattle.x64_table.specs.declared.cpu.Stepped.{Stepped}
use Rattle.x64_table.specs.declared.cpu.Stepped.TheVariants.{Went, Asked}
use Rattle.x64_table.specs.declared.cpu.Stepped.TheVariants as told
use Rattle.x64_table.specs.Machine.{State, Next, step_of}
use Rattle.x64_table.specs.Kernel.{Ending, Going, Exited, Faulted, Run, next, after, go_on, ask_next, answer_with, run_from}
use Rattle.x64_table.proofs.Runs.{next_going, after_last, after_zero, IsOver, stays_over, Grows-more}
use Rattle.x64_run.specs.declared.put.Put.{Put}
use Rattle.x64_run.specs.declared.put.SimEnd.{SimEnd}
use Rattle.x64_run.specs.declared.put.SimEnd.TheVariants.{Exit, Fault}
use Rattle.x64_run.specs.Simulation.{pairs, end_of, PartlyAppended, first_or, rest_of, served, Serves, ServesPart, StandsAt, EndsWith, StepTold, Advances}

pub next_is : (r : Run) (s t : State) (rest : List ℤ) (before old : List Put) (what : Stepped) → StandsAt r s rest before old → step_of s ≡ (what, t) → next r ≡ go_on r (what, t)
next_is r s t rest before old what stands e =
    next_going r stands.ending ∙ ap (λ (n : Next). go_on r n) (ap step_of stands.state ∙ e)

pub went_on : (r : Run) (s t : State) (rest : List ℤ) (before old : List Put) → StandsAt r s rest before old → step_of s ≡ (Went, t) → StandsAt (next r) t rest before old
went_on r s t rest before old stands e =
    let P : Run → Type 0 = λ q. StandsAt q t rest before old in
    subst P (sym (next_is r s t rest before old Went stands e)) (record {
      ending = stands.ending;
      state = refl;
      left = stands.left;
      out = stands.out;
    })

pub exited : (r : Run) (s t : State) (rest : List ℤ) (before old : List Put) (status : ℕ) → StandsAt r s rest before old → step_of s ≡ (told.Exit status, t) → EndsWith (next r) (Exit status) before old
exited r s t rest before old status stands e =
    let P : Run → Type 0 = λ q. EndsWith q (Exit status) before old in
    subst P (sym (next_is r s t rest before old (told.Exit status) stands e)) (record {
      over = λ h. cc;
      told = refl;
      out = stands.out;
    })

pub faulted : (r : Run) (s t : State) (rest : List ℤ) (before old : List Put) (at : ℕ) → StandsAt r s rest before old → step_of s ≡ (told.Fault at, t) → EndsWith (next r) (Fault at) before old
faulted r s t rest before old at stands e =
    let P : Run → Type 0 = λ q. EndsWith q (Fault at) before old in
    subst P (sym (next_is r s t rest before old (told.Fault at) stands e)) (record {
      over = λ h. cc;
      told = refl;
      out = stands.out;
    })

ask_is : (r : Run) (channel a len : ℕ) (rest : List ℤ) → ask_next r channel a len rest ≡ answer_with r channel a len (first_or (pos len) rest) (rest_of rest)
ask_is r channel a len [] = refl
ask_is r channel a len (n ∷ rest) = refl

asked_is : (r : Run) (s t : State) (rest : List ℤ) (before old : List Put) (channel a len : ℕ) → StandsAt r s rest before old → step_of s ≡ (Asked channel a len, t) → next r ≡ answer_with (record r { state = t }) channel a len (first_or (pos len) rest) (rest_of rest)
asked_is r s t rest before old channel a len stands e =
    next_is r s t rest before old (Asked channel a len) stands e ∙ ap (ask_next (record r { state = t }) channel a len) stands.left ∙ ask_is (record r { state = t }) channel a len rest

longer : (before old new : List Put) (out more : List (ℕ × ℕ)) → pairs old ≡ pairs before ++ out → pairs new ≡ pairs old ++ more → pairs new ≡ pairs before ++ (out ++ more)
longer before old new out more e h =
    h ∙ ap (λ l. l ++ more) e ∙ append_assoc (pairs before) out more

pub answered_on : (r : Run) (s t u : State) (rest left : List ℤ) (before old new : List Put) (channel a len : ℕ) → StandsAt r s rest before old → step_of s ≡ (Asked channel a len, t) → Serves t rest old u left new channel a len → StandsAt (next r) u left before new
answered_on r s t u rest left before old new channel a len stands e serves =
    let P : Run → Type 0 = λ q. StandsAt q u left before new in
    subst P (sym (asked_is r s t rest before old channel a len stands e)) (record {
      ending = stands.ending;
      state = sym serves.state;
      left = sym serves.left;
      out = longer before old new r.out (served t channel a len rest) stands.out serves.out;
    })

pub answered_part : (r : Run) (s t : State) (rest : List ℤ) (before old new : List Put) (channel a len : ℕ) → StandsAt r s rest before old → step_of s ≡ (Asked channel a len, t) → ServesPart t rest old new channel a len → PartlyAppended before new (next r).out
answered_part r s t rest before old new channel a len stands e part =
    record {
      more = r.out ++ part.more;
      rest = part.rest;
      appended = longer before old new r.out part.more stands.out part.appended;
      front = ap (λ (q : Run). q.out) (asked_is r s t rest before old channel a len stands e) ∙ ap (λ l. r.out ++ l) part.front ∙ sym (append_assoc r.out part.more part.rest);
    }

-- ---- so many steps

pub stands_first : (s : State) (answers : List ℤ) (old : List Put) → StandsAt (after 0 (run_from s answers)) s answers old old
stands_first s answers old =
    let P : Run → Type 0 = λ q. StandsAt q s answers old old in
    subst P (sym (after_zero (run_from s answers))) (record {
      ending = refl;
      state = refl;
      left = refl;
      out = sym (append-nil (pairs old));
    })

later : (i : ℕ) (r : Run) → after (i + 1) r ≡ next (after i r)
later i r =
    let e : i + 1 ≡ suc i = omega arith in ap (λ k. after k r) e ∙ after_last i r

pub stands_later : (i : ℕ) (r : Run) (t : State) (left : List ℤ) (before new : List Put) → StandsAt (next (after i r)) t left before new → StandsAt (after (i + 1) r) t left before new
stands_later i r t left before new h =
    let P : Run → Type 0 = λ q. StandsAt q t left before new in subst P (sym (later i r)) h

over_of : (e : Ending) → e ≢ Going → IsOver e
over_of Going h = absurd (h refl)
over_of (Exited status) h = tt
over_of (Faulted at) h = tt

same_end : (i n : ℕ) (r : Run) (e : SimEnd) (before new : List Put) → i < n → EndsWith (next (after i r)) e before new → after n r ≡ next (after i r)
same_end i n r e before new h ends =
    let P : Run → Type 0 = λ q. IsOver q.ending in
    let over = subst P (sym (later i r)) (over_of _ ends.over) in
    stays_over (i + 1) n r over (omega arith) ∙ later i r

pub ends_end : (i n : ℕ) (r : Run) (e : SimEnd) (before new : List Put) → i < n → EndsWith (next (after i r)) e before new → e ≡ end_of (after n r).ending
ends_end i n r e before new h ends =
    ends.told ∙ sym (ap (λ (q : Run). end_of q.ending) (same_end i n r e before new h ends))

pub ends_out : (i n : ℕ) (r : Run) (e : SimEnd) (before new : List Put) → i < n → EndsWith (next (after i r)) e before new → pairs new ≡ pairs before ++ (after n r).out
ends_out i n r e before new h ends =
    ends.out ∙ sym (ap (λ (q : Run). pairs before ++ q.out) (same_end i n r e before new h ends))

pub part_later : (i n : ℕ) (r : Run) (before new : List Put) → i < n → PartlyAppended before new (next (after i r)).out → PartlyAppended before new (after n r).out
part_later i n r before new h part =
    let grows = Grows-more (i + 1) n r (omega arith) in
    record {
      more = part.more;
      rest = part.rest ++ grows.more;
      appended = part.appended;
      front = grows.out ∙ ap (λ (q : Run). q.out ++ grows.more) (later i r) ∙ ap (λ l. l ++ grows.more) part.front ∙ append_assoc part.more part.rest grows.more;
    }

pub none_part : (before : List Put) (written : List (ℕ × ℕ)) → PartlyAppended before before written
none_part before written =
    record {
      more = [];
      rest = written;
      appended = sym (append-nil (pairs before));
      front = refl;
    }

pub on_ok : {A E : Type 0} (r : Result A E) (P : Type 0) → OnOk r P → false ≡ is_err r → P
on_ok (Ok x) P h e = h
on_ok (Err x) P h e = absurd (false≢true e)

pub on_err : {A E : Type 0} (r : Result A E) (P : Type 0) → OnErr r P → true ≡ is_err r → P
on_err (Ok x) P h e = absurd (false≢true (sym e))
on_err (Err x) P h e = h

pub told_some : (s t : State) (rest left : List ℤ) (old new : List Put) (o : Option SimEnd) (e : SimEnd) → o ≡ Some e → Advances s rest old t left new o → (r : Run) (before : List Put) → StandsAt r s rest before old → EndsWith (next r) e before new
told_some s t rest left old new o e is advances r before stands =
    let P : Option SimEnd → Type 0 = λ q. StepTold (next r) t left before new q in
    subst P is (advances r before stands)

pub told_none : (s t : State) (rest left : List ℤ) (old new : List Put) (o : Option SimEnd) → o ≡ None → Advances s rest old t left new o → (r : Run) (before : List Put) → StandsAt r s rest before old → StandsAt (next r) t left before new
told_none s t rest left old new o is advances r before stands =
    let P : Option SimEnd → Type 0 = λ q. StepTold (next r) t left before new q in
    subst P is (advances r before stands)

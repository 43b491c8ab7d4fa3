-- When a program in machine code agrees with what the program means, whatever the kernel answers.
use Rattle.std.specs.Prelude.{ℕ, ◌≡◌, ◌⊎◌, true, false, List, ◌++◌, ℤ, All, FitsSigned}
use Rattle.std.specs.Int.{w64}
use Rattle.x64_table.specs.declared.image.Image.{Image}
use Rattle.x64_table.specs.Kernel.{Exited, Faulted, Run, start, after}

-- how a program ends within a bound: with a status, or not yet
pub data Outcome : Type 0 where
  Ends : ℕ → Outcome
  More : Outcome

-- what a program comes to within a bound: how it ends, and the channels and bytes that it writes
pub record Meant : Type 0 where
  pub ending : Outcome
  pub out : List (ℕ × ℕ)

abbrev pub IsPrefix : List (ℕ × ℕ) → List (ℕ × ℕ) → Type 0
IsPrefix front whole = (rest : List (ℕ × ℕ)) × (whole ≡ front ++ rest)

-- the run exited
abbrev pub HasExited : Run → Type 0
HasExited run = (status : ℕ) × (run.ending ≡ Exited status)

-- the program ends with this status within some bound, having written just what the run wrote
pub record IsMeant (meaning : ℕ → Meant) (status : ℕ) (run : Run) : Type 0 where
  pub bound : ℕ
  pub ends : (meaning bound).ending ≡ Ends status
  pub whole : (meaning bound).out ≡ run.out

-- the kernel refused a write, and what was written until then is a part of what the program writes
pub record IsRefused (meaning : ℕ → Meant) (status : ℕ) (run : Run) : Type 0 where
  pub gave_up : status ≡ 104
  pub refused : run.refused ≡ true
  pub bound : ℕ
  pub part : IsPrefix run.out (meaning bound).out

-- A run, seen after every number of steps, agrees with a meaning, which says what the program comes
-- to within each bound. `excuse` says with which status it may end early behind which bytes, as where
-- a part of its memory is full; a refused write excuses the status 104.
pub record RunAgrees (meaning : ℕ → Meant) (excuse : ℕ → List (ℕ × ℕ) → Type 0) (run : ℕ → Run) : Type 0 where
  pub never_faults : (n at : ℕ) → (run n).ending ≡ Faulted at → ⊥
  -- what it wrote is always a part of what the program writes
  pub written : (n : ℕ) → (bound : ℕ) × IsPrefix (run n).out (meaning bound).out
  -- it exits as the program ends, or with an excuse
  pub exits : (n status : ℕ) → (run n).ending ≡ Exited status → IsMeant meaning status (run n) ⊎ (excuse status (run n).out ⊎ IsRefused meaning status (run n))
  -- it comes to write all that the program writes, or exits
  pub reaches : (bound : ℕ) → (n : ℕ) × (IsPrefix (meaning bound).out (run n).out ⊎ HasExited (run n))
  -- where the program ends, it exits
  pub ends : (bound status : ℕ) → (meaning bound).ending ≡ Ends status → (n : ℕ) × HasExited (run n)
  -- behind a refused write it asks for nothing more, and it gives up
  pub asks_no_more : (n : ℕ) → (run n).asked_again ≡ false
  pub gives_up : (n : ℕ) → (run n).refused ≡ true → (m : ℕ) × ((run m).ending ≡ Exited 104)

-- the program of an image agrees with a meaning under every list of the kernel's answers
abbrev pub Agrees : (ℕ → Meant) → (ℕ → List (ℕ × ℕ) → Type 0) → Image → Type 0
Agrees meaning excuse image =
    (answers : List ℤ) → All (FitsSigned w64) answers → RunAgrees meaning excuse (λ n. after n (start image answers))

-- the program ends early with no status
abbrev pub no_excuse : ℕ → List (ℕ × ℕ) → Type 0
no_excuse status out = ⊥
